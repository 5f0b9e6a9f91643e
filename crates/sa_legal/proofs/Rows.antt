-- The rows of an End are those of its SELECT.
use Rattle.std.proofs.Common.{◌≡◌, ℕ, ◌≤◌, ◌⊎◌, true, false, List, ◌∷◌, ◌++◌, length, All, inl, inr, sym, subst, ◌∙◌}
use Rattle.std.proofs.lemmas.List.Elements.{All-weaker}
use Rattle.sa_value.specs.declared.value.Value.{Value}
use Rattle.sa_desk.specs.declared.entry.Entry.{Entry}
use Rattle.sa_desk.specs.declared.entry.Event.TheVariants.{End}
use Rattle.sa_desk.specs.declared.outcome.Outcome.{Outcome}
use Rattle.sa_desk.specs.declared.outcome.Outcome.TheVariants as outcome
use Rattle.sa_desk.specs.Runs.{IsEntryOf}
use Rattle.sa_desk.specs.Legal.{Sessions, given_of, journal_at, IsLegal}
use Rattle.sa_desk.specs.program.Course.{Given, Course, says, shows, waits, kills, runs, course_of}
use Rattle.sa_desk.specs.program.Prepares.{Answers}
use Rattle.sa_desk.specs.program.Statement.{EndsAs}
use Rattle.sa_desk.specs.program.RunEnds.{RunEnds}
use Rattle.sa_legal.specs.Rows.{HasRows}
use Rattle.sa_legal.proofs.Between.{IsOfOthers, between_end}
use Rattle.sa_legal.proofs.Parts.{EndPart, IsPartOf, IsPart}
use Rattle.sa_legal.proofs.Prepared.{IsWithoutRows, IsPreparedCourse, part_prepared}
use Rattle.sa_legal.proofs.Programs.{program_parts}
use Rattle.sa_legal.proofs.Standing.{All-there, for_each}

module _ (gives : Answers) (given : Given) (number limit b t : ℕ) (between : List Entry) (turn own steps : ℕ) (names : List (List ℕ)) (rows : List (List Value)) (shown : Outcome) where
  abbrev the_end : Outcome
  the_end = outcome.Rows names rows

  -- What is due is rows, as they aren't Interrupted.
  due_is : (due : Outcome) → (the_end ≡ due) ⊎ (the_end ≡ outcome.Interrupted) → the_end ≡ due
  due_is due either = elim either [ inl same ↦ same | inr killed ↦ absurd (cc killed) ]

  not_others : (due : Outcome) → (the_end ≡ due) ⊎ (the_end ≡ outcome.Interrupted) → IsOfOthers due → ⊥
  not_others due either is = subst IsOfOthers (sym (due_is due either)) is

  rows_at : (course : Course) → IsPreparedCourse gives given number course → EndsAs given limit number b t course between turn (End own the_end steps) shown
      → HasRows gives given number names rows
  rows_at (runs false planned) prepared is =
      let ends = subst (RunEnds given limit number b false planned steps turn) (sym (due_is is.3 is.5)) is.4 in
      record { planned = planned; prepared = prepared; names_are = ends.0; rows_are = ends.1 }
  rows_at (runs true planned) prepared is = absurd (subst (RunEnds given limit number b true planned steps turn) (sym (due_is is.3 is.5)) is.4)
  rows_at (says said) prepared is =
      absurd (subst IsWithoutRows (sym (due_is is.4 is.6 ∙ between_end given number b (says said) between t is.4 is.5)) prepared)
  rows_at (shows kind i) prepared is = absurd (not_others is.4 is.6 (between_end given number b (shows kind i) between t is.4 is.5))
  rows_at (waits i at) prepared is = absurd (not_others is.4 is.6 (between_end given number b (waits i at) between t is.4 is.5))
  rows_at (kills kind i) prepared is = absurd (not_others is.4 is.6 (between_end given number b (kills kind i) between t is.4 is.5))

  same_number : (course : Course) → EndsAs given limit number b t course between turn (End own the_end steps) shown → own ≡ number
  same_number (runs analyze planned) is = is.0
  same_number (says said) is = is.0
  same_number (shows kind i) is = is.0
  same_number (waits i at) is = is.0
  same_number (kills kind i) is = is.0

-- A session's End with rows stands on its own desk, and has them.
abbrev EndsWell : Answers → Sessions → (session : ℕ) → Entry → Type 0
EndsWell gives sessions session entry =
    (number steps : ℕ) (names : List (List ℕ)) (rows : List (List Value)) → entry.event ≡ End number (outcome.Rows names rows) steps
    → (entry.desk ≡ session) × HasRows gives (given_of sessions session) number names rows

ends_well : (gives : Answers) (sessions : Sessions) (session : ℕ) (entry : Entry) → IsPart gives (given_of sessions session) entry → EndsWell gives sessions session entry
ends_well gives sessions session entry of number steps names rows is =
    let given : Given = given_of sessions session in
    let part : EndPart gives given entry = subst (IsPartOf gives given entry) is of in
    let course : Course = course_of given part.part.settings part.part.answer in
    let limit : ℕ = part.part.settings.limit in
    let ends = subst (λ event. EndsAs given limit part.number part.b part.before course part.between part.turn event part.result) is part.ends_so in
    let same = same_number gives given part.number limit part.b part.before part.between part.turn number steps names rows part.result course ends in (
      part.own,
      subst (λ n. HasRows gives given n names rows) (sym same)
          (rows_at gives given part.number limit part.b part.before part.between part.turn number steps names rows part.result course (part_prepared gives given part.number part.part) ends),
    )

pub rows_are_output : (gives : Answers) (sessions : Sessions) (journals : List (List Entry)) → IsLegal gives sessions journals
    → (desk : ℕ) → 1 ≤ desk → desk ≤ length journals → (before rest : List Entry) (entry : Entry) → journal_at journals desk ≡ before ++ entry ∷ rest
    → (number steps : ℕ) (names : List (List ℕ)) (rows : List (List Value)) → entry.event ≡ End number (outcome.Rows names rows) steps
    → HasRows gives (given_of sessions desk) number names rows
rows_are_output gives sessions journals legal desk least most before rest entry parts number steps names rows is =
    let all = for_each gives sessions journals legal (EndsWell gives sessions)
    (λ session from upto.
    let has = legal.programs session from upto in
    All-weaker (IsPart gives (given_of sessions session)) (EndsWell gives sessions session) (ends_well gives sessions session)
    has.mine (program_parts gives sessions journals session has)) desk least most in
    let well = All-there (λ each. EndsWell gives sessions each.actor each) before rest entry
    (subst (All (λ (each : Entry). EndsWell gives sessions each.actor each)) parts all) number steps names rows is in
    let here = All-there (IsEntryOf desk (length sessions.texts)) before rest entry
    (subst (All (IsEntryOf desk (length sessions.texts))) parts (legal.entries desk least most)) in
    subst (λ session. HasRows gives (given_of sessions session) number names rows) (sym well.0 ∙ here.desk_is) well.1
