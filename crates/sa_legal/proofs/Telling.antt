-- Legal journals can be told.
use Rattle.std.proofs.Common.{◌≡◌, ℕ, ◌+◌, ◌-◌, ◌≤◌, List, [], length, All, slice_index_or, refl, subst, ap, ◌∙◌, arith}
use Rattle.std.proofs.lemmas.List.{get_or_default}
use Rattle.sa_plan.specs.Names.{names_of}
use Rattle.sa_desk.specs.declared.entry.Entry.{Entry}
use Rattle.sa_desk.specs.declared.entry.Event.{Event}
use Rattle.sa_desk.specs.declared.entry.Event.TheVariants.{End}
use Rattle.sa_desk.specs.declared.outcome.Outcome.TheVariants as outcome
use Rattle.sa_desk.specs.Legal.{Sessions, given_of, journal_at, IsLegal}
use Rattle.sa_desk.specs.program.Prepares.{Answers}
use Rattle.sa_desk.specs.program.SoFar.{IsTold}
use Rattle.sa_worker.specs.Sound.{GivesSound}
use Rattle.sa_transcript.specs.Transcript.{CanTellEvent, CanTell}
use Rattle.sa_legal.specs.Shows.{ShowsLawful}
use Rattle.sa_legal.proofs.Fine.{IsFineEvent, IsFine, parts_fine}
use Rattle.sa_legal.proofs.Programs.{program_parts}
use Rattle.sa_legal.proofs.Standing.{for_each}
use Rattle.sa_legal.proofs.Shown.{shown_told}

module _ (gives : Answers) (sessions : Sessions) (journals : List (List Entry)) (legal : IsLegal gives sessions journals)
    (fine : (session : ℕ) (least : 1 ≤ session) (most : session ≤ length sessions.texts) → All (IsFine sessions.tables) (legal.programs session least most).mine) where
  event_told : (session : ℕ) (event : Event) → IsFineEvent sessions.tables event → IsTold (given_of sessions session) (journal_at journals) event
      → CanTellEvent sessions.tables journals event
  event_told session (End number (outcome.Shown kind desk begin report) steps) is told =
      shown_told gives sessions journals legal fine session kind desk begin number report told
  event_told session (End number (outcome.PlanShown plan) steps) is told = is
  event_told session (End number (outcome.Analyzed plan report) steps) is told = is
  event_told session (End number (outcome.Trace document) steps) is told = is
  event_told session (End number result steps) is told = tt
  event_told session event is told = tt

  journal_told : (desk : ℕ) → 1 ≤ desk → desk ≤ length journals → All (λ entry. CanTellEvent sessions.tables journals entry.event) (journal_at journals desk)
  journal_told =
      for_each gives sessions journals legal (λ session entry. CanTellEvent sessions.tables journals entry.event)
      (λ session least most k d within.
      let has = legal.programs session least most in
      event_told session (slice_index_or has.mine k d).event (fine session least most k d within) (has.program.1.told k d within))

  all_told : All (λ (journal : List Entry). All (λ (entry : Entry). CanTellEvent sessions.tables journals entry.event) journal) journals
  all_told k d within =
      let place : k + 1 - 1 ≡ k = omega arith in
      let here : journal_at journals (k + 1) ≡ slice_index_or journals k d =
      ap (λ i. slice_index_or journals i []) place ∙ get_or_default journals k [] d within in
      subst (All (λ (entry : Entry). CanTellEvent sessions.tables journals entry.event)) here (journal_told (k + 1) (omega arith) (omega arith))

pub can_be_told : (gives : Answers) (sessions : Sessions) (journals : List (List Entry))
    → ((session : ℕ) → 1 ≤ session → session ≤ length sessions.texts → GivesSound gives (given_of sessions session))
    → ShowsLawful gives sessions.tables → IsLegal gives sessions journals → CanTell (names_of sessions.tables) journals
can_be_told gives sessions journals sound shown legal =
    let fine : (session : ℕ) (least : 1 ≤ session) (most : session ≤ length sessions.texts) → All (IsFine sessions.tables) (legal.programs session least most).mine =
    λ session least most.
    let has = legal.programs session least most in
    parts_fine gives (given_of sessions session) (sound session least most) shown has.mine (program_parts gives sessions journals session has) in
    record {
      tables = sessions.tables;
      names_are = refl;
      events = all_told gives sessions journals legal fine;
    }
