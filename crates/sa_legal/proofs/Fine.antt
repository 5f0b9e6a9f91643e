-- An entry of a session is fine: what it tells of plans and runs can be told, but for what was shown.
use Rattle.std.proofs.Common.{◌≡◌, ℕ, ◌+◌, ◌&&◌, ◌⊎◌, Bool, true, false, if◌then◌else◌, List, length, take, Some, None, All, inl, inr, refl, sym, subst, ap, ◌∙◌}
use Rattle.std.specs.Prelude.{⊤, nat_lt}
use Rattle.std.proofs.lemmas.List.Elements.{All-weaker}
use Rattle.std.proofs.lemmas.List.FromFn.{length-map-range_with_len}
use Rattle.sa_count.specs.declared.report.Report.{Report}
use Rattle.sa_plan.specs.declared.plan.Plan.{Plan}
use Rattle.sa_plan.specs.declared.plan.Planned.{Planned}
use Rattle.sa_plan.specs.declared.prepared.Work.TheVariants as work
use Rattle.sa_plan.specs.Lawful.{IsLawful}
use Rattle.sa_meaning.specs.Data.{RunData}
use Rattle.sa_meaning.specs.Items.{items}
use Rattle.sa_meaning.specs.Counts.{counts, counters_of, level_counters}
use Rattle.sa_desk.specs.declared.entry.Entry.{Entry}
use Rattle.sa_desk.specs.declared.entry.Event.{Event}
use Rattle.sa_desk.specs.declared.entry.Event.TheVariants.{Begin, End}
use Rattle.sa_desk.specs.declared.outcome.Outcome.{Outcome}
use Rattle.sa_desk.specs.declared.outcome.Outcome.TheVariants as outcome
use Rattle.sa_desk.specs.program.Course.{Given, Answer, text_of, prepared, refused, starved, Settings, Course, says, shows, waits, kills, runs, toward, course_of}
use Rattle.sa_desk.specs.program.Prepares.{Answers, IsAnswer}
use Rattle.sa_desk.specs.program.RunEnds.{RunEnds}
use Rattle.sa_desk.specs.program.Statement.{BeginsAs, EndsAs}
use Rattle.sa_worker.specs.Sound.{GivesSound}
use Rattle.sa_transcript.specs.Transcript.{IsReportOf}
use Rattle.sa_legal.specs.Shows.{ShowsLawful}
use Rattle.sa_legal.proofs.Between.{IsOfOthers, between_end}
use Rattle.sa_legal.proofs.Parts.{IsPartOf, IsPart}

-- Its plans are lawful, and a report is of a run.
abbrev pub IsFineOutcome : RunData → Outcome → Type 0
IsFineOutcome tables (outcome.PlanShown plan) = IsLawful tables plan
IsFineOutcome tables (outcome.Analyzed plan report) = IsReportOf tables plan report
IsFineOutcome tables (outcome.Trace document) = document ≡ None
IsFineOutcome tables result = ⊤

abbrev pub IsFineEvent : RunData → Event → Type 0
IsFineEvent tables (Begin number text version (Some plan) over) = IsLawful tables plan
IsFineEvent tables (Begin number text version None over) = ⊤
IsFineEvent tables (End number result steps) = IsFineOutcome tables result
IsFineEvent tables event = ⊤

abbrev pub IsFine : RunData → Entry → Type 0
IsFine tables entry = IsFineEvent tables entry.event

-- The course of a statement leads to fine entries.
abbrev pub IsFineCourse : RunData → Course → Type 0
IsFineCourse tables (says result) = IsFineOutcome tables result
IsFineCourse tables (runs analyze planned) = IsLawful tables planned.plan
IsFineCourse tables course = ⊤

one_of_two : (tables : RunData) (first : Bool) (course other : Course) → IsFineCourse tables course → IsFineCourse tables other
    → IsFineCourse tables (if first then course else other)
one_of_two tables true course other fine also = fine
one_of_two tables false course other fine also = also

toward_fine : (tables : RunData) (given : Given) (id : ℕ) (course : Course) → IsFineCourse tables course → IsFineCourse tables (toward given id course)
toward_fine tables given id course fine =
    one_of_two tables (nat_lt 0 id && nat_lt id (given.sessions + 1)) course (says outcome.NoSuchThread) fine tt

-- Whatever preparation answers leads to them.
course_fine : (gives : Answers) (given : Given) (source : List ℕ) (settings : Settings) (answer : Answer)
    → GivesSound gives given → ShowsLawful gives given.tables → IsAnswer gives source answer
    → IsFineCourse given.tables (course_of given settings answer)
course_fine gives given source settings (refused why) sound shown is = tt
course_fine gives given source settings (starved text) sound shown is = tt
course_fine gives given source settings (prepared text (work.Explain planned)) sound shown is = shown.lawful source text planned is
course_fine gives given source settings (prepared text (work.SetTrace on)) sound shown is = tt
course_fine gives given source settings (prepared text (work.SetLimit limit)) sound shown is = tt
course_fine gives given source settings (prepared text work.TraceRows) sound shown is = refl
course_fine gives given source settings (prepared text (work.Show kind id)) sound shown is = toward_fine given.tables given id (shows kind id) tt
course_fine gives given source settings (prepared text (work.Wait id at)) sound shown is = toward_fine given.tables given id (waits id at) tt
course_fine gives given source settings (prepared text (work.Kill kind id)) sound shown is = toward_fine given.tables given id (kills kind id) tt
course_fine gives given source settings (prepared text (work.Select planned)) sound shown is =
    (sound.sound source (prepared text (work.Select planned)) is).lawful
course_fine gives given source settings (prepared text (work.Analyze planned)) sound shown is =
    (sound.sound source (prepared text (work.Analyze planned)) is).lawful

others_fine : (tables : RunData) (result : Outcome) → IsOfOthers result → IsFineOutcome tables result
others_fine tables (outcome.PlanShown plan) is = absurd is
others_fine tables (outcome.Analyzed plan report) is = absurd is
others_fine tables (outcome.Trace document) is = absurd is
others_fine tables result is = tt

levels_counted : (plan : Plan) (over : RunData) (steps : ℕ) → length (level_counters plan over steps) ≡ length plan.levels
unfolding level_counters
levels_counted plan over steps = length-map-range_with_len (counters_of (take steps (items plan over))) 0 (length plan.levels)

-- What a lawful plan counts over any tables is a report of it.
pub counts_reported : (tables over : RunData) (plan : Plan) (number steps : ℕ) (report : Report) → IsLawful tables plan
    → report ≡ counts number plan over steps → IsReportOf tables plan report
counts_reported tables over plan number steps report lawful is = record {
  lawful = lawful;
  counted = ap (λ (r : Report). length r.tables.items) is ∙ levels_counted plan over steps;
}

module _ (given : Given) where
  run_fine : (limit number b : ℕ) (analyze : Bool) (planned : Planned) (steps turn : ℕ) (result : Outcome) → IsLawful given.tables planned.plan
      → RunEnds given limit number b analyze planned steps turn result → IsFineOutcome given.tables result
  run_fine limit number b true planned steps turn (outcome.Analyzed plan report) lawful is =
      subst (λ p. IsReportOf given.tables p report) (sym is.0) (counts_reported given.tables given.tables planned.plan number steps report lawful is.1)
  run_fine limit number b false planned steps turn (outcome.Analyzed plan report) lawful is = absurd is
  run_fine limit number b true planned steps turn (outcome.PlanShown plan) lawful is = absurd is
  run_fine limit number b false planned steps turn (outcome.PlanShown plan) lawful is = absurd is
  run_fine limit number b true planned steps turn (outcome.Trace document) lawful is = absurd is
  run_fine limit number b false planned steps turn (outcome.Trace document) lawful is = absurd is
  run_fine limit number b analyze planned steps turn result lawful is = tt

  -- An outcome is what is due, or Interrupted.
  due_or_killed : (result due : Outcome) → IsFineOutcome given.tables due → (result ≡ due) ⊎ (result ≡ outcome.Interrupted) → IsFineOutcome given.tables result
  due_or_killed result due fine either =
      elim either [
        | inl same ↦ subst (IsFineOutcome given.tables) (sym same) fine
        | inr killed ↦ subst (IsFineOutcome given.tables) (sym killed) tt
      ]

  end_fine : (limit number b t : ℕ) (course : Course) (between : List Entry) (turn : ℕ) (event : Event) (shown : Outcome) → IsFineCourse given.tables course
      → EndsAs given limit number b t course between turn event shown → IsFineEvent given.tables event
  end_fine limit number b t (runs analyze planned) between turn (End own result steps) shown fine is =
      due_or_killed result is.3 (run_fine limit number b analyze planned steps turn is.3 fine is.4) is.5
  end_fine limit number b t (says said) between turn (End own result steps) shown fine is =
      due_or_killed result is.4 (subst (IsFineOutcome given.tables) (sym (between_end given number b (says said) between t is.4 is.5)) fine) is.6
  end_fine limit number b t (shows kind i) between turn (End own result steps) shown fine is =
      due_or_killed result is.4 (others_fine given.tables is.4 (between_end given number b (shows kind i) between t is.4 is.5)) is.6
  end_fine limit number b t (waits i at) between turn (End own result steps) shown fine is =
      due_or_killed result is.4 (others_fine given.tables is.4 (between_end given number b (waits i at) between t is.4 is.5)) is.6
  end_fine limit number b t (kills kind i) between turn (End own result steps) shown fine is =
      due_or_killed result is.4 (others_fine given.tables is.4 (between_end given number b (kills kind i) between t is.4 is.5)) is.6
  end_fine limit number b t course between turn event shown fine is = absurd is

  begin_fine : (course : Course) (number : ℕ) (text : List ℕ) (event : Event) → IsFineCourse given.tables course
      → BeginsAs given course number text event → IsFineEvent given.tables event
  begin_fine (runs analyze planned) number text (Begin own said version plan over) fine is =
      subst (λ p. IsFineEvent given.tables (Begin own said version p over)) (sym is.3) fine
  begin_fine (says result) number text (Begin own said version plan over) fine is =
      subst (λ p. IsFineEvent given.tables (Begin own said version p over)) (sym is.3) tt
  begin_fine (shows kind i) number text (Begin own said version plan over) fine is =
      subst (λ p. IsFineEvent given.tables (Begin own said version p over)) (sym is.3) tt
  begin_fine (waits i at) number text (Begin own said version plan over) fine is =
      subst (λ p. IsFineEvent given.tables (Begin own said version p over)) (sym is.3) tt
  begin_fine (kills kind i) number text (Begin own said version plan over) fine is =
      subst (λ p. IsFineEvent given.tables (Begin own said version p over)) (sym is.3) tt
  begin_fine course number text event fine is = absurd is

module _ (gives : Answers) (given : Given) (sound : GivesSound gives given) (shown : ShowsLawful gives given.tables) where
  -- Whatever is a part of a session's program is fine.
  fine_in : (entry : Entry) (event : Event) → entry.event ≡ event → IsPartOf gives given entry event → IsFineEvent given.tables event
  fine_in entry (Begin number text version plan tables) is of =
      begin_fine given (course_of given of.part.settings of.part.answer) of.number (text_of of.part.source of.part.answer) (Begin number text version plan tables)
      (course_fine gives given of.part.source of.part.settings of.part.answer sound shown of.part.gives_it)
      (subst (BeginsAs given (course_of given of.part.settings of.part.answer) of.number (text_of of.part.source of.part.answer)) is of.begins)
  fine_in entry (End number result steps) is of =
      end_fine given of.part.settings.limit of.number of.b of.before (course_of given of.part.settings of.part.answer) of.between of.turn (End number result steps) of.result
      (course_fine gives given of.part.source of.part.settings of.part.answer sound shown of.part.gives_it)
      (subst (λ event. EndsAs given of.part.settings.limit of.number of.b of.before (course_of given of.part.settings of.part.answer) of.between of.turn event of.result) is of.ends_so)
  fine_in entry event is of = tt

  pub parts_fine : (entries : List Entry) → All (IsPart gives given) entries → All (IsFine given.tables) entries
  parts_fine entries parts = All-weaker (IsPart gives given) (IsFine given.tables) (λ entry of. fine_in entry entry.event refl of) entries parts
