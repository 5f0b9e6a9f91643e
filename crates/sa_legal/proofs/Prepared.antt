-- A course with a run is that of a statement that was prepared so.
use Rattle.std.proofs.Common.{◌≡◌, ℕ, ◌+◌, ◌-◌, ◌≤◌, ◌&&◌, Bool, true, false, if◌then◌else◌, List, Some, slice_get}
use Rattle.std.specs.Prelude.{⊤, nat_lt}
use Rattle.sa_plan.specs.declared.prepared.Work.TheVariants as work
use Rattle.sa_desk.specs.declared.outcome.Outcome.{Outcome}
use Rattle.sa_desk.specs.declared.outcome.Outcome.TheVariants as outcome
use Rattle.sa_desk.specs.program.Course.{Given, Answer, prepared, refused, starved, Settings, Course, says, shows, waits, kills, runs, toward, course_of}
use Rattle.sa_desk.specs.program.Prepares.{Answers, IsAnswer}
use Rattle.sa_legal.specs.Prepared.{IsPrepared}
use Rattle.sa_legal.proofs.Parts.{Part}

-- A statement that says its outcome at once says no rows.
abbrev pub IsWithoutRows : Outcome → Type 0
IsWithoutRows (outcome.Rows names rows) = ⊥
IsWithoutRows result = ⊤

module _ (gives : Answers) (given : Given) (number : ℕ) where
  abbrev pub IsPreparedCourse : Course → Type 0
  IsPreparedCourse (says result) = IsWithoutRows result
  IsPreparedCourse (runs false planned) = IsPrepared gives given number (work.Select planned)
  IsPreparedCourse (runs true planned) = IsPrepared gives given number (work.Analyze planned)
  IsPreparedCourse course = ⊤

  one_of_two : (first : Bool) (course other : Course) → IsPreparedCourse course → IsPreparedCourse other → IsPreparedCourse (if first then course else other)
  one_of_two true course other is also = is
  one_of_two false course other is also = also

  toward_prepared : (id : ℕ) (course : Course) → IsPreparedCourse course → IsPreparedCourse (toward given id course)
  toward_prepared id course is = one_of_two (nat_lt 0 id && nat_lt id (given.sessions + 1)) course (says outcome.NoSuchThread) is tt

  answered_so : (least : 1 ≤ number) (source : List ℕ) → slice_get given.texts (number - 1) ≡ Some source → (settings : Settings) (answer : Answer) → IsAnswer gives source answer
      → IsPreparedCourse (course_of given settings answer)
  answered_so least source there settings (refused why) is = tt
  answered_so least source there settings (starved text) is = tt
  answered_so least source there settings (prepared text (work.Explain planned)) is = tt
  answered_so least source there settings (prepared text (work.SetTrace on)) is = tt
  answered_so least source there settings (prepared text (work.SetLimit limit)) is = tt
  answered_so least source there settings (prepared text work.TraceRows) is = tt
  answered_so least source there settings (prepared text (work.Show kind id)) is = toward_prepared id (shows kind id) tt
  answered_so least source there settings (prepared text (work.Wait id at)) is = toward_prepared id (waits id at) tt
  answered_so least source there settings (prepared text (work.Kill kind id)) is = toward_prepared id (kills kind id) tt
  answered_so least source there settings (prepared text (work.Select planned)) is =
      record { least = least; source = source; text = there; canonical = text; gives_it = is }
  answered_so least source there settings (prepared text (work.Analyze planned)) is =
      record { least = least; source = source; text = there; canonical = text; gives_it = is }

  pub part_prepared : (part : Part gives given number) → IsPreparedCourse (course_of given part.settings part.answer)
  part_prepared part = answered_so part.least part.source part.text part.settings part.answer part.gives_it
