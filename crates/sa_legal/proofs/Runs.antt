-- An answer shows the plan that its statement was prepared to.
use Rattle.std.proofs.Common.{◌≡◌, ℕ, ◌≤◌, ◌⊎◌, Bool, true, false, List, ◌∷◌, ◌++◌, append_assoc, length, All, Option, Some, None, inl, inr, sym, subst, ap, ◌∙◌}
use Rattle.std.proofs.lemmas.List.Elements.{All-weaker}
use Rattle.sa_value.specs.declared.text.Text.{Text}
use Rattle.sa_count.specs.declared.report.Report.{Report}
use Rattle.sa_plan.specs.declared.plan.Plan.{Plan}
use Rattle.sa_plan.specs.declared.plan.Planned.{Planned}
use Rattle.sa_plan.specs.declared.prepared.Work.TheVariants as work
use Rattle.sa_meaning.specs.Data.{RunData}
use Rattle.sa_desk.specs.declared.entry.Entry.{Entry}
use Rattle.sa_desk.specs.declared.entry.Event.TheVariants.{Begin, Served}
use Rattle.sa_desk.specs.Legal.{Sessions, given_of, journal_at, IsLegal}
use Rattle.sa_desk.specs.program.Course.{Given, Course, says, shows, waits, kills, runs, text_of, course_of}
use Rattle.sa_desk.specs.program.Prepares.{Answers}
use Rattle.sa_desk.specs.program.SoFar.{terms_of}
use Rattle.sa_desk.specs.program.Statement.{BeginsAs}
use Rattle.sa_desk.proofs.laws.Shown.{plan_shown}
use Rattle.sa_legal.specs.Prepared.{IsPrepared}
use Rattle.sa_legal.specs.Runs.{ShowsRun}
use Rattle.sa_legal.proofs.Parts.{BeginPart, IsPartOf, IsPart}
use Rattle.sa_legal.proofs.Prepared.{IsPreparedCourse, part_prepared}
use Rattle.sa_legal.proofs.Programs.{program_parts}
use Rattle.sa_legal.proofs.Standing.{All-there, for_each}

-- A run was prepared: its plan and its tables are these.
record WasPrepared (gives : Answers) (given : Given) (number : ℕ) (plan : Plan) (tables : RunData) : Type 0 where
  planned : Planned
  plan_is : plan ≡ planned.plan
  tables_are : tables ≡ given.tables
  prepared : IsPrepared gives given number (work.Select planned) ⊎ IsPrepared gives given number (work.Analyze planned)

either_work : (gives : Answers) (given : Given) (number : ℕ) (analyze : Bool) (planned : Planned) → IsPreparedCourse gives given number (runs analyze planned)
    → IsPrepared gives given number (work.Select planned) ⊎ IsPrepared gives given number (work.Analyze planned)
either_work gives given number false planned prepared = inl prepared
either_work gives given number true planned prepared = inr prepared

module _ (gives : Answers) (given : Given) (number own : ℕ) (source : List ℕ) (said : Text) (version : ℕ) (plan : Option Plan) (tables : Option RunData) (the_plan : Plan) (the_tables : RunData)
    (has_plan : plan ≡ Some the_plan) (has_tables : tables ≡ Some the_tables) where
  begun_so : (course : Course) → IsPreparedCourse gives given number course → BeginsAs given course number source (Begin own said version plan tables)
      → WasPrepared gives given own the_plan the_tables
  begun_so (runs analyze planned) prepared is =
      let same_plan : Some the_plan ≡ Some planned.plan = sym has_plan ∙ is.3 in
      let same_tables : Some the_tables ≡ Some given.tables = sym has_tables ∙ is.4 in
      subst (λ n. WasPrepared gives given n the_plan the_tables) (sym is.0)
      (record { planned = planned; plan_is = (cc same_plan); tables_are = (cc same_tables); prepared = either_work gives given number analyze planned prepared })
  begun_so (says said) prepared is = absurd (let none : Some the_plan ≡ None = sym has_plan ∙ is.3 in cc)
  begun_so (shows kind i) prepared is = absurd (let none : Some the_plan ≡ None = sym has_plan ∙ is.3 in cc)
  begun_so (waits i at) prepared is = absurd (let none : Some the_plan ≡ None = sym has_plan ∙ is.3 in cc)
  begun_so (kills kind i) prepared is = absurd (let none : Some the_plan ≡ None = sym has_plan ∙ is.3 in cc)

-- The plan of a Begin was prepared.
abbrev BeginsWell : Answers → Sessions → (session : ℕ) → Entry → Type 0
BeginsWell gives sessions session entry =
    (number : ℕ) (text : Text) (version : ℕ) (plan : Option Plan) (tables : Option RunData) (the_plan : Plan) (the_tables : RunData)
    → entry.event ≡ Begin number text version plan tables → plan ≡ Some the_plan → tables ≡ Some the_tables
    → WasPrepared gives (given_of sessions session) number the_plan the_tables

begins_well : (gives : Answers) (sessions : Sessions) (session : ℕ) (entry : Entry) → IsPart gives (given_of sessions session) entry → BeginsWell gives sessions session entry
begins_well gives sessions session entry of number text version plan tables the_plan the_tables is has_plan has_tables =
    let given : Given = given_of sessions session in
    let part : BeginPart gives given entry = subst (IsPartOf gives given entry) is of in
    let course : Course = course_of given part.part.settings part.part.answer in
    let source : List ℕ = text_of part.part.source part.part.answer in
    begun_so gives given part.number number source text version plan tables the_plan the_tables has_plan has_tables
    course (part_prepared gives given part.number part.part) (subst (BeginsAs given course part.number source) is part.begins)

pub run_shown : (gives : Answers) (sessions : Sessions) (journals : List (List Entry)) → IsLegal gives sessions journals
    → (desk : ℕ) → 1 ≤ desk → desk ≤ length journals → (before rest : List Entry) (entry : Entry) → journal_at journals desk ≡ before ++ entry ∷ rest
    → (asker request : ℕ) (report : Report) → entry.event ≡ Served asker request report → ShowsRun gives sessions desk before entry asker request report
run_shown gives sessions journals legal desk least most before rest entry parts asker request report is =
    let shown = plan_shown (terms_of (given_of sessions desk) desk) (journal_at journals desk) before rest entry asker request report (legal.desks desk least most) parts is in
    let on = shown.on in
    let whole : journal_at journals desk ≡ on.earlier ++ on.begin ∷ (on.since ++ entry ∷ rest) =
    parts ∙ ap (λ xs. xs ++ entry ∷ rest) on.parts ∙ append_assoc on.earlier (on.begin ∷ on.since) (entry ∷ rest) in
    let all = for_each gives sessions journals legal (BeginsWell gives sessions)
    (λ session from upto.
    let has = legal.programs session from upto in
    All-weaker (IsPart gives (given_of sessions session)) (BeginsWell gives sessions session) (begins_well gives sessions session)
    has.mine (program_parts gives sessions journals session has)) desk least most in
    let well = All-there (λ each. BeginsWell gives sessions each.actor each) on.earlier (on.since ++ entry ∷ rest) on.begin
    (subst (All (λ (each : Entry). BeginsWell gives sessions each.actor each)) whole all)
    shown.number on.text on.version on.plan on.tables shown.plan shown.tables on.begins shown.has_plan shown.has_tables in
    let was = subst (λ session. WasPrepared gives (given_of sessions session) shown.number shown.plan shown.tables) on.own well in
    record { shown = shown; planned = was.planned; plan_is = was.plan_is; tables_are = was.tables_are; prepared = was.prepared }
