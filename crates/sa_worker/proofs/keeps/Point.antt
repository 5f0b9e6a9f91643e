-- A worker still knows what it has to after a point of its run.
use Rattle.std.proofs.Common.{◌≡◌, ℕ, ◌+◌, ◌*◌, ◌<◌, Bool, true, false, List, [], ◌∷◌, inr, refl, sym, subst, ap, ◌∙◌, arith}
use Rattle.std.specs.Prelude.{None, length}
use Rattle.std.proofs.lemmas.Bool.{eq-eqb}
use Rattle.sa_plan.specs.declared.plan.Planned.{Planned}
use Rattle.sa_meaning.specs.Items.{items}
use Rattle.sa_meaning.specs.Progress.{Progress}
use Rattle.sa_desk.specs.declared.entry.Entry.{Entry}
use Rattle.sa_desk.specs.declared.outcome.Finish.TheVariants as finish
use Rattle.sa_desk.specs.declared.outcome.StepStop.TheVariants as stop
use Rattle.sa_desk.specs.declared.request.Request.{Request}
use Rattle.sa_count.specs.declared.report.Report.{Report}
use Rattle.sa_desk.specs.declared.stamp.Stamp.{Stamp}
use Rattle.sa_desk.specs.State.{Terms, Statement, Execution, State, Phase, idle, unplanned, planned, serving, closed, queue_of}
use Rattle.sa_desk.specs.After.{still_serving, served, after_serving}
use Rattle.sa_desk.specs.Contents.{Contents, state, phase, later as later_stamp}
use Rattle.sa_desk.specs.Runs.{state_of, state_after}
use Rattle.sa_desk.specs.Serving.{is_killed, report_of, served_with, served_entries}
use Rattle.sa_desk.specs.World.{World, IsCall, next_stamp}
use Rattle.sa_desk.specs.call.Point.{point_answer}
use Rattle.sa_desk.specs.call.Point as point
use Rattle.sa_desk.specs.program.RunEnds.{IsClear}
use Rattle.sa_desk.proofs.Append.{state_of-append}
use Rattle.sa_desk.proofs.program.Own.{own_from-served, request_from-served, charge-served}
use Rattle.sa_worker.specs.View.{Stage, View, me_of, points, ends_run}
use Rattle.sa_worker.specs.View as stages
use Rattle.sa_worker.specs.Next.{looked_into, goes_to, after_point}
use Rattle.sa_worker.specs.Holds.{IsRunning}
use Rattle.sa_worker.specs.Keeps.{IsRunAt, KeepsAt, Keeps}
use Rattle.sa_worker.proofs.keeps.Goes.{on_later, waiting_same, Keeps-goes}
use Rattle.sa_worker.proofs.keeps.Stands.{still_here}

-- Whoever is served, the kill stands.
killed_on : (statement : Statement) (execution : Execution) (rest : List Request) (steps turn : ℕ) → is_killed (still_serving statement execution rest steps turn) ≡ statement.killed
killed_on statement execution [] steps turn = refl
killed_on statement execution (next ∷ rest) steps turn = refl

killed_served : (quantum : ℕ) (statement : Statement) (execution : Execution) (queue : List Request) (steps turn : ℕ)
    → is_killed (served quantum statement execution queue steps turn) ≡ statement.killed
killed_served quantum statement execution [] steps turn = refl
killed_served quantum statement execution (first ∷ rest) steps turn = killed_on statement _ rest steps turn

killed_serving : (quantum : ℕ) (phase : Phase) (steps turn : ℕ) → is_killed (after_serving quantum phase steps turn) ≡ is_killed phase
killed_serving quantum idle steps turn = refl
killed_serving quantum (unplanned statement) steps turn = refl
killed_serving quantum (planned statement execution) steps turn = killed_served quantum statement execution execution.queue steps turn
killed_serving quantum (serving statement execution number at) steps turn = killed_served quantum statement execution execution.queue steps turn
killed_serving quantum closed steps turn = refl

killed_after : (terms : Terms) (desk : Contents) (report : Report) (stamp : Stamp) (queue : List Request) (state : State)
    → is_killed (state_after terms state (served_with desk report stamp queue)).phase ≡ is_killed state.phase
killed_after terms desk report stamp [] state = refl
killed_after terms desk report stamp (request ∷ rest) state =
    killed_after terms desk report (later_stamp 1 stamp) rest _ ∙ killed_serving terms.quantum state.phase report.steps stamp.turn

module _ (world later : World) (view : View) (plan : Planned) (made : ℕ) (run : Progress) (keeps : KeepsAt world view (points plan made run)) where
  abbrev session : ℕ
  session = view.given.session

  abbrev desk : Contents
  desk = world.contents session

  abbrev stamp : Stamp
  stamp = next_stamp world (me_of view)

  abbrev quantum : ℕ
  quantum = view.given.quantum

  abbrev entries : List Entry
  entries = served_entries desk stamp run

  abbrev left : Contents
  left = point.after_point desk stamp run

  module _ (call : IsCall world later session session entries left) where
    steps_are : run.steps ≡ (made + 1) * quantum
    steps_are = ap (λ run. run.steps) keeps.holds.holds.1

    published_is : (later.quiet session session).published ≡ (made + 1) * quantum
    published_is = ap (λ quiet. quiet.published) call.counted_is ∙ rw (eq-eqb session desk.terms.desk (sym call.met.number)) steps_are

    -- one point more is made
    pub running : (next : Stage) → IsRunning (goes_to view next) plan (made + 1)
    running next =
        let was = keeps.holds.holds.0 in
        let more : (made + 1) * quantum < length (items plan.plan view.given.tables) = subst (λ steps. steps < length (items plan.plan view.given.tables)) steps_are keeps.holds.holds.2 in
        record {
          on = on_later view next made was.on;
          analyze = was.analyze;
          course_is = was.course_is;
          can_run = was.can_run;
          runs_on = inr (more, subst (λ steps. IsClear view.settings.limit plan.plan view.given.tables steps) steps_are keeps.holds.holds.3);
        }

    run_now : (next : Stage) → IsRunAt later (goes_to view next) (looked_into run) plan.plan (made + 1)
    run_now next =
        let was = keeps.knows.0 in
        record {
          statement = was.statement;
          plan_is = was.plan_is;
          tables_are = was.tables_are;
          published = published_is;
          turn = let turn = was.turn in omega (arith, turn);
        }

    killed_left : is_killed (phase desk) ≡ true → is_killed (state_of (world.terms session) left.journal).phase ≡ true
    killed_left is =
        subst (λ terms. is_killed (state_of terms left.journal).phase ≡ true) call.met.terms
        (ap (λ state. is_killed state.phase) (state_of-append desk.terms desk.journal entries)
        ∙ killed_after desk.terms desk (report_of run) stamp (queue_of (phase desk)) (state desk) ∙ is)

    pointed-as : (killed : Bool) → is_killed (phase desk) ≡ killed → Keeps later (after_point view plan made run (point_answer killed))
    pointed-as false none =
        let stage = points plan made run in
        let next = stages.makes_steps plan (made + 1) (looked_into run) in
        let queue = queue_of (phase desk) in
        let free = charge-served session desk (report_of run) stamp queue in
        Keeps-goes world later view stage keeps entries left call next (record {
          aimed = keeps.session;
          same = λ was. own_from-served was desk (report_of run) stamp queue;
          outline = refl;
          request_here = request_from-served None desk (report_of run) stamp queue;
          request_elsewhere = λ at apart. refl;
          room_here = omega (arith, free);
          room_elsewhere = λ at apart. omega arith;
          waiting = waiting_same world later view stage keeps entries left call view.number (omega arith);
          past_more = omega arith;
          holds = (running next, keeps.holds.holds.1);
          knows = (run_now next, steps_are);
        })
    pointed-as true is =
        let stage = points plan made run in
        let seen = looked_into run in
        let next = ends_run plan (made + 1) seen (finish.Broken stop.Killed seen) in
        let queue = queue_of (phase desk) in
        let free = charge-served session desk (report_of run) stamp queue in
        let steps = steps_are in
        Keeps-goes world later view stage keeps entries left call next (record {
          aimed = keeps.session;
          same = λ was. own_from-served was desk (report_of run) stamp queue;
          outline = refl;
          request_here = request_from-served None desk (report_of run) stamp queue;
          request_elsewhere = λ at apart. refl;
          room_here = omega (arith, free);
          room_elsewhere = λ at apart. omega arith;
          waiting = waiting_same world later view stage keeps entries left call view.number (omega arith);
          past_more = omega arith;
          holds = (
            running next,
            inr (refl, omega arith, steps),
            ap (λ (run : Progress). let bare : Progress = record run { steps = 0; since_looked = 0; failed = false } in bare) keeps.holds.holds.1,
            omega (arith, steps),
            omega (arith, steps),
            keeps.holds.holds.3,
          );
          knows = (
            run_now next,
            refl,
            λ same. still_here world later view stage keeps entries left call next refl (killed_left is),
            omega (arith, steps),
            omega (arith, steps),
          );
        })

    pub Keeps-point : Keeps later (after_point view plan made run (point_answer (is_killed (phase desk))))
    Keeps-point = pointed-as (is_killed (phase desk)) refl
