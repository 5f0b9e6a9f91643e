-- The entries are those of the program so far after a point of a run.
use Rattle.std.proofs.Common.{ℕ, ◌+◌, Bool, true, false, List, [], ◌∷◌, ◌++◌, All, refl, sym, subst, ap, arith}
use Rattle.std.proofs.lemmas.List.Elements.{All-cons, All-nil}
use Rattle.sa_plan.specs.declared.plan.Planned.{Planned}
use Rattle.sa_count.specs.declared.report.Report.{Report}
use Rattle.sa_meaning.specs.Progress.{Progress}
use Rattle.sa_desk.specs.declared.entry.Entry.{Entry}
use Rattle.sa_desk.specs.declared.entry.Event.TheVariants.{Served}
use Rattle.sa_desk.specs.declared.outcome.Finish.TheVariants as finish
use Rattle.sa_desk.specs.declared.outcome.StepStop.TheVariants as stop
use Rattle.sa_desk.specs.declared.request.Request.{Request}
use Rattle.sa_desk.specs.declared.stamp.Stamp.{Stamp}
use Rattle.sa_desk.specs.State.{queue_of}
use Rattle.sa_desk.specs.Contents.{Contents, phase, entry_by, later as later_stamp}
use Rattle.sa_desk.specs.Serving.{is_killed, report_of, served_with, served_entries}
use Rattle.sa_desk.specs.World.{World, IsCall, next_stamp}
use Rattle.sa_desk.specs.call.Point.{point_answer}
use Rattle.sa_desk.specs.call.Point as point
use Rattle.sa_desk.specs.program.Course.{Given, Answer}
use Rattle.sa_desk.specs.program.SoFar.{IsTold, Runs}
use Rattle.sa_desk.proofs.program.Served.{AreServed-append, AreServed-with}
use Rattle.sa_worker.specs.View.{View, me_of, makes_steps, points, ends_run}
use Rattle.sa_worker.specs.Next.{looked_into, after_point}
use Rattle.sa_worker.specs.Keeps.{KeepsAt}
use Rattle.sa_worker.specs.Follows.{IsRunOn, FollowsAt, Follows}
use Rattle.sa_worker.proofs.keeps.Point as keeping
use Rattle.sa_worker.proofs.follows.Moves.{Follows-on}

-- Whoever is served isn't told of another desk.
pub told_served : (given : Given) (journals : ℕ → List Entry) (desk : Contents) (report : Report) (stamp : Stamp) (queue : List Request)
    → All (λ (entry : Entry). IsTold given journals entry.event) (served_with desk report stamp queue)
told_served given journals desk report stamp [] = All-nil (λ (entry : Entry). IsTold given journals entry.event)
told_served given journals desk report stamp (request ∷ rest) =
    All-cons (λ (entry : Entry). IsTold given journals entry.event) (entry_by desk stamp (Served request.asker request.request report)) (served_with desk report (later_stamp 1 stamp) rest) tt
    (told_served given journals desk report (later_stamp 1 stamp) rest)

module _ (world later : World) (view : View) (planned : Planned) (made : ℕ) (run : Progress) (keeps : KeepsAt world view (points planned made run)) (answers : List Answer)
    (follows : FollowsAt view (points planned made run) (world.seen view.given.session) answers (world.mine view.given.session)) where
  abbrev session : ℕ
  session = view.given.session

  abbrev desk : Contents
  desk = world.contents session

  abbrev stamp : Stamp
  stamp = next_stamp world (me_of view)

  abbrev entries : List Entry
  entries = served_entries desk stamp run

  abbrev left : Contents
  left = point.after_point desk stamp run

  module _ (call : IsCall world later session session entries left) where
    running_on : IsRunOn view.given view.settings view.number follows.last follows.texts view.began view.answer (follows.tail ++ entries) (view.turn + 1) (made + 1)
    running_on =
        let was = follows.tail_is in
        let running = was.running_is in
        let turn = running.turn in
        let served = AreServed-with desk (report_of run) stamp (queue_of (phase desk)) session view.began call.met.number (omega (arith, turn)) in
        record {
          begin = was.begin;
          between = was.between ++ entries;
          tail_is = ap (λ tail. tail ++ entries) was.tail_is;
          running_is = record {
            open_is = running.open_is;
            planned = planned;
            course = subst (λ course. Runs course planned) (sym keeps.holds.holds.0.course_is) refl;
            turn = omega (arith, turn);
            served = AreServed-append session view.began view.turn (view.turn + 1) was.between entries (omega arith) running.served served;
            runs_on = (keeping.running world later view planned made run keeps call (makes_steps planned (made + 1) (looked_into run))).runs_on;
          };
        }

    pointed : (killed : Bool) → Follows (after_point view planned made run (point_answer killed)) (later.seen session) answers (later.mine session)
    pointed false =
        Follows-on world later view (points planned made run) answers follows session entries left call (view.turn + 1) view.began (makes_steps planned (made + 1) (looked_into run))
        (told_served view.given (later.seen session) desk (report_of run) stamp (queue_of (phase desk))) running_on
    pointed true =
        let seen = looked_into run in
        Follows-on world later view (points planned made run) answers follows session entries left call (view.turn + 1) view.began (ends_run planned (made + 1) seen (finish.Broken stop.Killed seen))
        (told_served view.given (later.seen session) desk (report_of run) stamp (queue_of (phase desk))) running_on

    pub Follows-point : Follows (after_point view planned made run (point_answer (is_killed (phase desk)))) (later.seen session) answers (later.mine session)
    Follows-point = pointed (is_killed (phase desk))
