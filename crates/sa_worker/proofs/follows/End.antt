-- The entries are those of the program so far after a statement ended.
use Rattle.std.proofs.Common.{◌≡◌, ℕ, ◌+◌, if◌then◌else◌, Bool, true, false, List, [], ◌∷◌, ◌++◌, length, All, inl, inr, refl, sym, subst, ap, ◌∙◌, append_assoc, arith}
use Rattle.std.specs.Prelude.{Option, Some, None, ◌⊎◌}
use Rattle.std.proofs.lemmas.List.Elements.{All-append}
use Rattle.sa_plan.specs.declared.plan.Planned.{Planned}
use Rattle.sa_meaning.specs.Progress.{Progress}
use Rattle.sa_desk.specs.declared.entry.Entry.{Entry}
use Rattle.sa_desk.specs.declared.entry.Event.TheVariants as event
use Rattle.sa_desk.specs.declared.outcome.Finish.{Finish}
use Rattle.sa_desk.specs.declared.outcome.Finish.TheVariants as finish
use Rattle.sa_desk.specs.declared.outcome.Outcome.{Outcome}
use Rattle.sa_desk.specs.declared.outcome.Outcome.TheVariants as outcome
use Rattle.sa_desk.specs.declared.outcome.StepStop.{StepStop}
use Rattle.sa_desk.specs.declared.outcome.StepStop.TheVariants as stop
use Rattle.sa_desk.specs.declared.stamp.Stamp.{Stamp}
use Rattle.sa_desk.specs.State.{queue_of}
use Rattle.sa_desk.specs.Contents.{Contents, phase, entry_by, later as later_stamp}
use Rattle.sa_desk.specs.Serving.{is_killed, report_of, served_entries}
use Rattle.sa_desk.specs.World.{World, IsCall, next_stamp}
use Rattle.sa_desk.specs.call.End.{run_of, outcome_of, stopped, steps_of, served_by, end_answer, end_entries}
use Rattle.sa_desk.specs.call.End as end
use Rattle.sa_desk.specs.program.Course.{Given, Answer, Course, says, shows, waits, kills, runs, course_of}
use Rattle.sa_desk.specs.program.Between.{Between}
use Rattle.sa_desk.specs.program.Between as due
use Rattle.sa_desk.specs.program.SoFar.{IsOpen, IsTold}
use Rattle.sa_desk.specs.program.Statement.{IsOwnEntry, EndsAs, IsStatement}
use Rattle.sa_desk.specs.program.Turn.{itself}
use Rattle.sa_desk.proofs.program.Served.{AreServed-append, AreServed-with}
use Rattle.sa_desk.proofs.program.Told.{IsTold-grows}
use Rattle.sa_worker.specs.View.{View, me_of, ends, ends_run}
use Rattle.sa_worker.specs.Next.{after_end}
use Rattle.sa_worker.specs.Keeps.{KeepsAt}
use Rattle.sa_worker.specs.Follows.{FollowsAt, Follows}
use Rattle.sa_worker.proofs.follows.Moves.{told_one, Follows-ended}
use Rattle.sa_worker.proofs.follows.Point.{told_served}
use Rattle.sa_worker.proofs.follows.RunEnds.{run_ends}

-- A statement without a run ends with what is due, or Interrupted.
ends_plainly : (given : Given) (limit number b t : ℕ) (course : Course) (between : List Entry) (given_out due_is : Outcome)
    → Between given number b course between t (due.ends due_is) → (given_out ≡ due_is) ⊎ (given_out ≡ outcome.Interrupted)
    → EndsAs given limit number b t course between (t + 1) (event.End number given_out 0) given_out
ends_plainly given limit number b t (says result) between given_out due_is row is = (refl, refl, refl, refl, due_is, row, is)
ends_plainly given limit number b t (shows kind i) between given_out due_is row is = (refl, refl, refl, refl, due_is, row, is)
ends_plainly given limit number b t (waits i at) between given_out due_is row is = (refl, refl, refl, refl, due_is, row, is)
ends_plainly given limit number b t (kills kind i) between given_out due_is row is = (refl, refl, refl, refl, due_is, row, is)
ends_plainly given limit number b t (runs analyze planned) between given_out due_is row is = absurd row

module _ (world later : World) (view : View) (answers : List Answer) where
  abbrev session : ℕ
  session = view.given.session

  abbrev desk : Contents
  desk = world.contents session

  abbrev stamp : Stamp
  stamp = next_stamp world (me_of view)

  -- the End, by whether a kill stands
  abbrev end_for : (run : Option Progress) → (killed : Bool) → Outcome → Entry
  end_for run killed given =
      let result = if killed then outcome.Interrupted else given in
      entry_by desk (later_stamp (length (served_by desk stamp run)) stamp) (event.End view.number result (steps_of run))

  abbrev entries_for : (run : Option Progress) → (killed : Bool) → Outcome → List Entry
  entries_for run killed given = served_by desk stamp run ++ end_for run killed given ∷ []

  abbrev left_for : (run : Option Progress) → (killed : Bool) → Outcome → Contents
  left_for run killed given = record desk { journal = desk.journal ++ entries_for run killed given; published = 0 }

  module _ (result : Outcome) (follows : FollowsAt view (ends result) (world.seen session) answers (world.mine session)) where
    abbrev opened : IsOpen view.given view.settings view.number follows.last follows.texts view.began view.answer follows.tail_is.within.begin
    opened = follows.tail_is.within.open_is

    -- The statement is whole with its End.
    whole : (killed : Bool) (given_out : Outcome) → IsCall world later session session (entries_for None killed result) (left_for None killed result)
        → (end_for None killed result).event ≡ event.End view.number given_out 0 → (given_out ≡ follows.tail_is.due_is) ⊎ (given_out ≡ outcome.Interrupted)
        → IsStatement view.given view.settings view.number (follows.last + 1) opened.text view.answer (follows.tail ++ entries_for None killed result) (view.turn + 1) given_out
    whole killed given_out call event_is is =
        let was = follows.tail_is in
        let course = course_of view.given view.settings view.answer in
        let ends_so = ends_plainly view.given view.settings.limit view.number view.began view.turn course was.between given_out was.due_is was.within.row is in
        record {
          begin = was.within.begin;
          between = was.between;
          end = end_for None killed result;
          parts = ap (λ tail. tail ++ entries_for None killed result) was.within.tail_is;
          begin_own = subst (λ b. IsOwnEntry view.given b was.within.begin) opened.follows opened.own;
          begins = opened.begins;
          before = view.turn;
          end_own = (call.met.number, refl);
          ends_so =
              subst (λ event. EndsAs view.given view.settings.limit view.number (follows.last + 1) view.turn course was.between (view.turn + 1) event given_out) (sym event_is)
              (subst (λ b. EndsAs view.given view.settings.limit view.number b view.turn course was.between (view.turn + 1) (event.End view.number given_out 0) given_out) opened.follows ends_so);
        }

    -- What the End shows is what was due, or Interrupted.
    ended-as : (killed : Bool) → IsCall world later session session (entries_for None killed result) (left_for None killed result)
        → Follows (after_end view result (end_answer killed)) (later.seen session) (answers ++ view.answer ∷ []) (later.mine session)
    ended-as false call =
        let told = IsTold-grows view.given (world.seen session) (later.seen session) (call.seen_more session) (event.End view.number result 0) follows.tail_is.told in
        Follows-ended world later view (ends result) answers follows session (entries_for None false result) (left_for None false result) call opened.text opened.rest result opened.texts_are
        (whole false result call refl follows.tail_is.is) (told_one view.given (later.seen session) (end_for None false result) told)
    ended-as true call =
        Follows-ended world later view (ends result) answers follows session (entries_for None true result) (left_for None true result) call opened.text opened.rest outcome.Interrupted opened.texts_are
        (whole true outcome.Interrupted call refl (inr refl)) (told_one view.given (later.seen session) (end_for None true result) tt)

    pub Follows-end : IsCall world later session session (end_entries desk stamp view.number None result) (end.after_end desk stamp view.number None result)
        → Follows (after_end view result (end_answer (is_killed (phase desk)))) (later.seen session) (answers ++ view.answer ∷ []) (later.mine session)
    Follows-end call = ended-as (is_killed (phase desk)) call

  module _ (planned : Planned) (made : ℕ) (run : Progress) (given : Finish Progress) (keeps : KeepsAt world view (ends_run planned made run given))
      (follows : FollowsAt view (ends_run planned made run given) (world.seen session) answers (world.mine session)) where
    abbrev due_is : Outcome
    due_is = outcome_of itself given

    abbrev started : IsOpen view.given view.settings view.number follows.last follows.texts view.began view.answer follows.tail_is.begin
    started = follows.tail_is.running_is.open_is

    abbrev served : List Entry
    served = served_entries desk stamp run

    -- it tells nothing of another desk
    stop_tells : (journals : ℕ → List Entry) (fault : StepStop) (steps : ℕ) → IsTold view.given journals (event.End view.number (stopped fault) steps)
    stop_tells journals stop.RowLimit steps = tt
    stop_tells journals stop.TooManyRows steps = tt
    stop_tells journals stop.OutOfMemory steps = tt
    stop_tells journals stop.Killed steps = tt

    run_tells : (journals : ℕ → List Entry) (given : Finish Progress) (steps : ℕ) → run_of itself given ≡ Some run → IsTold view.given journals (event.End view.number (outcome_of itself given) steps)
    run_tells journals (finish.Plain result) steps is = absurd (let none : None ≡ Some run = is in cc)
    run_tells journals (finish.Rows names same) steps is = tt
    run_tells journals (finish.Analyzed plan same) steps is = tt
    run_tells journals (finish.Broken fault same) steps is = stop_tells journals fault steps

    whole_run : (killed : Bool) (given_out : Outcome) → IsCall world later session session (entries_for (Some run) killed due_is) (left_for (Some run) killed due_is)
        → (end_for (Some run) killed due_is).event ≡ event.End view.number given_out run.steps → (given_out ≡ due_is) ⊎ (given_out ≡ outcome.Interrupted)
        → IsStatement view.given view.settings view.number (follows.last + 1) started.text view.answer (follows.tail ++ entries_for (Some run) killed due_is) (view.turn + 1) given_out
    whole_run killed given_out call event_is is =
        let was = follows.tail_is in
        let running = was.running_is in
        let turn = running.turn in
        let end_of = end_for (Some run) killed due_is in
        let ends = run_ends view planned made run given keeps.holds in
        let served_now = AreServed-with desk (report_of run) stamp (queue_of (phase desk)) session view.began call.met.number (omega (arith, turn)) in
        let all_served = AreServed-append session view.began view.turn (view.turn + 1) was.between served (omega arith) running.served served_now in
        let ends_so : EndsAs view.given view.settings.limit view.number view.began view.turn (runs ends.analyze planned) (was.between ++ served) (view.turn + 1) (event.End view.number given_out run.steps) given_out =
        (refl, refl, all_served, due_is, ends.so, is) in
        let of_course = subst (λ course. EndsAs view.given view.settings.limit view.number view.began view.turn course (was.between ++ served) (view.turn + 1) (event.End view.number given_out run.steps) given_out) (sym ends.of_course) ends_so in
        record {
          begin = was.begin;
          between = was.between ++ served;
          end = end_of;
          parts = ap (λ tail. tail ++ entries_for (Some run) killed due_is) was.tail_is ∙ ap (λ entries. was.begin ∷ entries) (sym (append_assoc was.between served (end_of ∷ [])));
          begin_own = subst (λ b. IsOwnEntry view.given b was.begin) started.follows started.own;
          begins = started.begins;
          before = view.turn;
          end_own = (call.met.number, refl);
          ends_so =
              subst (λ event. EndsAs view.given view.settings.limit view.number (follows.last + 1) view.turn (course_of view.given view.settings view.answer) (was.between ++ served) (view.turn + 1) event given_out) (sym event_is)
              (subst (λ b. EndsAs view.given view.settings.limit view.number b view.turn (course_of view.given view.settings view.answer) (was.between ++ served) (view.turn + 1) (event.End view.number given_out run.steps) given_out) started.follows of_course);
        }

    all_told : (killed : Bool) → IsTold view.given (later.seen session) (end_for (Some run) killed due_is).event → All (λ (entry : Entry). IsTold view.given (later.seen session) entry.event) (entries_for (Some run) killed due_is)
    all_told killed told =
        All-append (λ (entry : Entry). IsTold view.given (later.seen session) entry.event) served (end_for (Some run) killed due_is ∷ [])
        (told_served view.given (later.seen session) desk (report_of run) stamp (queue_of (phase desk))) (told_one view.given (later.seen session) (end_for (Some run) killed due_is) told)

    run_ended-as : (killed : Bool) → IsCall world later session session (entries_for (Some run) killed due_is) (left_for (Some run) killed due_is)
        → Follows (after_end view due_is (end_answer killed)) (later.seen session) (answers ++ view.answer ∷ []) (later.mine session)
    run_ended-as false call =
        Follows-ended world later view (ends_run planned made run given) answers follows session (entries_for (Some run) false due_is) (left_for (Some run) false due_is) call started.text started.rest due_is started.texts_are
        (whole_run false due_is call refl (inl refl)) (all_told false (run_tells (later.seen session) given run.steps keeps.knows.1))
    run_ended-as true call =
        Follows-ended world later view (ends_run planned made run given) answers follows session (entries_for (Some run) true due_is) (left_for (Some run) true due_is) call started.text started.rest outcome.Interrupted started.texts_are
        (whole_run true outcome.Interrupted call refl (inr refl)) (all_told true tt)

    pub Follows-end_run : IsCall world later session session (end_entries desk stamp view.number (run_of itself given) due_is) (end.after_end desk stamp view.number (run_of itself given) due_is)
        → Follows (after_end view due_is (end_answer (is_killed (phase desk)))) (later.seen session) (answers ++ view.answer ∷ []) (later.mine session)
    Follows-end_run call =
        run_ended-as (is_killed (phase desk))
        (subst (λ run. IsCall world later session session (end_entries desk stamp view.number run due_is) (end.after_end desk stamp view.number run due_is)) keeps.knows.1 call)
