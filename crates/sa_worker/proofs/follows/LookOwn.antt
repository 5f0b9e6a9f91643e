-- The entries are those of the program so far after a look for a kill.
use Rattle.std.proofs.Common.{ℕ, ◌+◌, Bool, true, false, List, [], inl, refl, sym, subst, arith}
use Rattle.sa_ast.specs.declared.kind.AskKind.{AskKind}
use Rattle.sa_desk.specs.declared.outcome.Outcome.TheVariants as outcome
use Rattle.sa_desk.specs.Contents.{Contents, phase}
use Rattle.sa_desk.specs.Serving.{is_killed}
use Rattle.sa_desk.specs.World.{World, IsCall}
use Rattle.sa_desk.specs.call.Point.{point_answer}
use Rattle.sa_desk.specs.program.Course.{Answer, course_of}
use Rattle.sa_desk.specs.program.Course as course
use Rattle.sa_desk.specs.program.Between.{Due, goes_on, Between}
use Rattle.sa_desk.specs.program.Between as due
use Rattle.sa_desk.proofs.program.Asks.{asks-on}
use Rattle.sa_desk.proofs.program.Waits.{waits-on, wait-killed}
use Rattle.sa_worker.specs.View.{View, polls, looks_asking, withdraws, looks_waiting, ends}
use Rattle.sa_worker.specs.View as stages
use Rattle.sa_worker.specs.Next.{after_look_asking, after_look_waiting}
use Rattle.sa_worker.specs.Keeps.{KeepsAt}
use Rattle.sa_worker.specs.Follows.{FollowsAt, Follows}
use Rattle.sa_worker.proofs.follows.Moves.{IsWithin-more, told_none, Follows-on}
use Rattle.sa_worker.proofs.follows.Asking.{row, asking_more}

module _ (world later : World) (view : View) (answers : List Answer) where
  abbrev session : ℕ
  session = view.given.session

  abbrev desk : Contents
  desk = world.contents session

  module _ (kind : AskKind) (i count : ℕ) (keeps : KeepsAt world view (looks_asking kind i count))
      (follows : FollowsAt view (looks_asking kind i count) (world.seen view.given.session) answers (world.mine view.given.session)) (call : IsCall world later session session [] desk) where
    looked_asking : (killed : Bool) → Follows (after_look_asking view kind i count (point_answer killed)) (later.seen session) answers (later.mine session)
    looked_asking killed =
        let turn = keeps.holds.holds.1.on.turn in
        let most = keeps.holds.holds.0.1 in
        let before = row view kind i follows.last follows.texts follows.tail (world.seen session) keeps.holds.holds.1.course_is follows.tail_is in
        let after = asks-on view.given view.number view.began kind i follows.tail_is.0 view.turn (omega (arith, turn, most)) before in
        let asking = asking_more view kind i follows.last follows.texts follows.tail (world.seen session) keeps.holds.holds.1.course_is follows.tail_is [] goes_on after in
        let told = told_none view.given (later.seen session) in
        elim killed as (λ killed. Follows (after_look_asking view kind i count (point_answer killed)) (later.seen session) answers (later.mine session)) [
          | false ↦ Follows-on world later view (looks_asking kind i count) answers follows session [] desk call (view.turn + 1) view.began (polls kind i count) told (follows.tail_is.0, asking)
          | true ↦ Follows-on world later view (looks_asking kind i count) answers follows session [] desk call (view.turn + 1) view.began (withdraws kind i count) told (follows.tail_is.0, asking)
        ]

    pub Follows-look_asking : Follows (after_look_asking view kind i count (point_answer (is_killed (phase desk)))) (later.seen session) answers (later.mine session)
    Follows-look_asking = looked_asking (is_killed (phase desk))

  module _ (i at count : ℕ) (keeps : KeepsAt world view (looks_waiting i at count))
      (follows : FollowsAt view (looks_waiting i at count) (world.seen view.given.session) answers (world.mine view.given.session)) (call : IsCall world later session session [] desk) where
    row_before : Between view.given view.number view.began (course.waits i at) [] view.turn goes_on
    row_before = subst (λ course. Between view.given view.number view.began course [] view.turn goes_on) keeps.holds.holds.1.course_is follows.tail_is.row

    row_after : (due : Due) → Between view.given view.number view.began (course.waits i at) [] (view.turn + 1) due → Between view.given view.number view.began (course_of view.given view.settings view.answer) [] (view.turn + 1) due
    row_after due = subst (λ course. Between view.given view.number view.began course [] (view.turn + 1) due) (sym keeps.holds.holds.1.course_is)

    looked_waiting : (killed : Bool) → Follows (after_look_waiting view i at count (point_answer killed)) (later.seen session) answers (later.mine session)
    looked_waiting false =
        let turn = keeps.holds.holds.1.on.turn in
        let least = keeps.holds.holds.0.0 in
        let most = keeps.holds.holds.0.1 in
        Follows-on world later view (looks_waiting i at count) answers follows session [] desk call (view.turn + 1) view.began (stages.waits i at count) (told_none view.given (later.seen session))
        (IsWithin-more view.given view.settings view.number follows.last follows.texts view.began view.answer follows.tail view.turn [] goes_on follows.tail_is [] (view.turn + 1) goes_on
        (row_after goes_on (waits-on view.given view.number view.began i at view.turn (omega (arith, turn, least, most)) row_before)))
    looked_waiting true =
        let turn = keeps.holds.holds.1.on.turn in
        let least = keeps.holds.holds.0.0 in
        let most = keeps.holds.holds.0.1 in
        Follows-on world later view (looks_waiting i at count) answers follows session [] desk call (view.turn + 1) view.began (ends outcome.Interrupted) (told_none view.given (later.seen session)) (record {
          between = [];
          due_is = outcome.Interrupted;
          within = IsWithin-more view.given view.settings view.number follows.last follows.texts view.began view.answer follows.tail view.turn [] goes_on follows.tail_is [] (view.turn + 1) (due.ends outcome.Interrupted)
              (row_after (due.ends outcome.Interrupted) (wait-killed view.given view.number view.began i at view.turn count least most (omega (arith, turn, least))));
          is = inl refl;
          told = tt;
        })

    pub Follows-look_waiting : Follows (after_look_waiting view i at count (point_answer (is_killed (phase desk)))) (later.seen session) answers (later.mine session)
    Follows-look_waiting = looked_waiting (is_killed (phase desk))
