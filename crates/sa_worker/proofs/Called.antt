-- What follows a call depends on nothing that a turn changes of the view.
use Rattle.std.proofs.Common.{◌≡◌, ℕ, ◌+◌, true, drop, refl, sym, subst, ap, ◌∙◌, List}
use Rattle.sa_ast.specs.declared.kind.AskKind.{AskKind}
use Rattle.sa_plan.specs.declared.plan.Planned.{Planned}
use Rattle.sa_meaning.specs.Progress.{Progress}
use Rattle.sa_desk.specs.declared.answer.Asked.{Asked}
use Rattle.sa_desk.specs.declared.answer.Asked.TheVariants as asked
use Rattle.sa_desk.specs.declared.answer.Begun.{Begun}
use Rattle.sa_desk.specs.declared.answer.Begun.TheVariants as begun
use Rattle.sa_desk.specs.declared.answer.Killed.{Killed}
use Rattle.sa_desk.specs.declared.answer.Killed.TheVariants as killed
use Rattle.sa_desk.specs.declared.answer.Looked.{Looked}
use Rattle.sa_desk.specs.declared.answer.Looked.TheVariants as looked
use Rattle.sa_desk.specs.declared.answer.Polled.{Polled}
use Rattle.sa_desk.specs.declared.answer.Polled.TheVariants as polled
use Rattle.sa_desk.specs.declared.answer.Seen.{Seen}
use Rattle.sa_desk.specs.declared.answer.Seen.TheVariants as seen
use Rattle.sa_desk.specs.declared.stamp.Stamp.{Stamp}
use Rattle.sa_desk.specs.Contents.{Contents, state, phase}
use Rattle.sa_desk.specs.Serving.{is_killed}
use Rattle.sa_desk.specs.World.{World, IsCall, Meets, next_stamp}
use Rattle.sa_desk.specs.call.Ask.{ask_answer}
use Rattle.sa_desk.specs.call.Begin.{begin_answer}
use Rattle.sa_desk.specs.call.Kill.{kill_answer}
use Rattle.sa_desk.specs.call.Look as look
use Rattle.sa_desk.specs.call.Point.{point_answer}
use Rattle.sa_desk.specs.call.Poll as poll
use Rattle.sa_desk.specs.program.Course.{Course, says, shows, waits, kills, runs, Answer, course_of}
use Rattle.sa_desk.specs.program.Turn.{made, left}
use Rattle.sa_worker.specs.declared.opening.Course.{Course as CourseFields}
use Rattle.sa_worker.specs.declared.opening.Course.TheVariants.{Says, Shows, Waits, Kills, Runs}
use Rattle.sa_worker.specs.declared.session.Session.{Session}
use Rattle.sa_worker.specs.declared.stage.Stage.{Stage as StageFields}
use Rattle.sa_worker.specs.View.{View, Stage, prepares, makes_steps, opens, closes, ends, asks, polls, looks_asking, withdraws, looks_waiting, points, ends_run, done, IsActive, call_at, desk_at, me_of}
use Rattle.sa_worker.specs.View as stage
use Rattle.sa_worker.specs.Next.{begins, after_begin, after_ask, after_poll, after_look_asking, after_kill, after_look, after_look_waiting, after_point, next_at, next_view}
use Rattle.sa_worker.specs.Keeps.{Keeps}
use Rattle.sa_worker.specs.Follows.{Follows, ended_with}
use Rattle.sa_worker.specs.inner.Called.{MayCall, HasCalled, desk_for, stamp_for}
use Rattle.sa_worker.specs.inner.Fields.{first_fields, stage_of, rest_of, view_of}
use Rattle.sa_worker.specs.inner.Ties.{FirstTied, StageTied, first_left, IsTied}
use Rattle.sa_worker.proofs.May.{May-at}
use Rattle.sa_worker.proofs.keeps.Turn.{Keeps-turn}
use Rattle.sa_worker.proofs.follows.Turn.{Follows-turn}

-- What comes first after a Begin is so whatever the turn and the stage are.
pub begins-rest : (view : View) (turn began : ℕ) (stage : Stage) (course : Course) → begins (record view { turn = turn; began = began; stage = stage }) course ≡ begins view course
begins-rest view turn began stage (says result) = refl
begins-rest view turn began stage (shows kind desk) = refl
begins-rest view turn began stage (waits desk at) = refl
begins-rest view turn began stage (kills kind desk) = refl
begins-rest view turn began stage (runs analyze planned) = refl

-- What hangs together where a statement is about to begin does so where it has begun.
pub begun_tied : (session : Session) (course : CourseFields) → session.statements.items ≡ drop session.number session.texts.value → FirstTied (rest_of session) session.change course
    → session.stage ≡ first_fields course → IsTied session
begun_tied session (Says outcome) texts tied is = record { texts = subst (λ stage. session.statements.items ≡ drop (first_left session.number stage) session.texts.value) (sym is) texts; stage = subst (StageTied (rest_of session) session.change) (sym is) tied }
begun_tied session (Shows kind desk) texts tied is = record { texts = subst (λ stage. session.statements.items ≡ drop (first_left session.number stage) session.texts.value) (sym is) texts; stage = subst (StageTied (rest_of session) session.change) (sym is) tied }
begun_tied session (Waits desk at) texts tied is = record { texts = subst (λ stage. session.statements.items ≡ drop (first_left session.number stage) session.texts.value) (sym is) texts; stage = subst (StageTied (rest_of session) session.change) (sym is) tied }
begun_tied session (Kills kind desk) texts tied is = record { texts = subst (λ stage. session.statements.items ≡ drop (first_left session.number stage) session.texts.value) (sym is) texts; stage = subst (StageTied (rest_of session) session.change) (sym is) tied }
begun_tied session (Runs run goal) texts tied is = record { texts = subst (λ stage. session.statements.items ≡ drop (first_left session.number stage) session.texts.value) (sym is) texts; stage = subst (StageTied (rest_of session) session.change) (sym is) tied }

-- The view after a call is the same whatever came next before, for each answer.
module _ (view : View) (was : Stage) where
  abbrev other : View
  other = record view { stage = was }

  begin-rest : (course : Course) → begins other course ≡ begins view course
  begin-rest course = begins-rest view view.turn view.began was course

  after_begin-rest : (answer : Begun) → after_begin other answer ≡ after_begin view answer
  after_begin-rest begun.Ok = ap (λ stage. record view { turn = view.turn + 1; began = view.turn + 1; stage = stage }) (begin-rest (course_of view.given view.settings view.answer))
  after_begin-rest begun.Gone = refl

  after_ask-rest : (kind : AskKind) (desk : ℕ) (answer : Asked) → after_ask other kind desk answer ≡ after_ask view kind desk answer
  after_ask-rest kind desk asked.Queued = refl
  after_ask-rest kind desk asked.NotExplainable = refl
  after_ask-rest kind desk asked.NoSuchThread = refl

  after_poll-rest : (kind : AskKind) (desk count : ℕ) (answer : Polled) → after_poll other kind desk count answer ≡ after_poll view kind desk count answer
  after_poll-rest kind desk count (polled.Taken report begin) = refl
  after_poll-rest kind desk count (polled.Spent turns) = refl
  after_poll-rest kind desk count polled.NotYet = refl

  after_look_asking-rest : (kind : AskKind) (desk count : ℕ) (answer : Seen) → after_look_asking other kind desk count answer ≡ after_look_asking view kind desk count answer
  after_look_asking-rest kind desk count seen.Go = refl
  after_look_asking-rest kind desk count seen.Kill = refl

  after_kill-rest : (answer : Killed) → after_kill other answer ≡ after_kill view answer
  after_kill-rest killed.Ok = refl
  after_kill-rest killed.NoSuchThread = refl

  after_look-rest : (desk at count : ℕ) (answer : Looked) → after_look other desk at count answer ≡ after_look view desk at count answer
  after_look-rest desk at count looked.NoSuchThread = refl
  after_look-rest desk at count (looked.Reached steps) = refl
  after_look-rest desk at count (looked.Spent steps turns) = refl
  after_look-rest desk at count looked.NotYet = refl

  after_look_waiting-rest : (desk at count : ℕ) (answer : Seen) → after_look_waiting other desk at count answer ≡ after_look_waiting view desk at count answer
  after_look_waiting-rest desk at count seen.Go = refl
  after_look_waiting-rest desk at count seen.Kill = refl

  after_point-rest : (planned : Planned) (made : ℕ) (run : Progress) (answer : Seen) → after_point other planned made run answer ≡ after_point view planned made run answer
  after_point-rest planned made run seen.Go = refl
  after_point-rest planned made run seen.Kill = refl

  pub next_at-rest : (stage : Stage) (desk : Contents) (stamp : Stamp) → IsActive stage → next_at other stage desk stamp ≡ next_at view stage desk stamp
  next_at-rest prepares desk stamp active = absurd active
  next_at-rest (makes_steps planned made run) desk stamp active = absurd active
  next_at-rest done desk stamp active = absurd active
  next_at-rest opens desk stamp active = after_begin-rest (begin_answer (state desk).doomed)
  next_at-rest closes desk stamp active = refl
  next_at-rest (ends result) desk stamp active = refl
  next_at-rest (asks kind i) desk stamp active = after_ask-rest kind i (ask_answer (phase desk))
  next_at-rest (polls kind i count) desk stamp active = after_poll-rest kind i count (poll.polled desk stamp view.number)
  next_at-rest (looks_asking kind i count) desk stamp active = after_look_asking-rest kind i count (point_answer (is_killed (phase desk)))
  next_at-rest (withdraws kind i count) desk stamp active = refl
  next_at-rest (stage.kills kind i) desk stamp active = after_kill-rest (kill_answer (phase desk))
  next_at-rest (stage.waits i at count) desk stamp active = after_look-rest i at count (look.looked desk stamp view.number at)
  next_at-rest (looks_waiting i at count) desk stamp active = after_look_waiting-rest i at count (point_answer (is_killed (phase desk)))
  next_at-rest (points planned made run) desk stamp active = after_point-rest planned made run (point_answer (is_killed (phase desk)))
  next_at-rest (ends_run planned made run given) desk stamp active = refl

-- What a worker knows is enough for its next call.
pub may_call : (world : World) (session : Session) (view : View) (stage rest : StageFields) → view_of session ≡ view → stage ≡ session.stage → IsTied session → IsActive view.stage
    → world.may_call (desk_at view view.stage) view.given.session ≡ true → Keeps world view → Meets world (desk_at view view.stage) view.given.session
    → MayCall world (record session { stage = rest }) stage
may_call world session view stage rest is same =
    subst (λ view. IsTied session → IsActive view.stage → world.may_call (desk_at view view.stage) view.given.session ≡ true → Keeps world view
    → Meets world (desk_at view view.stage) view.given.session → MayCall world (record session { stage = rest }) stage) is
    (λ tied active allowed keeps met. subst (MayCall world (record session { stage = rest })) (sym same) (record {
      active = active;
      allowed = allowed;
      may = May-at world (view_of session) (stage_of session.stage) active keeps met;
      holds = keeps.holds;
      tied = tied.stage;
    }))

-- The view after its call is the next one.
pub next_called : (world : World) (session later : Session) (view : View) (stage rest : StageFields) → view_of session ≡ view → stage ≡ session.stage → IsActive view.stage
    → view_of later ≡ next_at (view_of (record session { stage = rest })) (stage_of stage) (world.contents (desk_for (record session { stage = rest }) stage)) (stamp_for world (record session { stage = rest }))
    → view_of later ≡ next_view view (world.contents (desk_at view view.stage)) (next_stamp world (me_of view))
next_called world session later view stage rest is same =
    subst (λ view. IsActive view.stage
    → view_of later ≡ next_at (view_of (record session { stage = rest })) (stage_of stage) (world.contents (desk_for (record session { stage = rest }) stage)) (stamp_for world (record session { stage = rest }))
    → view_of later ≡ next_view view (world.contents (desk_at view view.stage)) (next_stamp world (me_of view))) is
    (subst (λ stage. IsActive (stage_of session.stage)
    → view_of later ≡ next_at (view_of (record session { stage = rest })) (stage_of stage) (world.contents (desk_for (record session { stage = rest }) stage)) (stamp_for world (record session { stage = rest }))
    → view_of later ≡ next_view (view_of session) (world.contents (desk_for session session.stage)) (next_stamp world (me_of (view_of session)))) (sym same)
    (λ active next. next ∙ next_at-rest (view_of session) (stage_of rest) (stage_of session.stage) (world.contents (desk_for session session.stage)) (stamp_for world session) active))

-- It was called as the view's stage says.
called_so : (world after : World) (session later : Session) (stage rest : StageFields) → stage ≡ session.stage → HasCalled world after (record session { stage = rest }) later stage
    → (let view = view_of session in let desk = world.contents (desk_at view view.stage) in let stamp = next_stamp world (me_of view) in
    IsCall world after (desk_at view view.stage) view.given.session (made desk stamp view.number (call_at view view.stage)) (left desk stamp view.number (call_at view view.stage)))
called_so world after session later stage rest same =
    subst (λ stage. HasCalled world after (record session { stage = rest }) later stage
    → (let view = view_of session in let desk = world.contents (desk_at view view.stage) in let stamp = next_stamp world (me_of view) in
    IsCall world after (desk_at view view.stage) view.given.session (made desk stamp view.number (call_at view view.stage)) (left desk stamp view.number (call_at view view.stage)))) (sym same) (λ called. called.call)

-- It knows after its call what it has to.
pub keeps_called : (world after : World) (session later : Session) (view : View) (stage rest : StageFields) → view_of session ≡ view → stage ≡ session.stage → IsActive view.stage → Keeps world view
    → HasCalled world after (record session { stage = rest }) later stage → Keeps after (view_of later)
keeps_called world after session later view stage rest is same active keeps called =
    let keeps_own : Keeps world (view_of session) = subst (Keeps world) (sym is) keeps in
    let active_own : IsActive (view_of session).stage = subst (λ view. IsActive view.stage) (sym is) active in
    let after_own = Keeps-turn world after (view_of session) (stage_of session.stage) active_own keeps_own (called_so world after session later stage rest same called) in
    subst (Keeps after) (sym (next_called world session later (view_of session) stage rest refl same active_own called.next)) after_own

-- Its entries follow its program after its call.
pub follows_called : (world after : World) (session later : Session) (view : View) (stage rest : StageFields) → view_of session ≡ view → stage ≡ session.stage → IsActive view.stage → Keeps world view
    → HasCalled world after (record session { stage = rest }) later stage
    → (answers : List Answer) → Follows view (world.seen view.given.session) answers (world.mine view.given.session)
    → Follows (view_of later) (after.seen view.given.session) (ended_with view view.stage answers) (after.mine view.given.session)
follows_called world after session later view stage rest is same =
    subst (λ view. IsActive view.stage → Keeps world view → HasCalled world after (record session { stage = rest }) later stage
    → (answers : List Answer) → Follows view (world.seen view.given.session) answers (world.mine view.given.session)
    → Follows (view_of later) (after.seen view.given.session) (ended_with view view.stage answers) (after.mine view.given.session)) is
    (λ active keeps called answers follows.
    subst (λ next. Follows next (after.seen session.given.session) (ended_with (view_of session) (stage_of session.stage) answers) (after.mine session.given.session))
    (sym (next_called world session later (view_of session) stage rest refl same active called.next))
    (Follows-turn world after (view_of session) (stage_of session.stage) answers active keeps follows (called_so world after session later stage rest same called)))
