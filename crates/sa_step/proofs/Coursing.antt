-- What is known along the course of a statement, from turn to turn.
use Rattle.std.proofs.Common.{◌≡◌, ℕ, ◌+◌, ◌≤◌, Bool, true, false, refl, sym, subst, ap, arith}
use Rattle.std.specs.Prelude.{⊤}
use Rattle.sa_ast.specs.declared.kind.AskKind.{AskKind}
use Rattle.sa_plan.specs.declared.plan.Planned.{Planned}
use Rattle.sa_plan.specs.declared.prepared.Work.TheVariants as work
use Rattle.sa_meaning.specs.Progress.{Progress}
use Rattle.sa_desk.specs.declared.answer.Asked.{Asked}
use Rattle.sa_desk.specs.declared.answer.Asked.TheVariants as asked
use Rattle.sa_desk.specs.declared.answer.Killed.{Killed}
use Rattle.sa_desk.specs.declared.answer.Killed.TheVariants as killed
use Rattle.sa_desk.specs.declared.answer.Looked.{Looked}
use Rattle.sa_desk.specs.declared.answer.Looked.TheVariants as looked
use Rattle.sa_desk.specs.declared.answer.Polled.{Polled}
use Rattle.sa_desk.specs.declared.answer.Polled.TheVariants as answer
use Rattle.sa_desk.specs.declared.stamp.Stamp.{Stamp}
use Rattle.sa_desk.specs.Contents.{Contents, phase, state}
use Rattle.sa_desk.specs.Serving.{is_killed}
use Rattle.sa_desk.specs.call.Ask.{ask_answer}
use Rattle.sa_desk.specs.call.Begin.{begin_answer}
use Rattle.sa_desk.specs.call.Kill.{kill_answer}
use Rattle.sa_desk.specs.call.Look as look
use Rattle.sa_desk.specs.call.Point.{point_answer}
use Rattle.sa_desk.specs.call.Poll as poll
use Rattle.sa_desk.specs.program.Course.{Given, Answer, prepared, refused, starved, Settings, at_first, Course, says, shows, waits, kills, runs, course_of}
use Rattle.sa_desk.specs.program.Prepares.{Answers}
use Rattle.sa_worker.specs.View.{View, Stage, IsActive}
use Rattle.sa_worker.specs.View as stages
use Rattle.sa_worker.specs.Holds.{StageHolds}
use Rattle.sa_worker.specs.Next.{begins, next_at, after_ask, after_begin, after_kill, after_look, after_look_asking, after_look_waiting, after_poll, after_point}
use Rattle.sa_worker.specs.Works.{Prepares, is_prepared, is_last, Makes, goes_on, stops, WorksAt, Works}
use Rattle.sa_step.specs.Course.{soon}
use Rattle.sa_step.specs.inner.Timely.{course_at, ends_by, AtEnd}

-- A course that doesn't end at once.
abbrev pub IsGoing : Course → Type 0
IsGoing (says result) = ⊥
IsGoing course = ⊤

-- It depends on no setting.
pub known_course : (given : Given) (settings : Settings) (answer : Answer) (course : Course) → IsGoing course → course_of given settings answer ≡ course → course_of given at_first answer ≡ course
known_course given settings (refused why) course going is = is
known_course given settings (starved text) course going is = is
known_course given settings (prepared text (work.Explain planned)) course going is = is
known_course given settings (prepared text (work.SetTrace on)) course going is = is
known_course given settings (prepared text (work.SetLimit limit)) course going is = is
known_course given settings (prepared text work.TraceRows) course going is = absurd (subst IsGoing (sym is) going)
known_course given settings (prepared text (work.Show kind id)) course going is = is
known_course given settings (prepared text (work.Wait id at)) course going is = is
known_course given settings (prepared text (work.Kill kind id)) course going is = is
known_course given settings (prepared text (work.Select planned)) course going is = is
known_course given settings (prepared text (work.Analyze planned)) course going is = is

pub soon_least : (course : Course) → 1 ≤ soon course
soon_least (says result) = omega arith
soon_least (shows kind i) = omega arith
soon_least (waits i at) = omega arith
soon_least (kills kind i) = omega arith
soon_least (runs analyze planned) = omega arith

-- A statement that is on ends in the next turn, or so soon after it.
pub ends_soon : (view : View) (stage : Stage) → ends_by view stage ≤ view.turn + 1 + soon (course_at view)
ends_soon view (stages.withdraws kind i count) = omega arith
ends_soon view stages.prepares = omega arith
ends_soon view stages.opens = omega arith
ends_soon view stages.closes = omega arith
ends_soon view stages.done = omega arith
ends_soon view (stages.ends result) = omega arith
ends_soon view (stages.ends_run chosen so_many run given) = omega arith
ends_soon view stage = omega arith

module _ (view : View) (desk : Contents) (stamp : Stamp) where
  -- The call leads on.
  abbrev pub GoesOn : Stage → Type 0
  GoesOn (stages.asks kind i) = ⊤
  GoesOn (stages.polls kind i count) = ⊤
  GoesOn (stages.looks_asking kind i count) = is_killed (phase desk) ≡ false
  GoesOn (stages.waits i at count) = look.looked desk stamp view.number at ≡ looked.NotYet
  GoesOn (stages.looks_waiting i at count) = is_killed (phase desk) ≡ false
  GoesOn (stages.points chosen so_many run) = is_killed (phase desk) ≡ false
  GoesOn stage = ⊥

module _ (P : Course → (b last : ℕ) → Type 0) (fewer : (course : Course) (b last least : ℕ) → least ≤ last → P course b last → P course b least)
    (new : (course : Course) (b last : ℕ) → last ≤ b + 1 + soon course → P course b last) (Q : Course → (b last : ℕ) → Type 0)
    (new_end : (course : Course) (b last : ℕ) → last ≤ b + 1 → Q course b last) (next_end : (course : Course) (b turn : ℕ) → P course b (turn + 1 + soon course) → Q course b (turn + 1 + 1)) where
  abbrev pub KnownAt : View → Stage → Type 0
  KnownAt view stage = P (course_at view) view.began (ends_by view stage) × AtEnd Q view stage

  abbrev pub Known : View → Type 0
  Known view = KnownAt view view.stage

  none : (course : Course) (b : ℕ) → P course b 0
  none course b = new course b 0 (omega arith)

  -- Private work.
  module _ (gives : Answers) (view later : View) where
    prepared_known : Prepares gives view later → Known later
    prepared_known (is_prepared answer there given is) = subst Known (sym is) (none (course_of view.given at_first answer) view.began, tt)
    prepared_known (is_last last is) = subst Known (sym is) (none (course_at view) view.began, tt)

    made_known : (planned : Planned) (made : ℕ) (run : Progress) → KnownAt view (stages.makes_steps planned made run) → Makes view planned made run later → Known later
    made_known planned made run known (goes_on after comes full more unfailed is) = subst Known (sym is) known
    made_known planned made run known (stops after comes finish analyze of_course so is) =
        subst Known (sym is) (fewer (course_at view) view.began (view.turn + 1 + soon (course_at view)) (view.turn + 1) (omega arith) known.0, tt)

    works_as : (stage : Stage) → view.stage ≡ stage → KnownAt view stage → WorksAt gives view stage later → Known later
    works_as stages.prepares is known work = prepared_known work
    works_as (stages.makes_steps planned made run) is known work = made_known planned made run known work
    works_as stage is known work = subst Known (sym work) (subst (KnownAt view) (sym is) known)

    pub known_works : Known view → Works gives view later → Known later
    known_works known work = works_as view.stage refl known work

  module _ (view : View) (desk : Contents) (stamp : Stamp) where
    abbrev course : Course
    course = course_at view

    abbrev Before : Type 0
    Before = P course view.began (view.turn + 1 + soon course)

    abbrev After : Type 0
    After = P course view.began (view.turn + 1 + 1 + soon course)

    -- Its End comes next.
    ending : Before → P course view.began (view.turn + 1 + 1) × Q course view.began (view.turn + 1 + 1)
    ending known = let least = soon_least course in (fewer course view.began (view.turn + 1 + soon course) (view.turn + 1 + 1) (omega (arith, least)) known, next_end course view.began view.turn known)

    -- The End of a run comes next.
    run_ending : Before → P course view.began (view.turn + 1 + 1)
    run_ending known = (ending known).0

    begun_known : (next : Course) → Known (record view { turn = view.turn + 1; began = view.turn + 1; stage = begins view next })
    begun_known (says result) = (new course (view.turn + 1) _ (omega arith), new_end course (view.turn + 1) _ (omega arith))
    begun_known (shows kind i) = (new course (view.turn + 1) _ (omega arith), tt)
    begun_known (waits i at) = (new course (view.turn + 1) _ (omega arith), tt)
    begun_known (kills kind i) = (new course (view.turn + 1) _ (omega arith), tt)
    begun_known (runs analyze planned) = (new course (view.turn + 1) _ (omega arith), tt)

    begins_known : (doomed : Bool) → Known (after_begin view (begin_answer doomed))
    begins_known true = (none course view.began, tt)
    begins_known false = begun_known (course_of view.given view.settings view.answer)

    asks_known : (kind : AskKind) (i : ℕ) (answer : Asked) → (Before → After) → Before → Known (after_ask view kind i answer)
    asks_known kind i asked.Queued more known = (more known, tt)
    asks_known kind i asked.NotExplainable more known = ending known
    asks_known kind i asked.NoSuchThread more known = ending known

    polls_known : (kind : AskKind) (i count : ℕ) (polled : Polled) → (Before → After) → Before → Known (after_poll view kind i count polled)
    polls_known kind i count (answer.Taken report begin) more known = ending known
    polls_known kind i count (answer.Spent turns) more known = ending known
    polls_known kind i count answer.NotYet more known = (more known, tt)

    looks_known : (kind : AskKind) (i count : ℕ) (killed : Bool) → (killed ≡ false → Before → After) → Before → Known (after_look_asking view kind i count (point_answer killed))
    looks_known kind i count true more known = (fewer course view.began (view.turn + 1 + soon course) _ (omega arith) known, tt)
    looks_known kind i count false more known = (more refl known, tt)

    kills_known : (killed : Killed) → Before → Known (after_kill view killed)
    kills_known killed.Ok known = ending known
    kills_known killed.NoSuchThread known = ending known

    waits_known : (i at count : ℕ) (found : Looked) → (found ≡ looked.NotYet → Before → After) → Before → Known (after_look view i at count found)
    waits_known i at count looked.NoSuchThread more known = ending known
    waits_known i at count (looked.Reached steps) more known = ending known
    waits_known i at count (looked.Spent steps turns) more known = ending known
    waits_known i at count looked.NotYet more known = (more refl known, tt)

    looks_waiting_known : (i at count : ℕ) (killed : Bool) → (killed ≡ false → Before → After) → Before → Known (after_look_waiting view i at count (point_answer killed))
    looks_waiting_known i at count true more known = ending known
    looks_waiting_known i at count false more known = (more refl known, tt)

    points_known : (chosen : Planned) (so_many : ℕ) (run : Progress) (killed : Bool) → (killed ≡ false → Before → After) → Before → Known (after_point view chosen so_many run (point_answer killed))
    points_known chosen so_many run true more known = (run_ending known, tt)
    points_known chosen so_many run false more known = (more refl known, tt)

    -- A withdrawal is that of a SHOW.
    withdraws_known : (kind : AskKind) (i : ℕ) → course_of view.given view.settings view.answer ≡ shows kind i → P course view.began (view.turn + soon course) → P course view.began (view.turn + 1 + 1)
    withdraws_known kind i is known =
        let two : soon course ≡ 2 = ap soon (known_course view.given view.settings view.answer (shows kind i) tt is) in
        fewer course view.began (view.turn + soon course) (view.turn + 1 + 1) (omega (arith, two)) known

    pub known_turn : (more : (stage : Stage) → view.stage ≡ stage → StageHolds view stage → GoesOn view desk stamp stage → Before → After)
        → (back : (kind : AskKind) (i count : ℕ) → view.stage ≡ stages.withdraws kind i count → Q course view.began (view.turn + 1 + 1)) → (stage : Stage) → view.stage ≡ stage → IsActive stage → StageHolds view stage → KnownAt view stage → Known (next_at view stage desk stamp)
    known_turn more back stages.opens is active holds known = begins_known (state desk).doomed
    known_turn more back stages.closes is active holds known = (none course view.began, tt)
    known_turn more back (stages.ends result) is active holds known = (none course view.began, tt)
    known_turn more back (stages.asks kind i) is active holds known = asks_known kind i (ask_answer (phase desk)) (more (stages.asks kind i) is holds tt) known.0
    known_turn more back (stages.polls kind i count) is active holds known = polls_known kind i count (poll.polled desk stamp view.number) (more (stages.polls kind i count) is holds tt) known.0
    known_turn more back (stages.looks_asking kind i count) is active holds known = looks_known kind i count (is_killed (phase desk)) (more (stages.looks_asking kind i count) is holds) known.0
    known_turn more back (stages.withdraws kind i count) is active holds known = (withdraws_known kind i holds.1.course_is known.0, back kind i count is)
    known_turn more back (stages.kills kind i) is active holds known = kills_known (kill_answer (phase desk)) known.0
    known_turn more back (stages.waits i at count) is active holds known = waits_known i at count (look.looked desk stamp view.number at) (more (stages.waits i at count) is holds) known.0
    known_turn more back (stages.looks_waiting i at count) is active holds known = looks_waiting_known i at count (is_killed (phase desk)) (more (stages.looks_waiting i at count) is holds) known.0
    known_turn more back (stages.points chosen so_many run) is active holds known = points_known chosen so_many run (is_killed (phase desk)) (more (stages.points chosen so_many run) is holds) known.0
    known_turn more back (stages.ends_run chosen so_many run given) is active holds known = (none course view.began, tt)
    known_turn more back stages.prepares is active holds known = absurd active
    known_turn more back (stages.makes_steps chosen so_many run) is active holds known = absurd active
    known_turn more back stages.done is active holds known = absurd active
