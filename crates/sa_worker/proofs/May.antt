-- What a worker knows between two turns is enough for its next call.
use Rattle.std.proofs.Common.{◌≡◌, ◌≢◌, ℕ, ◌+◌, ◌*◌, ◌≤◌, ◌==◌, true, [], ◌++◌, Some, All, refl, sym, subst, ap, ◌∙◌, arith, append_assoc, append-nil}
use Rattle.std.specs.Prelude.{IfSome}
use Rattle.std.proofs.lemmas.Bool.{eq-eqb}
use Rattle.std.proofs.lemmas.List.{append_cancel_left}
use Rattle.std.proofs.lemmas.List.Elements.{All-weaker, filter-append}
use Rattle.sa_plan.specs.declared.plan.Plan.{Plan}
use Rattle.sa_plan.specs.Lawful.{IsLawful}
use Rattle.sa_meaning.specs.Progress.{Progress}
use Rattle.sa_desk.specs.declared.entry.Entry.{Entry}
use Rattle.sa_desk.specs.declared.outcome.Finish.{Finish}
use Rattle.sa_desk.specs.declared.outcome.Finish.TheVariants.{Plain, Rows, Analyzed, Broken}
use Rattle.sa_desk.specs.declared.stamp.Caller.{Caller}
use Rattle.sa_desk.specs.Contents.{phase}
use Rattle.sa_desk.specs.Runs.{state_of, IsDeskRun}
use Rattle.sa_desk.specs.Serving.{is_killed}
use Rattle.sa_desk.specs.World.{World, Meets, made_by, next_stamp}
use Rattle.sa_desk.specs.call.Begin.{AreGiven}
use Rattle.sa_desk.specs.call.End.{Fits}
use Rattle.sa_desk.specs.program.Course.{Given, Course, says, shows, waits, kills, runs, text_of, course_of}
use Rattle.sa_desk.specs.program.SoFar.{terms_of}
use Rattle.sa_desk.specs.program.Turn.{May, itself}
use Rattle.sa_desk.proofs.laws.Stays.{kill_stands_on}
use Rattle.sa_desk.proofs.program.May.{Knows, paid, share, may_ask, may_poll, may_withdraw, may_kill, may_look, may_begin, may_close, may_look_own, may_end}
use Rattle.sa_desk.proofs.program.MayRun.{RunsAt, may_point, may_end_run}
use Rattle.sa_worker.specs.View.{Stage, prepares, makes_steps, opens, closes, ends, asks, polls, looks_asking, withdraws, looks_waiting, points, ends_run, done, View, text_at, left, me_of, IsActive, plan_in, tables_in, call_at, desk_at, aimed, open_at, owed}
use Rattle.sa_worker.specs.View as stages
use Rattle.sa_worker.proofs.Entries.{none_of}
use Rattle.sa_worker.specs.Keeps.{WasKilled, FitsSeen, IsRunAt, IsSession, KeepsAt}

aimed-own : (desk price : ℕ) → aimed desk desk price ≡ price
aimed-own desk price = rw (eq-eqb desk desk refl) refl

open_at-own : (number desk : ℕ) → open_at number desk desk ≡ Some number
open_at-own number desk = rw (eq-eqb desk desk refl) refl

-- A course's plan and its tables are given together.
given_by : (given : Given) (course : Course) → IfSome (plan_in course) (IsLawful given.tables) → AreGiven (plan_in course) (tables_in given course)
given_by given (runs analyze planned) lawful = record { together = (λ some. refl, λ some. refl); lawful = lawful }
given_by given (says result) lawful = record { together = (λ none. none, λ none. none); lawful = tt }
given_by given (shows kind desk) lawful = record { together = (λ none. none, λ none. none); lawful = tt }
given_by given (waits desk at) lawful = record { together = (λ none. none, λ none. none); lawful = tt }
given_by given (kills kind desk) lawful = record { together = (λ none. none, λ none. none); lawful = tt }

-- A kill that was seen stands.
pub killed_now : (world : World) (view : View) → Meets world view.given.session view.given.session → WasKilled world view
    → is_killed (phase (world.contents view.given.session)) ≡ true
killed_now world view met was =
    let session = view.given.session in
    let desk = world.contents session in
    let more = was.seen.0 ++ met.others in
    let grown : desk.journal ≡ was.journal ++ more = met.grown ∙ ap (λ seen. seen ++ met.others) was.seen.1 ∙ append_assoc was.journal was.seen.0 met.others in
    let run : IsDeskRun desk.terms (was.journal ++ more) = subst (IsDeskRun desk.terms) grown met.sound.run in
    let same : made_by session was.journal ++ made_by session more ≡ made_by session was.journal ++ [] =
    sym (filter-append (λ (entry : Entry). entry.actor == session) was.journal more) ∙ ap (made_by session) (sym grown) ∙ met.own ∙ sym was.own
    ∙ sym (append-nil (made_by session was.journal)) in
    let apart = none_of session more (append_cancel_left (made_by session was.journal) (made_by session more) [] same) in
    let others : All (λ entry. entry.actor ≢ desk.terms.desk) more =
    All-weaker (λ (entry : Entry). entry.actor ≢ session) (λ entry. entry.actor ≢ desk.terms.desk) (λ entry apart same. apart (same ∙ met.number)) more apart in
    let before : is_killed (state_of desk.terms was.journal).phase ≡ true = subst (λ terms. is_killed (state_of terms was.journal).phase ≡ true) (sym met.terms) was.killed in
    subst (λ entries. is_killed (state_of desk.terms entries).phase ≡ true) (sym grown) (kill_stands_on desk.terms was.journal more run others before)

-- What fits what was seen fits.
pub fits_now : (world : World) (view : View) → Meets world view.given.session view.given.session → (finish : Finish Progress) → FitsSeen world view finish
    → Fits itself (is_killed (phase (world.contents view.given.session))) finish
fits_now world view met (Plain result) fits = absurd fits
fits_now world view met (Rows names run) fits = fits
fits_now world view met (Analyzed plan run) fits = fits
fits_now world view met (Broken fault run) fits = λ is. killed_now world view met (fits is)

module _ (world : World) (view : View) (stage : Stage) (keeps : KeepsAt world view stage) where
  knows_of : (desk : ℕ) → IsSession view.given desk → Meets world desk view.given.session → Knows world desk view.given.session
  knows_of desk is met = record { met = met; least = keeps.session.least; most = subst (λ count. view.given.session ≤ count) (sym (keeps.shares desk is)) keeps.session.most }

  room_for : (desk price : ℕ) → IsSession view.given desk → price ≤ owed view stage desk → paid world desk view.given.session + price ≤ share world desk view.given.session
  room_for desk price is least = let left = keeps.room desk is in omega (arith, left, least)

  turns_of : (desk : ℕ) → IsSession view.given desk → view.given.turns ≡ (world.terms desk).turns
  turns_of desk is = ap (λ terms. terms.turns) (sym (keeps.terms desk is))

module _ (world : World) (view : View) where
  abbrev me : Caller
  me = me_of view

  abbrev session : ℕ
  session = view.given.session

  runs_at : (run : Progress) (made : ℕ) (plan : Plan) → world.terms session ≡ terms_of view.given session → IsRunAt world view run plan made
      → RunsAt world session run view.number plan view.given.tables made
  runs_at run made plan terms at = record {
    statement = at.statement;
    plan_is = at.plan_is;
    tables_are = at.tables_are;
    published = at.published ∙ ap (λ terms. made * terms.quantum) (sym terms);
  }

  quantum_of : (desk : ℕ) → Meets world desk session → world.terms desk ≡ terms_of view.given desk → (world.contents desk).terms.quantum ≡ view.given.quantum
  quantum_of desk met terms = ap (λ terms. terms.quantum) (met.terms ∙ terms)

  -- Each stage's call may be made.
  pub May-at : (stage : Stage) → IsActive stage → KeepsAt world view stage → Meets world (desk_at view stage) session
      → May (world.contents (desk_at view stage)) (next_stamp world me) view.number (call_at view stage)
  May-at opens active keeps met =
      let course = course_of view.given view.settings view.answer in
      let own = aimed-own session (2 * left view + 3) in
      may_begin world me (knows_of world view opens keeps session keeps.session met) view.number 0 (text_of (text_at view) view.answer) (plan_in course) (tables_in view.given course) refl
      (given_by view.given course keeps.knows) keeps.outline_is (room_for world view opens keeps session 1 keeps.session (omega (arith, own)))
  May-at closes active keeps met =
      let own = aimed-own session 1 in
      may_close world me (knows_of world view closes keeps session keeps.session met) keeps.outline_is (room_for world view closes keeps session 1 keeps.session (omega (arith, own)))
  May-at (ends result) active keeps met =
      let own = aimed-own session (2 * left view + 2) in
      may_end world me (knows_of world view (ends result) keeps session keeps.session met) view.number keeps.begin view.began keeps.outline_is result
      (λ is. killed_now world view met (keeps.knows is)) (room_for world view (ends result) keeps session 1 keeps.session (omega (arith, own)))
  May-at (asks kind desk) active keeps met =
      let owes = aimed-own desk 3 in
      may_ask world me desk (knows_of world view (asks kind desk) keeps desk keeps.aimed met) view.number kind view.given.turns (turns_of world view (asks kind desk) keeps desk keeps.aimed)
      (keeps.requests desk keeps.aimed) (room_for world view (asks kind desk) keeps desk 2 keeps.aimed (omega (arith, owes)))
  May-at (polls kind desk polled) active keeps met =
      let owes = aimed-own desk 1 in
      may_poll world me desk (knows_of world view (polls kind desk polled) keeps desk keeps.aimed met) view.number (keeps.requests desk keeps.aimed ∙ open_at-own view.number desk)
      (room_for world view (polls kind desk polled) keeps desk 1 keeps.aimed (omega (arith, owes)))
  May-at (looks_asking kind desk polled) active keeps met =
      may_look_own world me (knows_of world view (looks_asking kind desk polled) keeps session keeps.session met) view.number keeps.begin view.began keeps.outline_is
  May-at (withdraws kind desk polled) active keeps met =
      let owes = aimed-own desk 1 in
      may_withdraw world me desk (knows_of world view (withdraws kind desk polled) keeps desk keeps.aimed met) view.number (keeps.requests desk keeps.aimed ∙ open_at-own view.number desk)
      (room_for world view (withdraws kind desk polled) keeps desk 1 keeps.aimed (omega (arith, owes)))
  May-at (stages.kills kind desk) active keeps met =
      let owes = aimed-own desk 1 in
      may_kill world me desk (knows_of world view (stages.kills kind desk) keeps desk keeps.aimed met) view.number kind (room_for world view (stages.kills kind desk) keeps desk 1 keeps.aimed (omega (arith, owes)))
  May-at (stages.waits desk at looked) active keeps met =
      let owes = aimed-own desk 1 in
      may_look world me desk (knows_of world view (stages.waits desk at looked) keeps desk keeps.aimed met) view.number at view.given.turns
      (turns_of world view (stages.waits desk at looked) keeps desk keeps.aimed) (room_for world view (stages.waits desk at looked) keeps desk 1 keeps.aimed (omega (arith, owes)))
  May-at (looks_waiting desk at looked) active keeps met =
      may_look_own world me (knows_of world view (looks_waiting desk at looked) keeps session keeps.session met) view.number keeps.begin view.began keeps.outline_is
  May-at (points planned made run) active keeps met =
      let at = keeps.knows.0 in
      let quantum = quantum_of session met (keeps.terms session keeps.session) in
      may_point world me (knows_of world view (points planned made run) keeps session keeps.session met) view.number keeps.begin view.began planned.plan view.given.tables keeps.outline_is run made
      (runs_at run made planned.plan (keeps.terms session keeps.session) at) (ap (λ turn. turn + 1) at.turn) keeps.knows.1
      (subst (λ quantum. run.steps ≡ made * quantum + quantum) (sym quantum) keeps.knows.2) (room_for world view (points planned made run) keeps session 0 keeps.session (omega arith))
  May-at (ends_run planned made run given) active keeps met =
      let at = keeps.knows.0 in
      let own = aimed-own session (2 * left view + 2) in
      let quantum = quantum_of session met (keeps.terms session keeps.session) in
      may_end_run world me (knows_of world view (ends_run planned made run given) keeps session keeps.session met) view.number keeps.begin view.began planned.plan view.given.tables keeps.outline_is run made
      (runs_at run made planned.plan (keeps.terms session keeps.session) at) (ap (λ turn. turn + 1) at.turn) given keeps.knows.1
      (fits_now world view met given keeps.knows.2)
      (subst (λ quantum. made * quantum ≤ run.steps) (sym quantum) keeps.knows.3) (subst (λ quantum. run.steps ≤ made * quantum + quantum) (sym quantum) keeps.knows.4)
      (room_for world view (ends_run planned made run given) keeps session 1 keeps.session (omega (arith, own)))
  May-at prepares active keeps met = absurd active
  May-at (makes_steps planned made run) active keeps met = absurd active
  May-at done active keeps met = absurd active
