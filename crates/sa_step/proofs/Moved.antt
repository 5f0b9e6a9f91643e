-- A turn leaves the statements of all sessions in their courses.
use Rattle.std.proofs.Common.{◌≡◌, ◌≢◌, ℕ, ◌+◌, ◌<◌, ◌≤◌, false, inl, inr, Some, None, List, [], ◌∷◌, ◌++◌, length, All, Any, refl, sym, subst, ap, ◌∙◌, arith, append-nil, Option}
use Rattle.std.proofs.lemmas.Bool.{cases_eq}
use Rattle.std.proofs.lemmas.List.Elements.{All-nil, All-append, All-weaker}
use Rattle.sa_ast.specs.declared.kind.AskKind.{AskKind}
use Rattle.sa_count.specs.declared.report.Report.{Report}
use Rattle.sa_meaning.specs.Progress.{Progress}
use Rattle.sa_desk.specs.declared.answer.Looked.TheVariants.{NotYet}
use Rattle.sa_desk.specs.declared.entry.Entry.{Entry}
use Rattle.sa_desk.specs.declared.outcome.Finish.TheVariants.{Plain}
use Rattle.sa_desk.specs.declared.outcome.Outcome.{Outcome}
use Rattle.sa_desk.specs.declared.request.Request.{Request}
use Rattle.sa_desk.specs.declared.stamp.Stamp.{Stamp}
use Rattle.sa_desk.specs.State.{Terms, queue_of}
use Rattle.sa_desk.specs.Contents.{Contents, phase}
use Rattle.sa_desk.specs.Own.{outline}
use Rattle.sa_desk.specs.Plain.{desk_at, world_of}
use Rattle.sa_desk.specs.Runs.{state_of}
use Rattle.sa_desk.specs.Serving.{is_killed, begin_turn, served_with, report_of}
use Rattle.sa_desk.specs.World.{World, Meets, next_stamp}
use Rattle.sa_desk.specs.call.End.{end_entry, end_entries, run_of, outcome_of}
use Rattle.sa_desk.specs.call.Look as look
use Rattle.sa_desk.specs.program.Course.{Given, Answer, Course, shows, runs}
use Rattle.sa_desk.specs.program.Prepares.{Answers}
use Rattle.sa_desk.specs.program.SoFar.{terms_of}
use Rattle.sa_desk.specs.program.Turn.{itself, made, left}
use Rattle.sa_desk.proofs.PlainCall.{Meets-plain}
use Rattle.sa_desk.proofs.program.Own.{outline-met}
use Rattle.sa_worker.specs.View.{View, Stage, done, me_of, call_at, outline_at}
use Rattle.sa_worker.specs.View as stages
use Rattle.sa_worker.specs.Follows.{Follows, ended_with}
use Rattle.sa_worker.specs.Holds.{StageHolds}
use Rattle.sa_worker.specs.Keeps.{Keeps}
use Rattle.sa_worker.specs.Next.{next_view}
use Rattle.sa_worker.specs.Working.{WereGiven}
use Rattle.sa_worker.proofs.follows.Turn.{Follows-turn}
use Rattle.sa_worker.proofs.follows.Works.{Follows-works}
use Rattle.sa_worker.proofs.working.Fixed.{given_next}
use Rattle.sa_worker.proofs.working.Given.{WereGiven-turn, WereGiven-works}
use Rattle.sa_step.specs.Sessions.{AllSessions, AreRunning, view_in}
use Rattle.sa_step.specs.Schedule.{AreEach, slot_of}
use Rattle.sa_step.specs.Course.{IsKill, IsSpent, IsKillOf, GoesOnBefore, SpendsBefore, FindsFewer, begun_in}
use Rattle.sa_step.specs.Turns.{TakesTurn}
use Rattle.sa_step.specs.inner.Timely.{IsTimely, AreLater, course_at, ends_by, AtEnd, SeesNone, SpendsNone, EndsInTime, IsInCourse, AreInCourse}
use Rattle.sa_step.proofs.Coursing.{known_course, known_works, known_turn}
use Rattle.sa_step.proofs.Driven.{are_called}
use Rattle.sa_step.proofs.Ending.{count_is, ended_more, still_ended, others_ended, served_ended, begun_served, unkilled_served, ends_in}
use Rattle.sa_step.proofs.Looking.{finds_fewer, Vain, vain_fewer, vain_new, vain_more}
use Rattle.sa_step.proofs.Making.{IsMadeAt, made_at}
use Rattle.sa_step.proofs.Ordered.{AreEach-append}
use Rattle.sa_step.proofs.Stopping.{SeesOwn, AreUnseen, unseen_fewer, unseen_new, unseen_more, spends_new, spends_ending, unspent}
use Rattle.sa_step.proofs.Timed as timed
use Rattle.sa_step.proofs.Unkilled.{BeganIn, began_turn, none_since}
use Rattle.sa_step.proofs.Waiting.{Any-of_all}
use Rattle.sa_step.proofs.Killing.{at_end, Whatever, at_end_whatever, spent_made, kill_made, AreKills, kills_goes, kills_spends, runs_spends, next_kills, IsOnAt, began_at, own_called, own_on, shown_in}
use Rattle.sa_step.proofs.Advancing as advancing
use Rattle.sa_step.proofs.Unmoved.{their_next}

module _ (gives : Answers) (slot : (session turn : ℕ) → ℕ) (place : ℕ) (before after : AllSessions) (running : AreRunning gives before)
    (session : ℕ) (least : 1 ≤ session) (most : session ≤ length before.views) (takes : TakesTurn gives before session after)
    (timely : IsTimely slot place before) (here : slot session ((view_in before.views session).turn + 1) ≡ place)
    (ahead : (other : ℕ) → 1 ≤ other → other ≤ length before.views → (view_in before.views other).stage ≢ done → (turn : ℕ) → (view_in before.views other).turn < turn → place ≤ slot other turn)
    (in_course : AreInCourse gives slot place before) where
  abbrev world : World
  world = world_of before.plain

  abbrev after_world : World
  after_world = world_of after.plain

  abbrev view : View
  view = view_in before.views session

  abbrev given : Given
  given = view.given

  abbrev ready : View
  ready = takes.ready

  abbrev called : ℕ
  called = stages.desk_at ready ready.stage

  abbrev found : Contents
  found = desk_at before.plain called

  abbrev stamp : Stamp
  stamp = next_stamp world (me_of ready)

  abbrev entries : List Entry
  entries = made found stamp ready.number (call_at ready ready.stage)

  abbrev next : Contents
  next = left found stamp ready.number (call_at ready ready.stage)

  abbrev next_one : View
  next_one = next_view ready found stamp

  abbrev was : IsInCourse gives slot place before.plain given view
  was = in_course session least most

  number_is : given.session ≡ session
  number_is = advancing.number_is gives slot place before after running session least most takes timely here ahead

  same_given : ready.given ≡ given
  same_given = advancing.same_given gives slot place before after running session least most takes timely here ahead

  called_there : (1 ≤ called) × (called ≤ length before.plain.desks)
  called_there = advancing.called_there gives slot place before after running session least most takes timely here ahead

  placed : slot stamp.actor stamp.turn ≡ place
  placed = advancing.placed gives slot place before after running session least most takes timely here ahead

  keeps : Keeps world ready
  keeps = advancing.keeps gives slot place before after running session least most takes timely here ahead

  active : stages.IsActive ready.stage
  active = advancing.active gives slot place before after running session least most takes timely here ahead

  kinds : All (λ entry. IsMadeAt ready.stage entry.event) entries
  kinds = advancing.kinds gives slot place before after running session least most takes timely here ahead

  desk_there : (other : ℕ) → other ≤ length before.views → other ≤ length before.plain.desks
  desk_there = advancing.desk_there gives slot place before after running session least most takes timely here ahead

  later_called : (journals : ℕ → List Entry) → AreLater slot (place + 1) after.plain journals
      → (rest : List Entry) × (journals called ≡ (found.journal ++ entries) ++ rest) × All (λ entry. place + 1 ≤ slot_of slot entry) rest
  later_called = advancing.later_called gives slot place before after running session least most takes timely here ahead

  found_later : (journals : ℕ → List Entry) → AreLater slot (place + 1) after.plain journals
      → (rest : List Entry) × (journals called ≡ found.journal ++ rest) × All (λ entry. place ≤ slot_of slot entry) rest
  found_later = advancing.found_later gives slot place before after running session least most takes timely here ahead

  later_before : (journals : ℕ → List Entry) → AreLater slot (place + 1) after.plain journals → AreLater slot place before.plain journals
  later_before = advancing.later_before gives slot place before after running session least most takes timely here ahead

  at_desk : (desk : ℕ) → 1 ≤ desk → desk ≤ length before.plain.desks → (X : List Entry → Type 0) → (desk ≡ called → X ((desk_at before.plain desk).journal ++ entries))
      → (desk ≢ called → X (desk_at before.plain desk).journal) → X (desk_at after.plain desk).journal
  at_desk = advancing.at_desk gives slot place before after running session least most takes timely here ahead

  own_there : (1 ≤ given.session) × (given.session ≤ length before.plain.desks)
  own_there = subst (λ number. (1 ≤ number) × (number ≤ length before.plain.desks)) (sym number_is) (least, desk_there session most)

  abbrev own_journal : List Entry
  own_journal = (desk_at before.plain given.session).journal

  abbrev more : (more : List Answer) × (ended_with ready ready.stage was.answers ≡ was.answers ++ more)
  more = ended_more ready ready.stage was.answers

  abbrev answers : List Answer
  answers = ended_with ready ready.stage was.answers

  follows_ready : Follows ready (world.seen ready.given.session) was.answers (world.mine ready.given.session)
  follows_ready =
      subst (λ (given : Given). Follows ready (world.seen given.session) was.answers (world.mine given.session)) (sym same_given)
      (Follows-works view (world.seen given.session) was.answers (world.mine given.session) gives ready was.follows takes.work)

  own_follows : Follows next_one (after_world.seen given.session) answers (after_world.mine given.session)
  own_follows =
      subst (λ (given : Given). Follows next_one (after_world.seen given.session) answers (after_world.mine given.session)) same_given
      (Follows-turn world after_world ready ready.stage was.answers active keeps follows_ready takes.call)

  own_given : WereGiven gives next_one next_one.stage answers
  own_given =
      WereGiven-turn gives ready ready.stage (world.seen ready.given.session) was.answers (world.mine ready.given.session) active keeps.holds follows_ready
      (WereGiven-works gives view ready was.answers was.were_given takes.work) found stamp

  own_count : ready.number ≡ 1 + length was.answers
  own_count = count_is ready ready.stage (world.seen ready.given.session) was.answers (world.mine ready.given.session) follows_ready

  -- What its own desk tells of the statement that is on.
  own_met : Meets world ready.given.session ready.given.session
  own_met =
      let there = own_there in
      subst (λ (given : Given). Meets world given.session given.session) (sym same_given)
      (Meets-plain before.plain takes.plain given.session given.session (are_called before.plain given.session given.session there.0 there.1 there.0 there.1))

  own_began : (terms : Terms) (stage : Stage) → ready.stage ≡ stage → IsOnAt stage → BeganIn slot terms ready.began (outline (phase (desk_at before.plain ready.given.session)))
  own_began terms stage is on =
      let told : outline (phase (desk_at before.plain ready.given.session)) ≡ outline_at ready keeps.begin stage =
      outline-met world ready.given.session own_met ∙ keeps.outline_is ∙ ap (outline_at ready keeps.begin) is in
      subst (BeganIn slot terms ready.began) (sym told) (began_at slot terms ready keeps.begin stage on)

  -- Where it isn't killed no kill has come since its Begin.
  none_found : (stage : Stage) → ready.stage ≡ stage → SeesOwn stage → is_killed (phase found) ≡ false → All (λ was. IsKillOf slot given ready.began was → ⊥) own_journal
  none_found stage is own unkilled =
      let there = called_there in
      let here : called ≡ ready.given.session = ap (stages.desk_at ready) is ∙ own_called ready stage own in
      let desk_is : called ≡ given.session = here ∙ ap (λ (given : Given). given.session) same_given in
      let number : found.terms.desk ≡ given.session = takes.plain.numbers called there.0 there.1 ∙ desk_is in
      let began : BeganIn slot found.terms ready.began (outline (phase found)) =
      subst (λ at. BeganIn slot found.terms ready.began (outline (phase (desk_at before.plain at)))) (sym here) (own_began found.terms stage is (own_on stage own)) in
      let none = none_since slot found.terms ready.began found.journal (takes.plain.sound called there.0 there.1).run.runs (timely.rising called there.0 there.1) began unkilled in
      subst (λ at. All (λ was. IsKillOf slot given ready.began was → ⊥) (desk_at before.plain at).journal) desk_is
      (All-weaker (λ was. IsKill was.event → slot found.terms.desk ready.began < slot_of slot was → ⊥) (λ was. IsKillOf slot given ready.began was → ⊥)
      (λ was none kill. none kill.0 (subst (λ number. slot number ready.began < slot_of slot was) (sym number) kill.1)) found.journal none)

  own_place : slot given.session (ready.turn + 1) ≡ place
  own_place = subst (λ (given : Given). slot given.session (ready.turn + 1) ≡ place) same_given placed

  module _ (journals : ℕ → List Entry) (later : AreLater slot (place + 1) after.plain journals) where
    -- A look that isn't over has found nothing.
    finds : (i at count : ℕ) → ready.stage ≡ stages.waits i at count → look.looked found stamp ready.number at ≡ NotYet → FindsFewer slot given journals i at (slot given.session (ready.turn + 1))
    finds i at count is goes =
        let at_found = found_later journals later in
        let there = called_there in
        let terms : found.terms ≡ terms_of given called = keeps.terms called keeps.aimed ∙ ap (λ (given : Given). terms_of given called) same_given in
        let fewer : FindsFewer slot given journals called at place =
        finds_fewer slot given journals called at place (look.looks_before found stamp ready.number at) found.terms.turns found at_found.0 at_found.1 (timely.behind called there.0 there.1) at_found.2 terms
        (timed.counted gives slot place before after running session least most takes timely here ahead) goes in
        subst (λ place. FindsFewer slot given journals i at place) (sym own_place) (subst (λ i. FindsFewer slot given journals i at place) (ap (stages.desk_at ready) is) fewer)

    -- A withdrawal spends nothing.
    abbrev IsSpentNow : Entry → Type 0
    IsSpentNow was = (was.actor ≡ given.session) × (was.turn + 1 ≡ ready.turn + 1 + 1) × IsSpent was.event

    spent_here : (was : Entry) → IsSpentNow was → slot_of slot was ≡ place
    spent_here was spent =
        let turn = spent.1 in
        let now : was.turn ≡ ready.turn + 1 = omega (arith, turn) in ap (λ actor. slot actor was.turn) spent.0 ∙ ap (slot given.session) now ∙ own_place

    unspent_at : (kind : AskKind) (i count : ℕ) → ready.stage ≡ stages.withdraws kind i count → Any IsSpentNow (journals called) → ⊥
    unspent_at kind i count is some =
        let there = called_there in
        let at = later_called journals later in
        let none : All (λ was. IsSpentNow was → ⊥) ((found.journal ++ entries) ++ at.0) =
        All-append (λ was. IsSpentNow was → ⊥) (found.journal ++ entries) at.0
        (All-append (λ was. IsSpentNow was → ⊥) found.journal entries
        (All-weaker (λ entry. slot_of slot entry < place) (λ was. IsSpentNow was → ⊥) (λ was less spent. let now = spent_here was spent in omega (arith, less, now)) found.journal (timely.behind called there.0 there.1))
        (All-weaker (λ entry. IsMadeAt ready.stage entry.event) (λ was. IsSpentNow was → ⊥)
        (λ was made spent. spent_made kind i count was.event (subst (λ stage. IsMadeAt stage was.event) is made) spent.2) entries kinds))
        (All-weaker (λ entry. place + 1 ≤ slot_of slot entry) (λ was. IsSpentNow was → ⊥) (λ was late spent. let now = spent_here was spent in omega (arith, late, now)) at.0 at.2) in
        let one = Any-of_all (λ was. IsSpentNow was → ⊥) IsSpentNow ((found.journal ++ entries) ++ at.0) none (subst (Any IsSpentNow) at.1 some) in
        one.1 one.2

    back : (kind : AskKind) (i count : ℕ) → ready.stage ≡ stages.withdraws kind i count → SpendsNone slot given own_journal journals (course_at ready) ready.began (ready.turn + 1 + 1)
    back kind i count is =
        let holds : StageHolds ready (stages.withdraws kind i count) = subst (StageHolds ready) is keeps.holds.holds in
        let course = known_course ready.given ready.settings ready.answer (shows kind i) tt holds.1.course_is in
        unspent slot given own_journal journals (course_at ready) ready.began (ready.turn + 1 + 1)
        (λ desk some asked shown.
        let desk_is : desk ≡ called = ap shown_in (sym shown ∙ course) ∙ ap (stages.desk_at ready) (sym is) in
        unspent_at kind i count is (subst (λ desk. Any IsSpentNow (journals desk)) desk_is some))

    -- Its waits.
    abbrev Looks : Course → (b last : ℕ) → Type 0
    Looks = Vain slot given journals

    looks_ready : Looks (course_at ready) ready.began (ends_by ready ready.stage) × AtEnd Whatever ready ready.stage
    looks_ready =
        known_works Looks (vain_fewer slot given journals) (vain_new slot given journals) Whatever (λ course b last less. tt) (λ course b turn known. tt) gives view ready
        (was.looks journals (later_before journals later), at_end_whatever view view.stage) takes.work

    own_looks : Looks (course_at next_one) next_one.began (ends_by next_one next_one.stage)
    own_looks =
        (known_turn Looks (vain_fewer slot given journals) (vain_new slot given journals) Whatever (λ course b last less. tt) (λ course b turn known. tt) ready found stamp
        (vain_more slot given journals ready found stamp finds) (λ kind i count is. tt) ready.stage refl active keeps.holds.holds looks_ready).0

    -- Its kills.
    abbrev Stops : Course → (b last : ℕ) → Type 0
    Stops = AreUnseen slot given own_journal

    abbrev Spends : Course → (b last : ℕ) → Type 0
    Spends = SpendsNone slot given own_journal journals

    stops_ready : Stops (course_at ready) ready.began (ends_by ready ready.stage) × AtEnd Spends ready ready.stage
    stops_ready =
        known_works Stops (unseen_fewer slot given own_journal) (unseen_new slot given own_journal) Spends (spends_new slot given own_journal journals) (spends_ending slot given own_journal journals) gives view ready
        (was.stops journals (later_before journals later)) takes.work

    stops_turn : Stops (course_at next_one) next_one.began (ends_by next_one next_one.stage) × AtEnd Spends next_one next_one.stage
    stops_turn =
        known_turn Stops (unseen_fewer slot given own_journal) (unseen_new slot given own_journal) Spends (spends_new slot given own_journal journals) (spends_ending slot given own_journal journals) ready found stamp
        (unseen_more slot given own_journal ready found stamp none_found) back ready.stage refl active keeps.holds.holds stops_ready

    own_kill : (entry : Entry) → IsMadeAt ready.stage entry.event → IsKill entry.event → AreKills (course_at next_one)
    own_kill entry made kill = next_kills ready found stamp ready.stage (kill_made ready.stage entry.event made kill) keeps.holds.holds

    own_stops : SeesNone slot given (desk_at after.plain given.session).journal (course_at next_one) next_one.began (ends_by next_one next_one.stage)
        × AtEnd (SpendsNone slot given (desk_at after.plain given.session).journal journals) next_one next_one.stage
    own_stops =
        let there = own_there in
        let course = course_at next_one in
        let last = ends_by next_one next_one.stage in
        at_desk given.session there.0 there.1 (λ journal. SeesNone slot given journal course next_one.began last × AtEnd (SpendsNone slot given journal journals) next_one next_one.stage)
        (λ is. (
          All-append (λ was. IsKillOf slot given next_one.began was → GoesOnBefore slot given course next_one.began last (slot_of slot was)) own_journal entries stops_turn.0
              (All-weaker (λ entry. IsMadeAt ready.stage entry.event) (λ was. IsKillOf slot given next_one.began was → GoesOnBefore slot given course next_one.began last (slot_of slot was))
              (λ entry made kill. kills_goes slot given journals course next_one.began last (slot_of slot entry) (own_kill entry made kill.0)) entries kinds),
          at_end Spends (SpendsNone slot given (own_journal ++ entries) journals) next_one next_one.stage
              (λ spends. All-append (λ was. IsKillOf slot given next_one.began was → SpendsBefore slot given journals course next_one.began (next_one.turn + 1) (slot_of slot was)) own_journal entries spends
              (All-weaker (λ entry. IsMadeAt ready.stage entry.event) (λ was. IsKillOf slot given next_one.began was → SpendsBefore slot given journals course next_one.began (next_one.turn + 1) (slot_of slot was))
              (λ entry made kill. kills_spends slot given journals course next_one.began (next_one.turn + 1) (slot_of slot entry) (own_kill entry made kill.0)) entries kinds)) stops_turn.1,
        ))
        (λ far. stops_turn)

    -- Its End.
    module _ (own : given.session ≡ called) where
      abbrev ended_answers : List Answer
      ended_answers = was.answers ++ ready.answer ∷ []

      looks_end : (stage : Stage) → ready.stage ≡ stage → Looks (course_at ready) ready.began (ends_by ready stage)
      looks_end stage is = subst (λ stage. Looks (course_at ready) ready.began (ends_by ready stage)) is looks_ready.0

      stops_end : (stage : Stage) → ready.stage ≡ stage → SeesNone slot given found.journal (course_at ready) ready.began (ends_by ready stage) × AtEnd (SpendsNone slot given found.journal journals) ready stage
      stops_end stage is =
          subst (λ at. SeesNone slot given (desk_at before.plain at).journal (course_at ready) ready.began (ends_by ready stage) × AtEnd (SpendsNone slot given (desk_at before.plain at).journal journals) ready stage) own
          (subst (λ stage. Stops (course_at ready) ready.began (ends_by ready stage) × AtEnd Spends ready stage) is stops_ready)

      terms_are : found.terms ≡ terms_of given given.session
      terms_are = keeps.terms called keeps.aimed ∙ ap (λ (given : Given). terms_of given called) same_given ∙ ap (terms_of given) (sym own)

      -- the turn of its Begin
      found_began : (stage : Stage) → ready.stage ≡ stage → IsOnAt stage → begin_turn (phase found) ≡ ready.began
      found_began stage is on =
          let here : ready.given.session ≡ called = ap (λ (given : Given). given.session) same_given ∙ own in
          let began = subst (λ at. BeganIn slot found.terms ready.began (outline (phase (desk_at before.plain at)))) here (own_began found.terms stage is on) in
          began_turn slot found.terms ready.began (phase found) began

      plainly_began : (stage : Stage) → ready.stage ≡ stage → IsOnAt stage → begun_in slot given journals ended_answers found.journal ≡ ready.began
      plainly_began stage is on = ap (λ (terms : Terms). begin_turn (state_of terms found.journal).phase) (sym terms_are) ∙ found_began stage is on

      began_is : (stage : Stage) → ready.stage ≡ stage → IsOnAt stage → (report : Report) (queue : List Request)
          → begun_in slot given journals ended_answers (found.journal ++ served_with found report stamp queue) ≡ ready.began
      began_is stage is on report queue =
          ap (λ (terms : Terms). begin_turn (state_of terms (found.journal ++ served_with found report stamp queue)).phase) (sym terms_are)
          ∙ begun_served found.terms found report stamp queue found.journal ∙ found_began stage is on

      run_made : (run : Option Progress) (given_outcome : Outcome) → begun_in slot given journals ended_answers found.journal ≡ ready.began
          → ((report : Report) (queue : List Request) → begun_in slot given journals ended_answers (found.journal ++ served_with found report stamp queue) ≡ ready.began)
          → Looks (course_at ready) ready.began (ready.turn + 1) → SeesNone slot given found.journal (course_at ready) ready.began (ready.turn + 1)
          → SpendsNone slot given found.journal journals (course_at ready) ready.began (ready.turn + 1)
          → AreEach (EndsInTime slot given journals ended_answers) found.journal (end_entries found stamp ready.number run given_outcome)
      run_made None given_outcome plainly began looks stops spends =
          let last = end_entry found stamp ready.number None given_outcome in
          let journal_is = append-nil found.journal in
          let began_so : begun_in slot given journals ended_answers (found.journal ++ []) ≡ ready.began = ap (begun_in slot given journals ended_answers) journal_is ∙ plainly in (
            subst (λ journal. EndsInTime slot given journals ended_answers journal last) journal_is
                (ends_in slot given journals ready was.answers own_count same_given found.journal [] last _ _ refl refl began_so looks stops spends (All-nil (λ (entry : Entry). IsKill entry.event → ⊥))),
            tt,
          )
      run_made (Some run) given_outcome plainly began looks stops spends =
          let served = served_with found (report_of run) stamp (queue_of (phase found)) in
          let last = end_entry found stamp ready.number (Some run) given_outcome in
          AreEach-append (EndsInTime slot given journals ended_answers) found.journal served (last ∷ []) (served_ended slot given journals ended_answers found (report_of run) stamp (queue_of (phase found)) found.journal) (
            ends_in slot given journals ready was.answers own_count same_given found.journal served last _ _ refl refl (began (report_of run) (queue_of (phase found))) looks stops spends
                (unkilled_served found (report_of run) stamp (queue_of (phase found))),
            tt,
          )

      own_made : (stage : Stage) → ready.stage ≡ stage → AreEach (EndsInTime slot given journals (ended_with ready stage was.answers)) found.journal (made found stamp ready.number (call_at ready stage))
      own_made (stages.ends result) is =
          let at : Stage = stages.ends result in
          let stops = stops_end at is in
          run_made (run_of itself (Plain result)) (outcome_of itself (Plain result)) (plainly_began at is tt) (began_is at is tt) (looks_end at is) stops.0 stops.1
      own_made (stages.ends_run chosen so_many run finish) is =
          let at : Stage = stages.ends_run chosen so_many run finish in
          let holds : StageHolds ready at = subst (StageHolds ready) is keeps.holds.holds in
          let course = known_course ready.given ready.settings ready.answer (runs holds.0.analyze chosen) tt holds.0.course_is in
          let stops = stops_end at is in
          let spends : SpendsNone slot given found.journal journals (course_at ready) ready.began (ready.turn + 1) =
          λ k d there kill. runs_spends slot given journals (course_at ready) holds.0.analyze chosen ready.began (ready.turn + 1) _ course in
          run_made (run_of itself finish) (outcome_of itself finish) (plainly_began at is tt) (began_is at is tt) (looks_end at is) stops.0 spends
      own_made stage is =
          others_ended slot given journals (ended_with ready stage was.answers) stage found.journal (made found stamp ready.number (call_at ready stage)) (made_at found stamp ready stage) (λ ends. absurd ends)

    own_ended : AreEach (EndsInTime slot given journals answers) [] (desk_at after.plain given.session).journal
    own_ended =
        let there = own_there in
        let still : AreEach (EndsInTime slot given journals answers) [] own_journal =
        subst (λ all. AreEach (EndsInTime slot given journals all) [] own_journal) (sym more.1) (still_ended slot given journals was.answers more.0 [] own_journal (was.ended journals (later_before journals later))) in
        at_desk given.session there.0 there.1 (AreEach (EndsInTime slot given journals answers) [])
        (λ is. AreEach-append (EndsInTime slot given journals answers) [] own_journal entries still
        (subst (λ at. AreEach (EndsInTime slot given journals answers) (desk_at before.plain at).journal entries) (sym is) (own_made is ready.stage refl)))
        (λ far. still)

  own_next : IsInCourse gives slot (place + 1) after.plain given next_one
  own_next = record {
    answers = answers;
    follows = own_follows;
    were_given = own_given;
    ended = own_ended;
    looks = own_looks;
    stops = own_stops;
  }

  pub in_course_turn : length after.views ≡ length before.views → AreInCourse gives slot (place + 1) after
  in_course_turn many other low high =
      elim (cases_eq other session) [
        | inl is ↦
            let same : next_one.given ≡ given = given_next ready ready.stage found stamp ∙ same_given in
            let own : IsInCourse gives slot (place + 1) after.plain next_one.given next_one = subst (λ given. IsInCourse gives slot (place + 1) after.plain given next_one) (sym same) own_next in
            subst (λ at. IsInCourse gives slot (place + 1) after.plain (view_in after.views at).given (view_in after.views at)) (sym is)
            (subst (λ (view : View). IsInCourse gives slot (place + 1) after.plain view.given view) (sym takes.next) own)
        | inr apart ↦
            let before_high : other ≤ length before.views = omega (arith, high, many) in
            subst (λ (view : View). IsInCourse gives slot (place + 1) after.plain view.given view) (sym (takes.others other low apart)) (their_next gives slot place before after running session least most takes timely here ahead in_course other low before_high apart)
      ]
