-- A session that makes no call stays in its course.
use Rattle.std.proofs.Common.{◌≡◌, ◌≢◌, ℕ, ◌+◌, ◌<◌, ◌≤◌, List, [], ◌++◌, length, All, sym, subst, ap, ◌∙◌, arith}
use Rattle.std.proofs.lemmas.List.Elements.{All-append, All-weaker}
use Rattle.sa_desk.specs.declared.entry.Entry.{Entry}
use Rattle.sa_desk.specs.declared.stamp.Stamp.{Stamp}
use Rattle.sa_desk.specs.Contents.{Contents}
use Rattle.sa_desk.specs.Plain.{desk_at, world_of}
use Rattle.sa_desk.specs.World.{World, next_stamp}
use Rattle.sa_desk.specs.program.Course.{Given, Course, says, shows, waits, kills, runs}
use Rattle.sa_desk.specs.program.Prepares.{Answers}
use Rattle.sa_desk.specs.program.Turn.{made, left}
use Rattle.sa_worker.specs.View.{View, Stage, done, me_of, call_at, outline_at}
use Rattle.sa_worker.specs.View as stages
use Rattle.sa_worker.proofs.follows.SoFar.{Follows-others}
use Rattle.sa_step.specs.Sessions.{AllSessions, AreRunning, view_in}
use Rattle.sa_step.specs.Schedule.{AreEach, slot_of}
use Rattle.sa_step.specs.Course.{IsKillOf, GoesOnBefore, SpendsBefore}
use Rattle.sa_step.specs.Turns.{TakesTurn}
use Rattle.sa_step.specs.inner.Timely.{IsTimely, AreLater, course_at, ends_by, AtEnd, SeesNone, SpendsNone, EndsInTime, IsInCourse, AreInCourse}
use Rattle.sa_step.proofs.Coursing.{ends_soon}
use Rattle.sa_step.proofs.Ending.{others_ended}
use Rattle.sa_step.proofs.Making.{IsMadeAt, no_end_elsewhere}
use Rattle.sa_step.proofs.Ordered.{AreEach-append}
use Rattle.sa_step.proofs.Stopping.{sees_later}
use Rattle.sa_step.proofs.Killing.{at_end}
use Rattle.sa_step.proofs.Advancing as advancing

module _ (gives : Answers) (slot : (session turn : ℕ) → ℕ) (place : ℕ) (before after : AllSessions) (running : AreRunning gives before)
    (session : ℕ) (least : 1 ≤ session) (most : session ≤ length before.views) (takes : TakesTurn gives before session after)
    (timely : IsTimely slot place before) (here : slot session ((view_in before.views session).turn + 1) ≡ place)
    (ahead : (other : ℕ) → 1 ≤ other → other ≤ length before.views → (view_in before.views other).stage ≢ done → (turn : ℕ) → (view_in before.views other).turn < turn → place ≤ slot other turn)
    (in_course : AreInCourse gives slot place before) where
  abbrev world : World
  world = world_of before.plain

  abbrev after_world : World
  after_world = world_of after.plain

  abbrev view : View
  view = view_in before.views session

  abbrev given : Given
  given = view.given

  abbrev ready : View
  ready = takes.ready

  abbrev called : ℕ
  called = stages.desk_at ready ready.stage

  abbrev found : Contents
  found = desk_at before.plain called

  abbrev stamp : Stamp
  stamp = next_stamp world (me_of ready)

  abbrev entries : List Entry
  entries = made found stamp ready.number (call_at ready ready.stage)

  abbrev next : Contents
  next = left found stamp ready.number (call_at ready ready.stage)

  number_is : given.session ≡ session
  number_is = advancing.number_is gives slot place before after running session least most takes timely here ahead

  same_given : ready.given ≡ given
  same_given = advancing.same_given gives slot place before after running session least most takes timely here ahead

  entered : All (λ entry. slot_of slot entry ≡ place) entries
  entered = advancing.entered gives slot place before after running session least most takes timely here ahead

  kinds : All (λ entry. IsMadeAt ready.stage entry.event) entries
  kinds = advancing.kinds gives slot place before after running session least most takes timely here ahead

  desk_there : (other : ℕ) → other ≤ length before.views → other ≤ length before.plain.desks
  desk_there = advancing.desk_there gives slot place before after running session least most takes timely here ahead

  later_before : (journals : ℕ → List Entry) → AreLater slot (place + 1) after.plain journals → AreLater slot place before.plain journals
  later_before = advancing.later_before gives slot place before after running session least most takes timely here ahead

  at_desk : (desk : ℕ) → 1 ≤ desk → desk ≤ length before.plain.desks → (X : List Entry → Type 0) → (desk ≡ called → X ((desk_at before.plain desk).journal ++ entries))
      → (desk ≢ called → X (desk_at before.plain desk).journal) → X (desk_at after.plain desk).journal
  at_desk = advancing.at_desk gives slot place before after running session least most takes timely here ahead

  module _ (other : ℕ) (low : 1 ≤ other) (high : other ≤ length before.views) (apart : other ≢ session) where
    abbrev theirs : View
    theirs = view_in before.views other

    abbrev their_course : IsInCourse gives slot place before.plain theirs.given theirs
    their_course = in_course other low high

    their_number : theirs.given.session ≡ other
    their_number = let count = running.workers in ap (λ (given : Given). given.session) (running.working.given other low (omega (arith, high, count)))

    their_there : (1 ≤ theirs.given.session) × (theirs.given.session ≤ length before.plain.desks)
    their_there = subst (λ number. (1 ≤ number) × (number ≤ length before.plain.desks)) (sym their_number) (low, desk_there other high)

    not_caller : theirs.given.session ≢ ready.given.session
    not_caller is = apart (sym their_number ∙ is ∙ ap (λ (given : Given). given.session) same_given ∙ number_is)

    -- All their turns came before this place.
    earlier : (turn : ℕ) → 1 ≤ turn → turn ≤ theirs.turn → slot theirs.given.session turn < place
    earlier turn from to = subst (λ number. slot number turn < place) (sym their_number) (timely.taken other turn low high from to)

    goes_now : (entry : Entry) → slot_of slot entry ≡ place → GoesOnBefore slot theirs.given (course_at theirs) theirs.began (ends_by theirs theirs.stage) (slot_of slot entry)
    goes_now entry is turn sees sooner_than =
        let after_begin = sees_later (course_at theirs) theirs.began turn sees in
        let end = ends_soon theirs theirs.stage in
        let less = earlier turn (omega (arith, after_begin)) (omega (arith, sooner_than, end)) in omega (arith, less, is)

    spends_now : (journals : ℕ → List Entry) (course : Course) (entry : Entry) → slot_of slot entry ≡ place → SpendsBefore slot theirs.given journals course theirs.began (theirs.turn + 1) (slot_of slot entry)
    spends_now journals (shows kind i) entry is = λ some turn sees sooner_than.
        let after_begin = sees_later (shows kind i) theirs.began turn sees in
        let less = earlier turn (omega (arith, after_begin)) (omega (arith, sooner_than)) in omega (arith, less, is)
    spends_now journals (says result) entry is = tt
    spends_now journals (waits i at) entry is = tt
    spends_now journals (kills kind i) entry is = tt
    spends_now journals (runs analyze chosen) entry is = tt

    their_ended : (journals : ℕ → List Entry) → AreLater slot (place + 1) after.plain journals
        → AreEach (EndsInTime slot theirs.given journals their_course.answers) [] (desk_at after.plain theirs.given.session).journal
    their_ended journals later =
        let there = their_there in
        let ended = their_course.ended journals (later_before journals later) in
        at_desk theirs.given.session there.0 there.1 (AreEach (EndsInTime slot theirs.given journals their_course.answers) [])
        (λ is. AreEach-append (EndsInTime slot theirs.given journals their_course.answers) [] (desk_at before.plain theirs.given.session).journal entries ended
        (others_ended slot theirs.given journals their_course.answers ready.stage (desk_at before.plain theirs.given.session).journal entries kinds
        (no_end_elsewhere ready ready.stage (λ same. not_caller (is ∙ same)))))
        (λ far. ended)

    their_stops : (journals : ℕ → List Entry) → AreLater slot (place + 1) after.plain journals
        → SeesNone slot theirs.given (desk_at after.plain theirs.given.session).journal (course_at theirs) theirs.began (ends_by theirs theirs.stage)
        × AtEnd (SpendsNone slot theirs.given (desk_at after.plain theirs.given.session).journal journals) theirs theirs.stage
    their_stops journals later =
        let there = their_there in
        let journal = (desk_at before.plain theirs.given.session).journal in
        let stops = their_course.stops journals (later_before journals later) in
        at_desk theirs.given.session there.0 there.1
        (λ journal. SeesNone slot theirs.given journal (course_at theirs) theirs.began (ends_by theirs theirs.stage) × AtEnd (SpendsNone slot theirs.given journal journals) theirs theirs.stage)
        (λ is. (
          All-append (λ was. IsKillOf slot theirs.given theirs.began was → GoesOnBefore slot theirs.given (course_at theirs) theirs.began (ends_by theirs theirs.stage) (slot_of slot was)) journal entries stops.0
              (All-weaker (λ entry. slot_of slot entry ≡ place) (λ was. IsKillOf slot theirs.given theirs.began was → GoesOnBefore slot theirs.given (course_at theirs) theirs.began (ends_by theirs theirs.stage) (slot_of slot was))
              (λ entry is kill. goes_now entry is) entries entered),
          at_end (SpendsNone slot theirs.given journal journals) (SpendsNone slot theirs.given (journal ++ entries) journals) theirs theirs.stage
              (λ spends. All-append (λ was. IsKillOf slot theirs.given theirs.began was → SpendsBefore slot theirs.given journals (course_at theirs) theirs.began (theirs.turn + 1) (slot_of slot was)) journal entries spends
              (All-weaker (λ entry. slot_of slot entry ≡ place) (λ was. IsKillOf slot theirs.given theirs.began was → SpendsBefore slot theirs.given journals (course_at theirs) theirs.began (theirs.turn + 1) (slot_of slot was))
              (λ entry is kill. spends_now journals (course_at theirs) entry is) entries entered)) stops.1,
        ))
        (λ far. stops)

    pub their_next : IsInCourse gives slot (place + 1) after.plain theirs.given theirs
    their_next = record {
      answers = their_course.answers;
      follows = Follows-others world after_world theirs theirs.stage their_course.answers called ready.given.session entries next takes.call not_caller their_course.follows;
      were_given = their_course.were_given;
      ended = their_ended;
      looks = λ journals later. their_course.looks journals (later_before journals later);
      stops = their_stops;
    }
