-- A turn takes an answer by the first poll after it.
use Rattle.std.proofs.Common.{◌≡◌, ◌≢◌, ℕ, ◌+◌, ◌<◌, ◌≤◌, inl, inr, None, List, [], ◌++◌, length, All, Any, sym, subst, ap, ◌∙◌, arith}
use Rattle.std.proofs.lemmas.Bool.{cases_eq}
use Rattle.std.proofs.lemmas.List.Elements.{All-weaker}
use Rattle.sa_desk.specs.declared.entry.Entry.{Entry}
use Rattle.sa_desk.specs.declared.request.Reply.{Reply}
use Rattle.sa_desk.specs.declared.stamp.Stamp.{Stamp}
use Rattle.sa_desk.specs.State.{State}
use Rattle.sa_desk.specs.Comes.{IsServed}
use Rattle.sa_desk.specs.Contents.{Contents, state}
use Rattle.sa_desk.specs.Own.{request_from, HasOpen}
use Rattle.sa_desk.specs.Plain.{desk_at, world_of}
use Rattle.sa_desk.specs.Runs.{state_after}
use Rattle.sa_desk.specs.World.{World, Meets, next_stamp, standing_on}
use Rattle.sa_desk.specs.program.Course.{Given}
use Rattle.sa_desk.specs.program.Prepares.{Answers}
use Rattle.sa_desk.specs.program.Turn.{made, left}
use Rattle.sa_desk.proofs.PlainCall.{Meets-plain}
use Rattle.sa_desk.proofs.laws.Request.{request_is_own}
use Rattle.sa_worker.specs.View.{View, done, me_of, call_at, request_at}
use Rattle.sa_worker.specs.View as view
use Rattle.sa_worker.specs.Next.{next_view}
use Rattle.sa_worker.proofs.working.Fixed.{given_works}
use Rattle.sa_step.specs.Sessions.{AllSessions, AreRunning, view_in}
use Rattle.sa_step.specs.Schedule.{AreEach, slot_of, IsAnswer, IsFirst, TakesFirst}
use Rattle.sa_step.specs.Turns.{TakesTurn}
use Rattle.sa_step.specs.inner.Timely.{IsTimely, IsLateFor, AreLateFor, AreUntaken}
use Rattle.sa_step.proofs.Answering.{HasNoReply, ComesLate, late_along}
use Rattle.sa_step.proofs.Driven.{are_called}
use Rattle.sa_step.proofs.Ends.{MayEndRequest}
use Rattle.sa_step.proofs.Left.{made_first}
use Rattle.sa_step.proofs.Ordered.{AreEach-append}
use Rattle.sa_step.proofs.Polled.{polled_in, polled_least, polled_all, works_polled, own_elsewhere, own_called}
use Rattle.sa_step.proofs.Timed as timed
use Rattle.sa_step.proofs.Waiting.{Any-weaker, Any-of_all, Any-with_all}

module _ (gives : Answers) (slot : (session turn : ℕ) → ℕ) (place : ℕ) (before after : AllSessions) (running : AreRunning gives before)
    (session : ℕ) (least : 1 ≤ session) (most : session ≤ length before.views) (takes : TakesTurn gives before session after)
    (timely : IsTimely slot place before) (here : slot session ((view_in before.views session).turn + 1) ≡ place)
    (ahead : (other : ℕ) → 1 ≤ other → other ≤ length before.views → (view_in before.views other).stage ≢ done → (turn : ℕ) → (view_in before.views other).turn < turn → place ≤ slot other turn)
    (untaken : AreUntaken slot before) where
  abbrev world : World
  world = world_of before.plain

  abbrev ready : View
  ready = takes.ready

  abbrev called : ℕ
  called = view.desk_at ready ready.stage

  abbrev found : Contents
  found = desk_at before.plain called

  abbrev stamp : Stamp
  stamp = next_stamp world (me_of ready)

  abbrev entries : List Entry
  entries = made found stamp ready.number (call_at ready ready.stage)

  abbrev next : Contents
  next = left found stamp ready.number (call_at ready ready.stage)

  abbrev IsLateAt : Contents → (asker turns : ℕ) → Type 0
  IsLateAt desk asker turns = AreLateFor slot asker turns (state desk).replies desk.journal

  actor_is : ready.given.session ≡ session
  actor_is = timed.actor_is gives slot place before after running session least most takes timely here ahead

  called_there : (1 ≤ called) × (called ≤ length before.plain.desks)
  called_there = timed.called_there gives slot place before after running session least most takes timely here ahead

  entered : All (λ entry. slot_of slot entry ≡ place) entries
  entered = timed.entered gives slot place before after running session least most takes timely here ahead

  left_at_called : desk_at after.plain called ≡ next
  left_at_called = timed.left_at_called gives slot place before after running session least most takes timely here ahead

  left_elsewhere : (desk : ℕ) → 1 ≤ desk → desk ≤ length before.plain.desks → desk ≢ called → desk_at after.plain desk ≡ desk_at before.plain desk
  left_elsewhere = timed.left_elsewhere gives slot place before after running session least most takes timely here ahead

  sessions_are : ready.given.sessions ≡ length before.plain.desks
  sessions_are =
      ap (λ (given : Given). given.sessions) (given_works (view_in before.views session) gives ready takes.work ∙ timed.own_given gives slot place before after running session least most takes timely here ahead)
      ∙ sym running.desks

  -- How the session's own answers stood.
  own_late : (desk : ℕ) → 1 ≤ desk → desk ≤ length before.plain.desks → IsLateAt (desk_at before.plain desk) ready.given.session (polled_in ready)
  own_late desk low high =
      subst (λ asker. IsLateAt (desk_at before.plain desk) asker (polled_in ready)) (sym actor_is)
      (subst (IsLateAt (desk_at before.plain desk) session) (sym (works_polled gives (view_in before.views session) ready takes.work)) (untaken.late desk session low high least most))

  own_none : (desk : ℕ) → 1 ≤ desk → desk ≤ length before.plain.desks → request_at ready ready.stage desk ≡ None → HasNoReply ready.given.session (state (desk_at before.plain desk)).replies
  own_none desk low high none =
      let workers = running.workers in
      let desks = running.desks in
      let sessions = sessions_are in
      let at = desk_at before.plain desk in
      let keeps = timed.ready_keeps gives slot place before after running session least most takes timely here ahead in
      let met : Meets world desk ready.given.session =
      subst (λ session. Meets world desk session) (sym actor_is)
      (Meets-plain before.plain takes.plain desk session (are_called before.plain desk session low high least (omega (arith, most, workers, desks)))) in
      let told : request_from None (standing_on desk (world.mine ready.given.session)) ≡ None = keeps.requests desk (record { least = low; most = omega (arith, high, sessions) }) ∙ none in
      let had : HasOpen (request_from None (standing_on desk (world.mine ready.given.session))) ready.given.session (state at) =
      subst (λ entries. HasOpen (request_from None entries) ready.given.session (state at)) met.own (request_is_own at.terms at.journal ready.given.session met.sound.run) in
      let none_here : HasOpen None ready.given.session (state at) = subst (λ request. HasOpen request ready.given.session (state at)) told had in none_here.1

  -- What stands after the call at the desk that was called.
  left_as : (asker turns : ℕ) → AreLateFor slot asker turns (state_after found.terms (state found) entries).replies (found.journal ++ entries) → IsLateAt next asker turns
  left_as asker turns late =
      let leaves = takes.call.leaves in
      subst (λ (left : State). AreLateFor slot asker turns left.replies next.journal) (sym (timed.state_left gives slot place before after running session least most takes timely here ahead))
      (subst (AreLateFor slot asker turns (state_after found.terms (state found) entries).replies) (sym leaves.grown) late)

  -- The session's own.
  own_after : (desk : ℕ) → 1 ≤ desk → desk ≤ length before.plain.desks → IsLateAt (desk_at after.plain desk) ready.given.session (polled_in (next_view ready found stamp))
  own_after desk low high =
      let there = called_there in
      let active = timed.called_active gives slot place before after running session least most takes timely here ahead in
      let turns = polled_in (next_view ready found stamp) in
      elim (cases_eq desk called) [
        | inl is ↦ subst (λ at. IsLateAt (desk_at after.plain at) ready.given.session turns) (sym is) (subst (λ at. IsLateAt at ready.given.session turns) (sym left_at_called)
            (left_as ready.given.session turns (own_called slot ready found stamp called ready.stage active (own_none called there.0 there.1) (own_late called there.0 there.1))))
        | inr apart ↦ subst (λ at. IsLateAt at ready.given.session turns) (sym (left_elsewhere desk low high apart))
            (own_elsewhere slot ready found stamp desk (state (desk_at before.plain desk)).replies (desk_at before.plain desk).journal ready.stage active apart (own_none desk low high) (own_late desk low high))
      ]

  -- Those of others: what is answered now comes after all turns of theirs.
  others_new : (asker : ℕ) → 1 ≤ asker → asker ≤ length before.views → All (ComesLate slot asker found.terms (polled_in (view_in before.views asker))) entries
  others_new asker from to =
      let own = view_in before.views asker in
      All-weaker (λ entry. slot_of slot entry ≡ place) (ComesLate slot asker found.terms (polled_in own))
      (λ entry is number report served turn low high.
      let few = polled_least own own.stage in
      let less = timely.taken asker turn from to low (omega (arith, high, few)) in omega (arith, less, is)) entries entered

  others_after : (desk asker : ℕ) → 1 ≤ desk → desk ≤ length before.plain.desks → 1 ≤ asker → asker ≤ length before.views → IsLateAt (desk_at after.plain desk) asker (polled_in (view_in before.views asker))
  others_after desk asker low high from to =
      let there = called_there in
      let turns = polled_in (view_in before.views asker) in
      elim (cases_eq desk called) [
        | inl is ↦ subst (λ at. IsLateAt (desk_at after.plain at) asker turns) (sym is) (subst (λ at. IsLateAt at asker turns) (sym left_at_called)
            (left_as asker turns (late_along slot asker found.terms turns (state found) found.journal entries (others_new asker from to) (untaken.late called asker there.0 there.1 from to))))
        | inr apart ↦ subst (λ at. IsLateAt at asker turns) (sym (left_elsewhere desk low high apart)) (untaken.late desk asker low high from to)
      ]

  late_after : (desk asker : ℕ) → 1 ≤ desk → desk ≤ length before.plain.desks → 1 ≤ asker → asker ≤ length before.views → IsLateAt (desk_at after.plain desk) asker (polled_in (view_in after.views asker))
  late_after desk asker low high from to =
      elim (cases_eq asker session) [
        | inl is ↦
            let own : IsLateAt (desk_at after.plain desk) session (polled_in (view_in after.views session)) =
            subst (λ (view : View). IsLateAt (desk_at after.plain desk) session (polled_in view)) (sym takes.next)
            (subst (λ asker. IsLateAt (desk_at after.plain desk) asker (polled_in (next_view ready found stamp))) actor_is (own_after desk low high)) in
            subst (λ asker. IsLateAt (desk_at after.plain desk) asker (polled_in (view_in after.views asker))) (sym is) own
        | inr apart ↦ subst (λ (view : View). IsLateAt (desk_at after.plain desk) asker (polled_in view)) (sym (takes.others asker from apart)) (others_after desk asker low high from to)
      ]

  -- What the session takes now came after its last poll.
  first_now : MayEndRequest ready.stage → (entry : Entry) (number : ℕ) → entry.actor ≡ stamp.actor → entry.turn ≡ stamp.turn → IsServed entry.actor number (state found).replies
      → IsFirst slot found.journal entry number
  first_now may entry number actor turn_is served =
      let there = called_there in
      let turns = polled_in ready in
      let at : slot_of slot entry ≡ place =
      ap (λ actor. slot actor entry.turn) actor ∙ ap (slot stamp.actor) turn_is ∙ timed.placed gives slot place before after running session least most takes timely here ahead in
      let one = Any-of_all (λ (reply : Reply). reply.asker ≡ ready.given.session → Any (IsLateFor slot ready.given.session turns reply.request) found.journal)
      (λ (reply : Reply). (reply.asker ≡ entry.actor) × (reply.request ≡ number)) (state found).replies (own_late called there.0 there.1) served in
      let some : Any (IsLateFor slot ready.given.session turns one.0.request) found.journal = one.1 (one.2.0 ∙ actor) in
      let all_but = polled_all ready ready.stage may in
      Any-weaker (λ was. (slot_of slot was < place) × IsLateFor slot ready.given.session turns one.0.request was)
      (λ was. IsAnswer entry.actor number was.event × (slot_of slot was < slot_of slot entry) × ((turn : ℕ) → 1 ≤ turn → turn + 2 ≤ entry.turn → slot entry.actor turn < slot_of slot was))
      (λ was both. (
        subst (λ number. IsAnswer entry.actor number was.event) one.2.1 (subst (λ actor. IsAnswer actor one.0.request was.event) (sym actor) both.1.0),
        (let less = both.0 in omega (arith, less, at)),
        (λ turn low high. subst (λ actor. slot actor turn < slot_of slot was) (sym actor) (both.1.1 turn low (omega (arith, high, turn_is, all_but, low)))),
      )) found.journal (Any-with_all (λ was. slot_of slot was < place) (IsLateFor slot ready.given.session turns one.0.request) found.journal (timely.behind called there.0 there.1) some)

  first_called : AreEach (TakesFirst slot) [] next.journal
  first_called =
      let there = called_there in
      let leaves = takes.call.leaves in
      subst (AreEach (TakesFirst slot) []) (sym leaves.grown)
      (AreEach-append (TakesFirst slot) [] found.journal entries (untaken.first called there.0 there.1)
      (made_first slot found stamp ready ready.stage first_now (timed.runs gives slot place before after running session least most takes timely here ahead)))

  first_after : (desk : ℕ) → 1 ≤ desk → desk ≤ length before.plain.desks → AreEach (TakesFirst slot) [] (desk_at after.plain desk).journal
  first_after desk low high =
      elim (cases_eq desk called) [
        | inl is ↦ subst (λ at. AreEach (TakesFirst slot) [] (desk_at after.plain at).journal) (sym is) (subst (λ (desk : Contents). AreEach (TakesFirst slot) [] desk.journal) (sym left_at_called) first_called)
        | inr apart ↦ subst (λ (desk : Contents). AreEach (TakesFirst slot) [] desk.journal) (sym (left_elsewhere desk low high apart)) (untaken.first desk low high)
      ]

  pub untaken_turn : length after.views ≡ length before.views → AreUntaken slot after
  untaken_turn count =
      let same = takes.same in
      record {
        late = λ desk asker low high from to. late_after desk asker low (omega (arith, high, same)) from (omega (arith, to, count));
        first = λ desk low high. first_after desk low (omega (arith, high, same));
      }
