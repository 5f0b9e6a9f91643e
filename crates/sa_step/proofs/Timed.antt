-- A turn at its place leaves all sessions in order before the next place.
use Rattle.std.proofs.Common.{◌≡◌, ◌≢◌, ℕ, ◌+◌, ◌<◌, ◌≤◌, inl, inr, List, [], ◌++◌, length, All, Any, slice_index_or, refl, sym, subst, ap, ◌∙◌, arith}
use Rattle.std.proofs.lemmas.Bool.{cases_eq, cases_lt, eq-eqb}
use Rattle.std.proofs.lemmas.List.Elements.{All-weaker, All-nil}
use Rattle.sa_desk.specs.declared.entry.Entry.{Entry}
use Rattle.sa_desk.specs.declared.stamp.Stamp.{Stamp}
use Rattle.sa_desk.specs.State.{Terms, State, start, queue_of}
use Rattle.sa_desk.specs.Comes.{IsQueued}
use Rattle.sa_desk.specs.Own.{outline, own_from}
use Rattle.sa_desk.specs.Own as own
use Rattle.sa_desk.specs.Runs.{state_of, state_after, Runs}
use Rattle.sa_desk.specs.declared.request.Request.{Request}
use Rattle.sa_desk.specs.Contents.{Contents, phase, state}
use Rattle.sa_desk.specs.Legal.{given_of}
use Rattle.sa_desk.specs.Plain.{desk_at, world_of}
use Rattle.sa_desk.specs.World.{World, Meets, next_stamp, standing_on}
use Rattle.sa_desk.specs.program.Course.{Given}
use Rattle.sa_desk.specs.program.Prepares.{Answers}
use Rattle.sa_desk.specs.program.Turn.{made, left}
use Rattle.sa_desk.proofs.Append.{Runs-parts, state_of-append}
use Rattle.sa_desk.proofs.program.Own.{outline-met}
use Rattle.sa_desk.proofs.PlainCall.{Meets-plain, are_there-is}
use Rattle.sa_worker.specs.View.{View, done, me_of, call_at, text_at, IsActive, outline_at}
use Rattle.sa_worker.specs.Keeps.{Keeps}
use Rattle.sa_worker.specs.Working.{IsWorking, with_view}
use Rattle.sa_worker.proofs.working.All.{AreWorking-works}
use Rattle.sa_worker.specs.View as view
use Rattle.sa_worker.proofs.working.Fixed.{given_works}
use Rattle.sa_worker.proofs.working.Turned.{turn_works}
use Rattle.sa_step.specs.Sessions.{AllSessions, AreRunning, view_in}
use Rattle.sa_step.specs.Schedule.{AreEach, slot_of, ComesLast, IsCounted, FindsCounted, IsRequest, Rests, IsUnseen, LeavesUnseen}
use Rattle.sa_step.specs.Turns.{TakesTurn}
use Rattle.sa_step.specs.inner.Timely.{IsTimely, AreUnseen, IsAsked, AreAsked}
use Rattle.sa_step.proofs.Counting.{counted_own}
use Rattle.sa_step.proofs.Driven.{are_called, may_work, works_active}
use Rattle.sa_step.proofs.Emptied.{HasNoRun, IsUnplanned, none_waits, plain_unplanned, plain_elsewhere, made_empties}
use Rattle.sa_step.proofs.Left.{made_left}
use Rattle.sa_step.proofs.Waiting.{Any-none, Any-weaker, Any-of_all, stand_along}
use Rattle.sa_step.proofs.Entered.{made_in, made_counted}
use Rattle.sa_step.proofs.Ordered.{AreEach-append, behind_more, rising_more}

-- All are of one session and of one turn.
same_slots : (slot : (session turn : ℕ) → ℕ) (session turn place : ℕ) (entries : List Entry) → slot session turn ≡ place → All (λ entry. entry.actor ≡ session) entries
    → All (λ entry. entry.turn ≡ turn) entries → All (λ entry. slot_of slot entry ≡ place) entries
same_slots slot session turn place entries is actors turns k d there =
    ap (λ actor. slot actor (slice_index_or entries k d).turn) (actors k d there) ∙ ap (slot session) (turns k d there) ∙ is

module _ (gives : Answers) (slot : (session turn : ℕ) → ℕ) (place : ℕ) (before after : AllSessions) (running : AreRunning gives before)
    (session : ℕ) (least : 1 ≤ session) (most : session ≤ length before.views) (takes : TakesTurn gives before session after)
    (timely : IsTimely slot place before) (here : slot session ((view_in before.views session).turn + 1) ≡ place)
    (ahead : (other : ℕ) → 1 ≤ other → other ≤ length before.views → (view_in before.views other).stage ≢ done → (turn : ℕ) → (view_in before.views other).turn < turn → place ≤ slot other turn) where
  abbrev pub world : World
  world = world_of before.plain

  abbrev pub ready : View
  ready = takes.ready

  abbrev pub called : ℕ
  called = view.desk_at ready ready.stage

  abbrev pub found : Contents
  found = desk_at before.plain called

  abbrev pub stamp : Stamp
  stamp = next_stamp world (me_of ready)

  abbrev pub entries : List Entry
  entries = made found stamp ready.number (call_at ready ready.stage)

  pub own_given : (view_in before.views session).given ≡ given_of before.script session
  own_given = let count = running.workers in running.working.given session least (omega (arith, most, count))

  pub actor_is : ready.given.session ≡ session
  actor_is = ap (λ (given : Given). given.session) (given_works (view_in before.views session) gives ready takes.work ∙ own_given)

  pub turn_is : ready.turn ≡ (view_in before.views session).turn
  turn_is = turn_works (view_in before.views session) gives ready takes.work

  -- The call's place is this.
  pub placed : slot stamp.actor stamp.turn ≡ place
  placed = ap (λ actor. slot actor (ready.turn + 1)) actor_is ∙ ap (λ turn. slot session (turn + 1)) turn_is ∙ here

  pub entered : All (λ entry. slot_of slot entry ≡ place) entries
  entered =
      same_slots slot ready.given.session (ready.turn + 1) place entries placed takes.call.leaves.own (made_in found stamp ready.number (call_at ready ready.stage))

  pub called_there : (1 ≤ called) × (called ≤ length before.plain.desks)
  called_there = let there = are_there-is before.plain called ready.given.session takes.allowed in (there.desk_least, there.desk_most)

  -- What the desk that it called has published is counted.
  pub counted : IsCounted slot found.terms (phase found) place found.published
  counted =
      let there = called_there in
      let desks = running.desks in
      let workers = running.workers in
      let within : called ≤ length before.views = omega (arith, there.1, desks, workers) in
      let owner = view_in before.views called in
      let working = running.working.working called there.0 (omega (arith, there.1, desks)) in
      let given = running.working.given called there.0 (omega (arith, there.1, desks)) in
      let number : owner.given.session ≡ called = ap (λ (given : Given). given.session) given in
      let met : Meets world owner.given.session owner.given.session =
      subst (λ number. Meets world number number) (sym number) (Meets-plain before.plain takes.plain called called (are_called before.plain called called there.0 there.1 there.0 there.1)) in
      let own = world.contents owner.given.session in
      let desk_is : own ≡ found = ap (desk_at before.plain) number in
      let number_is : own.terms.desk ≡ called = met.number ∙ number in
      subst (λ (desk : Contents). IsCounted slot desk.terms (phase desk) place desk.published) desk_is
      (counted_own world owner met slot place working.keeps
      (ap (λ (terms : Terms). terms.quantum) (met.terms ∙ working.keeps.terms owner.given.session working.keeps.session))
      (λ turn low high. subst (λ desk. slot desk turn < place) (sym number_is) (timely.taken called turn there.0 within low high))
      (λ undone turn later. subst (λ desk. place ≤ slot desk turn) (sym number_is) (ahead called there.0 within undone turn later)))

  -- What the desks hold afterwards.
  pub left_at_called : desk_at after.plain called ≡ left found stamp ready.number (call_at ready ready.stage)
  left_at_called =
      let there = called_there in
      let same = takes.same in
      takes.call.left_is called (are_called after.plain called called there.0 (omega (arith, there.1, same)) there.0 (omega (arith, there.1, same)))

  pub left_elsewhere : (desk : ℕ) → 1 ≤ desk → desk ≤ length before.plain.desks → desk ≢ called → desk_at after.plain desk ≡ desk_at before.plain desk
  left_elsewhere desk low high apart =
      let same = takes.same in
      takes.call.elsewhere_is desk desk apart (are_called after.plain desk desk low (omega (arith, high, same)) low (omega (arith, high, same)))

  abbrev IsDesk : ℕ → Contents → Type 0
  IsDesk place desk = All (λ entry. slot_of slot entry < place) desk.journal × AreEach (ComesLast slot) [] desk.journal × AreEach (FindsCounted slot desk.terms) [] desk.journal

  was_desk : (desk : ℕ) → 1 ≤ desk → desk ≤ length before.plain.desks → IsDesk place (desk_at before.plain desk)
  was_desk desk low high = (timely.behind desk low high, timely.rising desk low high, timely.counted desk low high)

  kept_desk : (desk : ℕ) → 1 ≤ desk → desk ≤ length before.plain.desks → IsDesk (place + 1) (desk_at before.plain desk)
  kept_desk desk low high =
      let was = was_desk desk low high in (
        All-weaker (λ entry. slot_of slot entry < place) (λ entry. slot_of slot entry < place + 1) (λ entry less. omega (arith, less)) (desk_at before.plain desk).journal was.0,
        was.1,
        was.2,
      )

  called_desk : IsDesk (place + 1) (left found stamp ready.number (call_at ready ready.stage))
  called_desk =
      let there = called_there in
      let was = was_desk called there.0 there.1 in
      let next = left found stamp ready.number (call_at ready ready.stage) in
      let leaves = takes.call.leaves in
      let counts : AreEach (FindsCounted slot found.terms) [] (found.journal ++ entries) =
      AreEach-append (FindsCounted slot found.terms) [] found.journal entries was.2
      (made_counted slot found.terms found stamp (subst (λ place. IsCounted slot found.terms (phase found) place found.published) (sym placed) counted) ready ready.stage) in (
        subst (λ journal. All (λ entry. slot_of slot entry < place + 1) journal) (sym leaves.grown) (behind_more slot place found.journal entries was.0 entered),
        subst (AreEach (ComesLast slot) []) (sym leaves.grown) (rising_more slot place found.journal entries was.0 entered was.1),
        subst (λ (terms : Terms). AreEach (FindsCounted slot terms) [] next.journal) (sym leaves.terms) (subst (AreEach (FindsCounted slot found.terms) []) (sym leaves.grown) counts),
      )

  desk_after : (desk : ℕ) → 1 ≤ desk → desk ≤ length before.plain.desks → IsDesk (place + 1) (desk_at after.plain desk)
  desk_after desk low high =
      elim (cases_eq desk called) [
        | inl is ↦ subst (λ at. IsDesk (place + 1) (desk_at after.plain at)) (sym is) (subst (IsDesk (place + 1)) (sym left_at_called) called_desk)
        | inr apart ↦ subst (IsDesk (place + 1)) (sym (left_elsewhere desk low high apart)) (kept_desk desk low high)
      ]

  taken_own : (turn : ℕ) → 1 ≤ turn → turn ≤ (view_in after.views session).turn → slot session turn < place + 1
  taken_own turn from to =
      let now = takes.turns in
      elim (cases_lt (view_in before.views session).turn turn) [
        | inl past ↦
            let last : turn ≡ (view_in before.views session).turn + 1 = omega (arith, past, to, now) in
            let is = ap (slot session) last ∙ here in omega (arith, is)
        | inr within ↦ let earlier = timely.taken session turn least most from within in omega (arith, earlier)
      ]

  taken_after : (other turn : ℕ) → 1 ≤ other → other ≤ length before.views → 1 ≤ turn → turn ≤ (view_in after.views other).turn → slot other turn < place + 1
  taken_after other turn low high from to =
      elim (cases_eq other session) [
        | inl is ↦ subst (λ other. slot other turn < place + 1) (sym is) (taken_own turn from (subst (λ other. turn ≤ (view_in after.views other).turn) is to))
        | inr apart ↦
            let same = ap (λ (view : View). view.turn) (takes.others other low apart) in
            let earlier = timely.taken other turn low high from (omega (arith, to, same)) in omega (arith, earlier)
      ]

  pub timely_turn : length after.views ≡ length before.views → IsTimely slot (place + 1) after
  timely_turn count =
      let same = takes.same in
      record {
        taken = λ other turn low high from to. taken_after other turn low (omega (arith, high, count)) from to;
        behind = λ desk low high. (desk_after desk low (omega (arith, high, same))).0;
        rising = λ desk low high. (desk_after desk low (omega (arith, high, same))).1;
        counted = λ desk low high. (desk_after desk low (omega (arith, high, same))).2;
      }

  -- The session's call empties its own desk, and a call of another's leaves there whoever waited.
  pub called_active : IsActive ready.stage
  called_active = works_active gives (view_in before.views session) ready takes.undone takes.work

  abbrev pub next : Contents
  next = left found stamp ready.number (call_at ready ready.stage)

  pub runs : Runs found.terms (state found) entries
  runs =
      let leaves = takes.call.leaves in
      let whole : Runs found.terms start (found.journal ++ entries) =
      subst (λ (terms : Terms). Runs terms start (found.journal ++ entries)) leaves.terms (subst (Runs next.terms start) leaves.grown leaves.sound.run.runs) in
      let parts : Runs found.terms start found.journal × Runs found.terms (state found) entries = Runs-parts found.terms start found.journal entries whole in parts.1

  pub state_left : state next ≡ state_after found.terms (state found) entries
  state_left =
      let leaves = takes.call.leaves in
      ap (λ (terms : Terms). state_of terms next.journal) leaves.terms ∙ ap (state_of found.terms) leaves.grown ∙ state_of-append found.terms found.journal entries

  pub ready_keeps : Keeps world ready
  ready_keeps =
      let count = running.workers in
      let there : session ≤ length before.script.texts = omega (arith, most, count) in
      let sound = (may_work gives before running session least most).1 in
      let own = view_in before.views session in
      let all = AreWorking-works gives before.script world (view_in before.views) running.working session least there ready (λ answer given. sound.sound (text_at own) answer given) takes.work in
      let mid : with_view (view_in before.views) session ready session ≡ ready = rw (eq-eqb session session refl) refl in
      (subst (IsWorking gives world) mid (all.working session least there)).keeps

  own_unplanned : HasNoRun ready.stage → IsUnplanned (phase (desk_at before.plain session))
  own_unplanned plain =
      let workers = running.workers in
      let desks = running.desks in
      let met : Meets world session session = Meets-plain before.plain takes.plain session session (are_called before.plain session session least (omega (arith, most, workers, desks)) least (omega (arith, most, workers, desks))) in
      let keeps = ready_keeps in
      let told : outline (phase (desk_at before.plain session)) ≡ outline_at ready keeps.begin ready.stage =
      outline-met world session met ∙ subst (λ number. own_from own.free (standing_on number (world.mine number)) ≡ outline_at ready keeps.begin ready.stage) actor_is keeps.outline_is in
      plain_unplanned ready keeps.begin ready.stage (phase (desk_at before.plain session)) plain met.sound.run.settled told

  own_empty : queue_of (phase (desk_at after.plain session)) ≡ []
  own_empty =
      elim (cases_eq session called) [
        | inl is ↦
            let emptied = made_empties found stamp ready ready.stage called_active runs (λ plain. subst (λ desk. IsUnplanned (phase (desk_at before.plain desk))) is (own_unplanned plain)) in
            ap (λ desk. queue_of (phase (desk_at after.plain desk))) is ∙ ap (λ (desk : Contents). queue_of (phase desk)) left_at_called ∙ ap (λ (left : State). queue_of left.phase) state_left ∙ emptied
        | inr apart ↦
            let workers = running.workers in
            let desks = running.desks in
            ap (λ (desk : Contents). queue_of (phase desk)) (left_elsewhere session least (omega (arith, most, workers, desks)) apart)
            ∙ none_waits (phase (desk_at before.plain session)) (own_unplanned (plain_elsewhere ready ready.stage (λ same. apart (sym actor_is ∙ sym same))))
      ]

  module _ (unseen : AreUnseen slot before) where
    called_within : called ≤ length before.views
    called_within = let there = called_there in let desks = running.desks in let workers = running.workers in omega (arith, there.1, desks, workers)

    found_number : found.terms.desk ≡ called
    found_number = let there = called_there in takes.plain.numbers called there.0 there.1

    abbrev turns : ℕ
    turns = (view_in before.views called).turn

    taken_there : (turn : ℕ) → 1 ≤ turn → turn ≤ turns → slot found.terms.desk turn < place
    taken_there turn low high = subst (λ desk. slot desk turn < place) (sym found_number) (timely.taken called turn (called_there).0 called_within low high)

    stands : All (λ request. Any (IsAsked slot found.terms.desk turns request) (found.journal ++ entries)) (queue_of (state_after found.terms (state found) entries).phase)
    stands =
        let there = called_there in
        stand_along found.terms (IsAsked slot found.terms.desk turns) (λ entry. slot_of slot entry ≡ place)
        (λ entry number kind at budget new is. (refl, subst (IsRequest number) (sym is) refl, λ turn low high. let less = taken_there turn low high in omega (arith, less, new)))
        (state found) found.journal entries runs entered (unseen.asked called there.0 there.1)

    asked_left : AreAsked slot turns next
    asked_left =
        let leaves = takes.call.leaves in
        let longer : All (λ request. Any (IsAsked slot found.terms.desk turns request) next.journal) (queue_of (state_after found.terms (state found) entries).phase) =
        subst (λ journal. All (λ request. Any (IsAsked slot found.terms.desk turns request) journal) (queue_of (state_after found.terms (state found) entries).phase)) (sym leaves.grown) stands in
        let here : All (λ request. Any (IsAsked slot found.terms.desk turns request) next.journal) (queue_of (phase next)) =
        subst (λ (left : State). All (λ request. Any (IsAsked slot found.terms.desk turns request) next.journal) (queue_of left.phase)) (sym state_left) longer in
        subst (λ (terms : Terms). All (λ request. Any (IsAsked slot terms.desk turns request) next.journal) (queue_of (phase next))) (sym leaves.terms) here

    asked_after : (desk : ℕ) → 1 ≤ desk → desk ≤ length before.plain.desks → AreAsked slot (view_in after.views desk).turn (desk_at after.plain desk)
    asked_after desk low high =
        elim (cases_eq desk session) [
          | inl own ↦
              let none : queue_of (phase (desk_at after.plain desk)) ≡ [] = ap (λ desk. queue_of (phase (desk_at after.plain desk))) own ∙ own_empty in
              subst (All (λ request. Any (IsAsked slot (desk_at after.plain desk).terms.desk (view_in after.views desk).turn request) (desk_at after.plain desk).journal)) (sym none) (All-nil _)
          | inr other ↦
              let same = takes.others desk low other in
              subst (λ (view : View). AreAsked slot view.turn (desk_at after.plain desk)) (sym same)
              (elim (cases_eq desk called) [
                | inl is ↦ subst (λ at. AreAsked slot (view_in before.views at).turn (desk_at after.plain at)) (sym is) (subst (AreAsked slot turns) (sym left_at_called) asked_left)
                | inr apart ↦ subst (AreAsked slot (view_in before.views desk).turn) (sym (left_elsewhere desk low high apart)) (unseen.asked desk low high)
              ])
        ]

    -- A session at whose desk somebody waits isn't done.
    undone_there : queue_of (phase found) ≢ [] → (view_in before.views called).stage ≢ done
    undone_there some over =
        let there = called_there in
        let desks = running.desks in
        let owner = view_in before.views called in
        let keeps = (running.working.working called there.0 (omega (arith, there.1, desks))).keeps in
        let given = running.working.given called there.0 (omega (arith, there.1, desks)) in
        let number : owner.given.session ≡ called = ap (λ (given : Given). given.session) given in
        let met : Meets world called called = Meets-plain before.plain takes.plain called called (are_called before.plain called called there.0 there.1 there.0 there.1) in
        let told : outline (phase found) ≡ outline_at owner keeps.begin owner.stage =
        outline-met world called met ∙ subst (λ number. own_from own.free (standing_on number (world.mine number)) ≡ outline_at owner keeps.begin owner.stage) number keeps.outline_is in
        some (none_waits (phase found) (plain_unplanned owner keeps.begin owner.stage (phase found) (subst HasNoRun (sym over) tt) met.sound.run.settled told))

    -- What waits there was asked after all turns of that session.
    unseen_now : (entry : Entry) (number : ℕ) → entry.actor ≡ stamp.actor → entry.turn ≡ stamp.turn → IsQueued entry.actor number (queue_of (phase found))
        → IsUnseen slot found.terms found.journal entry number
    unseen_now entry number actor turn queued =
        let there = called_there in
        let at : slot_of slot entry ≡ place = ap (λ actor. slot actor entry.turn) actor ∙ ap (slot stamp.actor) turn ∙ placed in
        let some : queue_of (phase found) ≢ [] = λ none. Any-none (λ (request : Request). (request.asker ≡ entry.actor) × (request.request ≡ number)) (subst (λ queue. IsQueued entry.actor number queue) none queued) in
        let undone = undone_there some in
        let one = Any-of_all (λ request. Any (IsAsked slot found.terms.desk turns request) found.journal) (λ (request : Request). (request.asker ≡ entry.actor) × (request.request ≡ number))
        (queue_of (phase found)) (unseen.asked called there.0 there.1) queued in
        Any-weaker (IsAsked slot found.terms.desk turns one.0) (λ was. (was.actor ≡ entry.actor) × IsRequest number was.event × Rests slot found.terms (slot_of slot was) (slot_of slot entry))
        (λ was asked. (
          asked.0 ∙ one.2.0,
          subst (λ number. IsRequest number was.event) one.2.1 asked.1,
          λ turn low. elim (cases_lt turns turn) [
            | inl past ↦ inr (let far = subst (λ desk. place ≤ slot desk turn) (sym found_number) (ahead called there.0 called_within undone turn past) in omega (arith, far, at))
            | inr within ↦ inl (let less = asked.2 turn low within in omega (arith, less))
          ],
        )) found.journal one.1

    unseen_called : AreEach (LeavesUnseen slot next.terms) [] next.journal
    unseen_called =
        let there = called_there in
        let leaves = takes.call.leaves in
        let more : AreEach (LeavesUnseen slot found.terms) [] (found.journal ++ entries) =
        AreEach-append (LeavesUnseen slot found.terms) [] found.journal entries (unseen.unseen called there.0 there.1) (made_left slot found stamp unseen_now ready ready.stage runs) in
        subst (λ (terms : Terms). AreEach (LeavesUnseen slot terms) [] next.journal) (sym leaves.terms) (subst (AreEach (LeavesUnseen slot found.terms) []) (sym leaves.grown) more)

    pub unseen_turn : AreUnseen slot after
    unseen_turn =
        let same = takes.same in
        record {
          asked = λ desk low high. asked_after desk low (omega (arith, high, same));
          unseen = λ desk low high. elim (cases_eq desk called) [
            | inl is ↦ subst (λ at. AreEach (LeavesUnseen slot (desk_at after.plain at).terms) [] (desk_at after.plain at).journal) (sym is)
                (subst (λ (desk : Contents). AreEach (LeavesUnseen slot desk.terms) [] desk.journal) (sym left_at_called) unseen_called)
            | inr apart ↦ subst (λ (desk : Contents). AreEach (LeavesUnseen slot desk.terms) [] desk.journal) (sym (left_elsewhere desk low (omega (arith, high, same)) apart))
                (unseen.unseen desk low (omega (arith, high, same)))
          ];
        }
