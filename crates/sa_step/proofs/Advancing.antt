-- What a turn does to the desks, and what may come after it.
use Rattle.std.proofs.Common.{◌≡◌, ◌≢◌, ℕ, ◌+◌, ◌<◌, ◌≤◌, inl, inr, List, ◌++◌, length, All, sym, subst, ap, ◌∙◌, arith, append_assoc}
use Rattle.std.proofs.lemmas.Bool.{cases_eq}
use Rattle.std.proofs.lemmas.List.Elements.{All-append, All-weaker}
use Rattle.sa_desk.specs.declared.entry.Entry.{Entry}
use Rattle.sa_desk.specs.declared.stamp.Stamp.{Stamp}
use Rattle.sa_desk.specs.Contents.{Contents}
use Rattle.sa_desk.specs.Plain.{desk_at, world_of}
use Rattle.sa_desk.specs.World.{World, next_stamp}
use Rattle.sa_desk.specs.program.Course.{Given}
use Rattle.sa_desk.specs.program.Prepares.{Answers}
use Rattle.sa_desk.specs.program.Turn.{made, left}
use Rattle.sa_worker.specs.View.{View, Stage, done, me_of, call_at, outline_at}
use Rattle.sa_worker.specs.View as stages
use Rattle.sa_worker.specs.Keeps.{Keeps}
use Rattle.sa_worker.proofs.working.Fixed.{given_works}
use Rattle.sa_step.specs.Sessions.{AllSessions, AreRunning, view_in}
use Rattle.sa_step.specs.Schedule.{slot_of}
use Rattle.sa_step.specs.Turns.{TakesTurn}
use Rattle.sa_step.specs.inner.Timely.{IsTimely, AreLater}
use Rattle.sa_step.proofs.Making.{IsMadeAt, made_at}
use Rattle.sa_step.proofs.Timed as timed

module _ (gives : Answers) (slot : (session turn : ℕ) → ℕ) (place : ℕ) (before after : AllSessions) (running : AreRunning gives before)
    (session : ℕ) (least : 1 ≤ session) (most : session ≤ length before.views) (takes : TakesTurn gives before session after)
    (timely : IsTimely slot place before) (here : slot session ((view_in before.views session).turn + 1) ≡ place)
    (ahead : (other : ℕ) → 1 ≤ other → other ≤ length before.views → (view_in before.views other).stage ≢ done → (turn : ℕ) → (view_in before.views other).turn < turn → place ≤ slot other turn) where
  abbrev world : World
  world = world_of before.plain

  abbrev after_world : World
  after_world = world_of after.plain

  abbrev view : View
  view = view_in before.views session

  abbrev given : Given
  given = view.given

  abbrev ready : View
  ready = takes.ready

  abbrev called : ℕ
  called = stages.desk_at ready ready.stage

  abbrev found : Contents
  found = desk_at before.plain called

  abbrev stamp : Stamp
  stamp = next_stamp world (me_of ready)

  abbrev entries : List Entry
  entries = made found stamp ready.number (call_at ready ready.stage)

  abbrev next : Contents
  next = left found stamp ready.number (call_at ready ready.stage)

  pub number_is : given.session ≡ session
  number_is = ap (λ (given : Given). given.session) (timed.own_given gives slot place before after running session least most takes timely here ahead)

  pub same_given : ready.given ≡ given
  same_given = given_works view gives ready takes.work

  pub called_there : (1 ≤ called) × (called ≤ length before.plain.desks)
  called_there = timed.called_there gives slot place before after running session least most takes timely here ahead

  pub entered : All (λ entry. slot_of slot entry ≡ place) entries
  entered = timed.entered gives slot place before after running session least most takes timely here ahead

  pub placed : slot stamp.actor stamp.turn ≡ place
  placed = timed.placed gives slot place before after running session least most takes timely here ahead

  left_at_called : desk_at after.plain called ≡ next
  left_at_called = timed.left_at_called gives slot place before after running session least most takes timely here ahead

  left_elsewhere : (desk : ℕ) → 1 ≤ desk → desk ≤ length before.plain.desks → desk ≢ called → desk_at after.plain desk ≡ desk_at before.plain desk
  left_elsewhere = timed.left_elsewhere gives slot place before after running session least most takes timely here ahead

  pub keeps : Keeps world ready
  keeps = timed.ready_keeps gives slot place before after running session least most takes timely here ahead

  pub active : stages.IsActive ready.stage
  active = timed.called_active gives slot place before after running session least most takes timely here ahead

  pub kinds : All (λ entry. IsMadeAt ready.stage entry.event) entries
  kinds = made_at found stamp ready ready.stage

  pub desk_there : (other : ℕ) → other ≤ length before.views → other ≤ length before.plain.desks
  desk_there other high = let workers = running.workers in let desks = running.desks in omega (arith, high, workers, desks)

  -- What comes later than this turn.
  pub later_called : (journals : ℕ → List Entry) → AreLater slot (place + 1) after.plain journals
      → (rest : List Entry) × (journals called ≡ (found.journal ++ entries) ++ rest) × All (λ entry. place + 1 ≤ slot_of slot entry) rest
  later_called journals later =
      let there = called_there in
      let same = takes.same in
      let at = later called there.0 (omega (arith, there.1, same)) in
      (at.0, at.1 ∙ ap (λ (desk : Contents). desk.journal ++ at.0) left_at_called ∙ ap (λ journal. journal ++ at.0) takes.call.leaves.grown, at.2)

  sooner : (rest : List Entry) → All (λ entry. place + 1 ≤ slot_of slot entry) rest → All (λ entry. place ≤ slot_of slot entry) rest
  sooner rest all = All-weaker (λ entry. place + 1 ≤ slot_of slot entry) (λ entry. place ≤ slot_of slot entry) (λ entry late. omega (arith, late)) rest all

  pub found_later : (journals : ℕ → List Entry) → AreLater slot (place + 1) after.plain journals
      → (rest : List Entry) × (journals called ≡ found.journal ++ rest) × All (λ entry. place ≤ slot_of slot entry) rest
  found_later journals later =
      let at = later_called journals later in (
        entries ++ at.0,
        at.1 ∙ append_assoc found.journal entries at.0,
        All-append (λ entry. place ≤ slot_of slot entry) entries at.0
            (All-weaker (λ entry. slot_of slot entry ≡ place) (λ entry. place ≤ slot_of slot entry) (λ entry is. omega (arith, is)) entries entered) (sooner at.0 at.2),
      )

  pub later_before : (journals : ℕ → List Entry) → AreLater slot (place + 1) after.plain journals → AreLater slot place before.plain journals
  later_before journals later desk low high =
      elim (cases_eq desk called) [
        | inl is ↦ subst (λ at. (rest : List Entry) × (journals at ≡ (desk_at before.plain at).journal ++ rest) × All (λ entry. place ≤ slot_of slot entry) rest) (sym is) (found_later journals later)
        | inr apart ↦
            let same = takes.same in
            let at = later desk low (omega (arith, high, same)) in
            (at.0, at.1 ∙ ap (λ (desk : Contents). desk.journal ++ at.0) (left_elsewhere desk low high apart), sooner at.0 at.2)
      ]

  -- What a desk's journal is after it.
  pub at_desk : (desk : ℕ) → 1 ≤ desk → desk ≤ length before.plain.desks → (X : List Entry → Type 0) → (desk ≡ called → X ((desk_at before.plain desk).journal ++ entries))
      → (desk ≢ called → X (desk_at before.plain desk).journal) → X (desk_at after.plain desk).journal
  at_desk desk low high X there elsewhere =
      elim (cases_eq desk called) [
        | inl is ↦
            let journal_is : (desk_at after.plain desk).journal ≡ (desk_at before.plain desk).journal ++ entries =
            ap (λ at. (desk_at after.plain at).journal) is ∙ ap (λ (desk : Contents). desk.journal) left_at_called ∙ takes.call.leaves.grown
            ∙ ap (λ at. (desk_at before.plain at).journal ++ entries) (sym is) in
            subst X (sym journal_is) (there is)
        | inr apart ↦ subst X (ap (λ (desk : Contents). desk.journal) (sym (left_elsewhere desk low high apart))) (elsewhere apart)
      ]
