-- What one turn of a session does: private work, and one call of a desk.
use Rattle.std.specs.Prelude.{◌≡◌, ◌≢◌, ℕ, ◌+◌, ◌≤◌, ◌⊎◌, true}
use Rattle.sa_desk.specs.Plain.{IsPlain, SameDesks, are_there, desk_at, world_of}
use Rattle.sa_desk.specs.World.{IsCall, next_stamp}
use Rattle.sa_desk.specs.program.Prepares.{Answers}
use Rattle.sa_desk.specs.program.Turn.{made, left}
use Rattle.sa_worker.specs.View.{View, done, me_of, call_at}
use Rattle.sa_worker.specs.View as view
use Rattle.sa_worker.specs.Next.{next_view}
use Rattle.sa_worker.specs.Works.{Works}
use Rattle.sa_step.specs.Sessions.{AllSessions, view_in}

-- The call of a worker that is ready for it has led from these sessions to those.
module _ (before after : AllSessions) (ready : View) where
  abbrev pub IsTurnOf : Type 0
  IsTurnOf =
      let world = world_of before.plain in
      let desk = view.desk_at ready ready.stage in
      let stamp = next_stamp world (me_of ready) in
      let call = call_at ready ready.stage in
      IsCall world (world_of after.plain) desk ready.given.session
      (made (desk_at before.plain desk) stamp ready.number call)
      (left (desk_at before.plain desk) stamp ready.number call)

-- A session that isn't done has taken a turn.
pub record TakesTurn (gives : Answers) (before : AllSessions) (session : ℕ)
    (after : AllSessions) : Type 0 where
  pub undone : (view_in before.views session).stage ≢ done
  pub plain : IsPlain before.plain
  pub same : SameDesks before.plain after.plain
  -- what its worker holds after its private work
  pub ready : View
  pub work : Works gives (view_in before.views session) ready
  pub allowed : are_there before.plain (view.desk_at ready ready.stage) ready.given.session ≡ true
  pub call : IsTurnOf before after ready
  pub next : view_in after.views session
      ≡ next_view ready (desk_at before.plain (view.desk_at ready ready.stage))
      (next_stamp (world_of before.plain) (me_of ready))
  -- the turn counts, and the other workers hold what they held
  pub turns : (view_in after.views session).turn ≡ (view_in before.views session).turn + 1
  pub others : (other : ℕ) → 1 ≤ other → other ≢ session
      → view_in after.views other ≡ view_in before.views other

-- A session has taken a turn, or was passed over as it is done.
abbrev pub GoesBy : Answers → AllSessions → (session : ℕ) → AllSessions → Type 0
GoesBy gives before session after =
    TakesTurn gives before session after
    ⊎ (after ≡ before) × ((view_in before.views session).stage ≡ done)
