-- What a session's call asks for, and what it leaves.
use Rattle.std.specs.Prelude.{◌≡◌, ℕ, true}
use Rattle.sa_desk.specs.World.{World, next_stamp, IsCall}
use Rattle.sa_desk.specs.declared.stamp.Stamp.{Stamp}
use Rattle.sa_desk.specs.program.Turn.{Call, May, made, left}
use Rattle.sa_worker.specs.declared.session.Session.{Session}
use Rattle.sa_worker.specs.declared.stage.Stage.{Stage as StageFields}
use Rattle.sa_worker.specs.View.{View, IsActive, call_at, desk_at, me_of}
use Rattle.sa_worker.specs.Next.{next_at}
use Rattle.sa_worker.specs.Holds.{HoldsAt}
use Rattle.sa_worker.specs.inner.Fields.{stage_of, rest_of, view_of}
use Rattle.sa_worker.specs.inner.Ties.{StageTied}

-- the view, where this comes next
abbrev pub view_at : Session → StageFields → View
view_at session stage = record (view_of session) { stage = stage_of stage }

abbrev pub desk_for : Session → StageFields → ℕ
desk_for session stage = desk_at (view_at session stage) (stage_of stage)

abbrev pub call_for : Session → StageFields → Call
call_for session stage = call_at (view_at session stage) (stage_of stage)

abbrev pub stamp_for : World → Session → Stamp
stamp_for world session = next_stamp world (me_of (view_of session))

-- The call of this stage may be made.
pub record MayCall (world : World) (session : Session) (stage : StageFields) : Type 0 where
  pub active : IsActive (stage_of stage)
  pub allowed : world.may_call (desk_for session stage) session.given.session ≡ true
  pub may : May (world.contents (desk_for session stage))
      (stamp_for world session) session.number (call_for session stage)
  pub holds : HoldsAt (view_at session stage) (stage_of stage)
  pub tied : StageTied (rest_of session) session.change stage

-- It was made, and the session goes on as it was answered.
pub record HasCalled (before after : World) (session later : Session)
    (stage : StageFields) : Type 0 where
  pub next : view_of later
      ≡ next_at (view_of session) (stage_of stage) (before.contents (desk_for session stage))
      (stamp_for before session)
  pub call : IsCall before after (desk_for session stage) session.given.session
      (made (before.contents (desk_for session stage))
      (stamp_for before session) session.number (call_for session stage))
      (left (before.contents (desk_for session stage))
      (stamp_for before session) session.number (call_for session stage))
