-- A session without a plan looks whether a kill stands for its statement.
use Rattle.sa_desk.specs.declared.stamp.Stamp.{Stamp}
use Rattle.std.specs.Prelude.{⊤}
use Rattle.sa_desk.specs.State.{Phase, unplanned}
use Rattle.sa_desk.specs.Contents.{Contents, phase, IsCaller, IsOwner}

-- A statement without a plan is on.
abbrev pub IsUnplannedOn : Phase → Type 0
IsUnplannedOn (unplanned statement) = ⊤
IsUnplannedOn phase = ⊥

-- The caller's own statement is on, and has no plan.
pub record MayLookOwn (desk : Contents) (stamp : Stamp) : Type 0 where
  pub caller : IsCaller desk stamp
  pub own : IsOwner desk stamp
  pub on : IsUnplannedOn (phase desk)
