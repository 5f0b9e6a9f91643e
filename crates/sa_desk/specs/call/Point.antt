-- A running statement publishes its steps and serves whoever asked.
use Rattle.std.specs.Prelude.{◌≡◌, ◌+◌, ◌/◌, Bool, if◌then◌else◌}
use Rattle.sa_meaning.specs.Progress.{Progress, IsFinished}
use Rattle.sa_desk.specs.declared.answer.Seen.{Seen}
use Rattle.sa_desk.specs.declared.answer.Seen.TheVariants.{Go, Kill}
use Rattle.sa_desk.specs.declared.stamp.Stamp.{Stamp}
use Rattle.sa_desk.specs.Contents.{Contents, phase, IsCaller, IsOwner, HasRoom, with_entries}
use Rattle.sa_desk.specs.Serving.{served_entries, IsRunOf, begin_turn}

-- Kill where a kill stands.
abbrev pub point_answer : Bool → Seen
point_answer killed = if killed then Kill else Go

module _ (desk : Contents) (stamp : Stamp) (run : Progress) where
  abbrev pub after_point : Contents
  after_point = record (with_entries (served_entries desk stamp run) desk) { published = run.steps }

-- The run of the caller's statement isn't finished, and has made a quantum of steps more than are
-- published.
pub record MayPoint (desk : Contents) (stamp : Stamp) (run : Progress) : Type 0 where
  pub caller : IsCaller desk stamp
  pub own : IsOwner desk stamp
  pub on : IsRunOf (phase desk) run
  pub unfinished : IsFinished run → ⊥
  pub steps : run.steps ≡ desk.published + desk.terms.quantum
  pub turn : stamp.turn ≡ begin_turn (phase desk) + run.steps / desk.terms.quantum
  pub room : HasRoom desk stamp.actor (served_entries desk stamp run)
