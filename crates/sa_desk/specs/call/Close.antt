-- A session is done.
use Rattle.std.specs.Prelude.{◌≡◌, List, [], ◌∷◌}
use Rattle.sa_desk.specs.declared.entry.Entry.{Entry}
use Rattle.sa_desk.specs.declared.entry.Event.TheVariants as event
use Rattle.sa_desk.specs.declared.stamp.Stamp.{Stamp}
use Rattle.sa_desk.specs.State.{idle}
use Rattle.sa_desk.specs.Contents.{Contents, phase, IsCaller, HasRoom, IsOwner, entry_by, with_entries}

module _ (desk : Contents) (stamp : Stamp) where
  abbrev pub close_entries : List Entry
  close_entries = entry_by desk stamp event.Close ∷ []

  abbrev pub after_close : Contents
  after_close = with_entries close_entries desk

-- Nothing is on the desk of the caller, which isn't closed.
pub record MayClose (desk : Contents) (stamp : Stamp) : Type 0 where
  pub caller : IsCaller desk stamp
  pub own : IsOwner desk stamp
  pub free : phase desk ≡ idle
  pub room : HasRoom desk stamp.actor (close_entries desk stamp)
