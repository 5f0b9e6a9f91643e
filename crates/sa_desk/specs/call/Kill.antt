-- A session kills what another one runs.
-- Source: MariaDB Knowledge Base, "KILL": QUERY ends the statement, CONNECTION the session too.
use Rattle.std.specs.Prelude.{ℕ, List, [], ◌∷◌}
use Rattle.sa_ast.specs.declared.kind.KillKind.{KillKind}
use Rattle.sa_desk.specs.declared.entry.Entry.{Entry}
use Rattle.sa_desk.specs.declared.entry.Event.{Event}
use Rattle.sa_desk.specs.declared.entry.Event.TheVariants as event
use Rattle.sa_desk.specs.declared.entry.RefusedWhy.TheVariants as why
use Rattle.sa_desk.specs.declared.answer.Killed.{Killed}
use Rattle.sa_desk.specs.declared.answer.Killed.TheVariants as answer
use Rattle.sa_desk.specs.declared.stamp.Stamp.{Stamp}
use Rattle.sa_desk.specs.State.{Phase, closed}
use Rattle.sa_desk.specs.Contents.{Contents, phase, IsCaller, HasRoom, entry_by, with_entries}

-- A kill is refused where the session is done.
abbrev pub kill_answer : Phase → Killed
kill_answer closed = answer.NoSuchThread
kill_answer phase = answer.Ok

abbrev pub kill_event : Killed → ℕ → KillKind → Event
kill_event answer.Ok number kind = event.KillSent number kind
kill_event answer.NoSuchThread number kind = event.Refused number why.NoSuchThread

module _ (desk : Contents) (stamp : Stamp) (number : ℕ) (kind : KillKind) where
  abbrev pub kill_entries : List Entry
  kill_entries = entry_by desk stamp (kill_event (kill_answer (phase desk)) number kind) ∷ []

  abbrev pub after_kill : Contents
  after_kill = with_entries kill_entries desk

-- Any session may kill any other, and itself.
pub record MayKill (desk : Contents) (stamp : Stamp) (number : ℕ) (kind : KillKind) : Type 0 where
  pub caller : IsCaller desk stamp
  pub room : HasRoom desk stamp.actor (kill_entries desk stamp number kind)
