-- How many entries each session has made of desks on one thread, and these desks after a call.
use Rattle.std.specs.Prelude.{ℕ, ◌+◌, ◌-◌, List, length, slice_index, slice_set}
use Rattle.sa_desk.specs.declared.entry.Entry.{Entry}
use Rattle.sa_desk.specs.declared.stamp.Caller.{Caller}
use Rattle.sa_desk.specs.declared.stamp.Stamp.{Stamp}
use Rattle.sa_desk.specs.Contents.{Contents}
use Rattle.sa_desk.specs.Plain.{Plain}

-- how many entries a session has made
abbrev pub made_of : Plain → ℕ → ℕ
made_of plain session = slice_index plain.made (session - 1)

-- the stamp of a session's next entry, by how many it has made
abbrev pub stamp_at : Plain → Caller → Stamp
stamp_at plain me = record { actor = me.actor; seq = made_of plain me.actor + 1; turn = me.turn }

-- The desks after a call that has made these entries and left this: all other desks stay.
abbrev pub next_plain : Plain → (desk session : ℕ) → List Entry → Contents → Plain
next_plain plain desk session entries left = record {
  desks = slice_set plain.desks (desk - 1) left;
  made = slice_set plain.made (session - 1) (made_of plain session + length entries);
}
