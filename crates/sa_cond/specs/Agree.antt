-- When two choices of rows agree on a name.
use Rattle.std.specs.Prelude.{◌≡◌}
use Rattle.sa_cond.specs.Choice.{Choice}
use Rattle.sa_cond.specs.Cited.{Name, column, slot}

-- Two choices have the same value where a name stands.
abbrev pub AgreeAt : Choice → Choice → Name → Type 0
AgreeAt one other (column table number) = one.cell table number ≡ other.cell table number
AgreeAt one other (slot number) = one.slot number ≡ other.slot number
