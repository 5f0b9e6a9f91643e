-- What a run reads.
use Rattle.std.specs.Prelude.{List}
use Rattle.sa_table.specs.Table.{Table}

-- A run reads the rows of these tables.
abbrev pub RunData : Type 0
RunData = List Table
