-- What a record is refused by before its row is made.
use Rattle.std.specs.Prelude.{List, ◌++◌, length, not, ◌==◌, nat_le}
use Rattle.sa_table.specs.Table.{Table}
use Rattle.sa_table.specs.Create.{told}
use Rattle.sa_load.specs.declared.fault.LoadCause.{LoadCause}
use Rattle.sa_load.specs.declared.fault.LoadCause.TheVariants.{RowFull, Arity}
use Rattle.sa_load.specs.Csv.{Fields}
use Rattle.sa_load.specs.Record.{column_causes}

-- the causes of a record but for those of keys
abbrev pub row_causes : Table → Fields → List LoadCause
row_causes table fields =
    told (nat_le 1000000 (length table.rows)) RowFull
    ++ told (not (length fields == length table.def.columns)) Arity
    ++ column_causes table.def.columns fields
