-- The row that a record of a CSV text is in a table, and which causes it has to be refused.
use Rattle.std.specs.Prelude.{List, ◌++◌, map, length, not, ◌==◌, nat_le}
use Rattle.std.specs.List.{flat_map, enumerate_from, zip}
use Rattle.sa_value.specs.declared.value.Value.{Value}
use Rattle.sa_table.specs.declared.def.ColumnDef.{ColumnDef}
use Rattle.sa_table.specs.Table.{Table}
use Rattle.sa_table.specs.Create.{told}
use Rattle.sa_table.specs.AddRow.{key_faults}
use Rattle.sa_load.specs.declared.fault.LoadCause.{LoadCause}
use Rattle.sa_load.specs.declared.fault.LoadCause.TheVariants.{RowFull, Arity}
use Rattle.sa_load.specs.Csv.{Fields}
use Rattle.sa_load.specs.Field.{cause_of, field_causes, field_value}

-- the values of a record's fields, column by column
abbrev pub row_of : List ColumnDef → Fields → List Value
row_of columns fields = map (λ pair. field_value pair.0.kind pair.1) (zip columns fields)

-- the causes of a record's fields, column by column
abbrev pub column_causes : List ColumnDef → Fields → List LoadCause
column_causes columns fields =
    flat_map (λ numbered. field_causes numbered.0 numbered.1.0 numbered.1.1)
    (enumerate_from 0 (zip columns fields))

-- the causes of a record in a table, in their order
abbrev pub record_causes : Table → Fields → List LoadCause
record_causes table fields =
    told (nat_le 1000000 (length table.rows)) RowFull
    ++ told (not (length fields == length table.def.columns)) Arity
    ++ column_causes table.def.columns fields
    ++ flat_map cause_of (key_faults table.def.keys table.rows (row_of table.def.columns fields))
