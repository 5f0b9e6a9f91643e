-- The parts of what set-up statements put into tables, as the functions make them.
use Rattle.std.specs.Prelude.{◌≡◌, ℕ, ◌≤◌, ◌==◌, ◌+◌, nat_le, nat_lt, Bool, List, [], ◌++◌, map, length, All, Option, Some, None, slice_get, slice_index_or, if◌then◌else◌}
use Rattle.std.specs.List.{list_any, position_or_len}
use Rattle.sa_value.specs.declared.value.Value.{Value}
use Rattle.sa_value.specs.declared.value.Value.TheVariants.{Null}
use Rattle.sa_ast.specs.declared.create.ColumnTree.{ColumnTree}
use Rattle.sa_ast.specs.declared.create.CreateTree.{CreateTree}
use Rattle.sa_ast.specs.declared.create.KeyTree.{KeyTree}
use Rattle.sa_ast.specs.declared.insert.TupleTree.{TupleTree}
use Rattle.sa_ast.specs.declared.name.NameTree.{NameTree}
use Rattle.sa_table.specs.declared.def.ColumnDef.{ColumnDef}
use Rattle.sa_table.specs.declared.def.TableDef.{TableDef}
use Rattle.sa_table.specs.declared.fault.TableFault.{TableFault}
use Rattle.sa_table.specs.declared.fault.TableFault.TheVariants.{TooManyTables, TooManyColumns, TooManyKeys, TooManyParts}
use Rattle.sa_table.specs.declared.fault.RowFault.{RowFault}
use Rattle.sa_table.specs.declared.fault.RowFault.TheVariants as row
use Rattle.sa_table.specs.Create.{same_name, told}
use Rattle.sa_table.specs.Table.{Table}
use Rattle.sa_script.specs.declared.fault.ScriptFault.{ScriptFault}
use Rattle.sa_script.specs.declared.fault.ScriptFault.TheVariants.{Bad, OutOfMemory}
use Rattle.sa_script.specs.declared.fault.ScriptKind.{ScriptKind}
use Rattle.sa_script.specs.declared.layout.Layout.{Layout}
use Rattle.sa_script.specs.declared.layout.Layout.TheVariants.{Whole, Listed}
use Rattle.sa_script.specs.Fault.{Fault, row_fault_at}
use Rattle.sa_script.specs.Insert.{InsertsFirst, faults_at, row_kind}

-- what is told of a kind of fault; without one memory ran out
abbrev pub fault_of : Option ScriptKind → (place : ℕ) → (line : Option ℕ) → ScriptFault
fault_of None place line = OutOfMemory
fault_of (Some kind) place line = Bad kind place line

-- the limits that a definition passes, in the order in which they are told
abbrev pub limits_passed : ℕ → CreateTree → List TableFault
limits_passed tables tree =
    told (nat_le 32 tables) TooManyTables
    ++ told (nat_lt 32 (length tree.columns)) TooManyColumns
    ++ told (nat_lt 8 (length tree.keys)) TooManyKeys
    ++ told (list_any (λ (key : KeyTree). nat_lt 4 (length key.columns)) tree.keys) TooManyParts

-- A definition has few columns, and few parts of each key.
pub record IsSmall (tree : CreateTree) : Type 0 where
  pub columns : length tree.columns ≤ 32
  pub parts : All (λ (key : KeyTree). length key.columns ≤ 4) tree.keys

-- whether a column has this name
abbrev pub is_column : List ℕ → ColumnTree → Bool
is_column name column = same_name column.name name

-- whether a name of a column list is this column's
abbrev pub is_listed : List ℕ → NameTree → Bool
is_listed column name = same_name name.name column

-- the values at these places, and NULL past them
abbrev pub values_at : List Value → List ℕ → List Value
values_at values places = map (λ place. slice_index_or values place Null) places

-- the row of a tuple's values
abbrev pub row_in : Layout → List Value → List Value
row_in Whole values = values
row_in (Listed names places) values = if length values == names then values_at values places else []

-- where the value of each column stands in a tuple
abbrev pub places_in : List NameTree → List ColumnDef → List ℕ
places_in names columns =
    map (λ (column : ColumnDef). position_or_len (is_listed column.name) names) columns

abbrev pub layout_of : TableDef → Option (List NameTree) → Layout
layout_of def None = Whole
layout_of def (Some names) = Listed (length names) (places_in names def.columns)

-- the rows of these tuples
abbrev pub rows_in : Layout → List TupleTree → List (List Value)
rows_in layout tuples = map (λ (tuple : TupleTree). row_in layout tuple.values) tuples

-- The first fault of a row; or memory ran out.
abbrev pub TellsRow : List RowFault → RowFault → Type 0
TellsRow faults row.OutOfMemory = Unit {0}
TellsRow faults fault = slice_get faults 0 ≡ Some fault

-- Of these tuples, the first whose row can't be put in.
pub record IsBadTuple (table : Table) (tuples : List TupleTree) (rows : List (List Value))
    (fault : Fault) : Type 0 where
  pub index : ℕ
  pub tuple : TupleTree
  pub told : RowFault
  pub kind : ScriptKind
  pub there : slice_get tuples index ≡ Some tuple
  pub before : InsertsFirst index table rows
  pub first : slice_get (faults_at table rows index) 0 ≡ Some told
  pub called : row_kind told ≡ Some kind
  pub fault_is : fault ≡ row_fault_at kind tuple.place (index + 1)
