-- Which rows an INSERT of a script puts into its table, and its fault.
-- Source: MariaDB Knowledge Base, "INSERT".
use Rattle.std.specs.Prelude.{◌≡◌, ℕ, ◌<◌, ◌==◌, List, [], ◌∷◌, ◌+◌, ◌⊎◌, map, take, length, Option, Some, None, slice_get, slice_index_or, slice_set, Bool, not, if◌then◌else◌}
use Rattle.std.specs.List.{list_any, position_or_len}
use Rattle.sa_value.specs.declared.value.Value.{Value}
use Rattle.sa_value.specs.declared.value.Value.TheVariants.{Null}
use Rattle.sa_ast.specs.declared.insert.InsertTree.{InsertTree}
use Rattle.sa_ast.specs.declared.insert.TupleTree.{TupleTree}
use Rattle.sa_ast.specs.declared.name.NameTree.{NameTree}
use Rattle.sa_table.specs.declared.def.ColumnDef.{ColumnDef}
use Rattle.sa_table.specs.declared.def.TableDef.{TableDef}
use Rattle.sa_table.specs.declared.fault.RowFault.{RowFault}
use Rattle.sa_table.specs.declared.fault.RowFault.TheVariants as row
use Rattle.sa_table.specs.AddRow.{row_faults, with_row}
use Rattle.sa_table.specs.Create.{same_name}
use Rattle.sa_table.specs.Table.{Table, table_at}
use Rattle.sa_script.specs.declared.fault.ScriptKind.{ScriptKind}
use Rattle.sa_script.specs.declared.fault.ScriptKind.TheVariants as script
use Rattle.sa_script.specs.Fault.{Fault, fault_at, row_fault_at}
use Rattle.sa_script.specs.Named.{table_named, IsUnknown}

abbrev pub has_column : TableDef → List ℕ → Bool
has_column def name = list_any (λ (column : ColumnDef). same_name column.name name) def.columns

-- The fault of a name in the column list, after the names before it.
abbrev pub name_fault : TableDef → List NameTree → NameTree → Option ScriptKind
name_fault def before name =
    if not (has_column def name.name) then Some script.UnknownColumn
    else (if list_any (λ (other : NameTree). same_name other.name name.name) before
    then Some script.DuplicateName else None)

-- the fault of the name at an index
abbrev pub name_fault_at : TableDef → List NameTree → ℕ → NameTree → Option ScriptKind
name_fault_at def names index name = name_fault def (take index names) name

-- The first faulty name of the column list. The fault stands there.
pub record HasBadName (def : TableDef) (names : List NameTree) (fault : Fault) : Type 0 where
  pub index : ℕ
  pub name : NameTree
  pub kind : ScriptKind
  pub there : slice_get names index ≡ Some name
  pub bad : name_fault_at def names index name ≡ Some kind
  pub first : (earlier : ℕ) (other : NameTree) → earlier < index
      → slice_get names earlier ≡ Some other → name_fault_at def names earlier other ≡ None
  pub fault_is : fault ≡ fault_at kind name.place

-- No name of the column list is faulty.
abbrev pub HasGoodNames : TableDef → List NameTree → Type 0
HasGoodNames def names = (index : ℕ) (name : NameTree) → slice_get names index ≡ Some name
    → name_fault_at def names index name ≡ None

-- the names of the column list; without one they are none
abbrev pub listed : Option (List NameTree) → List NameTree
listed None = []
listed (Some names) = names

-- the value that stands for a name, NULL where the name isn't listed
abbrev pub value_for : List NameTree → List Value → List ℕ → Value
value_for names values name = slice_index_or values
    (position_or_len (λ (other : NameTree). same_name other.name name) names) Null

-- The row of a tuple: its values, or with a column list the values in their columns' places and
-- NULL in the others. A tuple with another number of values than there are names stands for a row
-- without values.
abbrev pub row_for : TableDef → Option (List NameTree) → List Value → List Value
row_for def None values = values
row_for def (Some names) values =
    if length values == length names
    then map (λ (column : ColumnDef). value_for names values column.name) def.columns else []

abbrev pub rows_for : TableDef → InsertTree → List (List Value)
rows_for def tree = map (λ (tuple : TupleTree). row_for def tree.columns tuple.values) tree.tuples

-- a table with these rows at its end, one after another
abbrev pub with_rows : Table → List (List Value) → Table
with_rows table [] = table
with_rows table (row ∷ rows) = with_rows (with_row table row) rows

-- the faults of the row at an index, in the table with those before it
abbrev pub faults_at : Table → List (List Value) → ℕ → List RowFault
faults_at table rows index =
    row_faults (with_rows table (take index rows)) (slice_index_or rows index [])

-- Each of the first rows, so many, can be put in.
abbrev pub InsertsFirst : ℕ → Table → List (List Value) → Type 0
InsertsFirst count table rows = (index : ℕ) → index < count → faults_at table rows index ≡ []

-- how a fault of a row is called; want of memory is none
abbrev pub row_kind : RowFault → Option ScriptKind
row_kind row.RowFull = Some script.RowFull
row_kind row.Arity = Some script.Arity
row_kind (row.NullNotAllowed column) = Some script.NullNotAllowed
row_kind (row.TypeMismatch column) = Some script.TypeMismatch
row_kind (row.OutOfRange column) = Some script.OutOfRange
row_kind (row.TooLong column) = Some script.TooLong
row_kind (row.DuplicateKey number) = Some script.DuplicateKey
row_kind row.OutOfMemory = None

-- The first tuple whose row can't be put in, by its number from 1 on. The fault stands at its bracket.
pub record HasBadTuple (table : Table) (tree : InsertTree) (fault : Fault) : Type 0 where
  pub index : ℕ
  pub tuple : TupleTree
  pub told : RowFault
  pub kind : ScriptKind
  pub there : slice_get tree.tuples index ≡ Some tuple
  pub before : InsertsFirst index table (rows_for table.def tree)
  pub first : slice_get (faults_at table (rows_for table.def tree) index) 0 ≡ Some told
  pub called : row_kind told ≡ Some kind
  pub fault_is : fault ≡ row_fault_at kind tuple.place (index + 1)

-- An INSERT puts its rows at the end of its table.
pub record Inserts (tables : List Table) (tree : InsertTree) (after : List Table) : Type 0 where
  pub table : ℕ
  pub named : table_named tables tree.table.name ≡ Some table
  pub names : HasGoodNames (table_at tables table).def (listed tree.columns)
  pub rows : InsertsFirst (length tree.tuples) (table_at tables table)
      (rows_for (table_at tables table).def tree)
  pub after_is : after
      ≡ slice_set tables table
      (with_rows (table_at tables table) (rows_for (table_at tables table).def tree))

-- The table of an INSERT is there, and a name of the column list is faulty, or else a tuple.
abbrev pub CantInsertInto : Table → InsertTree → Fault → Type 0
CantInsertInto table tree fault =
    HasBadName table.def (listed tree.columns) fault
    ⊎ (HasGoodNames table.def (listed tree.columns) × HasBadTuple table tree fault)

-- An INSERT has this fault first, from left to right: its table, a name of its column list, a tuple.
abbrev pub CantInsert : List Table → InsertTree → Fault → Type 0
CantInsert tables tree fault =
    IsUnknown tables tree.table fault
    ⊎ ((table : ℕ) × (table_named tables tree.table.name ≡ Some table)
    × CantInsertInto (table_at tables table) tree fault)
