-- What a CREATE TABLE of a script makes, and its fault.
-- Source: MariaDB Knowledge Base, "CREATE TABLE".
use Rattle.std.specs.Prelude.{◌≡◌, ℕ, ◌+◌, List, [], ◌∷◌, ◌++◌, ◌==◌, map, length, Option, Some, None, codes, slice_get, if◌then◌else◌}
use Rattle.std.specs.Fmt.{decimal}
use Rattle.std.specs.List.{enumerate_from, position_or_len}
use Rattle.sa_ast.specs.declared.create.ColumnTree.{ColumnTree}
use Rattle.sa_ast.specs.declared.create.CreateTree.{CreateTree}
use Rattle.sa_ast.specs.declared.create.KeyTree.{KeyTree}
use Rattle.sa_ast.specs.declared.create.KindTree.{KindTree}
use Rattle.sa_ast.specs.declared.create.KindTree.TheVariants as tree
use Rattle.sa_table.specs.declared.def.ColumnDef.{ColumnDef}
use Rattle.sa_table.specs.declared.def.ColumnKind.{ColumnKind}
use Rattle.sa_table.specs.declared.def.ColumnKind.TheVariants as kinds
use Rattle.sa_table.specs.declared.def.KeyDef.{KeyDef}
use Rattle.sa_table.specs.declared.def.TableDef.{TableDef}
use Rattle.sa_table.specs.declared.fault.TableFault.{TableFault}
use Rattle.sa_table.specs.declared.fault.TableFault.TheVariants as table
use Rattle.sa_table.specs.Create.{same_name, table_faults}
use Rattle.sa_table.specs.Table.{Table, new_table}
use Rattle.sa_script.specs.declared.fault.ScriptKind.{ScriptKind}
use Rattle.sa_script.specs.declared.fault.ScriptKind.TheVariants as script
use Rattle.sa_script.specs.Fault.{Fault, fault_at}

abbrev pub kind_of : KindTree → ColumnKind
kind_of tree.Int = kinds.Int
kind_of tree.BigInt = kinds.BigInt
kind_of (tree.VarChar characters) = kinds.VarChar characters

abbrev pub column_of : ColumnTree → ColumnDef
column_of column = record { name = column.name; kind = kind_of column.kind; not_null = column.not_null }

-- The number of the column that a key names. A name of no column stands for a number past them,
-- each name for one of its own.
abbrev pub part_of : List ColumnTree → List (List ℕ) → List ℕ → ℕ
part_of columns names name =
    let index = position_or_len (λ (column : ColumnTree). same_name column.name name) columns in
    index + (if index == length columns then position_or_len (same_name name) names else 0)

-- A primary key is named PRIMARY, and one without a name `k` and its number.
abbrev pub written_name : ℕ → Option (List ℕ) → List ℕ
written_name number None = codes "k" ++ decimal number
written_name number (Some name) = name

abbrev pub key_of : List ColumnTree → ℕ × KeyTree → KeyDef
key_of columns numbered =
    let key = numbered.1 in record {
      name = if key.primary then codes "PRIMARY" else written_name numbered.0 key.name;
      unique = key.unique;
      primary = key.primary;
      parts = map (part_of columns key.columns) key.columns;
    }

-- the definition that a tree gives; keys are numbered from 1 on
abbrev pub def_of : CreateTree → TableDef
def_of tree = record {
  name = tree.name.name;
  columns = map column_of tree.columns;
  keys = map (key_of tree.columns) (enumerate_from 1 tree.keys);
}

-- how a fault of a definition is called; want of memory is none
abbrev pub table_kind : TableFault → Option ScriptKind
table_kind table.TooManyTables = Some script.TooManyTables
table_kind table.TooManyColumns = Some script.TooManyColumns
table_kind table.TooManyKeys = Some script.TooManyKeys
table_kind table.TooManyParts = Some script.TooManyParts
table_kind table.DuplicateName = Some script.DuplicateName
table_kind table.UnknownColumn = Some script.UnknownColumn
table_kind table.SecondPrimary = Some script.SecondPrimary
table_kind table.OutOfMemory = None

-- A CREATE TABLE puts its table behind the others.
pub record Creates (tables : List Table) (tree : CreateTree) (after : List Table) : Type 0 where
  pub faultless : table_faults tables (def_of tree) ≡ []
  pub after_is : after ≡ tables ++ new_table (def_of tree) ∷ []

-- A CREATE TABLE has this fault: the first one that its definition has, at the table's name.
pub record CantCreate (tables : List Table) (tree : CreateTree) (fault : Fault) : Type 0 where
  pub told : TableFault
  pub kind : ScriptKind
  pub first : slice_get (table_faults tables (def_of tree)) 0 ≡ Some told
  pub called : table_kind told ≡ Some kind
  pub fault_is : fault ≡ fault_at kind tree.name.place
