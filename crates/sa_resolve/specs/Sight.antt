-- Which tables and aliases a part of a SELECT sees, and what a name stands for there.
-- Source: MariaDB Knowledge Base, "Identifier Qualifiers", "SELECT" and "GROUP BY".
use Rattle.std.specs.Prelude.{ℕ, List, [], ◌∷◌, Option, Some, None, option_map, option_and_then, find}
use Rattle.std.specs.List.{flat_map, enumerate_from, position}
use Rattle.sa_ast.specs.declared.name.NameTree.{NameTree}
use Rattle.sa_ast.specs.declared.select.TableTree.{TableTree}
use Rattle.sa_table.specs.declared.def.ColumnDef.{ColumnDef}
use Rattle.sa_table.specs.Create.{same_name}
use Rattle.sa_table.specs.Table.{Table, table_at}
use Rattle.sa_query.specs.declared.group.Column.{Column}

-- A table of FROM: the name by which the statement calls it, and its number if there is one.
pub record Source : Type 0 where
  pub alias : List ℕ
  pub table : Option ℕ

-- the number of the table with this name
abbrev pub table_named : List Table → List ℕ → Option ℕ
table_named tables name = position (λ (table : Table). same_name table.def.name name) tables

-- the name that is written last of a table and its alias
abbrev pub called : TableTree → NameTree
called tree = called_by tree.alias
  where
    called_by : Option NameTree → NameTree
    called_by None = tree.name
    called_by (Some alias) = alias

abbrev pub source_of : List Table → TableTree → Source
source_of tables tree = record {
  alias = (called tree).name;
  table = table_named tables tree.name.name;
}

-- the columns of a table of FROM; one that isn't there has none
abbrev pub columns_of : List Table → Source → List ColumnDef
columns_of tables source = columns_at source.table
  where
    columns_at : Option ℕ → List ColumnDef
    columns_at None = []
    columns_at (Some table) = (table_at tables table).def.columns

-- the column with this name of a table of FROM
abbrev pub column_in : List Table → (name : List ℕ) → ℕ × Source → Option Column
column_in tables name (number, source) =
    option_map (λ column. record { table = number; column = column })
    (position (λ (def : ColumnDef). same_name def.name name) (columns_of tables source))

abbrev pub as_list : {A : Type 0} → Option A → List A
as_list None = []
as_list (Some one) = one ∷ []

-- the columns with this name of all tables in sight
abbrev pub columns_named : List Table → List Source → (name : List ℕ) → List Column
columns_named tables sources name =
    flat_map (λ numbered. as_list (column_in tables name numbered)) (enumerate_from 0 sources)

-- the first table in sight with this alias, and its position
abbrev pub source_named : List Source → (alias : List ℕ) → Option (ℕ × Source)
source_named sources alias =
    find (λ numbered. same_name numbered.1.alias alias) (enumerate_from 0 sources)

-- What a name stands for: the one of its kind, none, or several.
pub data Found (A : Type 0) : Type 0 where
  one : A → Found A
  none : Found A
  several : Found A

abbrev pub only_one : {A : Type 0} → List A → Found A
only_one [] = none
only_one (first ∷ []) = one first
only_one (first ∷ second ∷ others) = several

-- the column of a name with its table before it
abbrev pub qualified : List Table → List Source → (alias name : List ℕ) → Found Column
qualified tables sources alias name =
    only_one (as_list (option_and_then (column_in tables name) (source_named sources alias)))

-- the column of a plain name
abbrev pub plain : List Table → List Source → (name : List ℕ) → Found Column
plain tables sources name = only_one (columns_named tables sources name)
