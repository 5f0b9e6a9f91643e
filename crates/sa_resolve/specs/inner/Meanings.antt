-- What a name stands for in the code, and what is read of it.
use Rattle.std.specs.Prelude.{◌≡◌, ℕ, List, slice_get, Option, Some, None, option_map}
use Rattle.sa_cond.specs.Interval.{ExprKind, kind_of_cell}
use Rattle.sa_table.specs.declared.def.ColumnDef.{ColumnDef}
use Rattle.sa_table.specs.Sound.{no_column}
use Rattle.sa_table.specs.Table.{Table}
use Rattle.sa_query.specs.declared.group.Column.{Column}
use Rattle.sa_query.specs.Kinds.{cells_of}
use Rattle.sa_resolve.specs.declared.alias.Alias.{Alias as Kept}
use Rattle.sa_resolve.specs.declared.scope.Meaning.{Meaning}
use Rattle.sa_resolve.specs.declared.scope.Meaning.TheVariants as meanings
use Rattle.sa_resolve.specs.declared.sight.Sight.{Sight}
use Rattle.sa_resolve.specs.declared.sight.Source.{Source as Item}
use Rattle.sa_resolve.specs.Expression.{Scope, column_kind, column_reading}
use Rattle.sa_resolve.specs.Reading.{Reading, faulty_name, named}
use Rattle.sa_resolve.specs.Selected.{Selected}
use Rattle.sa_resolve.specs.inner.Gist.{gist_at, gist_of}

-- The code keeps this of a select item that has an alias.
pub record IsAlias (listed : List Selected) (kept : Kept) (item : Reading) : Type 0 where
  pub facts : gist_at kept.facts ≡ gist_of item
  pub row : kept.row.now ≡ item.row
  pub listed_is : option_map (λ (other : Selected). other.item) (slice_get listed kept.item) ≡ Some item

-- the definition of a column as the code finds it
abbrev pub def_at : List Item → Column → Option ColumnDef
def_at items column = among_defs (slice_get items column.table)
  where
    among_defs : Option Item → Option ColumnDef
    among_defs None = None
    among_defs (Some item) = slice_get item.defs.now column.column

abbrev pub def_or : Option ColumnDef → ColumnDef
def_or None = no_column
def_or (Some def) = def

-- the kind of a column as the code finds it
abbrev pub kind_by : Sight → Column → ExprKind
kind_by sight column = kind_of_cell (cells_of (def_or (def_at sight.sources.items column)).kind)

module _ (tables : List Table) (scope : Scope) (listed : List Selected) (sight : Sight) (place : ℕ) where
  -- a name of this column is read so
  pub record IsColumn (column : Column) (one : Reading) : Type 0 where
    pub is : one ≡ column_reading tables scope place column
    pub kind : kind_by sight column ≡ column_kind tables scope.sources column

  -- a name of a select item that the code keeps is read so
  pub record IsItem (kept : Kept) (one : Reading) : Type 0 where
    pub item : Reading
    pub alias : IsAlias listed kept item
    pub is : one ≡ named place item

  -- A name that has this meaning for the code is read so.
  abbrev pub Stands : Meaning → Reading → Type 0
  Stands (meanings.Column column) one = IsColumn column one
  Stands (meanings.Item kept) one = IsItem kept one
  Stands (meanings.Wrong kind) one = one ≡ faulty_name kind place
