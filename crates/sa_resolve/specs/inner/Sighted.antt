-- What the code keeps of the tables of FROM that it has gone through.
use Rattle.std.specs.Prelude.{◌≡◌, ℕ, List, [], map, length, take, slice_get, Option, Some, None, option_map, nat_lt, if◌then◌else◌}
use Rattle.std.specs.List.{enumerate_from, flat_map, position, range_with_len}
use Rattle.std.specs.Str.{bytes_eq}
use Rattle.indexmap.specs.IndexMap.{get_by}
use Rattle.sa_ast.specs.declared.select.TableTree.{TableTree}
use Rattle.sa_table.specs.declared.def.ColumnDef.{ColumnDef}
use Rattle.sa_table.specs.Create.{same_name}
use Rattle.sa_table.specs.Table.{Table, table_at}
use Rattle.sa_query.specs.declared.group.Column.{Column}
use Rattle.sa_resolve.specs.declared.sight.Sight.{Sight}
use Rattle.sa_resolve.specs.declared.sight.Source.{Source as Item}
use Rattle.sa_resolve.specs.Sight.{columns_named, columns_of, source_named}
use Rattle.sa_resolve.specs.Tables.{sources_of}
use Rattle.sa_resolve.specs.inner.Indexed.{named_of}
use Rattle.sa_resolve.specs.inner.Names.{all_columns, source_at}

-- a position, if it is one of the first
abbrev pub below : (count : ℕ) → Option ℕ → Option ℕ
below count None = None
below count (Some number) = if nat_lt number count then Some number else None

-- the columns of the table with this number, if there is one
abbrev pub columns_by : List Table → Option ℕ → List ColumnDef
columns_by tables None = []
columns_by tables (Some number) = (table_at tables number).def.columns

-- the first columns of the table at this position
abbrev pub columns_to : (table count : ℕ) → List Column
columns_to table count = map (λ column. record { table = table; column = column }) (range_with_len 0 count)

-- the number of the column with this name of a table of FROM
abbrev pub number_in : Option Item → (name : List ℕ) → Option ℕ
number_in None name = None
number_in (Some item) name = position (λ (def : ColumnDef). same_name def.name name) item.defs.now

-- The code has these tables of FROM and no other.
pub record HasTables (tables : List Table) (from : List TableTree) (sight : Sight) : Type 0 where
  pub sources : map source_at sight.sources.items ≡ sources_of tables from
  pub defs : map (λ (item : Item). item.defs.now) sight.sources.items
      ≡ map (columns_of tables) (sources_of tables from)
  pub columns : sight.columns.items
      ≡ flat_map (all_columns tables) (enumerate_from 0 (sources_of tables from))
  pub names : (name : List ℕ) → get_by (λ key. bytes_eq name key.now) sight.names
      ≡ named_of (columns_named tables (sources_of tables from) name)
  pub aliases : (alias : List ℕ) → get_by (λ key. bytes_eq alias key.now) sight.aliases
      ≡ option_map (λ numbered. numbered.0) (source_named (sources_of tables from) alias)
  pub firsts : (number : ℕ) (item : Item) → slice_get sight.sources.items number ≡ Some item →
      item.first ≡ length (flat_map (all_columns tables)
      (take number (enumerate_from 0 (sources_of tables from))))
