-- What the code keeps of the tables of FROM, their columns and the aliases of a select list.
use Rattle.std.specs.Prelude.{◌≡◌, ℕ, ◌≤◌, ⊤, Bool, false, List, map, length, take, nat_lt, slice_get, Option, Some, None, option_map, if◌then◌else◌}
use Rattle.std.specs.List.{enumerate_from, filter, flat_map}
use Rattle.std.specs.Str.{bytes_eq}
use Rattle.indexmap.specs.IndexMap.{get_by}
use Rattle.sa_ast.specs.declared.select.TableTree.{TableTree}
use Rattle.sa_table.specs.Create.{same_name}
use Rattle.sa_table.specs.Table.{Table}
use Rattle.sa_query.specs.declared.group.Column.{Column}
use Rattle.sa_resolve.specs.declared.alias.Alias.{Alias as Kept}
use Rattle.sa_resolve.specs.declared.alias.Aliases.{Aliases}
use Rattle.sa_resolve.specs.declared.scope.Scope.{Scope as View}
use Rattle.sa_resolve.specs.declared.scope.Seeks.{Seeks as Order}
use Rattle.sa_resolve.specs.declared.scope.Seeks.TheVariants as orders
use Rattle.sa_resolve.specs.declared.sight.Lookup.{Lookup}
use Rattle.sa_resolve.specs.declared.sight.Lookup.TheVariants.{One, Several}
use Rattle.sa_resolve.specs.declared.sight.Named.{Named}
use Rattle.sa_resolve.specs.declared.sight.Sight.{Sight}
use Rattle.sa_resolve.specs.declared.sight.Source.{Source as Item}
use Rattle.sa_resolve.specs.Expression.{Alias, Scope, never, first, last}
use Rattle.sa_resolve.specs.Selected.{Selected}
use Rattle.sa_resolve.specs.Sight.{Source, Found, one, none, several, columns_of, only_one, plain, source_named}
use Rattle.sa_resolve.specs.Tables.{sources_of}
use Rattle.sa_resolve.specs.inner.Meanings.{IsAlias}

-- a table of FROM as the code keeps it
abbrev pub source_at : Item → Source
source_at item = record { alias = item.called.now.name; table = item.table }

-- the columns of a numbered table of FROM
abbrev pub all_columns : List Table → ℕ × Source → List Column
all_columns tables (number, source) =
    map (λ numbered. record { table = number; column = numbered.0 })
    (enumerate_from 0 (columns_of tables source))

-- what is there of a name among the first tables
abbrev pub among : (count : ℕ) → Option Named → Found Column
among count None = none
among count (Some named) =
    if nat_lt named.column.table count
    then (if is_below named.second then several else one named.column)
    else none
  where
    is_below : Option ℕ → Bool
    is_below None = false
    is_below (Some second) = nat_lt second count

-- The code has these tables of FROM, and finds in them what their definition finds.
pub record IsSight (tables : List Table) (from : List TableTree) (sight : Sight) : Type 0 where
  pub sources : map source_at sight.sources.items ≡ sources_of tables from
  pub defs : map (λ (item : Item). item.defs.now) sight.sources.items
      ≡ map (columns_of tables) (sources_of tables from)
  pub columns : sight.columns.items
      ≡ flat_map (all_columns tables) (enumerate_from 0 (sources_of tables from))
  pub names : (count : ℕ) (name : List ℕ) → count ≤ length from →
      among count (get_by (λ key. bytes_eq name key.now) sight.names)
      ≡ plain tables (take count (sources_of tables from)) name
  pub aliases : (alias : List ℕ) → get_by (λ key. bytes_eq alias key.now) sight.aliases
      ≡ option_map (λ numbered. numbered.0) (source_named (sources_of tables from) alias)
  -- how many columns stand before those of a table
  pub firsts : (number : ℕ) (item : Item) → slice_get sight.sources.items number ≡ Some item →
      item.first ≡ length (flat_map (all_columns tables)
      (take number (enumerate_from 0 (sources_of tables from))))

-- what is kept under a name is what the name is among the aliases
abbrev pub IsFound : List Selected → Option (Lookup Kept) → Found Alias → Type 0
IsFound listed None none = ⊤
IsFound listed (Some (One kept)) (one alias) = IsAlias listed kept alias.item
IsFound listed (Some Several) several = ⊤
IsFound listed kept found = ⊥

-- The code has these aliases of a select list.
abbrev pub AreAliases : List Selected → List Alias → Aliases → Type 0
AreAliases listed aliases kept = (name : List ℕ) →
    IsFound listed (get_by (λ key. bytes_eq name key.now) kept.names)
    (only_one (filter (λ (alias : Alias). same_name alias.name name) aliases))

-- A plain name is sought among aliases when it is to be.
abbrev pub AreSought : List Selected → Scope → Order → Type 0
AreSought listed scope orders.Never = scope.seeks ≡ never
AreSought listed scope (orders.First kept) =
    (scope.seeks ≡ first) × AreAliases listed scope.aliases kept.now
AreSought listed scope (orders.Last kept) =
    (scope.seeks ≡ last) × AreAliases listed scope.aliases kept.now

-- The code sees what a part of a SELECT with this select list sees.
pub record Sees (tables : List Table) (scope : Scope) (listed : List Selected) (view : View) : Type 0 where
  pub from : List TableTree
  pub sight : IsSight tables from view.sight.now
  pub within : view.count ≤ length from
  pub sources : scope.sources ≡ take view.count (sources_of tables from)
  pub sought : AreSought listed scope view.seeks
