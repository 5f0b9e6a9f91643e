-- What an index of names has, and what stands there once a name more is put into it.
use Rattle.std.specs.Prelude.{◌≡◌, ⊤, ℕ, ◌==◌, List, [], ◌∷◌, Option, Some, None, option_map, if◌then◌else◌}
use Rattle.std.specs.List.{position}
use Rattle.sa_table.specs.declared.def.ColumnDef.{ColumnDef}
use Rattle.sa_table.specs.Create.{same_name}
use Rattle.sa_table.specs.Table.{Table}
use Rattle.sa_query.specs.declared.group.Column.{Column}
use Rattle.sa_resolve.specs.declared.alias.Alias.{Alias as Kept}
use Rattle.sa_resolve.specs.declared.sight.Lookup.{Lookup}
use Rattle.sa_resolve.specs.declared.sight.Lookup.TheVariants.{One, Nothing, Several}
use Rattle.sa_resolve.specs.declared.sight.Named.{Named}
use Rattle.sa_resolve.specs.declared.sight.Sight.{Sight}
use Rattle.sa_resolve.specs.Expression.{Alias, Scope, column_kind}
use Rattle.sa_resolve.specs.Selected.{Selected}
use Rattle.sa_resolve.specs.Sight.{Found, one, none, several}
use Rattle.sa_resolve.specs.inner.Meanings.{IsAlias, kind_by}

-- what stands under the name of one alias more, where this stood
abbrev pub with_alias : Kept → Option (Lookup Kept) → Option (Lookup Kept)
with_alias kept None = Some (One kept)
with_alias kept (Some found) = Some Several

-- what the code has found
abbrev pub found_in : {A : Type 0} → Lookup A → Found A
found_in (One it) = one it
found_in Nothing = none
found_in Several = several

-- the column of a table that has this name
abbrev pub column_of : (table : ℕ) → List ColumnDef → (name : List ℕ) → Option Column
column_of table defs name =
    option_map (λ column. record { table = table; column = column })
    (position (λ (def : ColumnDef). same_name def.name name) defs)

-- the table of the second column of a name, with one in this table more; of one table the first counts
abbrev pub second_with : (first table : ℕ) → Option ℕ → Option ℕ
second_with first table None = if first == table then None else Some table
second_with first table (Some second) = Some second

abbrev pub with_table : Named → (table : ℕ) → Named
with_table named table =
    record named { second = second_with named.column.table table named.second }

-- what stands under the name of one column more, where this stood
abbrev pub with_column : Option Named → Column → Named
with_column None column = record { column = column; second = None }
with_column (Some named) column = with_table named column.table

-- the same, if there is one more
abbrev pub with_columns : Option Named → Option Column → Option Named
with_columns before None = before
with_columns before (Some column) = Some (with_column before column)

-- what is kept of the columns with one name, of which each table has one at most
abbrev pub named_of : List Column → Option Named
named_of [] = None
named_of (first ∷ []) = Some (record { column = first; second = None })
named_of (first ∷ second ∷ others) = Some (record { column = first; second = Some second.table })

-- What the code has found among the aliases of a select list is what is found there.
abbrev pub IsMeant : List Selected → Lookup Kept → Found Alias → Type 0
IsMeant listed Nothing none = ⊤
IsMeant listed (One kept) (one alias) = IsAlias listed kept alias.item
IsMeant listed Several several = ⊤
IsMeant listed kept found = ⊥

-- The kind of the column that the code has found is that of the scope.
abbrev pub HasKind : List Table → Scope → Sight → Lookup Column → Type 0
HasKind tables scope sight (One column) = kind_by sight column ≡ column_kind tables scope.sources column
HasKind tables scope sight found = ⊤
