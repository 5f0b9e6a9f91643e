-- The column of a name with its table before it, and the kinds of the columns that are found.
use Rattle.std.proofs.Common.{◌≡◌, ℕ, ◌<◌, ◌≤◌, List, [], length, take, Option, Some, None, option_map, refl, sym, ap, subst, ◌∙◌, arith}
use Rattle.std.proofs.lemmas.List.{length-map, length-take-le}
use Rattle.std.proofs.lemmas.Option.{slice_get-get_or, slice_get-map, unwrap_or-slice_get}
use Rattle.std.specs.List.{position, slice_get}
use Rattle.std.specs.Option.{option_and_then, unwrap_or}
use Rattle.std.specs.Prelude.{slice_index_or}
use Rattle.sa_ast.specs.declared.select.TableTree.{TableTree}
use Rattle.sa_cond.specs.Interval.{kind_of_cell}
use Rattle.sa_table.specs.declared.def.ColumnDef.{ColumnDef}
use Rattle.sa_table.specs.Create.{same_name}
use Rattle.sa_table.specs.Sound.{no_column}
use Rattle.sa_table.specs.Table.{Table}
use Rattle.sa_query.specs.declared.group.Column.{Column}
use Rattle.sa_query.specs.Kinds.{cells_of}
use Rattle.sa_resolve.specs.declared.sight.Sight.{Sight}
use Rattle.sa_resolve.specs.declared.sight.Source.{Source as Item}
use Rattle.sa_resolve.specs.Expression.{column_kind}
use Rattle.sa_resolve.specs.Sight.{Found, Source, one, none, as_list, column_in, columns_of, only_one, qualified, source_named, source_of}
use Rattle.sa_resolve.specs.Tables.{sources_of}
use Rattle.sa_resolve.specs.inner.Meanings.{def_at, def_or, kind_by}
use Rattle.sa_resolve.specs.inner.Names.{IsSight}
use Rattle.sa_resolve.specs.inner.Sighted.{number_in}
use Rattle.sa_resolve.proofs.names.Aliased.{IsThere, found_there}
use Rattle.sa_resolve.proofs.names.Positions.{slice_get-take}

module _ (tables : List Table) (from : List TableTree) (sight : Sight) (is : IsSight tables from sight) where
  abbrev all : List Source
  all = sources_of tables from

  -- the columns that are kept of a table
  same_defs : (n : ℕ) → option_map (λ (item : Item). item.defs.now) (slice_get sight.sources.items n) ≡ option_map (columns_of tables) (slice_get all n)
  same_defs n =
      sym (slice_get-map (λ (item : Item). item.defs.now) sight.sources.items n) ∙ ap (λ defs. slice_get defs n) is.defs ∙ slice_get-map (columns_of tables) all n

  numbers : (name : List ℕ) (source : Source) (kept : Option Item) → option_map (λ (item : Item). item.defs.now) kept ≡ Some (columns_of tables source)
      → number_in kept name ≡ position (λ (def : ColumnDef). same_name def.name name) (columns_of tables source)
  numbers name source None e = let nothing : ◌≡◌ {A = Option (List ColumnDef)} None (Some (columns_of tables source)) = e in absurd cc
  numbers name source (Some item) e =
      let some : ◌≡◌ {A = Option (List ColumnDef)} (Some item.defs.now) (Some (columns_of tables source)) = e in
      let same : item.defs.now ≡ columns_of tables source = cc in
      ap (λ (defs : List ColumnDef). position (λ (def : ColumnDef). same_name def.name name) defs) same

  module _ (count : ℕ) (alias name : List ℕ) where
    abbrev seen : List Source
    seen = take count all

    abbrev column : (table : ℕ) → ℕ → Column
    column table index = record { table = table; column = index }

    by_found : (found : Option (ℕ × Source)) (table : ℕ) → source_named seen alias ≡ found → Some table ≡ option_map (λ numbered. numbered.0) found
        → only_one (as_list (option_and_then (column_in tables name) found))
        ≡ only_one (as_list (option_map (column table) (number_in (slice_get sight.sources.items table) name)))
    by_found None table e some = let nothing : ◌≡◌ {A = Option ℕ} (Some table) None = some in absurd cc
    by_found (Some (n, source)) table e some =
        let number : ◌≡◌ {A = Option ℕ} (Some table) (Some n) = some in
        let same : table ≡ n = cc in
        let there : IsThere alias 0 seen (n, source) = found_there alias 0 seen (n, source) e in
        let place : there.place ≡ n = omega (arith, there.number_is) in
        let stands : slice_get all n ≡ Some source = slice_get-take count all n source (subst (λ (at : ℕ). slice_get seen at ≡ Some source) place there.stands) in
        let defs : option_map (λ (item : Item). item.defs.now) (slice_get sight.sources.items n) ≡ Some (columns_of tables source) =
        same_defs n ∙ ap (option_map (columns_of tables)) stands in
        subst (λ (at : ℕ). only_one (as_list (column_in tables name (n, source)))
        ≡ only_one (as_list (option_map (column at) (number_in (slice_get sight.sources.items at) name)))) (sym same)
        (ap (λ (index : Option ℕ). only_one (as_list (option_map (column n) index))) (sym (numbers name source (slice_get sight.sources.items n) defs)))

    -- the table is found first, and then the column in it
    pub qualified-is : (table : ℕ) → Some table ≡ option_map (λ numbered. numbered.0) (source_named seen alias)
        → qualified tables seen alias name ≡ only_one (as_list (option_map (column table) (number_in (slice_get sight.sources.items table) name)))
    qualified-is table some = by_found (source_named seen alias) table refl some

    pub qualified-none : None ≡ option_map (λ numbered. numbered.0) (source_named seen alias) → qualified tables seen alias name ≡ none
    qualified-none nothing = by (source_named seen alias) nothing
      where
        by : (found : Option (ℕ × Source)) → None ≡ option_map (λ numbered. numbered.0) found → only_one (as_list (option_and_then (column_in tables name) found)) ≡ none
        by None e = refl
        by (Some found) e = let other : ◌≡◌ {A = Option ℕ} None (Some found.0) = e in absurd cc

  def_from : (n index : ℕ) (source : Source) (kept : Option Item) → option_map (λ (item : Item). item.defs.now) kept ≡ Some (columns_of tables source)
      → slice_get sight.sources.items n ≡ kept → def_or (def_at sight.sources.items (record { table = n; column = index })) ≡ slice_index_or (columns_of tables source) index no_column
  def_from n index source None e at = let nothing : ◌≡◌ {A = Option (List ColumnDef)} None (Some (columns_of tables source)) = e in absurd cc
  def_from n index source (Some item) e at =
      let some : ◌≡◌ {A = Option (List ColumnDef)} (Some item.defs.now) (Some (columns_of tables source)) = e in
      let same : item.defs.now ≡ columns_of tables source = cc in
      rw at (or_none (slice_get item.defs.now index) ∙ unwrap_or-slice_get item.defs.now index no_column ∙ ap (λ (defs : List ColumnDef). slice_index_or defs index no_column) same)
    where
      or_none : (found : Option ColumnDef) → def_or found ≡ unwrap_or found no_column
      or_none None = refl
      or_none (Some def) = refl

  abbrev no_source : Source
  no_source = record { alias = []; table = None }

  -- the kind of a column of the first tables
  pub kind_by-is : (count : ℕ) (column : Column) → count ≤ length from → column.table < count → kind_by sight column ≡ column_kind tables (take count all) column
  kind_by-is count column few there =
      let every : length all ≡ length from = length-map from (source_of tables) in
      let first : length (take count all) ≡ count = length-take-le count all (omega (arith, every)) in
      let source : Source = slice_index_or (take count all) column.table no_source in
      let stands : slice_get (take count all) column.table ≡ Some source = slice_get-get_or (take count all) column.table no_source (omega (arith, first)) in
      let defs : option_map (λ (item : Item). item.defs.now) (slice_get sight.sources.items column.table) ≡ Some (columns_of tables source) =
      same_defs column.table ∙ ap (option_map (columns_of tables)) (slice_get-take count all column.table source stands) in
      ap (λ (def : ColumnDef). kind_of_cell (cells_of def.kind))
      (def_from column.table column.column source (slice_get sight.sources.items column.table) defs refl)

-- the column of a name with its table before it is of one of the tables
pub qualified-within : (tables : List Table) (sources : List Source) (alias name : List ℕ) (column : Column) → qualified tables sources alias name ≡ one column
    → column.table < length sources
qualified-within tables sources alias name column e = by (source_named sources alias) refl e
  where
    in_table : (n : ℕ) (index : Option ℕ) → n < length sources → only_one (as_list (option_map (λ (i : ℕ). record { table = n; column = i }) index)) ≡ one column
        → column.table < length sources
    in_table n None there e = let nothing : ◌≡◌ {A = Found Column} none (one column) = e in absurd cc
    in_table n (Some i) there e =
        let some : ◌≡◌ {A = Found Column} (one (record { table = n; column = i })) (one column) = e in
        let same : ◌≡◌ {A = Column} (record { table = n; column = i }) column = cc in
        omega (arith, there, ap (λ (c : Column). c.table) same)

    by : (found : Option (ℕ × Source)) → source_named sources alias ≡ found → only_one (as_list (option_and_then (column_in tables name) found)) ≡ one column
        → column.table < length sources
    by None at e = let nothing : ◌≡◌ {A = Found Column} none (one column) = e in absurd cc
    by (Some (n, source)) at e =
        let there : IsThere alias 0 sources (n, source) = found_there alias 0 sources (n, source) at in
        in_table n (position (λ (def : ColumnDef). same_name def.name name) (columns_of tables source)) (omega (arith, there.number_is, there.within)) e
