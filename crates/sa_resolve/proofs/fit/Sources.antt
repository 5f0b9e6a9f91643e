-- The tables of FROM, where nothing is wrong with them, and the columns that are seen in them.
use Rattle.std.proofs.Common.{◌≡◌, ◌⊎◌, inl, inr, ℕ, ◌+◌, ◌<◌, ◌≤◌, false, ◌==◌, List, [], ◌∷◌, ◌++◌, map, length, get_or, take, Option, Some, None, option_map, refl, sym, ap, ◌∙◌, subst, arith, length-take}
use Rattle.std.specs.Prelude.{unwrap_or, IsSomeAnd, All}
use Rattle.std.specs.List.{AllByRecursion, enumerate_from, slice_get, list_any}
use Rattle.std.proofs.lemmas.Bool.{eqb-false, cases_lt}
use Rattle.std.proofs.lemmas.List.{length-map, get_or-take, take-map}
use Rattle.std.proofs.lemmas.List.Elements.{All-from_recursion, All-map, All-weaker}
use Rattle.std.proofs.lemmas.List.FromFn.{get_or-enumerate_from, length-enumerate_from}
use Rattle.std.proofs.lemmas.List.Quantifiers.{position-Some}
use Rattle.std.proofs.lemmas.Option.{slice_get-map, slice_get-get_or}
use Rattle.sa_ast.specs.declared.select.TableTree.{TableTree}
use Rattle.sa_cond.specs.Interval.{kind_of_cell}
use Rattle.sa_table.specs.Create.{same_name}
use Rattle.sa_table.specs.Sound.{no_column}
use Rattle.sa_table.specs.Table.{Table, no_table, table_at}
use Rattle.sa_query.specs.declared.group.Column.{Column}
use Rattle.sa_query.specs.declared.query.TableUse.{TableUse}
use Rattle.sa_query.specs.declared.refusal.ResolveKind.TheVariants.{UnknownTable, DuplicateAlias, TooManyTables}
use Rattle.sa_query.specs.Kinds.{cells_of, column_cells, column_kinds}
use Rattle.sa_query.specs.WellTyped.{HasColumn}
use Rattle.sa_resolve.specs.Expression.{column_kind}
use Rattle.sa_resolve.specs.Fault.{told}
use Rattle.sa_resolve.specs.Resolved.{table_use}
use Rattle.sa_resolve.specs.Sight.{Source, called, source_of, table_named, columns_of}
use Rattle.sa_resolve.specs.Tables.{is_none, sources_of, table_faults, from_faults}
use Rattle.sa_resolve.proofs.fit.Lists.{none-in, none-left, none-right, untold, each-weaker}
use Rattle.sa_resolve.proofs.fit.Names.{no_source, IsSeen}

module _ (tables : List Table) where
  -- A source is a table that is there.
  pub record IsTabled (source : Source) : Type 0 where
    pub number : ℕ
    pub is : source.table ≡ Some number
    pub there : number < length tables

  tabled_by : (name : List ℕ) (found : Option ℕ) → table_named tables name ≡ found → is_none found
      ≡ false
      → (number : ℕ) × (table_named tables name ≡ Some number) × (number < length tables)
  tabled_by name None is some = absurd cc
  tabled_by name (Some number) is some = (
    number,
    is,
    (position-Some (λ (table : Table). same_name table.def.name name) tables number
        no_table is).0,
  )

  tabled : (tree : TableTree) → is_none (table_named tables tree.name.name) ≡ false
      → IsTabled (source_of tables tree)
  tabled tree some =
      let there = tabled_by tree.name.name (table_named tables tree.name.name) refl some in
      record { number = there.0; is = there.1; there = there.2 }

  -- what is known of each table of FROM
  pub record IsRight (numbered : ℕ × TableTree) : Type 0 where
    pub found : is_none (table_named tables numbered.1.name.name) ≡ false
    pub few : numbered.0 == 8 ≡ false

  right : (from : List TableTree) (numbered : ℕ × TableTree) → table_faults tables from numbered
      ≡ [] → IsRight numbered
  right from (number, tree) none =
      let unknown =
      told (is_none (table_named tables tree.name.name)) UnknownTable tree.name.place in
      let double =
      told (list_any (λ (earlier : TableTree). same_name (called earlier).name
      (called tree).name) (take number from)) DuplicateAlias (called tree).place in
      record {
        found = untold (is_none (table_named tables tree.name.name)) UnknownTable tree.name.place
            (none-left unknown double
            (none-left (unknown ++ double) (told (number == 8) TooManyTables tree.name.place)
            none));
        few =
            untold (number == 8) TooManyTables tree.name.place
            (none-right (unknown ++ double) (told (number == 8) TooManyTables tree.name.place)
            none);
      }

  module _ (from : List TableTree) (none : from_faults tables from ≡ []) where
    all_right : AllByRecursion IsRight (enumerate_from 0 from)
    all_right =
        each-weaker (λ numbered. table_faults tables from numbered ≡ []) IsRight (right from)
        (enumerate_from 0 from) (none-in (table_faults tables from) (enumerate_from 0 from)
        none)

    right_at : (k : ℕ) (d : TableTree) → k < length from → IsRight (k, get_or from k d)
    right_at k d lt =
        let start : 0 + k ≡ k = omega arith in
        let is : get_or (enumerate_from 0 from) k (k, d) ≡ (k, get_or from k d) =
        get_or-enumerate_from 0 from k (k, d) lt ∙ ap (λ number. (number, get_or from k d))
        start in
        subst IsRight is (All-from_recursion IsRight (enumerate_from 0 from) all_right k (k, d)
        (omega (arith, length-enumerate_from 0 from)))

    all_tabled : All IsTabled (sources_of tables from)
    all_tabled =
        All-map IsTabled (source_of tables) from
        (λ k d lt. tabled (get_or from k d) (right_at k d lt).found)

    -- the source at this place is a table that is there
    pub tabled_at : (k : ℕ) → k < length (sources_of tables from)
        → IsTabled (get_or (sources_of tables from) k no_source)
    tabled_at k lt = all_tabled k no_source lt

    used_there : (source : Source) → IsTabled source → (table_use source).table < length tables
    used_there source is =
        subst (λ (found : Option ℕ). unwrap_or found 0 < length tables) (sym is.is) is.there

    -- The tables of a query are there.
    pub uses_there : All (λ (used : TableUse). used.table < length tables)
        (map table_use (sources_of tables from))
    uses_there =
        All-map (λ (used : TableUse). used.table < length tables) table_use (sources_of tables from)
        (All-weaker IsTabled (λ (source : Source). (table_use source).table < length tables)
        used_there (sources_of tables from) all_tabled)

    many : (d : TableTree) → 8 < length from → ⊥
    many d lt = eqb-false 8 8 (right_at 8 d lt).few refl

  few_by : (from : List TableTree) → from_faults tables from ≡ [] → (8 < length from) ⊎
      (length from ≤ 8) → length from ≤ 8
  few_by [] none either = omega arith
  few_by (tree ∷ from) none (inl lt) = absurd (many (tree ∷ from) none tree lt)
  few_by (tree ∷ from) none (inr few) = few

  pub few : (from : List TableTree) → from_faults tables from ≡ []
      → length (map table_use (sources_of tables from)) ≤ 8
  few from none =
      let same : length (map table_use (sources_of tables from)) ≡ length from =
      length-map (sources_of tables from) table_use ∙ length-map from (source_of tables) in
      rw same (few_by from none (cases_lt 8 (length from)))

-- The sources of one list are the first of another.
pub record IsFront (front sources : List Source) : Type 0 where
  pub within : (place : ℕ) → place < length front → place < length sources
  pub same : (place : ℕ) → place < length front → get_or front place no_source
      ≡ get_or sources place no_source

pub front_itself : (sources : List Source) → IsFront sources sources
front_itself sources = record { within = λ place lt. lt; same = λ place lt. refl }

front_take : (sources : List Source) (count : ℕ) → IsFront (take count sources) sources
front_take sources count = record {
  within = λ place lt. omega (arith, length-take count sources);
  same = λ place lt. let few : place < count =
      omega (arith, length-take count sources) in get_or-take count sources place no_source few;
}

pub front_of : (tables : List Table) (from : List TableTree) (count : ℕ)
    → IsFront (sources_of tables (take count from)) (sources_of tables from)
front_of tables from count =
    subst (λ front. IsFront front (sources_of tables from)) (take-map (source_of tables) count from)
    (front_take (sources_of tables from) count)

-- A column that is seen is there, and of a kind.
pub record IsThere (tables : List Table) (sources front : List Source) (seen : Column) : Type
    0 where
  pub has : HasColumn tables (map table_use sources) seen.table seen.column
  pub is : kind_of_cell ((column_kinds tables (map table_use sources)).column seen.table
      seen.column) ≡ column_kind tables front seen

module _ (tables : List Table) (sources front : List Source) (is_front : IsFront front sources)
    (tabled : (place : ℕ) → place < length sources
    → IsTabled tables (get_or sources place no_source)) where
  -- at a source that is a table
  at_source : (seen : Column) (alias : List ℕ) (number : ℕ) → get_or front seen.table no_source
      ≡ record { alias = alias; table = Some number }
      → slice_get (map table_use sources) seen.table
      ≡ Some (record { table = number; alias = alias })
      → IsSeen tables front seen → IsThere tables sources front seen
  at_source seen alias number source used is = record {
    has =
        subst
        (λ (used : Option TableUse). IsSomeAnd used
        (λ used. seen.column < length (table_at tables used.table).def.columns)) (sym used)
        (subst (λ (source : Source). seen.column < length (columns_of tables source)) source
        is.column);
    is = ap (λ used. kind_of_cell (column_cells tables used seen.column)) used
        ∙ sym
        (ap (λ source. kind_of_cell
        (cells_of (get_or (columns_of tables source) seen.column no_column).kind)) source);
  }

  pub seen_there : (seen : Column) → IsSeen tables front seen → IsThere tables sources front seen
  seen_there seen is =
      let within = is_front.within seen.table is.table in
      let one = tabled seen.table within in
      let source = get_or sources seen.table no_source in
      let literal : source ≡ record { alias = source.alias; table = Some one.number } =
      ap (λ (table : Option ℕ). record { alias = source.alias; table = table }) one.is in
      at_source seen source.alias one.number (is_front.same seen.table is.table ∙ literal)
      (slice_get-map table_use sources seen.table ∙ ap (option_map table_use)
      (slice_get-get_or sources seen.table no_source within ∙ ap (λ source. Some source) literal))
      is
