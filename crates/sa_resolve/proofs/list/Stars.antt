-- The columns of tables in sight, as the code has them in runs.
use Rattle.std.proofs.Common.{◌≡◌, ℕ, ◌+◌, ◌≤◌, List, [], ◌∷◌, ◌++◌, map, length, take, drop, get_or, Option, Some, None, option_map, refl, sym, ap, subst, ◌∙◌, arith}
use Rattle.std.proofs.lemmas.List.{length-map, append-nil, take_all}
use Rattle.std.proofs.lemmas.List.FromFn.{length-enumerate_from}
use Rattle.std.proofs.lemmas.Option.{none-some, same_Some, slice_get-map, get_or_from_slice_get}
use Rattle.std.specs.List.{flat_map, enumerate_from, slice_get}
use Rattle.sa_ast.specs.declared.select.TableTree.{TableTree}
use Rattle.sa_cond.specs.Interval.{kind_of_cell}
use Rattle.sa_table.specs.declared.def.ColumnDef.{ColumnDef}
use Rattle.sa_table.specs.Create.{same_name}
use Rattle.sa_table.specs.Sound.{no_column}
use Rattle.sa_table.specs.Table.{Table}
use Rattle.sa_query.specs.declared.group.Column.{Column}
use Rattle.sa_query.specs.Kinds.{cells_of}
use Rattle.sa_resolve.specs.declared.select.Run.{Run}
use Rattle.sa_resolve.specs.declared.sight.Sight.{Sight}
use Rattle.sa_resolve.specs.declared.sight.Source.{Source as Item}
use Rattle.sa_resolve.specs.Expression.{Scope, column_kind}
use Rattle.sa_resolve.specs.Selected.{Selected, column_item, star_of}
use Rattle.sa_resolve.specs.Sight.{Source, as_list, columns_of, source_named}
use Rattle.sa_resolve.specs.Tables.{sources_of}
use Rattle.sa_resolve.specs.inner.Listing.{IsRun, columns_in, run_of_source, starred}
use Rattle.sa_resolve.specs.inner.Meanings.{def_at, def_or, kind_by}
use Rattle.sa_resolve.specs.inner.Names.{IsSight, all_columns, source_at}
use Rattle.sa_resolve.proofs.list.Enumerated.{map-map, map-flat_map, map_numbered, flat_numbered, numbered_take, numbered_at, found_numbered, take_get, run_there, run_front, option_map_some}

take_none : {A : Type 0} (xs : List A) → take 0 xs ≡ []
take_none [] = refl
take_none (x ∷ xs) = refl

drop_none : {A : Type 0} (xs : List A) → drop 0 xs ≡ xs
drop_none [] = refl
drop_none (x ∷ xs) = refl

abbrev column_at : (number index : ℕ) → Column
column_at number index = record { table = number; column = index }

-- the definition of a column that is there
def_there : (items : List Item) (number index : ℕ) (item : Item) (def : ColumnDef)
    → slice_get items number ≡ Some item → slice_get item.defs.now index ≡ Some def
    → def_at items (record { table = number; column = index }) ≡ Some def
def_there items number index item def there is = rw there is

-- The code has the definitions of this table of FROM.
pub record HasTable (tables : List Table) (sight : Sight) (number : ℕ) (source : Source) : Type 0 where
  pub item : Item
  pub there : slice_get sight.sources.items number ≡ Some item
  pub defs : item.defs.now ≡ columns_of tables source

pub table_there : (tables : List Table) (from : List TableTree) (sight : Sight) → IsSight tables from sight
    → (number : ℕ) (source : Source) → slice_get (sources_of tables from) number ≡ Some source
    → HasTable tables sight number source
table_there tables from sight is number source there =
    let found : slice_get (map (λ (item : Item). item.defs.now) sight.sources.items) number
    ≡ Some (columns_of tables source) =
    ap (λ all. slice_get all number) is.defs
    ∙ slice_get-map (columns_of tables) (sources_of tables from) number
    ∙ ap (option_map (columns_of tables)) there in
    let item = option_map_some (λ (item : Item). item.defs.now) (slice_get sight.sources.items number)
    (columns_of tables source)
    (sym (slice_get-map (λ (item : Item). item.defs.now) sight.sources.items number) ∙ found) in
    record { item = item.0; there = item.1; defs = item.2 }

module _ (tables : List Table) (scope : Scope) (sight : Sight) where
  module _ (number : ℕ) (source : Source) (sources_there : slice_get scope.sources number ≡ Some source)
      (has : HasTable tables sight number source) where
    def_is : (index : ℕ) (def : ColumnDef) → slice_get (columns_of tables source) index ≡ Some def
        → def_at sight.sources.items (record { table = number; column = index }) ≡ Some def
    def_is index def there =
        def_there sight.sources.items number index has.item def has.there
        (ap (λ defs. slice_get defs index) has.defs ∙ there)

    item_is : (place index : ℕ) (def : ColumnDef) → slice_get (columns_of tables source) index ≡ Some def
        → column_item tables scope place number (index, def)
        ≡ starred tables scope sight place (record { table = number; column = index })
    item_is place index def there =
        ap (λ (found : Option ColumnDef). record (column_item tables scope place number (index, def)) {
          name =
              (def_or found).name;
        })
        (sym (def_is index def there))

    kind_is : (index : ℕ) (def : ColumnDef) → slice_get (columns_of tables source) index ≡ Some def
        → kind_by sight (record { table = number; column = index })
        ≡ column_kind tables scope.sources (record { table = number; column = index })
    kind_is index def there =
        ap (λ (found : Option ColumnDef). kind_of_cell (cells_of (def_or found).kind))
        (def_is index def there)
        ∙ ap (λ (def : ColumnDef). kind_of_cell (cells_of def.kind))
        (sym (get_or_from_slice_get (columns_of tables source) index def no_column there))
        ∙ ap (λ (source : Source). kind_of_cell (cells_of (get_or (columns_of tables source) index
        no_column).kind))
        (sym (get_or_from_slice_get scope.sources number source (record { alias = []; table = None })
        sources_there))

    star_is : (place : ℕ) → star_of tables scope place (number, source)
        ≡ map (starred tables scope sight place) (all_columns tables (number, source))
    star_is place =
        map_numbered (column_item tables scope place number)
        (λ numbered. starred tables scope sight place (record { table = number; column = numbered.0 }))
        0 (columns_of tables source) (λ k def there. item_is place (0 + k) def
        (subst (λ n. slice_get (columns_of tables source) n ≡ Some def) (omega arith) there))
        ∙ sym (map-map (starred tables scope sight place) (λ (numbered : ℕ × ColumnDef). record
        { table = number; column = numbered.0 })
        (enumerate_from 0 (columns_of tables source)))

    kinds_are : map (kind_by sight) (all_columns tables (number, source))
        ≡ map (column_kind tables scope.sources) (all_columns tables (number, source))
    kinds_are =
        map-map (kind_by sight) (λ (numbered : ℕ × ColumnDef). record { table = number; column = numbered.0 })
        (enumerate_from 0 (columns_of tables source))
        ∙ map_numbered (λ numbered. kind_by sight (record { table = number; column = numbered.0 }))
        (λ numbered. column_kind tables scope.sources (record { table = number; column = numbered.0 }))
        0 (columns_of tables source) (λ k def there. kind_is (0 + k) def
        (subst (λ n. slice_get (columns_of tables source) n ≡ Some def) (omega arith) there))
        ∙ sym (map-map (column_kind tables scope.sources) (λ (numbered : ℕ × ColumnDef). record
        { table = number; column = numbered.0 })
        (enumerate_from 0 (columns_of tables source)))

  -- a run that has the columns of these items
  pub run_is : (place : ℕ) (run : Run) (items : List Selected) (columns : List Column)
      → columns_in sight run ≡ columns → run.count ≡ length columns
      → items ≡ map (starred tables scope sight place) columns
      → map (kind_by sight) columns ≡ map (column_kind tables scope.sources) columns
      → IsRun tables scope sight place run items
  run_is place run items columns in_run count are kinds = record {
    items_are = are ∙ ap (map (starred tables scope sight place)) (sym in_run);
    count = count ∙ sym (length-map columns (starred tables scope sight place))
        ∙ ap (λ (all : List Selected). length all) (sym are);
    kinds = subst (λ all. map (kind_by sight) all ≡ map (column_kind tables scope.sources) all)
        (sym in_run) kinds;
  }

module _ (tables : List Table) (scope : Scope) (from : List TableTree) (sight : Sight)
    (is : IsSight tables from sight)
    (count : ℕ) (sees : scope.sources ≡ take count (sources_of tables from)) where
  in_all : (number : ℕ) (source : Source) → slice_get scope.sources number ≡ Some source
      → slice_get (sources_of tables from) number ≡ Some source
  in_all number source there =
      take_get count (sources_of tables from) number source (ap (λ all. slice_get all number) (sym sees)
      ∙ there)

  -- the columns of one table
  pub table_run : (place number : ℕ) (source : Source) (item : Item)
      → slice_get scope.sources number ≡ Some source → slice_get sight.sources.items number ≡ Some item
      → IsRun tables scope sight place (record { first = item.first; count = length item.defs.now })
      (star_of tables scope place (number, source))
  table_run place number source item there stands =
      let has = table_there tables from sight is number source (in_all number source there) in
      let same : has.item ≡ item = same_Some has.item item (sym has.there ∙ stands) in
      let defs : item.defs.now ≡ columns_of tables source = ap (λ (item : Item). item.defs.now) (sym same)
      ∙ has.defs in
      let columns = all_columns tables (number, source) in
      let length_is : length item.defs.now ≡ length columns =
      ap length defs ∙ sym (length-enumerate_from 0 (columns_of tables source))
      ∙ sym (length-map (enumerate_from 0 (columns_of tables source))
      (λ (numbered : ℕ × ColumnDef). column_at number numbered.0)) in
      let in_run : take (length item.defs.now) (drop item.first sight.columns.items)
      ≡ columns = run_columns number source item columns length_is (in_all number source there) stands in
      run_is tables scope sight place (record { first = item.first; count = length item.defs.now })
      (star_of tables scope place (number, source)) columns in_run length_is
      (star_is tables scope sight number source there has place)
      (kinds_are tables scope sight number source there has)
    where
      run_columns : (number : ℕ) (source : Source) (item : Item) (columns : List Column)
          → length item.defs.now ≡ length (all_columns tables (number, source))
          → slice_get (sources_of tables from) number ≡ Some source
          → slice_get sight.sources.items number ≡ Some item
          → take (length item.defs.now) (drop item.first sight.columns.items)
          ≡ all_columns tables (number, source)
      run_columns number source item columns count there stands =
          ap (λ n. take n (drop item.first sight.columns.items)) count
          ∙ ap (λ n. take (length (all_columns tables (number, source))) (drop n sight.columns.items))
          (is.firsts number item stands)
          ∙ ap (λ all. take (length (all_columns tables (number, source)))
          (drop (length (flat_map (all_columns tables)
          (take number (enumerate_from 0 (sources_of tables from))))) all)) is.columns
          ∙ run_there (all_columns tables) (enumerate_from 0 (sources_of tables from)) number (number, source)
          (numbered_at 0 (sources_of tables from) number source there
          ∙ ap (λ n. Some (n, source)) (omega arith))

  -- the columns of all tables in sight
  pub all_runs : (place : ℕ) → flat_map (star_of tables scope place) (enumerate_from 0 scope.sources)
      ≡ map (starred tables scope sight place) (flat_map (all_columns tables)
      (enumerate_from 0 scope.sources))
  all_runs place =
      flat_numbered (star_of tables scope place) (λ numbered. map (starred tables scope sight place)
      (all_columns tables numbered))
      0 scope.sources (λ k source there. at_number k source there (star_is tables scope sight k source there
      (table_there tables from sight is k source (in_all k source there)) place))
      ∙ sym (map-flat_map (starred tables scope sight place) (all_columns tables)
      (enumerate_from 0 scope.sources))
    where
      at_number : (k : ℕ) (source : Source) → slice_get scope.sources k ≡ Some source
          → star_of tables scope place (k, source) ≡ map (starred tables scope sight place)
          (all_columns tables (k, source))
          → star_of tables scope place (0 + k, source) ≡ map (starred tables scope sight place)
          (all_columns tables (0 + k, source))
      at_number k source there same =
          subst (λ n. star_of tables scope place (n, source) ≡ map (starred tables scope sight place)
          (all_columns tables (n, source)))
          (omega arith) same

  pub all_kinds : map (kind_by sight) (flat_map (all_columns tables) (enumerate_from 0 scope.sources))
      ≡ map (column_kind tables scope.sources) (flat_map (all_columns tables)
      (enumerate_from 0 scope.sources))
  all_kinds =
      map-flat_map (kind_by sight) (all_columns tables) (enumerate_from 0 scope.sources)
      ∙ flat_numbered (λ numbered. map (kind_by sight) (all_columns tables numbered))
      (λ numbered. map (column_kind tables scope.sources) (all_columns tables numbered))
      0 scope.sources (λ k source there. at_number k source (kinds_are tables scope sight k source there
      (table_there tables from sight is k source (in_all k source there))))
      ∙ sym (map-flat_map (column_kind tables scope.sources) (all_columns tables)
      (enumerate_from 0 scope.sources))
    where
      at_number : (k : ℕ) (source : Source)
          → map (kind_by sight) (all_columns tables (k, source)) ≡ map (column_kind tables scope.sources)
          (all_columns tables (k, source))
          → map (kind_by sight) (all_columns tables (0 + k, source)) ≡ map (column_kind tables scope.sources)
          (all_columns tables (0 + k, source))
      at_number k source same =
          subst (λ n. map (kind_by sight) (all_columns tables (n, source))
          ≡ map (column_kind tables scope.sources) (all_columns tables (n, source)))
          (omega arith) same

  -- where no table has the name
  pub no_run : (place : ℕ) (found : Option (ℕ × Source)) → None ≡ option_map (λ numbered. numbered.0) found
      → IsRun tables scope sight place (record { first = 0; count = 0 })
      (flat_map (star_of tables scope place) (as_list found))
  no_run place None none =
      run_is tables scope sight place (record { first = 0; count = 0 }) [] []
      (take_none (drop 0 sight.columns.items)) refl refl refl
  no_run place (Some numbered) none = absurd (none-some numbered.0 none)

  named_run : (place number index : ℕ) (source : Source) → number ≡ 0 + index
      → slice_get scope.sources index ≡ Some source
      → IsRun tables scope sight place (run_of_source (slice_get sight.sources.items number))
      (star_of tables scope place (number, source) ++ [])
  named_run place number index source number_is there =
      let here : slice_get scope.sources number ≡ Some source =
      subst (λ n. slice_get scope.sources n ≡ Some source) (sym number_is
      ∙ refl) (subst (λ n. slice_get scope.sources n ≡ Some source) (omega arith) there) in
      let has = table_there tables from sight is number source (in_all number source here) in
      subst (λ (found : Option Item). IsRun tables scope sight place (run_of_source found)
      (star_of tables scope place (number, source) ++ []))
      (sym has.there)
      (subst (IsRun tables scope sight place (record {
        first = has.item.first;
        count = length
            has.item.defs.now;
      }))
      (sym (append-nil (star_of tables scope place (number, source))))
      (table_run place number source has.item here has.there))

  -- where a table has the name
  pub some_run : (place number : ℕ) (alias : List ℕ) (found : Option (ℕ × Source))
      → source_named scope.sources alias ≡ found
      → Some number ≡ option_map (λ numbered. numbered.0) found
      → IsRun tables scope sight place (run_of_source (slice_get sight.sources.items number))
      (flat_map (star_of tables scope place) (as_list found))
  some_run place number alias None named is_some = absurd (none-some number (sym is_some))
  some_run place number alias (Some (other, source)) named is_some =
      let at = found_numbered (λ numbered. same_name numbered.1.alias alias) 0 scope.sources other source
      named in
      subst (λ n. IsRun tables scope sight place (run_of_source (slice_get sight.sources.items n))
      (star_of tables scope place (other, source) ++ []))
      (sym (same_Some number other is_some))
      (named_run place other at.index source at.number_is at.there)

  all_columns_is : scope.sources ≡ sources_of tables from → sight.columns.items
      ≡ flat_map (all_columns tables) (enumerate_from 0 scope.sources)
  all_columns_is all = is.columns ∙ ap (λ sources. flat_map (all_columns tables) (enumerate_from 0 sources))
      (sym all)

  -- all tables are in sight
  pub whole_run : (place total : ℕ) → total ≡ length sight.columns.items → length sight.sources.items ≤ count
      → IsRun tables scope sight place (record { first = 0; count = total })
      (flat_map (star_of tables scope place) (enumerate_from 0 scope.sources))
  whole_run place total total_is few =
      let lengths : length sight.sources.items ≡ length (sources_of tables from) =
      sym (length-map sight.sources.items source_at) ∙ ap (λ (all : List Source). length all) is.sources in
      let all : scope.sources ≡ sources_of tables from = sees
      ∙ take_all count (sources_of tables from) (omega arith) in
      run_is tables scope sight place (record { first = 0; count = total })
      (flat_map (star_of tables scope place) (enumerate_from 0 scope.sources))
      (flat_map (all_columns tables) (enumerate_from 0 scope.sources))
      (take_all total (drop 0 sight.columns.items) (let same = ap (λ (all : List Column). length all)
      (drop_none sight.columns.items) in omega arith)
      ∙ drop_none sight.columns.items ∙ all_columns_is all)
      (total_is ∙ ap (λ (all : List Column). length all) (all_columns_is all)) (all_runs place) all_kinds

  -- the tables before this one are in sight
  pub front_run : (place : ℕ) (next : Item) → slice_get sight.sources.items count ≡ Some next
      → IsRun tables scope sight place (record { first = 0; count = next.first })
      (flat_map (star_of tables scope place) (enumerate_from 0 scope.sources))
  front_run place next there =
      let front : take count (enumerate_from 0 (sources_of tables from)) ≡ enumerate_from 0 scope.sources =
      numbered_take 0 (sources_of tables from) count ∙ ap (enumerate_from 0) (sym sees) in
      let length_is : next.first ≡ length (flat_map (all_columns tables) (enumerate_from 0 scope.sources)) =
      is.firsts count next there ∙ ap (λ numbered. length (flat_map (all_columns tables) numbered)) front in
      run_is tables scope sight place (record { first = 0; count = next.first })
      (flat_map (star_of tables scope place) (enumerate_from 0 scope.sources))
      (flat_map (all_columns tables) (enumerate_from 0 scope.sources))
      (ap (take next.first) (drop_none sight.columns.items ∙ is.columns)
      ∙ ap (λ n. take n (flat_map (all_columns tables) (enumerate_from 0 (sources_of tables from))))
      (is.firsts count next there)
      ∙ run_front (all_columns tables) (enumerate_from 0 (sources_of tables from)) count
      ∙ ap (flat_map (all_columns tables)) front)
      length_is (all_runs place) all_kinds
