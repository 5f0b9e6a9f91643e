-- The columns with a name, as tables and columns are gone through.
use Rattle.std.proofs.Common.{◌≡◌, ℕ, ◌<◌, ◌≤◌, ◌+◌, List, [], ◌∷◌, ◌++◌, length, get_or, take, drop, Bool, true, false, cond, eqb, Option, Some, None, option_map, refl, sym, ap, ◌∙◌, arith}
use Rattle.std.proofs.lemmas.Bool.{eq-eqb, ne_eqb, lt-ltb, le-ltb}
use Rattle.std.proofs.lemmas.Grind.{flat_map-append}
use Rattle.std.proofs.lemmas.List.{append-nil, length-take-le, take-append-drop, take_more}
use Rattle.std.specs.List.{AllByRecursion, enumerate_from, flat_map, position}
use Rattle.std.specs.Option.{option_or}
use Rattle.sa_table.specs.declared.def.ColumnDef.{ColumnDef}
use Rattle.sa_table.specs.Create.{same_name}
use Rattle.sa_table.specs.Table.{Table}
use Rattle.sa_query.specs.declared.group.Column.{Column}
use Rattle.sa_resolve.specs.declared.sight.Named.{Named}
use Rattle.sa_resolve.specs.Sight.{Source, Found, one, none, several, as_list, column_in, columns_named, columns_of, only_one, plain}
use Rattle.sa_resolve.specs.inner.Indexed.{column_of, named_of, second_with, with_column, with_columns}
use Rattle.sa_resolve.specs.inner.Names.{among}
use Rattle.sa_resolve.proofs.names.Positions.{enumerate_from-append, position-push}

module _ (before : Option Named) (table : ℕ) where
  abbrev at : ℕ → Column
  at column = record { table = table; column = column }

  second-again : (first : ℕ) (second : Option ℕ) → second_with first table (second_with first table second) ≡ second_with first table second
  second-again first (Some second) = refl
  second-again first None = by (eqb first table) refl
    where
      by : (same : Bool) → eqb first table ≡ same → second_with first table (cond same None (Some table)) ≡ cond same None (Some table)
      by true e = ap (λ (same : Bool). cond same None (Some table)) e
      by false e = refl

  -- a second column of one table counts for nothing
  with-again : (i j : ℕ) → with_column (Some (with_column before (at i))) (at j) ≡ with_column before (at i)
  with-again i j = by before
    where
      by : (found : Option Named) → with_column (Some (with_column found (at i))) (at j) ≡ with_column found (at i)
      by None = ap (λ (same : Bool). record { column = at i; second = cond same None (Some table) }) (eq-eqb table table refl)
      by (Some named) = ap (λ (second : Option ℕ). record { column = named.column; second = second }) (second-again named.column.table named.second)

  by_place : (place : Option ℕ) (here : Bool) (n : ℕ)
      → with_columns before (option_map at (option_or place (cond here (Some n) None)))
      ≡ cond here (Some (with_column (with_columns before (option_map at place)) (at n))) (with_columns before (option_map at place))
  by_place None true n = refl
  by_place None false n = refl
  by_place (Some i) true n = ap Some (sym (with-again i n))
  by_place (Some i) false n = refl

  -- with one column more
  pub with_columns-push : (defs : List ColumnDef) (def : ColumnDef) (name : List ℕ)
      → with_columns before (column_of table (defs ++ def ∷ []) name)
      ≡ cond (same_name def.name name) (Some (with_column (with_columns before (column_of table defs name)) (at (length defs))))
      (with_columns before (column_of table defs name))
  with_columns-push defs def name =
      ap (λ (place : Option ℕ). with_columns before (option_map at place)) (position-push (λ (other : ColumnDef). same_name other.name name) defs def)
      ∙ by_place (position (λ (other : ColumnDef). same_name other.name name) defs) (same_name def.name name) (length defs)

-- the columns so far are those of one more that is gone through
pub with_columns-step : (before found after : Option Named) (table : ℕ) (defs : List ColumnDef) (index : ℕ) (other : ColumnDef) (column : ℕ) (written name : List ℕ)
    → index < length defs → written ≡ (get_or defs index other).name → column ≡ index → found ≡ with_columns before (column_of table (take index defs) name)
    → after ≡ cond (same_name written name) (Some (with_column found (record { table = table; column = column }))) found
    → after ≡ with_columns before (column_of table (take (index + 1) defs) name)
with_columns-step before found after table defs index other column written name there called number so_far is =
    let def : ColumnDef = get_or defs index other in
    let place : column ≡ length (take index defs) = omega (arith, number, length-take-le index defs (omega arith)) in
    is ∙ ap (λ (text : List ℕ). cond (same_name text name) (Some (with_column found (record { table = table; column = column }))) found) called
    ∙ ap (λ (kept : Option Named). cond (same_name def.name name) (Some (with_column kept (record { table = table; column = column }))) kept) so_far
    ∙ ap (λ (i : ℕ). cond (same_name def.name name) (Some (with_column (with_columns before (column_of table (take index defs) name)) (record { table = table; column = i })))
    (with_columns before (column_of table (take index defs) name))) place
    ∙ sym (with_columns-push before table (take index defs) def name)
    ∙ ap (λ all. with_columns before (column_of table all name)) (sym (take_more defs index other there))

-- a column of a later table more
pub named_of-more : (columns : List Column) (more : Option Column) (n : ℕ) → AllByRecursion (λ (column : Column). column.table < n) columns
    → AllByRecursion (λ (column : Column). column.table ≡ n) (as_list more) → named_of (columns ++ as_list more) ≡ with_columns (named_of columns) more
named_of-more columns None n below is = ap named_of (append-nil columns)
named_of-more [] (Some column) n below is = refl
named_of-more (first ∷ []) (Some column) n below is =
    ap (λ (same : Bool). Some (record { column = first; second = cond same None (Some column.table) }))
    (sym (ne_eqb first.table column.table (λ e. absurd (omega (arith, below.0, is.0, e)))))
named_of-more (first ∷ second ∷ others) (Some column) n below is = refl

every-append : {A : Type 0} (P : A → Type 0) (xs ys : List A) → AllByRecursion P xs → AllByRecursion P ys → AllByRecursion P (xs ++ ys)
every-append P [] ys all others = others
every-append P (x ∷ xs) ys all others = (all.0, every-append P xs ys all.1 others)

every_listed : {A B : Type 0} (P : B → Type 0) (f : A → B) (place : Option A) → ((x : A) → P (f x)) → AllByRecursion P (as_list (option_map f place))
every_listed P f None all = tt
every_listed P f (Some x) all = (all x, tt)

module _ (tables : List Table) (name : List ℕ) where
  abbrev columns_from : (n : ℕ) → List Source → List Column
  columns_from n sources = flat_map (λ numbered. as_list (column_in tables name numbered)) (enumerate_from n sources)

  pub column_in-table : (n : ℕ) (source : Source) (P : Column → Type 0) → ((column : ℕ) → P (record { table = n; column = column }))
      → AllByRecursion P (as_list (column_in tables name (n, source)))
  column_in-table n source P all =
      every_listed P (λ column. record { table = n; column = column }) (position (λ (def : ColumnDef). same_name def.name name) (columns_of tables source)) all

  -- the columns are of tables that are numbered so
  tables-below : (n count : ℕ) (sources : List Source) → n + length sources ≤ count → AllByRecursion (λ (column : Column). column.table < count) (columns_from n sources)
  tables-below n count [] few = tt
  tables-below n count (source ∷ sources) few =
      every-append (λ (column : Column). column.table < count) (as_list (column_in tables name (n, source))) (columns_from (n + 1) sources)
      (column_in-table n source (λ (column : Column). column.table < count) (λ column. omega arith)) (tables-below (n + 1) count sources (omega arith))

  tables-past : (n count : ℕ) (sources : List Source) → count ≤ n → AllByRecursion (λ (column : Column). count ≤ column.table) (columns_from n sources)
  tables-past n count [] past = tt
  tables-past n count (source ∷ sources) past =
      every-append (λ (column : Column). count ≤ column.table) (as_list (column_in tables name (n, source))) (columns_from (n + 1) sources)
      (column_in-table n source (λ (column : Column). count ≤ column.table) (λ column. past)) (tables-past (n + 1) count sources (omega arith))

  pub columns_named-below : (sources : List Source) → AllByRecursion (λ (column : Column). column.table < length sources) (columns_named tables sources name)
  columns_named-below sources = tables-below 0 (length sources) sources (omega arith)

  columns_from-append : (sources others : List Source) → columns_named tables (sources ++ others) name ≡ columns_named tables sources name ++ columns_from (length sources) others
  columns_from-append sources others =
      ap (flat_map (λ numbered. as_list (column_in tables name numbered))) (enumerate_from-append 0 sources others)
      ∙ flat_map-append (λ numbered. as_list (column_in tables name numbered)) (enumerate_from 0 sources) (enumerate_from (0 + length sources) others)
      ∙ ap (λ (n : ℕ). columns_named tables sources name ++ columns_from n others) (omega arith)

  -- what is kept of a name, with one table more
  pub named_of-push : (sources : List Source) (source : Source) → named_of (columns_named tables (sources ++ source ∷ []) name)
      ≡ with_columns (named_of (columns_named tables sources name)) (column_of (length sources) (columns_of tables source) name)
  named_of-push sources source =
      ap named_of (columns_from-append sources (source ∷ []))
      ∙ ap (λ more. named_of (columns_named tables sources name ++ more)) (append-nil (as_list (column_in tables name (length sources, source))))
      ∙ named_of-more (columns_named tables sources name) (column_in tables name (length sources, source)) (length sources) (columns_named-below sources)
      (column_in-table (length sources) source (λ (column : Column). column.table ≡ length sources) (λ column. refl))

  past_count : (count : ℕ) (column : Column) (second : Option ℕ) → count ≤ column.table → among count (Some (record { column = column; second = second })) ≡ none
  past_count count column second past = rw (le-ltb column.table count past) refl

  alone : (count : ℕ) (column : Column) → column.table < count → among count (Some (record { column = column; second = None })) ≡ one column
  alone count column there = rw (lt-ltb column.table count there) refl

  first_alone : (count : ℕ) (column second : Column) → column.table < count → count ≤ second.table
      → among count (Some (record { column = column; second = Some second.table })) ≡ one column
  first_alone count column second there past = rw (lt-ltb column.table count there, le-ltb second.table count past) refl

  both : (count : ℕ) (column second : Column) → column.table < count → second.table < count
      → among count (Some (record { column = column; second = Some second.table })) ≡ several
  both count column second there also = rw (lt-ltb column.table count there, lt-ltb second.table count also) refl

  -- what is there of a name among the first tables is told by the first two columns
  among_split : (count : ℕ) (columns others : List Column) → AllByRecursion (λ (column : Column). column.table < count) columns
      → AllByRecursion (λ (column : Column). count ≤ column.table) others → among count (named_of (columns ++ others)) ≡ only_one columns
  among_split count [] [] below past = refl
  among_split count [] (other ∷ []) below past = past_count count other None past.0
  among_split count [] (other ∷ another ∷ others) below past = past_count count other (Some another.table) past.0
  among_split count (column ∷ []) [] below past = alone count column below.0
  among_split count (column ∷ []) (other ∷ others) below past = first_alone count column other below.0 past.0
  among_split count (column ∷ second ∷ columns) others below past = both count column second below.0 below.1.0

  pub among-plain : (count : ℕ) (sources : List Source) → count ≤ length sources
      → among count (named_of (columns_named tables sources name)) ≡ plain tables (take count sources) name
  among-plain count sources few =
      ap (λ all. among count (named_of (columns_named tables all name))) (sym (take-append-drop count sources))
      ∙ ap (λ columns. among count (named_of columns)) (columns_from-append (take count sources) (drop count sources))
      ∙ among_split count (columns_named tables (take count sources) name) (columns_from (length (take count sources)) (drop count sources))
      (tables-below 0 count (take count sources) (omega (arith, length-take-le count sources few)))
      (tables-past (length (take count sources)) count (drop count sources) (omega (arith, length-take-le count sources few)))

  -- the column of a name is of one of the tables
  pub plain-within : (sources : List Source) (column : Column) → plain tables sources name ≡ one column → column.table < length sources
  plain-within sources column e = by (columns_named tables sources name) (columns_named-below sources) e
    where
      by : (columns : List Column) → AllByRecursion (λ (other : Column). other.table < length sources) columns → only_one columns ≡ one column → column.table < length sources
      by [] below e = let nothing : ◌≡◌ {A = Found Column} none (one column) = e in cc
      by (first ∷ []) below e = let same : one first ≡ one column = e in let is : first ≡ column = cc in omega (arith, below.0, ap (λ (c : Column). c.table) is)
      by (first ∷ second ∷ others) below e = let nothing : ◌≡◌ {A = Found Column} several (one column) = e in cc
