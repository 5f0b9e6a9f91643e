-- What the code keeps of the tables of FROM, with one more of them and of all.
use Rattle.std.proofs.Common.{◌≡◌, ℕ, ◌<◌, ◌≤◌, ◌+◌, List, [], ◌∷◌, ◌++◌, length, map, take, cond, Option, Some, None, option_map, ◌⊎◌, inl, inr, refl, sym, ap, subst, ◌∙◌, arith}
use Rattle.std.proofs.lemmas.Grind.{flat_map-append}
use Rattle.std.proofs.lemmas.List.{append-nil, append_assoc, length-map, map-append, take-append-le, take_all}
use Rattle.std.proofs.lemmas.List.FromFn.{length-enumerate_from}
use Rattle.std.specs.List.{enumerate_from, flat_map, range_with_len, slice_get}
use Rattle.std.specs.Option.{option_or}
use Rattle.std.specs.Str.{bytes_eq}
use Rattle.indexmap.specs.IndexMap.{get_by}
use Rattle.sa_ast.specs.declared.select.TableTree.{TableTree}
use Rattle.sa_table.specs.declared.def.ColumnDef.{ColumnDef}
use Rattle.sa_table.specs.Create.{same_name}
use Rattle.sa_table.specs.Table.{Table}
use Rattle.sa_query.specs.declared.group.Column.{Column}
use Rattle.sa_resolve.specs.declared.sight.Sight.{Sight}
use Rattle.sa_resolve.specs.declared.sight.Source.{Source as Item}
use Rattle.sa_resolve.specs.Sight.{Source, called, columns_named, columns_of, source_named, source_of, table_named}
use Rattle.sa_resolve.specs.Tables.{sources_of}
use Rattle.sa_resolve.specs.inner.Indexed.{column_of, named_of, with_columns}
use Rattle.sa_resolve.specs.inner.Names.{IsSight, all_columns, among, source_at}
use Rattle.sa_resolve.specs.inner.Sighted.{HasTables, below, columns_by, columns_to}
use Rattle.sa_resolve.proofs.names.Aliased.{source_named-below, source_named-push}
use Rattle.sa_resolve.proofs.names.Columns.{among-plain, named_of-push}
use Rattle.sa_resolve.proofs.names.Positions.{enumerate_from-append, map-enumerate_from, range-push, slice_get-push}

pub columns_by-is : (tables : List Table) (source : Source) → columns_by tables source.table ≡ columns_of tables source
columns_by-is tables source = by source.alias source.table
  where
    by : (alias : List ℕ) (table : Option ℕ) → columns_by tables table ≡ columns_of tables (record { alias = alias; table = table })
    by alias None = refl
    by alias (Some table) = refl

-- The code keeps this table of FROM.
pub record IsItem (tables : List Table) (tree : TableTree) (item : Item) : Type 0 where
  pub called_is : item.called.now ≡ called tree
  pub table : item.table ≡ table_named tables tree.name.name
  pub defs : item.defs.now ≡ columns_by tables item.table

-- The code has put one table more behind those that it had.
pub record HasPut (tree : TableTree) (item : Item) (number : ℕ) (before after : Sight) : Type 0 where
  pub number_is : number ≡ length before.sources.items
  pub first : item.first ≡ length before.columns.items
  pub sources : after.sources.items ≡ before.sources.items ++ item ∷ []
  pub columns : after.columns.items ≡ before.columns.items ++ columns_to number (length item.defs.now)
  pub names : (name : List ℕ) → get_by (λ key. bytes_eq name key.now) after.names
      ≡ with_columns (get_by (λ key. bytes_eq name key.now) before.names) (column_of number item.defs.now name)
  pub aliases : (alias : List ℕ) → get_by (λ key. bytes_eq alias key.now) after.aliases
      ≡ option_or (get_by (λ key. bytes_eq alias key.now) before.aliases) (cond (same_name item.called.now.name alias) (Some number) None)

module _ (tables : List Table) (done : List TableTree) (tree : TableTree) where
  abbrev sources : List Source
  sources = sources_of tables done

  abbrev source : Source
  source = source_of tables tree

  sources-push : sources_of tables (done ++ tree ∷ []) ≡ sources ++ source ∷ []
  sources-push = map-append (source_of tables) done (tree ∷ [])

  item-source : (item : Item) → IsItem tables tree item → source_at item ≡ source
  item-source item is = λ i. record { alias = (is.called_is i).name; table = is.table i }

  item-defs : (item : Item) → IsItem tables tree item → item.defs.now ≡ columns_of tables source
  item-defs item is = is.defs ∙ ap (columns_by tables) is.table ∙ columns_by-is tables source

  module _ (item : Item) (number : ℕ) (before after : Sight) (has : HasTables tables done before) (is : IsItem tables tree item)
      (put : HasPut tree item number before after) where
    number-sources : number ≡ length sources
    number-sources = put.number_is ∙ sym (length-map before.sources.items source_at) ∙ ap length has.sources

    sources-are : map source_at after.sources.items ≡ sources ++ source ∷ []
    sources-are =
        ap (map source_at) put.sources ∙ map-append source_at before.sources.items (item ∷ [])
        ∙ ap (λ items. items ++ source_at item ∷ []) has.sources ∙ ap (λ (one : Source). sources ++ one ∷ []) (item-source item is)

    defs-are : map (λ (one : Item). one.defs.now) after.sources.items ≡ map (columns_of tables) (sources ++ source ∷ [])
    defs-are =
        ap (map (λ (one : Item). one.defs.now)) put.sources ∙ map-append (λ (one : Item). one.defs.now) before.sources.items (item ∷ [])
        ∙ ap (λ defs. defs ++ item.defs.now ∷ []) has.defs ∙ ap (λ (defs : List ColumnDef). map (columns_of tables) sources ++ defs ∷ []) (item-defs item is)
        ∙ sym (map-append (columns_of tables) sources (source ∷ []))

    own_columns : columns_to number (length item.defs.now) ≡ all_columns tables (length sources, source)
    own_columns =
        ap (columns_to number) (ap length (item-defs item is)) ∙ ap (λ (n : ℕ). columns_to n (length (columns_of tables source))) number-sources
        ∙ sym (map-enumerate_from (λ (column : ℕ). record { table = length sources; column = column }) 0 (columns_of tables source))

    columns-are : after.columns.items ≡ flat_map (all_columns tables) (enumerate_from 0 (sources ++ source ∷ []))
    columns-are =
        put.columns ∙ ap (λ columns. columns ++ columns_to number (length item.defs.now)) has.columns
        ∙ ap (λ columns. flat_map (all_columns tables) (enumerate_from 0 sources) ++ columns) (own_columns ∙ sym (append-nil (all_columns tables (length sources, source))))
        ∙ ap (λ (n : ℕ). flat_map (all_columns tables) (enumerate_from 0 sources) ++ flat_map (all_columns tables) ((n, source) ∷ [])) (omega arith)
        ∙ sym (flat_map-append (all_columns tables) (enumerate_from 0 sources) ((0 + length sources, source) ∷ []))
        ∙ ap (flat_map (all_columns tables)) (sym (enumerate_from-append 0 sources (source ∷ [])))

    names-are : (name : List ℕ) → get_by (λ key. bytes_eq name key.now) after.names ≡ named_of (columns_named tables (sources ++ source ∷ []) name)
    names-are name =
        put.names name ∙ ap (λ found. with_columns found (column_of number item.defs.now name)) (has.names name)
        ∙ ap (λ (n : ℕ). with_columns (named_of (columns_named tables sources name)) (column_of n item.defs.now name)) number-sources
        ∙ ap (λ defs. with_columns (named_of (columns_named tables sources name)) (column_of (length sources) defs name)) (item-defs item is)
        ∙ sym (named_of-push tables name sources source)

    aliases-are : (alias : List ℕ) → get_by (λ key. bytes_eq alias key.now) after.aliases
        ≡ option_map (λ numbered. numbered.0) (source_named (sources ++ source ∷ []) alias)
    aliases-are alias =
        put.aliases alias ∙ ap (λ found. option_or found (cond (same_name item.called.now.name alias) (Some number) None)) (has.aliases alias)
        ∙ ap (λ (n : ℕ). option_or (option_map (λ numbered. numbered.0) (source_named sources alias)) (cond (same_name item.called.now.name alias) (Some n) None)) number-sources
        ∙ ap (λ name. option_or (option_map (λ numbered. numbered.0) (source_named sources alias)) (cond (same_name name.name alias) (Some (length sources)) None)) is.called_is
        ∙ sym (source_named-push alias sources source)

    abbrev count_to : ℕ → List (ℕ × Source) → ℕ
    count_to at numbered = length (flat_map (all_columns tables) (take at numbered))

    count-same : (at : ℕ) → at ≤ length sources → count_to at (enumerate_from 0 (sources ++ source ∷ [])) ≡ count_to at (enumerate_from 0 sources)
    count-same at few =
        ap (count_to at) (enumerate_from-append 0 sources (source ∷ []))
        ∙ ap (λ numbered. length (flat_map (all_columns tables) numbered))
        (take-append-le at (enumerate_from 0 sources) ((0 + length sources, source) ∷ []) (omega (arith, length-enumerate_from 0 sources)))

    firsts-are : (at : ℕ) (other : Item) → slice_get after.sources.items at ≡ Some other → other.first ≡ count_to at (enumerate_from 0 (sources ++ source ∷ []))
    firsts-are at other e = by (slice_get-push before.sources.items item at other (ap (λ items. slice_get items at) (sym put.sources) ∙ e))
      where
        by : ((at < length before.sources.items) × (slice_get before.sources.items at ≡ Some other)) ⊎ ((at ≡ length before.sources.items) × (item ≡ other))
            → other.first ≡ count_to at (enumerate_from 0 (sources ++ source ∷ []))
        by (inl there) = has.firsts at other there.1 ∙ sym (count-same at (omega (arith, there.0, put.number_is, number-sources)))
        by (inr behind) =
            let all : take at (enumerate_from 0 sources) ≡ enumerate_from 0 sources =
            take_all at (enumerate_from 0 sources) (omega (arith, length-enumerate_from 0 sources, behind.0, put.number_is, number-sources)) in
            ap (λ (one : Item). one.first) (sym behind.1) ∙ put.first ∙ ap length has.columns
            ∙ ap (λ numbered. length (flat_map (all_columns tables) numbered)) (sym all)
            ∙ sym (count-same at (omega (arith, behind.0, put.number_is, number-sources)))

    pub HasTables-push : HasTables tables (done ++ tree ∷ []) after
    HasTables-push = record {
      sources = sources-are ∙ sym sources-push;
      defs = defs-are ∙ ap (map (columns_of tables)) (sym sources-push);
      columns = columns-are ∙ ap (λ all. flat_map (all_columns tables) (enumerate_from 0 all)) (sym sources-push);
      names = λ name. names-are name ∙ ap (λ all. named_of (columns_named tables all name)) (sym sources-push);
      aliases = λ alias. aliases-are alias ∙ ap (λ all. option_map (λ numbered. numbered.0) (source_named all alias)) (sym sources-push);
      firsts = λ at other e. firsts-are at other e ∙ ap (λ all. count_to at (enumerate_from 0 all)) (sym sources-push);
    }

-- no table
pub HasTables-none : (tables : List Table) (sight : Sight) → sight.sources.items ≡ [] → sight.columns.items ≡ []
    → ((name : List ℕ) → get_by (λ key. bytes_eq name key.now) sight.names ≡ None) → ((alias : List ℕ) → get_by (λ key. bytes_eq alias key.now) sight.aliases ≡ None)
    → HasTables tables [] sight
HasTables-none tables sight sources columns names aliases = record {
  sources = ap (map source_at) sources;
  defs = ap (map (λ (one : Item). one.defs.now)) sources;
  columns = columns;
  names = names;
  aliases = aliases;
  firsts = λ at item e. let nothing : ◌≡◌ {A = Option Item} None (Some item) = sym (ap (λ items. slice_get items at) sources) ∙ e in absurd cc;
}

-- one column of a table more
pub columns_to-push : (before : List Column) (table index column : ℕ) (so_far all : List Column) → column ≡ index → so_far ≡ before ++ columns_to table index
    → all ≡ so_far ++ record { table = table; column = column } ∷ [] → all ≡ before ++ columns_to table (index + 1)
columns_to-push before table index column so_far all number is more =
    more ∙ ap (λ columns. columns ++ record { table = table; column = column } ∷ []) is
    ∙ append_assoc before (columns_to table index) (record { table = table; column = column } ∷ [])
    ∙ ap (λ (i : ℕ). before ++ (columns_to table index ++ record { table = table; column = i } ∷ [])) (omega (arith, number))
    ∙ ap (λ columns. before ++ columns) (sym (map-append (λ (i : ℕ). record { table = table; column = i }) (range_with_len 0 index) ((0 + index) ∷ [])))
    ∙ ap (λ numbers. before ++ map (λ (i : ℕ). record { table = table; column = i }) numbers) (sym (range-push 0 index))

-- What was kept of all tables finds what their definition finds.
pub IsSight-all : (tables : List Table) (from : List TableTree) (sight : Sight) → HasTables tables from sight → IsSight tables from sight
IsSight-all tables from sight has = record {
  sources = has.sources;
  defs = has.defs;
  columns = has.columns;
  names = λ count name few. ap (among count) (has.names name)
      ∙ among-plain tables name count (sources_of tables from) (subst (λ (n : ℕ). count ≤ n) (sym (length-map from (source_of tables))) few);
  aliases = has.aliases;
  firsts = has.firsts;
}

module _ (tables : List Table) (from : List TableTree) (sight : Sight) (is : IsSight tables from sight) (count : ℕ) (few : count ≤ length from) where
  pub few_sources : count ≤ length (sources_of tables from)
  few_sources = subst (λ (n : ℕ). count ≤ n) (sym (length-map from (source_of tables))) few

  -- the first table with an alias among the first ones
  pub aliases-below : (alias : List ℕ) (found : Option ℕ) → found ≡ get_by (λ key. bytes_eq alias key.now) sight.aliases
      → below count found ≡ option_map (λ numbered. numbered.0) (source_named (take count (sources_of tables from)) alias)
  aliases-below alias found kept = ap (below count) (kept ∙ is.aliases alias) ∙ source_named-below alias count (sources_of tables from) few_sources
