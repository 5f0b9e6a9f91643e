-- What stands for columns and aggregates: columns over rows, and slots over groups.
use Rattle.std.proofs.Common.{◌≡◌, ℕ, ◌+◌, ◌<◌, Bool, true, false, List, ◌++◌, map, length, get_or, Option, Some, None, if◌then◌else◌, sym, ap, ◌∙◌, arith}
use Rattle.std.specs.List.{AllByRecursion, position_or_len}
use Rattle.std.proofs.lemmas.List.{length-map, get_or-map, get_or_append_left, get_or-append-add}
use Rattle.std.proofs.lemmas.List.Elements.{All-from_recursion}
use Rattle.sa_ast.specs.declared.select.SelectTree.{SelectTree}
use Rattle.sa_cond.specs.declared.cells.CellKind.{CellKind}
use Rattle.sa_cond.specs.declared.cells.CellKind.TheVariants as cells
use Rattle.sa_cond.specs.declared.expr.Expr.TheVariants as expr
use Rattle.sa_cond.specs.Interval.{CellKinds, kind_of_cell}
use Rattle.sa_table.specs.Table.{Table}
use Rattle.sa_query.specs.declared.group.Aggregate.{Aggregate}
use Rattle.sa_query.specs.declared.group.Column.{Column}
use Rattle.sa_query.specs.declared.query.Query.{Query}
use Rattle.sa_query.specs.Kinds.{column_kinds, aggregate_cells, query_kinds}
use Rattle.sa_query.specs.WellTyped.{IsInSight}
use Rattle.sa_resolve.specs.Clauses.{Clauses, sources, group_columns, aggregates_of}
use Rattle.sa_resolve.specs.Expression.{Alias, Seeks, column_kind}
use Rattle.sa_resolve.specs.Node.{Slots}
use Rattle.sa_resolve.specs.Resolved.{table_use, query_with}
use Rattle.sa_resolve.specs.Same.{same_aggregate, same_column}
use Rattle.sa_resolve.specs.Sight.{Source}
use Rattle.sa_resolve.proofs.fit.Equal.{equal_aggregate, equal_column}
use Rattle.sa_resolve.proofs.fit.Firsts.{passes_at}
use Rattle.sa_resolve.proofs.fit.Fits.{IsGrouped, IsSlotted, IsSound, InScope, Knows, with_slots}
use Rattle.sa_resolve.proofs.fit.Kept.{IsPlainAggregate}
use Rattle.sa_resolve.proofs.fit.Names.{no_source, IsSeen}
use Rattle.sa_resolve.proofs.fit.Sources.{IsTabled, IsFront, seen_there}
use Rattle.sa_resolve.proofs.fit.Stands.{Stands, stands-Column, stands-Slot}

module _ (tables : List Table) (tree : SelectTree) (clauses : Clauses)
    (tabled : (place : ℕ) → place < length (sources tables tree)
    → IsTabled tables (get_or (sources tables tree) place no_source)) where
  abbrev Asked : Query
  Asked = query_with tables tree clauses

  abbrev Columns : CellKinds
  Columns = column_kinds tables (map table_use (sources tables tree))

  row_is : (front : List Source) → IsFront front (sources tables tree) → (seen : Column)
      → IsSeen tables front seen → (slot : ℕ → CellKind)
      → Stands (IsInSight tables Asked false) (with_slots tables Asked slot)
      (column_kind tables front seen) (expr.Column seen.table seen.column)
  row_is front is_front seen is slot =
      let there = seen_there tables (sources tables tree) front is_front tabled seen is in
      stands-Column (IsInSight tables Asked false) (with_slots tables Asked slot) seen.table
      seen.column (column_kind tables front seen) there.has there.is

  -- what is over rows
  pub knows_rows : (front : List Source) (aliases : List Alias) (seeks : Seeks)
      → IsFront front (sources tables tree)
      → AllByRecursion (λ (alias : Alias). IsSound tables Asked None alias.item) aliases
      → Knows tables Asked
      (record { sources = front; aliases = aliases; seeks = seeks; slots = None })
  knows_rows front aliases seeks is_front sound = record {
    at_row = row_is front is_front;
    at_column = λ seen is grouped. row_is front is_front seen is (query_kinds tables Asked).slot;
    at_aggregate = λ one slotted. absurd slotted;
    aliases = sound;
  }

  abbrev Groups : Option Slots
  Groups = Some (record { group = group_columns clauses; aggregates = aggregates_of clauses })

  column_slot : (seen : Column) → IsGrouped Groups seen → (front : List Source)
      → IsFront front (sources tables tree) → IsSeen tables front seen
      → Stands (InScope tables Asked Groups) (query_kinds tables Asked)
      (column_kind tables front seen)
      (expr.Slot (position_or_len (same_column seen) (group_columns clauses)))
  column_slot seen grouped front is_front is =
      let at = passes_at (same_column seen) (group_columns clauses) grouped in
      let place = position_or_len (same_column seen) (group_columns clauses) in
      let there = seen_there tables (sources tables tree) front is_front tabled seen is in
      let one : seen ≡ get_or (group_columns clauses) place seen =
      equal_column seen (get_or (group_columns clauses) place seen) (at.passes seen) in
      let cells_at = λ (one : Column). Columns.column one.table one.column in
      let others =
      map (λ (one : Aggregate). aggregate_cells Columns one.call one.argument)
      (aggregates_of clauses) in
      let few : place < length (map cells_at (group_columns clauses)) =
      omega (arith, at.there, length-map (group_columns clauses) cells_at) in
      let cell : get_or (map cells_at (group_columns clauses) ++ others) place cells.Text
      ≡ cells_at seen =
      get_or_append_left (map cells_at (group_columns clauses)) others cells.Text place few
      ∙ get_or-map cells_at (group_columns clauses) place seen cells.Text at.there
      ∙ ap cells_at (sym one) in
      stands-Slot (InScope tables Asked Groups) (query_kinds tables Asked) place
      (column_kind tables front seen) (omega (arith, at.there))
      (ap kind_of_cell cell ∙ there.is)

  aggregate_slot : AllByRecursion IsPlainAggregate (aggregates_of clauses) → (one : Aggregate)
      → IsSlotted Groups one
      → Stands (InScope tables Asked Groups) (query_kinds tables Asked)
      (kind_of_cell (aggregate_cells Columns one.call one.argument))
      (expr.Slot (length (group_columns clauses) + position_or_len (same_aggregate one)
      (aggregates_of clauses)))
  aggregate_slot plain one slotted =
      let at = passes_at (same_aggregate one) (aggregates_of clauses) slotted.0 in
      let place = position_or_len (same_aggregate one) (aggregates_of clauses) in
      let other = get_or (aggregates_of clauses) place one in
      let same : one ≡ other =
      equal_aggregate one other (at.passes one) slotted.1
      (All-from_recursion IsPlainAggregate (aggregates_of clauses) plain place one
      at.there) in
      let cells_at = λ (one : Column). Columns.column one.table one.column in
      let cells_of = λ (one : Aggregate). aggregate_cells Columns one.call one.argument in
      let count : length (map cells_at (group_columns clauses)) ≡ length (group_columns clauses) =
      length-map (group_columns clauses) cells_at in
      let cell : get_or (map cells_at (group_columns clauses) ++ map cells_of
      (aggregates_of clauses)) (length (group_columns clauses) + place) cells.Text
      ≡ cells_of one =
      ap (λ first. get_or (map cells_at (group_columns clauses) ++ map cells_of
      (aggregates_of clauses)) (first + place) cells.Text) (sym count)
      ∙ get_or-append-add (map cells_at (group_columns clauses))
      (map cells_of (aggregates_of clauses)) place cells.Text
      ∙ get_or-map cells_of (aggregates_of clauses) place one cells.Text at.there
      ∙ ap cells_of (sym same) in
      stands-Slot (InScope tables Asked Groups) (query_kinds tables Asked)
      (length (group_columns clauses) + place)
      (kind_of_cell (cells_of one)) (omega (arith, at.there)) (ap kind_of_cell cell)

  -- what is over groups
  pub knows_groups : AllByRecursion IsPlainAggregate (aggregates_of clauses) → (front : List Source)
      (aliases : List Alias) (seeks : Seeks) → IsFront front (sources tables tree)
      → AllByRecursion (λ (alias : Alias). IsSound tables Asked Groups alias.item) aliases
      → Knows tables Asked
      (record { sources = front; aliases = aliases; seeks = seeks; slots = Groups })
  knows_groups plain front aliases seeks is_front sound = record {
    at_row = row_is front is_front;
    at_column = λ seen is grouped. column_slot seen grouped front is_front is;
    at_aggregate = aggregate_slot plain;
    aliases = sound;
  }

  -- what is over groups, or over rows
  pub knows_either : (grouped : Bool) → AllByRecursion IsPlainAggregate (aggregates_of clauses)
      → (front : List Source) (aliases : List Alias) (seeks : Seeks)
      → IsFront front (sources tables tree)
      → AllByRecursion (λ (alias : Alias). IsSound tables Asked (if grouped then Groups else None)
      alias.item) aliases
      → Knows tables Asked
      (record {
        sources = front;
        aliases = aliases;
        seeks = seeks;
        slots = if grouped then Groups
            else None;
      })
  knows_either true plain front aliases seeks is_front sound =
      knows_groups plain front aliases seeks is_front sound
  knows_either false plain front aliases seeks is_front sound =
      knows_rows front aliases seeks is_front sound
