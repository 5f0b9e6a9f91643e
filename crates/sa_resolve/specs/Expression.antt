-- The reading of an expression in a part of a SELECT.
use Rattle.std.specs.Prelude.{ℕ, List, [], ◌∷◌, ◌++◌, Option, Some, None}
use Rattle.std.specs.List.{flat_map, filter}
use Rattle.sa_ast.specs.declared.expression.ExprNode.{ExprNode-F}
use Rattle.sa_ast.specs.declared.expression.ExprTree.{ExprTree, fold-ExprTree}
use Rattle.sa_cond.specs.Interval.{ExprKind, kind_of_cell}
use Rattle.sa_table.specs.Create.{same_name}
use Rattle.sa_table.specs.Table.{Table}
use Rattle.sa_cond.specs.declared.expr.Expr.TheVariants as expr
use Rattle.sa_query.specs.declared.group.Column.{Column}
use Rattle.sa_query.specs.declared.refusal.ResolveKind.TheVariants.{UnknownColumn, Ambiguous}
use Rattle.sa_query.specs.Kinds.{cells_of}
use Rattle.sa_resolve.specs.Node.{Slots, expr_of_column, expr_of_aggregate, node_sort, node_expr, node_cond, node_sums, node_aggregates, node_calls, node_loose, node_literals, parts_of}
use Rattle.sa_resolve.specs.NodeFaults.{node_faults}
use Rattle.sa_resolve.specs.Reading.{value, Reading, no_expr, no_cond, faulty_name, named}
use Rattle.sa_resolve.specs.Sight.{Source, Found, one, none, several, columns_of, only_one, qualified, plain}
use Rattle.sa_table.specs.declared.def.ColumnDef.{ColumnDef}
use Rattle.sa_table.specs.Sound.{no_column}
use Rattle.std.specs.Prelude.{slice_index_or}

-- When a plain name is sought among the aliases of select items.
pub data Seeks : Type 0 where
  never : Seeks
  first : Seeks
  last : Seeks

-- An alias of the select list, and what it stands for.
pub record Alias : Type 0 where
  pub name : List ℕ
  pub item : Reading

-- What a part of a SELECT sees: tables of FROM, aliases, and the slots where the query groups.
pub record Scope : Type 0 where
  pub sources : List Source
  pub aliases : List Alias
  pub seeks : Seeks
  pub slots : Option Slots

module _ (tables : List Table) where
  -- the kind of a column of the tables of FROM
  abbrev pub column_kind : List Source → Column → ExprKind
  column_kind sources column =
      kind_of_cell (cells_of (slice_index_or (columns_at (slice_index_or sources column.table no_source))
      column.column no_column).kind)
    where
      no_source : Source
      no_source = record { alias = []; table = None }

      columns_at : Source → List ColumnDef
      columns_at = columns_of tables

  module _ (scope : Scope) where
    -- a name that stands for a column
    abbrev pub column_reading : (place : ℕ) → Column → Reading
    column_reading place column = record {
      place = place;
      sort = value (column_kind scope.sources column);
      row = expr.Column column.table column.column;
      expr = expr_of_column scope.slots column;
      cond = no_cond;
      sums = place;
      aggregates = [];
      calls = [];
      loose = (place, column) ∷ [];
      literals = [];
      faults = [];
    }

    abbrev pub by_column : (place : ℕ) → Found Column → Reading
    by_column place (one column) = column_reading place column
    by_column place none = faulty_name UnknownColumn place
    by_column place several = faulty_name Ambiguous place

    -- what is found among the aliases, or else this
    abbrev pub by_alias : (place : ℕ) → Reading → Found Alias → Reading
    by_alias place other (one alias) = named place alias.item
    by_alias place other none = other
    by_alias place other several = faulty_name Ambiguous place

    -- what is found among the columns, or else this
    abbrev pub unless_none : (place : ℕ) → Reading → Found Column → Reading
    unless_none place other none = other
    unless_none place other found = by_column place found

    abbrev pub aliases_named : List ℕ → Found Alias
    aliases_named name = only_one (filter (λ (alias : Alias). same_name alias.name name) scope.aliases)

    -- a plain name, by when it is sought among aliases
    abbrev pub plain_reading : Seeks → (place : ℕ) → List ℕ → Reading
    plain_reading never place name = by_column place (plain tables scope.sources name)
    plain_reading first place name =
        by_alias place (by_column place (plain tables scope.sources name)) (aliases_named name)
    plain_reading last place name =
        unless_none place
        (by_alias place (faulty_name UnknownColumn place) (aliases_named name))
        (plain tables scope.sources name)

    abbrev pub name_reading : (place : ℕ) → Option (List ℕ) → List ℕ → Reading
    name_reading place None name = plain_reading scope.seeks place name
    name_reading place (Some alias) name = by_column place (qualified tables scope.sources alias name)

    -- One node, with the reading of each expression below in its place.
    abbrev pub node_reading : ExprNode-F (ℕ → Reading) Reading → (place : ℕ) → Reading
    node_reading (ExprNode-F.Name table column) place = name_reading place table column
    node_reading node place = record {
      place = place;
      sort = node_sort node;
      row = node_expr (λ (part : Reading). part.row) (λ aggregate. no_expr) node;
      expr = node_expr (λ (part : Reading). part.expr) (expr_of_aggregate scope.slots) node;
      cond = node_cond node;
      sums = node_sums place node;
      aggregates = node_aggregates node;
      calls = node_calls place node;
      loose = node_loose node;
      literals = node_literals place node;
      faults = flat_map (λ (part : Reading). part.faults) (parts_of node) ++ node_faults place node;
    }

    -- the whole expression
    abbrev pub reading : ExprTree → Reading
    reading = fold-ExprTree (ℕ → Reading) Reading node_reading (λ tree. tree.node tree.place)
