-- What the columns and slots of a query can hold.
use Rattle.std.specs.Prelude.{ℕ, pos, negsuc, List, ◌++◌, map, slice_get, slice_index_or, Option, Some, None}
use Rattle.sa_ast.specs.declared.expression.AggregateCall.{AggregateCall}
use Rattle.sa_ast.specs.declared.expression.AggregateCall.TheVariants.{CountRows, Count, Sum}
use Rattle.sa_cond.specs.declared.cells.CellKind.{CellKind}
use Rattle.sa_cond.specs.declared.cells.CellKind.TheVariants as cells
use Rattle.sa_cond.specs.declared.expr.Expr.{Expr}
use Rattle.sa_cond.specs.Interval.{CellKinds, ExprKind, number, sum, text, null, faulty, expr_kind}
use Rattle.sa_table.specs.declared.def.ColumnKind.{ColumnKind}
use Rattle.sa_table.specs.declared.def.ColumnKind.TheVariants as kinds
use Rattle.sa_table.specs.Sound.{column_at}
use Rattle.sa_table.specs.Table.{Table, table_at}
use Rattle.sa_query.specs.declared.group.Aggregate.{Aggregate}
use Rattle.sa_query.specs.declared.group.Column.{Column}
use Rattle.sa_query.specs.declared.query.Query.{Query}
use Rattle.sa_query.specs.declared.query.TableUse.{TableUse}

-- what the cells of a column can hold
abbrev pub cells_of : ColumnKind → CellKind
cells_of kinds.Int = cells.Number (negsuc 2147483647) (pos 2147483647)
cells_of kinds.BigInt = cells.Number (negsuc 9223372036854775807) (pos 9223372036854775807)
cells_of (kinds.VarChar characters) = cells.Text

-- what a column of the table in this position of FROM can hold; what isn't there counts as a text
abbrev pub column_cells : List Table → Option TableUse → (column : ℕ) → CellKind
column_cells tables None column = cells.Text
column_cells tables (Some used) column = cells_of (column_at (table_at tables used.table).def column).kind

abbrev pub column_kinds : List Table → List TableUse → CellKinds
column_kinds tables uses = record {
  column = λ position column. column_cells tables (slice_get uses position) column;
  slot = λ number. cells.Text;
}

-- what values of an expression of this kind can be; NULL alone counts as 0, and a fault as a text
abbrev pub cells_in : ExprKind → CellKind
cells_in (number interval) = cells.Number interval.least interval.greatest
cells_in sum = cells.Sum
cells_in text = cells.Text
cells_in null = cells.Number (pos 0) (pos 0)
cells_in faulty = cells.Text

-- what an aggregate can give: a count up to 2^40, a sum, or what its argument can be
abbrev pub aggregate_cells : CellKinds → AggregateCall → Option Expr → CellKind
aggregate_cells kinds CountRows argument = cells.Number (pos 0) (pos 1099511627776)
aggregate_cells kinds Count argument = cells.Number (pos 0) (pos 1099511627776)
aggregate_cells kinds Sum argument = cells.Sum
aggregate_cells kinds call None = cells.Text
aggregate_cells kinds call (Some argument) = cells_in (expr_kind kinds argument)

-- the kinds of a query's slots: those of its GROUP BY columns and then of its aggregates
abbrev pub slot_cells : CellKinds → Query → List CellKind
slot_cells kinds query =
    map (λ (one : Column). kinds.column one.table one.column) query.group
    ++ map (λ (one : Aggregate). aggregate_cells kinds one.call one.argument) query.aggregates

-- the kinds of all that a query's trees can name
abbrev pub query_kinds : List Table → Query → CellKinds
query_kinds tables query =
    let columns = column_kinds tables query.tables in
    record columns { slot = λ number. slice_index_or (slot_cells columns query) number cells.Text }
