-- The readings of all clauses of a SELECT.
-- Source: MariaDB Knowledge Base, "GROUP BY", "ORDER BY" and "HAVING".
use Rattle.std.specs.Prelude.{ℕ, ℤ, pos, negsuc, suc, zero, Bool, not, ◌||◌, List, [], ◌∷◌, ◌++◌, map, slice_get, Option, Some, None, if◌then◌else◌}
use Rattle.std.specs.List.{flat_map, list_any}
use Rattle.sa_ast.specs.declared.expression.ExprNode.{ExprNode, ExprNode-F, out-ExprNode}
use Rattle.sa_ast.specs.declared.expression.ExprTree.{ExprTree}
use Rattle.sa_ast.specs.declared.select.GroupTree.{GroupTree}
use Rattle.sa_ast.specs.declared.select.OrderTree.{OrderTree}
use Rattle.sa_ast.specs.declared.select.SelectTree.{SelectTree}
use Rattle.sa_cond.specs.declared.expr.Expr.{Expr, Expr-F, out-Expr}
use Rattle.sa_table.specs.Table.{Table}
use Rattle.sa_query.specs.declared.group.Aggregate.{Aggregate}
use Rattle.sa_query.specs.declared.group.Column.{Column}
use Rattle.sa_query.specs.declared.refusal.ResolveKind.TheVariants.{UnknownColumn}
use Rattle.sa_query.specs.Groups.{firsts}
use Rattle.sa_query.specs.Meaning.{is_empty}
use Rattle.sa_resolve.specs.Expression.{Scope, Seeks, first, last, reading}
use Rattle.sa_resolve.specs.Node.{Slots}
use Rattle.sa_resolve.specs.Reading.{Reading, faulty_name, named}
use Rattle.sa_resolve.specs.Same.{same_aggregate}
use Rattle.sa_resolve.specs.Selected.{Selected, selected, aliases_of}
use Rattle.sa_resolve.specs.Sight.{Source}
use Rattle.sa_resolve.specs.Tables.{sources_of, over_rows, on_readings}

-- The readings of the clauses of a SELECT.
pub record Clauses : Type 0 where
  pub on : List Reading
  pub filter : List Reading
  pub select : List Selected
  pub group : List Reading
  pub having : List Reading
  pub order : List Reading

-- the select item of a position, counted from 1, if there is one
abbrev pub item_at : List Selected → ℤ → Option Selected
item_at items (pos zero) = None
item_at items (pos (suc number)) = slice_get items number
item_at items (negsuc number) = None

abbrev pub positioned : (place : ℕ) → Option Selected → Reading
positioned place None = faulty_name UnknownColumn place
positioned place (Some one) = named place one.item

abbrev pub option_list : {A B : Type 0} → (A → B) → Option A → List B
option_list f None = []
option_list f (Some one) = f one ∷ []

module _ (tables : List Table) (tree : SelectTree) where
  abbrev pub sources : List Source
  sources = sources_of tables tree.from

  module _ (slots : Option Slots) where
    abbrev pub select_scope : Scope
    select_scope = record (over_rows sources) { slots = slots }

    abbrev pub items : List Selected
    items = selected tables select_scope tree.items

    -- what sees the aliases of the select list too
    abbrev pub scope_of : Seeks → Scope
    scope_of seeks = record select_scope { aliases = aliases_of items; seeks = seeks }

    -- An item of GROUP BY or ORDER BY: a number alone stands for the select item of that position.
    abbrev pub item_reading : Seeks → ExprTree → Reading
    item_reading seeks value = at_node (out-ExprNode value.node)
      where
        at_node : ExprNode-F ExprNode ExprTree → Reading
        at_node (ExprNode-F.Number number) = positioned value.place (item_at items number)
        at_node node = reading tables (scope_of seeks) value

    -- all clauses; WHERE and ON are over rows whatever the query is
    abbrev pub clauses_with : Clauses
    clauses_with = record {
      on = on_readings tables tree.from;
      filter = option_list (reading tables (over_rows sources)) tree.filter;
      select = items;
      group = map (λ (one : GroupTree). item_reading last one.value) tree.group;
      having = option_list (reading tables (scope_of first)) tree.having;
      order = map (λ (one : OrderTree). item_reading first one.value) tree.order;
    }

-- the readings of all clauses
abbrev pub all_readings : Clauses → List Reading
all_readings clauses =
    clauses.on ++ clauses.filter ++ map (λ (one : Selected). one.item) clauses.select
    ++ clauses.group ++ clauses.having ++ clauses.order

-- whether a SELECT groups: it has GROUP BY, or an aggregate anywhere
abbrev pub groups : Clauses → Bool
groups clauses =
    not (is_empty clauses.group)
    || list_any (λ (one : Reading). not (is_empty one.calls)) (all_readings clauses)

abbrev pub column_at : Expr-F Expr → List Column
column_at (Expr-F.Column table column) = record { table = table; column = column } ∷ []
column_at node = []

-- the column that a reading is, if it is one
abbrev pub column_of : Reading → List Column
column_of one = column_at (out-Expr one.row)

-- the columns of GROUP BY
abbrev pub group_columns : Clauses → List Column
group_columns clauses = flat_map column_of clauses.group

-- each different aggregate of the select list, HAVING and ORDER BY once, in order of its first mention
abbrev pub aggregates_of : Clauses → List Aggregate
aggregates_of clauses =
    firsts same_aggregate
    (flat_map (λ (one : Reading). one.aggregates)
    (map (λ (one : Selected). one.item) clauses.select ++ clauses.having ++ clauses.order))

abbrev pub slots_of : Clauses → Option Slots
slots_of clauses =
    if groups clauses
    then Some (record { group = group_columns clauses; aggregates = aggregates_of clauses })
    else None

-- The clauses of a SELECT over tables. What its slots are is read first, over rows.
unfoldable pub clauses_of : List Table → SelectTree → Clauses
clauses_of tables tree = clauses_with tables tree (slots_of (clauses_with tables tree None))
