-- The items of a select list, those out of `*` and `t.*` too.
-- Source: MariaDB Knowledge Base, "SELECT" and "Identifier Qualifiers".
use Rattle.std.specs.Prelude.{ℕ, List, [], ◌∷◌, map, Option, Some, None}
use Rattle.std.specs.List.{flat_map, enumerate_from}
use Rattle.sa_ast.specs.declared.name.NameTree.{NameTree}
use Rattle.sa_ast.specs.declared.expression.ExprNode.{ExprNode, ExprNode-F, out-ExprNode}
use Rattle.sa_ast.specs.declared.expression.ExprTree.{ExprTree}
use Rattle.sa_ast.specs.declared.select.ItemNode.{ItemNode}
use Rattle.sa_ast.specs.declared.select.ItemNode.TheVariants.{Star, TableStar, Value}
use Rattle.sa_ast.specs.declared.select.ItemTree.{ItemTree}
use Rattle.sa_print.specs.Expression.{canonical_expr}
use Rattle.sa_table.specs.declared.def.ColumnDef.{ColumnDef}
use Rattle.sa_table.specs.Table.{Table}
use Rattle.sa_query.specs.declared.refusal.ResolveKind.TheVariants.{UnknownTable}
use Rattle.sa_resolve.specs.Expression.{Scope, Alias, column_reading, reading}
use Rattle.sa_resolve.specs.Fault.{Fault, fault_at}
use Rattle.sa_resolve.specs.Reading.{Reading}
use Rattle.sa_resolve.specs.Sight.{Source, as_list, columns_of, source_named}

-- An item of the select list, which gives one column of the answer.
pub record Selected : Type 0 where
  -- the name of the answer's column
  pub name : List ℕ
  pub alias : Option (List ℕ)
  -- the first token of the item that is written
  pub place : ℕ
  pub item : Reading

abbrev pub name_of_node : ExprTree → ExprNode-F ExprNode ExprTree → List ℕ
name_of_node tree (ExprNode-F.Name table column) = column
name_of_node tree node = canonical_expr tree

-- what an expression is called: a column by its name, all else by its canonical text
abbrev pub name_of_expr : ExprTree → List ℕ
name_of_expr tree = name_of_node tree (out-ExprNode tree.node)

abbrev pub item_name : ExprTree → Option NameTree → List ℕ
item_name value None = name_of_expr value
item_name value (Some alias) = alias.name

abbrev pub alias_in : Option NameTree → Option (List ℕ)
alias_in None = None
alias_in (Some alias) = Some alias.name

module _ (tables : List Table) (scope : Scope) where
  abbrev pub column_item : (place number : ℕ) → ℕ × ColumnDef → Selected
  column_item place number (column, def) = record {
    name = def.name;
    alias = None;
    place = place;
    item = column_reading tables scope place (record { table = number; column = column });
  }

  -- all columns of a table of FROM, in order
  abbrev pub star_of : (place : ℕ) → ℕ × Source → List Selected
  star_of place (number, source) =
      map (column_item place number) (enumerate_from 0 (columns_of tables source))

  abbrev pub items_at : (place : ℕ) → ItemNode → List Selected
  items_at place Star = flat_map (star_of place) (enumerate_from 0 scope.sources)
  items_at place (TableStar table) =
      flat_map (star_of place) (as_list (source_named scope.sources table.name))
  items_at place (Value value alias) =
      record {
        name = item_name value alias;
        alias = alias_in alias;
        place = place;
        item = reading tables scope value;
      } ∷ []

  -- the whole list
  abbrev pub selected : List ItemTree → List Selected
  selected items = flat_map (λ (tree : ItemTree). items_at tree.place tree.item) items

  -- a `t.*` of a table that isn't there is told at its name
  abbrev pub star_faults : ItemNode → List Fault
  star_faults (TableStar table) = unless_found (source_named scope.sources table.name)
    where
      unless_found : Option (ℕ × Source) → List Fault
      unless_found None = fault_at UnknownTable table.place ∷ []
      unless_found (Some found) = []
  star_faults node = []

-- the aliases of a select list
abbrev pub alias_of : Selected → List Alias
alias_of one = map (λ name. record { name = name; item = one.item }) (as_list one.alias)

abbrev pub aliases_of : List Selected → List Alias
aliases_of items = flat_map alias_of items
