-- Trees without the places of their parts. Two trees say the same where their unplaced trees are equal.
use Rattle.std.specs.Prelude.{map}
use Rattle.std.specs.Option.{option_map}
use Rattle.sa_ast.specs.declared.name.NameTree.{NameTree}
use Rattle.sa_ast.specs.declared.expression.ExprTree.{ExprTree, fold-ExprTree, roll-ExprTree}
use Rattle.sa_ast.specs.declared.expression.ExprNode.{ExprNode, roll-ExprNode}
use Rattle.sa_ast.specs.declared.select.ItemNode.{ItemNode}
use Rattle.sa_ast.specs.declared.select.ItemNode.TheVariants.{Star, TableStar, Value}
use Rattle.sa_ast.specs.declared.select.ItemTree.{ItemTree}
use Rattle.sa_ast.specs.declared.select.TableTree.{TableTree}
use Rattle.sa_ast.specs.declared.select.GroupTree.{GroupTree}
use Rattle.sa_ast.specs.declared.select.OrderTree.{OrderTree}
use Rattle.sa_ast.specs.declared.select.SelectTree.{SelectTree}
use Rattle.sa_ast.specs.declared.create.CreateTree.{CreateTree}
use Rattle.sa_ast.specs.declared.insert.TupleTree.{TupleTree}
use Rattle.sa_ast.specs.declared.insert.InsertTree.{InsertTree}
use Rattle.sa_ast.specs.declared.statement.Statement.{Statement}
use Rattle.sa_ast.specs.declared.statement.Statement.TheVariants.{Select, Explain, Analyze, Create, Insert}

-- a name
abbrev pub unplaced_name : NameTree → NameTree
unplaced_name name = record name { place = 0 }

-- an expression: the same nodes, each at 0
abbrev pub unplaced_expr : ExprTree → ExprTree
unplaced_expr = fold-ExprTree ExprNode ExprTree roll-ExprNode
    (λ tree. roll-ExprTree (record tree { place = 0 }))

-- what a part of the select list asks for
abbrev pub unplaced_node : ItemNode → ItemNode
unplaced_node Star = Star
unplaced_node (TableStar name) = TableStar (unplaced_name name)
unplaced_node (Value value alias) = Value (unplaced_expr value) (option_map unplaced_name alias)

-- a part of the select list
abbrev pub unplaced_item : ItemTree → ItemTree
unplaced_item item = record { item = unplaced_node item.item; place = 0 }

-- a table of FROM
abbrev pub unplaced_table : TableTree → TableTree
unplaced_table table =
    record table {
      name = unplaced_name table.name;
      alias = option_map unplaced_name table.alias;
      on = option_map unplaced_expr table.on;
    }

-- an item of GROUP BY
abbrev pub unplaced_group : GroupTree → GroupTree
unplaced_group item = record { value = unplaced_expr item.value; place = 0 }

-- an item of ORDER BY
abbrev pub unplaced_order : OrderTree → OrderTree
unplaced_order item = record item { value = unplaced_expr item.value; place = 0 }

-- a query
abbrev pub unplaced_select : SelectTree → SelectTree
unplaced_select tree =
    record tree {
      items = map unplaced_item tree.items;
      from = map unplaced_table tree.from;
      filter = option_map unplaced_expr tree.filter;
      group = map unplaced_group tree.group;
      having = option_map unplaced_expr tree.having;
      having_place = 0;
      order = map unplaced_order tree.order;
    }

-- a table's definition
abbrev pub unplaced_create : CreateTree → CreateTree
unplaced_create tree = record tree { name = unplaced_name tree.name }

-- the values of one row
abbrev pub unplaced_tuple : TupleTree → TupleTree
unplaced_tuple tuple = record tuple { place = 0 }

-- rows for a table
abbrev pub unplaced_insert : InsertTree → InsertTree
unplaced_insert tree =
    record {
      table = unplaced_name tree.table;
      columns = option_map (map unplaced_name) tree.columns;
      tuples = map unplaced_tuple tree.tuples;
    }

-- a statement
abbrev pub unplaced : Statement → Statement
unplaced (Select tree) = Select (unplaced_select tree)
unplaced (Explain tree) = Explain (unplaced_select tree)
unplaced (Analyze tree) = Analyze (unplaced_select tree)
unplaced (Create tree) = Create (unplaced_create tree)
unplaced (Insert tree) = Insert (unplaced_insert tree)
unplaced other = other
