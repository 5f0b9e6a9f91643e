-- The canonical text of a query.
use Rattle.std.specs.Prelude.{ℕ, Bool, List, [], ◌∷◌, ◌++◌, codes, map, flat_map, if◌then◌else◌, ◌==◌, Option, Some, None}
use Rattle.std.specs.Fmt.{decimal}
use Rattle.std.specs.Option.{option_map}
use Rattle.sa_ast.specs.declared.name.NameTree.{NameTree}
use Rattle.sa_ast.specs.declared.select.ItemNode.{ItemNode}
use Rattle.sa_ast.specs.declared.select.ItemNode.TheVariants.{Star, TableStar, Value}
use Rattle.sa_ast.specs.declared.select.ItemTree.{ItemTree}
use Rattle.sa_ast.specs.declared.select.TableTree.{TableTree}
use Rattle.sa_ast.specs.declared.select.GroupTree.{GroupTree}
use Rattle.sa_ast.specs.declared.select.OrderTree.{OrderTree}
use Rattle.sa_ast.specs.declared.select.SelectTree.{SelectTree}
use Rattle.sa_print.specs.Name.{canonical_name, alias_text}
use Rattle.sa_print.specs.Lists.{listed, clause, list_clause}
use Rattle.sa_print.specs.Expression.{canonical_expr}

-- the name in a tree
abbrev pub name_in : NameTree → List ℕ
name_in tree = tree.name

-- a part of the select list
abbrev pub node_text : ItemNode → List ℕ
node_text Star = codes "*"
node_text (TableStar table) = canonical_name table.name ++ codes ".*"
node_text (Value value alias) = canonical_expr value ++ alias_text (option_map name_in alias)

abbrev pub item_text : ItemTree → List ℕ
item_text item = node_text item.item

-- a table with its alias and its ON
abbrev pub table_text : TableTree → List ℕ
table_text table =
    canonical_name table.name.name ++ alias_text (option_map name_in table.alias)
    ++ clause (codes " ON ") (option_map canonical_expr table.on)

-- what stands before a table that isn't the first
abbrev pub join_text : Bool → List ℕ
join_text joined = if joined then codes " JOIN " else codes ", "

-- the tables of FROM
abbrev pub tables_text : List TableTree → List ℕ
tables_text [] = []
tables_text (first ∷ rest) =
    table_text first ++ flat_map (λ table. join_text table.joined ++ table_text table) rest

abbrev pub group_text : GroupTree → List ℕ
group_text item = canonical_expr item.value

-- DESC is written, and ASC, which says nothing, isn't.
abbrev pub order_text : OrderTree → List ℕ
order_text item = canonical_expr item.value ++ (if item.down then codes " DESC" else [])

abbrev pub offset_text : ℕ → List ℕ
offset_text offset = if offset == 0 then [] else codes " OFFSET " ++ decimal offset

-- LIMIT, and OFFSET where it isn't 0
abbrev pub limit_text : Option ℕ → ℕ → List ℕ
limit_text None offset = []
limit_text (Some limit) offset = codes " LIMIT " ++ decimal limit ++ offset_text offset

-- A query, clause by clause.
abbrev pub canonical_select : SelectTree → List ℕ
canonical_select tree =
    codes "SELECT " ++ (if tree.distinct then codes "DISTINCT " else [])
    ++ listed (map item_text tree.items)
    ++ codes " FROM " ++ tables_text tree.from
    ++ clause (codes " WHERE ") (option_map canonical_expr tree.filter)
    ++ list_clause (codes " GROUP BY ") (map group_text tree.group)
    ++ clause (codes " HAVING ") (option_map canonical_expr tree.having)
    ++ list_clause (codes " ORDER BY ") (map order_text tree.order)
    ++ limit_text tree.limit tree.offset
