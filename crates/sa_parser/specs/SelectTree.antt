-- What the parts of a query make when they are put together.
use Rattle.std.specs.Prelude.{ℕ, Bool, true, false, List, [], Option, Some, None}
use Rattle.sa_ast.specs.declared.name.NameTree.{NameTree}
use Rattle.sa_ast.specs.declared.expression.ExprTree.{ExprTree}
use Rattle.sa_ast.specs.declared.select.ItemNode.TheVariants.{Star, TableStar, Value}
use Rattle.sa_ast.specs.declared.select.ItemTree.{ItemTree}
use Rattle.sa_ast.specs.declared.select.TableTree.{TableTree}
use Rattle.sa_ast.specs.declared.select.GroupTree.{GroupTree}
use Rattle.sa_ast.specs.declared.select.OrderTree.{OrderTree}
use Rattle.sa_ast.specs.declared.select.SelectTree.{SelectTree}
use Rattle.sa_parser.specs.declared.limits.Limits.{Limits}

abbrev pub star_item : ℕ → ItemTree
star_item place = record { item = Star; place = place }

abbrev pub table_star_item : NameTree → ℕ → ℕ → ItemTree
table_star_item table dot star = record { item = TableStar table; place = table.place }

-- an expression with its alias, at its first token
abbrev pub value_item : ℕ → ExprTree × Option NameTree → ItemTree
value_item place named = record { item = Value named.0 named.1; place = place }

-- a table that stands behind FROM or a comma
abbrev pub table_tree : NameTree → Option NameTree → TableTree
table_tree name alias = record { name = name; alias = alias; joined = false; on = None }

-- a table that stands behind JOIN
abbrev pub joined_table : ℕ → TableTree → Option ExprTree → TableTree
joined_table join table on = record table { joined = true; on = on }

abbrev pub group_item : ℕ → ExprTree → GroupTree
group_item place value = record { value = value; place = place }

abbrev pub order_item : ℕ → ExprTree × Bool → OrderTree
order_item place directed = record { value = directed.0; down = directed.1; place = place }

-- a choice that is made where nothing is written
abbrev pub or_else : {A : Type 0} → A → Option A → A
or_else otherwise None = otherwise
or_else otherwise (Some found) = found

-- a list that can be left out
abbrev pub listed : {A : Type 0} → Option (List A) → List A
listed found = or_else [] found

-- In `LIMIT a, b` a is the offset.
abbrev pub two_limits : ℕ → Bool → ℕ → Limits
two_limits first true second = record { limit = second; offset = first }
two_limits first false second = record { limit = first; offset = second }

-- A second number comes with whether a comma stands before it.
abbrev pub limits : ℕ → Option (Bool × ℕ) → Limits
limits first None = record { limit = first; offset = 0 }
limits first (Some second) = two_limits first second.0 second.1

abbrev pub limit_of : Option Limits → Option ℕ
limit_of None = None
limit_of (Some found) = Some found.limit

abbrev pub offset_of : Option Limits → ℕ
offset_of None = 0
offset_of (Some found) = found.offset

-- HAVING, with the place of its word
abbrev pub having_of : Option (ℕ × ExprTree) → Option ExprTree
having_of None = None
having_of (Some having) = Some having.1

abbrev pub having_place_of : Option (ℕ × ExprTree) → ℕ
having_place_of None = 0
having_place_of (Some having) = having.0

abbrev pub select_tree : ℕ → Bool → List ItemTree → ℕ → List TableTree → Option ExprTree
    → List GroupTree → Option (ℕ × ExprTree) → List OrderTree → Option Limits → SelectTree
select_tree select distinct items from tables filter group having order limits = record {
  distinct = distinct;
  items = items;
  from = tables;
  filter = filter;
  group = group;
  having = having_of having;
  having_place = having_place_of having;
  order = order;
  limit = limit_of limits;
  offset = offset_of limits;
}
