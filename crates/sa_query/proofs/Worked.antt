-- The pieces of worked queries.
use Rattle.std.proofs.Common.{ℕ, pos, false, List, [], None}
use Rattle.sa_value.specs.declared.value.Value.{Value}
use Rattle.sa_value.specs.declared.value.Value.TheVariants.{Int}
use Rattle.sa_cond.specs.declared.cond.Cond.TheVariants.{And}
use Rattle.sa_cond.specs.declared.expr.Expr.{Expr}
use Rattle.sa_table.specs.Table.{Table, no_def}
use Rattle.sa_query.specs.declared.item.Item.{Item}
use Rattle.sa_query.specs.declared.query.Query.{Query}
use Rattle.sa_query.specs.declared.query.TableUse.{TableUse}

abbrev pub number : ℕ → Value
number n = Int (pos n)

-- A table with these rows. What a query means doesn't rest on the definition of a table.
abbrev pub table : List (List Value) → Table
table rows = record { def = no_def; rows = rows }

-- the table of this number, by its name in a statement
abbrev pub used : ℕ → List ℕ → TableUse
used number name = record { table = number; alias = name }

abbrev pub item : List ℕ → Expr → Item
item name value = record { name = name; value = value }

-- `SELECT items FROM tables`
abbrev pub select : List Item → List TableUse → Query
select items tables = record {
  tables = tables;
  filter = And [];
  select = items;
  group = [];
  aggregates = [];
  having = None;
  distinct = false;
  order = [];
  limit = None;
  offset = 0;
}
