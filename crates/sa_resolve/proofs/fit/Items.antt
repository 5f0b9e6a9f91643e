-- What holds of columns and of expressions, holds of items of a select list, aliases and positions.
use Rattle.std.proofs.Common.{◌≡◌, ℕ, suc, zero, ℤ, pos, negsuc, ◌<◌, List, [], ◌∷◌, flat_map, length, Option, Some, None, refl, subst}
use Rattle.std.specs.Prelude.{⊤, slice_get}
use Rattle.std.specs.List.{AllByRecursion, enumerate_from}
use Rattle.std.specs.Option.{IfSome}
use Rattle.sa_ast.specs.declared.expression.ExprNode.{ExprNode, ExprNode-F, out-ExprNode}
use Rattle.sa_ast.specs.declared.expression.ExprTree.{ExprTree}
use Rattle.sa_ast.specs.declared.select.ItemNode.{ItemNode}
use Rattle.sa_ast.specs.declared.select.ItemNode.TheVariants.{Star, TableStar, Value}
use Rattle.sa_ast.specs.declared.select.ItemTree.{ItemTree}
use Rattle.sa_ast.specs.declared.select.SelectTree.{SelectTree}
use Rattle.sa_table.specs.Table.{Table}
use Rattle.sa_table.specs.declared.def.ColumnDef.{ColumnDef}
use Rattle.sa_query.specs.declared.group.Column.{Column}
use Rattle.sa_query.specs.declared.refusal.ResolveKind.{ResolveKind}
use Rattle.sa_query.specs.declared.refusal.ResolveKind.TheVariants.{UnknownColumn}
use Rattle.sa_resolve.specs.Clauses.{items, scope_of, item_reading, item_at, positioned}
use Rattle.sa_resolve.specs.Expression.{Scope, Alias, Seeks, column_reading, reading}
use Rattle.sa_resolve.specs.Node.{Slots}
use Rattle.sa_resolve.specs.Reading.{Reading, faulty_name, named}
use Rattle.sa_resolve.specs.Selected.{Selected, column_item, star_of, items_at, selected, alias_of, aliases_of}
use Rattle.sa_resolve.specs.Sight.{Source, as_list, columns_of, source_named}
use Rattle.sa_resolve.proofs.fit.Lists.{each-map, each-of, each-weaker, each-always}
use Rattle.sa_resolve.proofs.fit.Names.{IsSeen, IsPlaced, sources-placed, named_placed, each-numbered}

-- the value of an item has this, if it has a value
abbrev pub OfValue : (ExprTree → Type 0) → ItemNode → Type 0
OfValue P (Value value alias) = P value
OfValue P node = ⊤

as_list-has : {A : Type 0} (P : A → Type 0) (found : Option A) → IfSome found P
    → AllByRecursion P (as_list found)
as_list-has P None has = tt
as_list-has P (Some one) has = (has, tt)

module _ (tables : List Table) (scope : Scope) (Q : Reading → Type 0) (P : ExprTree → Type 0)
    (at_column : (place : ℕ) (column : Column) → IsSeen tables scope.sources column
    → Q (column_reading tables scope place column))
    (at_value : (value : ExprTree) → P value → Q (reading tables scope value)) where
  abbrev Has : Selected → Type 0
  Has one = Q one.item

  abbrev Placed : ℕ × Source → Type 0
  Placed = IsPlaced tables scope.sources

  star-has : (place : ℕ) (numbered : ℕ × Source) → Placed numbered → AllByRecursion Has
      (star_of tables scope place numbered)
  star-has place (number, source) placed =
      each-map Has (column_item tables scope place number)
      (enumerate_from 0 (columns_of tables source))
      (each-numbered
      (λ (column : ℕ × ColumnDef). Has (column_item tables scope place number column))
      (columns_of tables source)
      (λ i d lt. at_column place (record { table = number; column = i })
      (record {
        table = placed.there;
        column = subst
            (λ source. i < length (columns_of tables source)) placed.is lt;
      })))

  stars-have : (place : ℕ) (numbered : List (ℕ × Source)) → AllByRecursion Placed numbered
      → AllByRecursion Has (flat_map (star_of tables scope place) numbered)
  stars-have place numbered placed =
      each-of Has (star_of tables scope place) numbered
      (each-weaker Placed (λ one. AllByRecursion Has (star_of tables scope place one))
      (star-has place) numbered placed)

  node-has : (place : ℕ) (node : ItemNode) → OfValue P node → AllByRecursion Has
      (items_at tables scope place node)
  node-has place Star value =
      stars-have place (enumerate_from 0 scope.sources) (sources-placed tables scope.sources)
  node-has place (TableStar table) value =
      stars-have place (as_list (source_named scope.sources table.name))
      (as_list-has Placed (source_named scope.sources table.name)
      (named_placed tables scope.sources table.name))
  node-has place (Value value alias) has = (at_value value has, tt)

  -- items of a select list
  pub items_have : (trees : List ItemTree)
      → AllByRecursion (λ (tree : ItemTree). OfValue P tree.item) trees
      → AllByRecursion (λ (one : Selected). Q one.item) (selected tables scope trees)
  items_have trees has =
      each-of Has (λ (tree : ItemTree). items_at tables scope tree.place tree.item) trees
      (each-weaker (λ (tree : ItemTree). OfValue P tree.item)
      (λ (tree : ItemTree). AllByRecursion Has (items_at tables scope tree.place tree.item))
      (λ tree value. node-has tree.place tree.item value) trees has)

-- aliases
alias-has : (Q : Reading → Type 0) (one : Selected) → Q one.item
    → AllByRecursion (λ (alias : Alias). Q alias.item) (alias_of one)
alias-has Q one has =
    each-map (λ (alias : Alias). Q alias.item)
    (λ (name : List ℕ). record { name = name; item = one.item }) (as_list one.alias)
    (each-always (λ (name : List ℕ). Q one.item) (λ name. has) (as_list one.alias))

pub aliases_have : (Q : Reading → Type 0) (list : List Selected)
    → AllByRecursion (λ (one : Selected). Q one.item) list
    → AllByRecursion (λ (alias : Alias). Q alias.item) (aliases_of list)
aliases_have Q list has =
    each-of (λ (alias : Alias). Q alias.item) alias_of list
    (each-weaker (λ (one : Selected). Q one.item)
    (λ (one : Selected). AllByRecursion (λ (alias : Alias). Q alias.item) (alias_of one))
    (alias-has Q) list has)

slice_get-has : {A : Type 0} (P : A → Type 0) (xs : List A) (k : ℕ) → AllByRecursion P xs
    → IfSome (slice_get xs k) P
slice_get-has P [] k all = tt
slice_get-has P (x ∷ xs) zero all = all.0
slice_get-has P (x ∷ xs) (suc k) all = slice_get-has P xs k all.1

item_at-has : (P : Selected → Type 0) (list : List Selected) (number : ℤ) → AllByRecursion P list
    → IfSome (item_at list number) P
item_at-has P list (pos zero) all = tt
item_at-has P list (pos (suc number)) all = slice_get-has P list number all
item_at-has P list (negsuc number) all = tt

module _ (tables : List Table) (tree : SelectTree) (slots : Option Slots) (seeks : Seeks)
    (Q OfItem : Reading → Type 0) (P : ExprTree → Type 0)
    (at_fault : (kind : ResolveKind) (place : ℕ) → Q (faulty_name kind place))
    (at_item : (place : ℕ) (one : Reading) → OfItem one → Q (named place one))
    (at_value : (value : ExprTree) → P value
    → Q (reading tables (scope_of tables tree slots seeks) value))
    (has : AllByRecursion (λ (one : Selected). OfItem one.item) (items tables tree slots)) where
  at_position : (place : ℕ) (found : Option Selected)
      → IfSome found (λ (one : Selected). OfItem one.item) → Q (positioned place found)
  at_position place None of = at_fault UnknownColumn place
  at_position place (Some one) of = at_item place one.item of

  by_node : (value : ExprTree) → P value → (node : ExprNode-F ExprNode ExprTree)
      → out-ExprNode value.node ≡ node
      → Q (item_reading tables tree slots seeks value)
  by_node value of (ExprNode-F.Number number) is =
      rw is (at_position value.place (item_at (items tables tree slots) number)
      (item_at-has (λ (one : Selected). OfItem one.item) (items tables tree slots) number has))
  by_node value of node is = rw is (at_value value of)

  -- an item of GROUP BY or ORDER BY
  pub item_has : (value : ExprTree) → P value → Q (item_reading tables tree slots seeks value)
  item_has value of = by_node value of (out-ExprNode value.node) refl
