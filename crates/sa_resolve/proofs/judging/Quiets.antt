-- A reading without calls has no aggregates.
use Rattle.std.proofs.Common.{◌≡◌, ℕ, List, [], ◌∷◌, ◌++◌, map, Option, Some, None, refl, sym, ap, subst, ◌∙◌}
use Rattle.std.specs.Prelude.{⊤}
use Rattle.std.specs.List.{flat_map}
use Rattle.sa_ast.specs.declared.expression.ExprNode.{ExprNode, ExprNode-F, map-ExprNode, out-roll-ExprNode, roll-ExprNode}
use Rattle.sa_ast.specs.declared.expression.ExprTree.{ExprTree, ExprTree-F, ind-ExprTree, roll-ExprTree}
use Rattle.sa_table.specs.Table.{Table}
use Rattle.sa_query.specs.declared.group.Column.{Column}
use Rattle.sa_resolve.specs.Expression.{Alias, Scope, Seeks, first, last, never, by_alias, by_column, name_reading, node_reading, plain_reading, reading, unless_none}
use Rattle.sa_resolve.specs.Node.{parts_of}
use Rattle.sa_resolve.specs.Reading.{Reading}
use Rattle.sa_resolve.specs.Sight.{Found, one, none, several, plain, qualified}
use Rattle.sa_resolve.proofs.judging.Values.{none_first, none_last}
use Rattle.sa_resolve.proofs.walk.Values.{layer_at, reading-layer}

abbrev pub IsQuiet : Reading → Type 0
IsQuiet item = item.calls ≡ [] → item.aggregates ≡ []

abbrev pub AreQuiet : List Reading → Type 0
AreQuiet [] = ⊤
AreQuiet (item ∷ items) = IsQuiet item × AreQuiet items

pub quiet_all : (items : List Reading) → AreQuiet items → flat_map (λ (item : Reading). item.calls) items ≡ []
    → flat_map (λ (item : Reading). item.aggregates) items ≡ []
quiet_all [] are empty = refl
quiet_all (item ∷ items) are empty =
    ap (λ here. here ++ flat_map (λ (item : Reading). item.aggregates) items)
    (are.0 (none_first item.calls (flat_map (λ (item : Reading). item.calls) items) empty))
    ∙ quiet_all items are.1 (none_last item.calls (flat_map (λ (item : Reading). item.calls) items) empty)

module _ (tables : List Table) (scope : Scope) where
  by_column_none : (place : ℕ) (found : Found Column) → (by_column tables scope place found).aggregates ≡ []
  by_column_none place (one column) = refl
  by_column_none place none = refl
  by_column_none place several = refl

  by_alias_none : (place : ℕ) (other : Reading) (found : Found Alias) → other.aggregates ≡ [] → (by_alias tables scope place other found).aggregates ≡ []
  by_alias_none place other (one alias) is = refl
  by_alias_none place other none is = is
  by_alias_none place other several is = refl

  unless_none_none : (place : ℕ) (other : Reading) (found : Found Column) → other.aggregates ≡ [] → (unless_none tables scope place other found).aggregates ≡ []
  unless_none_none place other (one column) is = refl
  unless_none_none place other none is = is
  unless_none_none place other several is = refl

  plain_none : (seeks : Seeks) (place : ℕ) (name : List ℕ) → (plain_reading tables scope seeks place name).aggregates ≡ []
  plain_none never place name = by_column_none place (plain tables scope.sources name)
  plain_none first place name = by_alias_none place _ _ (by_column_none place (plain tables scope.sources name))
  plain_none last place name = unless_none_none place _ (plain tables scope.sources name) (by_alias_none place _ _ refl)

  name_none : (place : ℕ) (table : Option (List ℕ)) (name : List ℕ) → (name_reading tables scope place table name).aggregates ≡ []
  name_none place None name = plain_none scope.seeks place name
  name_none place (Some alias) name = by_column_none place (qualified tables scope.sources alias name)

  quiet_node : (node : ExprNode-F (ℕ → Reading) Reading) (place : ℕ) → AreQuiet (parts_of node) → IsQuiet (node_reading tables scope node place)
  quiet_node (ExprNode-F.Name table column) place are = λ empty. name_none place table column
  quiet_node (ExprNode-F.Aggregate call None) place are = λ empty. (cc)
  quiet_node (ExprNode-F.Aggregate call (Some x)) place are = λ empty. (cc)
  quiet_node node place are = quiet_all (parts_of node) are

  abbrev At : ExprNode → Type 0
  At node = (place : ℕ) → IsQuiet (reading tables scope (record { node = node; place = place }))

  abbrev WithNode : Type 0
  WithNode = (node : ExprNode) × At node

  abbrev WithTree : Type 0
  WithTree = (tree : ExprTree) × IsQuiet (reading tables scope tree)

  each_quiet : (trees : List WithTree) → AreQuiet (map (reading tables scope) (map (λ (tree : WithTree). tree.0) trees))
  each_quiet [] = tt
  each_quiet (tree ∷ trees) = (tree.1, each_quiet trees)

  abbrev bare : ExprNode-F WithNode WithTree → ExprNode-F ExprNode ExprTree
  bare layer = map-ExprNode WithNode WithTree ExprNode ExprTree (λ (node : WithNode). node.0) (λ (tree : WithTree). tree.0) layer

  parts_quiet : (layer : ExprNode-F WithNode WithTree) → AreQuiet (parts_of (layer_at tables scope (bare layer)))
  parts_quiet (ExprNode-F.Number number) = tt
  parts_quiet (ExprNode-F.Text literal) = tt
  parts_quiet ExprNode-F.Null = tt
  parts_quiet (ExprNode-F.Known holds) = tt
  parts_quiet (ExprNode-F.Name table column) = tt
  parts_quiet (ExprNode-F.Aggregate call None) = tt
  parts_quiet (ExprNode-F.Aggregate call (Some x)) = (x.1, tt)
  parts_quiet (ExprNode-F.Negate x) = (x.1, tt)
  parts_quiet (ExprNode-F.Compare op x y) = (x.1, (y.1, tt))
  parts_quiet (ExprNode-F.IsNull x negated) = (x.1, tt)
  parts_quiet (ExprNode-F.Between x low high negated) = (x.1, (low.1, (high.1, tt)))
  parts_quiet (ExprNode-F.Among x list negated) = (x.1, each_quiet list)
  parts_quiet (ExprNode-F.And members) = each_quiet members
  parts_quiet (ExprNode-F.Or members) = each_quiet members
  parts_quiet (ExprNode-F.Not x) = (x.1, tt)
  parts_quiet (ExprNode-F.Add x y) = (x.1, (y.1, tt))
  parts_quiet (ExprNode-F.Subtract x y) = (x.1, (y.1, tt))
  parts_quiet (ExprNode-F.Multiply x y) = (x.1, (y.1, tt))

  at_layer : (layer : ExprNode-F WithNode WithTree) (node : ExprNode-F ExprNode ExprTree) → bare layer ≡ node → At (roll-ExprNode node)
  at_layer layer node is = λ place.
      subst IsQuiet (sym (reading-layer tables scope (record { node = roll-ExprNode node; place = place })
      ∙ ap (λ (node : ExprNode-F ExprNode ExprTree). node_reading tables scope (layer_at tables scope node) place) (out-roll-ExprNode node)))
      (quiet_node (layer_at tables scope node) place
      (subst (λ (node : ExprNode-F ExprNode ExprTree). AreQuiet (parts_of (layer_at tables scope node))) is (parts_quiet layer)))

  -- an expression
  pub quiet_tree : (tree : ExprTree) → IsQuiet (reading tables scope tree)
  quiet_tree =
      ind-ExprTree At (λ tree. IsQuiet (reading tables scope tree)) (λ x y is. at_layer y x is)
      (λ x y is. subst (λ (x : ExprTree-F ExprNode ExprTree). IsQuiet (reading tables scope (roll-ExprTree x))) is (y.node.1 y.place))
