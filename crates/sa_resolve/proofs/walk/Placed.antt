-- What stands for an item of ORDER BY, by whether it is a position.
use Rattle.std.proofs.Common.{◌≡◌, ℕ, ◌<◌, ◌^◌, ℤ, List, map, length, Option, Some, None, slice_get, option_and_then, arith, refl, sym, ap, subst, ◌∙◌}
use Rattle.std.proofs.lemmas.List.{length-map}
use Rattle.std.proofs.lemmas.Option.{slice_get_past}
use Rattle.std.specs.Option.{unwrap_or}
use Rattle.sa_ast.specs.declared.expression.ExprNode.{ExprNode, ExprNode-F, out-ExprNode, out-roll-ExprNode, roll-ExprNode, roll-out-ExprNode, the_lemmas}
use Rattle.sa_ast.specs.declared.expression.ExprNode.TheVariants as node
use Rattle.sa_ast.specs.declared.expression.ExprTree.{ExprTree}
use Rattle.sa_cond.specs.declared.expr.Expr.{Expr}
use Rattle.sa_table.specs.Table.{Table}
use Rattle.sa_query.specs.declared.item.Item.{Item}
use Rattle.sa_resolve.specs.Clauses.{item_at, positioned}
use Rattle.sa_resolve.specs.Expression.{Scope, reading}
use Rattle.sa_resolve.specs.Selected.{Selected}
use Rattle.sa_resolve.specs.inner.Building.{placed}
use Rattle.sa_resolve.specs.inner.Walking.{value_or}
use Rattle.sa_resolve.proofs.walk.Aliases.{selected_expr, value_at}

module _ (tables : List Table) (scope : Scope) (listed : List Selected) where
  abbrev At : ExprNode → ℕ → Type 0
  At one place = placed tables scope listed (record { node = one; place = place })
      ≡ reading tables scope (record { node = one; place = place })

  abbrev No : ExprNode → Type 0
  No one = (number : ℤ) → one ≡ node.Number number → ⊥

  -- at each node but that of a number
  layer_placed : (layer : ExprNode-F ExprNode ExprTree) (place : ℕ) → No (roll-ExprNode layer)
      → At (roll-ExprNode layer) place
  layer_placed (ExprNode-F.Number number) place other = absurd (other number (node.rolls-Number number))
  layer_placed (ExprNode-F.Text literal) place other = simp out-roll-ExprNode
  layer_placed ExprNode-F.Null place other = simp out-roll-ExprNode
  layer_placed (ExprNode-F.Known holds) place other = simp out-roll-ExprNode
  layer_placed (ExprNode-F.Name table column) place other = simp out-roll-ExprNode
  layer_placed (ExprNode-F.Aggregate call argument) place other = simp out-roll-ExprNode
  layer_placed (ExprNode-F.Negate x) place other = simp out-roll-ExprNode
  layer_placed (ExprNode-F.Compare op x y) place other = simp out-roll-ExprNode
  layer_placed (ExprNode-F.IsNull x negated) place other = simp out-roll-ExprNode
  layer_placed (ExprNode-F.Between x low high negated) place other = simp out-roll-ExprNode
  layer_placed (ExprNode-F.Among x list negated) place other = simp out-roll-ExprNode
  layer_placed (ExprNode-F.And members) place other = simp out-roll-ExprNode
  layer_placed (ExprNode-F.Or members) place other = simp out-roll-ExprNode
  layer_placed (ExprNode-F.Not x) place other = simp out-roll-ExprNode
  layer_placed (ExprNode-F.Add x y) place other = simp out-roll-ExprNode
  layer_placed (ExprNode-F.Subtract x y) place other = simp out-roll-ExprNode
  layer_placed (ExprNode-F.Multiply x y) place other = simp out-roll-ExprNode

  pub placed-other : (tree : ExprTree) → ((number : ℤ) → tree.node ≡ node.Number number → ⊥)
      → placed tables scope listed tree ≡ reading tables scope tree
  placed-other tree other =
      let rolled = roll-out-ExprNode tree.node in
      let AtPlace : ExprNode → Type 0 = λ one. At one tree.place in
      subst AtPlace rolled (layer_placed (out-ExprNode tree.node) tree.place
      (λ number is. other number (sym rolled ∙ is)))

  pub placed-Number : (tree : ExprTree) (number : ℤ) → tree.node ≡ node.Number number
      → placed tables scope listed tree ≡ positioned tree.place (item_at listed number)
  placed-Number tree number is =
      let made : placed tables scope listed (record { node = node.Number number; place = tree.place })
      ≡ positioned tree.place (item_at listed number) = simp the_lemmas in
      ap (λ one. placed tables scope listed (record { node = one; place = tree.place })) is ∙ made

-- what stands for what is found
positioned_expr : (place : ℕ) (found : Option Selected) → selected_expr found ≡ (positioned place found).expr
positioned_expr place None = refl
positioned_expr place (Some one) = refl

module _ (items : List Item) (listed : List Selected) (number : ℤ) (place : ℕ) (found : Option ℕ)
    (are : map (λ (item : Item). item.value) items ≡ map (λ (one : Selected). one.item.expr) listed)
    (few : length items < 2 ^ 64)
    (position : (listed : List Selected) → length listed < 2 ^ 64 → option_and_then (slice_get listed) found
    ≡ item_at listed number) where
  same_length : length listed ≡ length items
  same_length =
      sym (length-map listed (λ (one : Selected). one.item.expr))
      ∙ ap (λ (values : List Expr). length values) (sym are) ∙ length-map items (λ (item : Item). item.value)

  at_item : option_and_then (slice_get listed) found ≡ item_at listed number
  at_item =
      let Few : ℕ → Type 0 = λ count. count < 2 ^ 64 in
      position listed (subst Few (sym same_length) few)

  by_index : (index : ℕ) (one : Option ℕ) → found ≡ one → index ≡ unwrap_or one (length items)
      → value_or (slice_get items index) ≡ selected_expr (option_and_then (slice_get listed) one)
  by_index index None is at =
      ap value_or (ap (slice_get items) at ∙ slice_get_past items (length items) (omega arith))
  by_index index (Some inner) is at =
      ap (λ index. value_or (slice_get items index)) at ∙ value_at items listed inner are

  -- what stands at the place that is found, or behind all where none is
  pub at_position : (index : ℕ) → index ≡ unwrap_or found (length items)
      → value_or (slice_get items index) ≡ (positioned place (item_at listed number)).expr
  at_position index at =
      by_index index found refl at ∙ positioned_expr place (option_and_then (slice_get listed) found)
      ∙ ap (λ one. (positioned place one).expr) at_item
