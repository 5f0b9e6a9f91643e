-- What is no condition where it stands stands for none.
use Rattle.std.proofs.Common.{◌≡◌, ℕ, Bool, List, Option, refl, sym, ap, subst, ◌∙◌}
use Rattle.sa_value.specs.declared.truth.CompareOp.{CompareOp}
use Rattle.sa_ast.specs.declared.expression.ExprNode.{ExprNode, ExprNode-F, out-ExprNode, roll-ExprNode, roll-out-ExprNode}
use Rattle.sa_ast.specs.declared.expression.ExprNode.TheVariants as node
use Rattle.sa_ast.specs.declared.expression.ExprTree.{ExprTree}
use Rattle.sa_table.specs.Table.{Table}
use Rattle.sa_resolve.specs.Expression.{Scope, name_reading, node_reading, reading}
use Rattle.sa_resolve.specs.Reading.{Reading, no_cond}
use Rattle.sa_resolve.proofs.walk.Values.{layer_at, reading-layer}

-- An expression is none of these.
pub record IsNone (tree : ExprNode) : Type 0 where
  pub known : (holds : Bool) → tree ≡ node.Known holds → ⊥
  pub compare : (op : CompareOp) (x y : ExprTree) → tree ≡ node.Compare op x y → ⊥
  pub is_null : (x : ExprTree) (negated : Bool) → tree ≡ node.IsNull x negated → ⊥
  pub between : (x low high : ExprTree) (negated : Bool) → tree ≡ node.Between x low high negated → ⊥
  pub among : (x : ExprTree) (list : List ExprTree) (negated : Bool) → tree ≡ node.Among x list negated → ⊥
  pub and : (members : List ExprTree) → tree ≡ node.And members → ⊥
  pub or : (members : List ExprTree) → tree ≡ node.Or members → ⊥
  pub not : (x : ExprTree) → tree ≡ node.Not x → ⊥

module _ (tables : List Table) (scope : Scope)
    (named : (place : ℕ) (table : Option (List ℕ)) (name : List ℕ)
    → (name_reading tables scope place table name).cond ≡ no_cond) where
  layer_none : (layer : ExprNode-F ExprNode ExprTree) (place : ℕ) → IsNone (roll-ExprNode layer)
      → (node_reading tables scope (layer_at tables scope layer) place).cond ≡ no_cond
  layer_none (ExprNode-F.Number number) place is = refl
  layer_none (ExprNode-F.Text literal) place is = refl
  layer_none ExprNode-F.Null place is = refl
  layer_none (ExprNode-F.Known holds) place is = absurd (is.known holds (node.rolls-Known holds))
  layer_none (ExprNode-F.Name table column) place is = named place table column
  layer_none (ExprNode-F.Aggregate call argument) place is = refl
  layer_none (ExprNode-F.Negate x) place is = refl
  layer_none (ExprNode-F.Compare op x y) place is = absurd (is.compare op x y (node.rolls-Compare op x y))
  layer_none (ExprNode-F.IsNull x negated) place is = absurd
      (is.is_null x negated (node.rolls-IsNull x negated))
  layer_none (ExprNode-F.Between x low high negated) place is = absurd
      (is.between x low high negated (node.rolls-Between x low high negated))
  layer_none (ExprNode-F.Among x list negated) place is = absurd
      (is.among x list negated (node.rolls-Among x list negated))
  layer_none (ExprNode-F.And members) place is = absurd (is.and members (node.rolls-And members))
  layer_none (ExprNode-F.Or members) place is = absurd (is.or members (node.rolls-Or members))
  layer_none (ExprNode-F.Not x) place is = absurd (is.not x (node.rolls-Not x))
  layer_none (ExprNode-F.Add x y) place is = refl
  layer_none (ExprNode-F.Subtract x y) place is = refl
  layer_none (ExprNode-F.Multiply x y) place is = refl

  pub none_cond : (tree : ExprTree) → IsNone tree.node → no_cond ≡ (reading tables scope tree).cond
  none_cond tree is =
      sym (ap (λ (one : Reading). one.cond) (reading-layer tables scope tree)
      ∙ layer_none (out-ExprNode tree.node) tree.place (subst IsNone (sym (roll-out-ExprNode tree.node)) is))
