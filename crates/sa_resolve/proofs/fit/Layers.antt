-- Induction over an expression of a text, and what a fold gives at its node.
use Rattle.std.proofs.Common.{◌≡◌, ℕ, List, [], ◌∷◌, map, Some, None, refl, ap, ◌∙◌, subst}
use Rattle.sa_ast.specs.declared.expression.ExprNode.{ExprNode, ExprNode-F, roll-ExprNode, map-ExprNode, fold-ExprNode, fold-roll-ExprNode}
use Rattle.sa_ast.specs.declared.expression.ExprTree.{ExprTree, ExprTree-F, roll-ExprTree, ind-ExprTree, fold-ExprTree, fold-roll-ExprTree}

pub map-twice : {A B C : Type 0} (f : A → B) (g : B → C) (xs : List A) → map g (map f xs)
    ≡ map (λ x. g (f x)) xs
map-twice f g [] = refl
map-twice f g (x ∷ xs) = ap (λ list. g (f x) ∷ list) (map-twice f g xs)

-- a node with other parts
abbrev pub with_parts : {A B : Type 0} → (A → B) → ExprNode-F ExprNode A → ExprNode-F ExprNode B
with_parts {A} {B} f node = map-ExprNode ExprNode A ExprNode B (λ x. x) f node

module _ (N A M B K C : Type 0) (n : N → M) (f : A → B) (m : M → K) (g : B → C) where
  abbrev Same : ExprNode-F N A → Type 0
  Same node =
      map-ExprNode M B K C m g (map-ExprNode N A M B n f node)
      ≡ map-ExprNode N A K C (λ x. m (n x)) (λ x. g (f x)) node

  pub map-map : (node : ExprNode-F N A) → Same node
  map-map (ExprNode-F.Number literal) = refl
  map-map (ExprNode-F.Text literal) = refl
  map-map ExprNode-F.Null = refl
  map-map (ExprNode-F.Known holds) = refl
  map-map (ExprNode-F.Name table column) = refl
  map-map (ExprNode-F.Aggregate call None) = refl
  map-map (ExprNode-F.Aggregate call (Some argument)) = refl
  map-map (ExprNode-F.Negate x) = refl
  map-map (ExprNode-F.Compare op x y) = refl
  map-map (ExprNode-F.IsNull x negated) = refl
  map-map (ExprNode-F.Between x low high negated) = refl
  map-map (ExprNode-F.Among x list negated) =
      ap (λ list. ExprNode-F.Among (g (f x)) list negated) (map-twice f g list)
  map-map (ExprNode-F.And members) = ap (λ list. ExprNode-F.And list) (map-twice f g members)
  map-map (ExprNode-F.Or members) = ap (λ list. ExprNode-F.Or list) (map-twice f g members)
  map-map (ExprNode-F.Not x) = refl
  map-map (ExprNode-F.Add x y) = refl
  map-map (ExprNode-F.Subtract x y) = refl
  map-map (ExprNode-F.Multiply x y) = refl

module _ (P : ExprTree → Type 0) where
  abbrev pub With : Type 0
  With = (tree : ExprTree) × P tree

  -- the tree of a node
  abbrev pub tree_over : ExprNode-F ExprNode With → (place : ℕ) → ExprTree
  tree_over node place =
      record { node = roll-ExprNode (with_parts (λ (one : With). one.0) node); place = place }

  AtNode : ExprNode → Type 0
  AtNode node = (place : ℕ) → P (record { node = node; place = place })

  -- What holds of a tree if it holds of those below, holds of each tree.
  pub by_layers : ((node : ExprNode-F ExprNode With) (place : ℕ) → P (tree_over node place))
      → (tree : ExprTree) → P tree
  unfolding AtNode
  by_layers step =
      ind-ExprTree AtNode P
      (λ x y is. λ place. subst (λ node. P (record { node = roll-ExprNode node; place = place }))
      (map-map ((node : ExprNode) × AtNode node) With ExprNode With ExprNode ExprTree (λ one. one.0)
      (λ one. one) (λ x. x) (λ one. one.0) y ∙ is)
      (step (map-ExprNode ((node : ExprNode) × AtNode node) With ExprNode With (λ one. one.0)
      (λ one. one) y) place))
      (λ x y is. subst (λ tree. P (roll-ExprTree tree)) is (y.node.1 y.place))

module _ (A B : Type 0) (at_node : ExprNode-F A B → A) (at_tree : ExprTree-F A B → B) where
  -- a fold at the tree of a node
  pub fold-over : (P : ExprTree → Type 0) (node : ExprNode-F ExprNode (With P)) (place : ℕ)
      → fold-ExprTree A B at_node at_tree (tree_over P node place)
      ≡ at_tree (record {
        node =
            at_node (map-ExprNode ExprNode (With P) A B (fold-ExprNode A B at_node at_tree)
            (λ one. fold-ExprTree A B at_node at_tree one.0) node);
        place = place;
      })
  fold-over P node place =
      let bare : ExprNode-F ExprNode ExprTree = with_parts (λ (one : With P). one.0) node in
      fold-roll-ExprTree A B at_node at_tree (record { node = roll-ExprNode bare; place = place })
      ∙ ap (λ one. at_tree (record { node = one; place = place }))
      (fold-roll-ExprNode A B at_node at_tree bare)
      ∙ ap (λ one. at_tree (record { node = at_node one; place = place }))
      (map-map ExprNode (With P) ExprNode ExprTree A B (λ x. x) (λ one. one.0)
      (fold-ExprNode A B at_node at_tree) (fold-ExprTree A B at_node at_tree) node)
