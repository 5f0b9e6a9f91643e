-- What holds of the readings of an expression, by what holds of the readings of its parts.
use Rattle.std.proofs.Common.{◌≡◌, ℕ, List, Bool, refl, sym, ap, ◌∙◌}
use mathlib.Core.Path.{fun_ext, subst₃}
use Rattle.sa_ast.specs.declared.expression.ExprNode.{ExprNode, ExprNode-F, map-ExprNode, fold-ExprNode}
use Rattle.sa_ast.specs.declared.expression.ExprTree.{ExprTree}
use Rattle.sa_table.specs.Table.{Table}
use Rattle.sa_resolve.specs.Expression.{Scope, node_reading, reading}
use Rattle.sa_resolve.specs.Proper.{proper_node, is_proper_expr}
use Rattle.sa_resolve.specs.Reading.{Reading}
use Rattle.sa_resolve.proofs.fit.Layers.{With, map-map, with_parts, tree_over, by_layers, fold-over}

abbrev pub proper_in : ExprNode → Bool
proper_in = fold-ExprNode Bool Bool proper_node (λ tree. tree.node)

abbrev pub read_in : List Table → Scope → ExprNode → ℕ → Reading
read_in tables scope =
    fold-ExprNode (ℕ → Reading) Reading (node_reading tables scope) (λ tree. tree.node tree.place)

-- a node with readings as its parts, and with whether these are proper
abbrev pub read_over : List Table → Scope → {A : Type 0} → (A → Reading) → ExprNode-F ExprNode A
    → ExprNode-F (ℕ → Reading) Reading
read_over tables scope {A} of node =
    map-ExprNode ExprNode A (ℕ → Reading) Reading (read_in tables scope) of node

abbrev pub proper_over : {A : Type 0} → (A → Bool) → ExprNode-F ExprNode A → ExprNode-F Bool Bool
proper_over {A} of node =
    map-ExprNode ExprNode A Bool Bool proper_in of node

-- A part: whether it is proper, and its readings in two scopes.
pub record Part (R : Bool → Reading → Reading → Type 0) : Type 0 where
  pub proper : Bool
  pub one : Reading
  pub other : Reading
  pub has : R proper one other

reading_over : (tables : List Table) (scope : Scope) (P : ExprTree → Type 0) {A : Type 0}
    (of : With P → A) (one : A → Reading)
    (same : (with : With P) → one (of with) ≡ reading tables scope with.0)
    (node : ExprNode-F ExprNode (With P)) (place : ℕ)
    → reading tables scope (tree_over P node place) ≡ node_reading tables scope
    (read_over tables scope one (with_parts of node)) place
reading_over tables scope P {A} of one same node place =
    fold-over (ℕ → Reading) Reading (node_reading tables scope) (λ tree. tree.node tree.place) P
    node place
    ∙ ap (λ (f : With P → Reading). node_reading tables scope (read_over tables scope f node) place)
    (fun_ext (λ with. sym (same with)))
    ∙ ap (λ node. node_reading tables scope node place)
    (sym (map-map ExprNode (With P) ExprNode A (ℕ → Reading) Reading
    (λ x. x) of (read_in tables scope) one node))

proper-over : (P : ExprTree → Type 0) {A : Type 0} (of : With P → A) (proper : A → Bool)
    (same : (with : With P) → proper (of with) ≡ is_proper_expr with.0)
    (node : ExprNode-F ExprNode (With P)) (place : ℕ)
    → is_proper_expr (tree_over P node place) ≡ proper_node
    (proper_over proper (with_parts of node))
proper-over P {A} of proper same node place =
    fold-over Bool Bool proper_node (λ tree. tree.node) P node place
    ∙ ap (λ (f : With P → Bool). proper_node (proper_over f node))
    (fun_ext (λ with. sym (same with)))
    ∙ ap proper_node
    (sym (map-map ExprNode (With P) ExprNode A Bool Bool (λ x. x) of proper_in proper node))

module _ (tables : List Table) (scope scope' : Scope) (R : Bool → Reading → Reading → Type 0) where
  -- what the parts of a node have, the node has
  abbrev pub Step : Type 0
  Step = (node : ExprNode-F ExprNode (Part R)) (place : ℕ)
      → R (proper_node (proper_over (λ (part : Part R). part.proper) node))
      (node_reading tables scope (read_over tables scope (λ (part : Part R). part.one) node) place)
      (node_reading tables scope' (read_over tables scope' (λ (part : Part R). part.other) node)
      place)

  abbrev Has : ExprTree → Type 0
  Has tree = R (is_proper_expr tree) (reading tables scope tree) (reading tables scope' tree)

  part_of : With Has → Part R
  part_of with = record {
    proper = is_proper_expr with.0;
    one = reading tables scope with.0;
    other = reading tables scope' with.0;
    has = with.1;
  }

  at_layer : Step → (node : ExprNode-F ExprNode (With Has)) (place : ℕ)
      → Has (tree_over Has node place)
  unfolding part_of
  at_layer step node place =
      let is = proper-over Has part_of (λ (part : Part R). part.proper) (λ with. refl) node place in
      let one =
      reading_over tables scope Has part_of (λ (part : Part R). part.one) (λ with. refl) node
      place in
      let other =
      reading_over tables scope' Has part_of (λ (part : Part R). part.other) (λ with. refl) node
      place in
      subst₃ R (sym is) (sym one) (sym other) (step (with_parts part_of node) place)

  pub by_parts : Step → (tree : ExprTree) → R (is_proper_expr tree) (reading tables scope tree)
      (reading tables scope' tree)
  by_parts step = by_layers Has (at_layer step)
