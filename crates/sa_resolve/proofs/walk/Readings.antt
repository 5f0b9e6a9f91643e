-- The reading of an expression of each form, by the readings of the expressions below.
use Rattle.std.proofs.Common.{◌≡◌, ℕ, ℤ, Bool, List, map, Option, Some, None, option_map, ap, ◌∙◌}
use Rattle.sa_value.specs.declared.truth.CompareOp.{CompareOp}
use Rattle.sa_ast.specs.declared.expression.AggregateCall.{AggregateCall}
use Rattle.sa_ast.specs.declared.expression.ExprNode.{ExprNode, ExprNode-F, fold-ExprNode}
use Rattle.sa_ast.specs.declared.expression.ExprNode.TheVariants as node
use Rattle.sa_ast.specs.declared.expression.ExprTree.{ExprTree, the_lemmas}
use Rattle.sa_table.specs.Table.{Table}
use Rattle.sa_resolve.specs.Expression.{Scope, node_reading, reading}
use Rattle.sa_resolve.specs.Reading.{Reading}

module _ (tables : List Table) (scope : Scope) where
  abbrev pub read : ExprTree → Reading
  read = reading tables scope

  -- the reading of a node at a place
  abbrev pub at : ExprNode → ℕ → Reading
  at = fold-ExprNode (ℕ → Reading) Reading (node_reading tables scope) (λ tree. tree.node tree.place)

  abbrev made : ExprNode-F (ℕ → Reading) Reading → ℕ → Reading
  made = node_reading tables scope

  pub reading-at : (tree : ExprTree) → read tree ≡ at tree.node tree.place
  reading-at tree = simp the_lemmas

  by_node : (tree : ExprTree) (one : ExprNode) (layer : ExprNode-F (ℕ → Reading) Reading)
      → tree.node ≡ one → at one ≡ made layer → read tree ≡ made layer tree.place
  by_node tree one layer is equation =
      reading-at tree ∙ ap (λ one. at one tree.place) is
      ∙ ap (λ (reading_at : ℕ → Reading). reading_at tree.place) equation

  at-Number : (number : ℤ) → at (node.Number number) ≡ made (ExprNode-F.Number number)
  at-Number number = simp the_lemmas

  pub reading-Number : (tree : ExprTree) (number : ℤ) → tree.node ≡ node.Number number
      → read tree ≡ made (ExprNode-F.Number number) tree.place
  reading-Number tree number is = by_node tree (node.Number number) (ExprNode-F.Number number) is
      (at-Number number)

  at-Text : (literal : List ℕ) → at (node.Text literal) ≡ made (ExprNode-F.Text literal)
  at-Text literal = simp the_lemmas

  pub reading-Text : (tree : ExprTree) (literal : List ℕ) → tree.node ≡ node.Text literal
      → read tree ≡ made (ExprNode-F.Text literal) tree.place
  reading-Text tree literal is = by_node tree (node.Text literal) (ExprNode-F.Text literal) is
      (at-Text literal)

  at-Null : at node.Null ≡ made ExprNode-F.Null
  at-Null = simp the_lemmas

  pub reading-Null : (tree : ExprTree) → tree.node ≡ node.Null
      → read tree ≡ made ExprNode-F.Null tree.place
  reading-Null tree is = by_node tree node.Null ExprNode-F.Null is at-Null

  at-Known : (holds : Bool) → at (node.Known holds) ≡ made (ExprNode-F.Known holds)
  at-Known holds = simp the_lemmas

  pub reading-Known : (tree : ExprTree) (holds : Bool) → tree.node ≡ node.Known holds
      → read tree ≡ made (ExprNode-F.Known holds) tree.place
  reading-Known tree holds is = by_node tree (node.Known holds) (ExprNode-F.Known holds) is (at-Known holds)

  at-Name : (table : Option (List ℕ)) (column : List ℕ) → at (node.Name table column)
      ≡ made (ExprNode-F.Name table column)
  at-Name table column = simp the_lemmas

  pub reading-Name : (tree : ExprTree) (table : Option (List ℕ)) (column : List ℕ) → tree.node
      ≡ node.Name table column
      → read tree ≡ made (ExprNode-F.Name table column) tree.place
  reading-Name tree table column is = by_node tree (node.Name table column) (ExprNode-F.Name table column) is
      (at-Name table column)

  at-Aggregate : (call : AggregateCall) (argument : Option ExprTree) → at (node.Aggregate call argument)
      ≡ made (ExprNode-F.Aggregate call (option_map read argument))
  at-Aggregate call None = simp the_lemmas
  at-Aggregate call (Some argument) = simp the_lemmas

  pub reading-Aggregate : (tree : ExprTree) (call : AggregateCall) (argument : Option ExprTree) → tree.node
      ≡ node.Aggregate call argument
      → read tree ≡ made (ExprNode-F.Aggregate call (option_map read argument)) tree.place
  reading-Aggregate tree call argument is = by_node tree (node.Aggregate call argument)
      (ExprNode-F.Aggregate call (option_map read argument)) is (at-Aggregate call argument)

  at-Negate : (x : ExprTree) → at (node.Negate x) ≡ made (ExprNode-F.Negate (read x))
  at-Negate x = simp the_lemmas

  pub reading-Negate : (tree : ExprTree) (x : ExprTree) → tree.node ≡ node.Negate x
      → read tree ≡ made (ExprNode-F.Negate (read x)) tree.place
  reading-Negate tree x is = by_node tree (node.Negate x) (ExprNode-F.Negate (read x)) is (at-Negate x)

  at-Compare : (op : CompareOp) (x y : ExprTree) → at (node.Compare op x y)
      ≡ made (ExprNode-F.Compare op (read x) (read y))
  at-Compare op x y = simp the_lemmas

  pub reading-Compare : (tree : ExprTree) (op : CompareOp) (x y : ExprTree) → tree.node ≡ node.Compare op x y
      → read tree ≡ made (ExprNode-F.Compare op (read x) (read y)) tree.place
  reading-Compare tree op x y is = by_node tree (node.Compare op x y)
      (ExprNode-F.Compare op (read x) (read y)) is (at-Compare op x y)

  at-IsNull : (x : ExprTree) (negated : Bool) → at (node.IsNull x negated)
      ≡ made (ExprNode-F.IsNull (read x) negated)
  at-IsNull x negated = simp the_lemmas

  pub reading-IsNull : (tree : ExprTree) (x : ExprTree) (negated : Bool) → tree.node ≡ node.IsNull x negated
      → read tree ≡ made (ExprNode-F.IsNull (read x) negated) tree.place
  reading-IsNull tree x negated is = by_node tree (node.IsNull x negated) (ExprNode-F.IsNull (read x) negated)
      is (at-IsNull x negated)

  at-Between : (x low high : ExprTree) (negated : Bool) → at (node.Between x low high negated)
      ≡ made (ExprNode-F.Between (read x) (read low) (read high) negated)
  at-Between x low high negated = simp the_lemmas

  pub reading-Between : (tree : ExprTree) (x low high : ExprTree) (negated : Bool) → tree.node
      ≡ node.Between x low high negated
      → read tree ≡ made (ExprNode-F.Between (read x) (read low) (read high) negated) tree.place
  reading-Between tree x low high negated is = by_node tree (node.Between x low high negated)
      (ExprNode-F.Between (read x) (read low) (read high) negated) is (at-Between x low high negated)

  at-Among : (x : ExprTree) (list : List ExprTree) (negated : Bool) → at (node.Among x list negated)
      ≡ made (ExprNode-F.Among (read x) (map read list) negated)
  at-Among x list negated = simp the_lemmas

  pub reading-Among : (tree : ExprTree) (x : ExprTree) (list : List ExprTree) (negated : Bool) → tree.node
      ≡ node.Among x list negated
      → read tree ≡ made (ExprNode-F.Among (read x) (map read list) negated) tree.place
  reading-Among tree x list negated is = by_node tree (node.Among x list negated)
      (ExprNode-F.Among (read x) (map read list) negated) is (at-Among x list negated)

  at-And : (members : List ExprTree) → at (node.And members) ≡ made (ExprNode-F.And (map read members))
  at-And members = simp the_lemmas

  pub reading-And : (tree : ExprTree) (members : List ExprTree) → tree.node ≡ node.And members
      → read tree ≡ made (ExprNode-F.And (map read members)) tree.place
  reading-And tree members is = by_node tree (node.And members) (ExprNode-F.And (map read members)) is
      (at-And members)

  at-Or : (members : List ExprTree) → at (node.Or members) ≡ made (ExprNode-F.Or (map read members))
  at-Or members = simp the_lemmas

  pub reading-Or : (tree : ExprTree) (members : List ExprTree) → tree.node ≡ node.Or members
      → read tree ≡ made (ExprNode-F.Or (map read members)) tree.place
  reading-Or tree members is = by_node tree (node.Or members) (ExprNode-F.Or (map read members)) is
      (at-Or members)

  at-Not : (x : ExprTree) → at (node.Not x) ≡ made (ExprNode-F.Not (read x))
  at-Not x = simp the_lemmas

  pub reading-Not : (tree : ExprTree) (x : ExprTree) → tree.node ≡ node.Not x
      → read tree ≡ made (ExprNode-F.Not (read x)) tree.place
  reading-Not tree x is = by_node tree (node.Not x) (ExprNode-F.Not (read x)) is (at-Not x)

  at-Add : (x y : ExprTree) → at (node.Add x y) ≡ made (ExprNode-F.Add (read x) (read y))
  at-Add x y = simp the_lemmas

  pub reading-Add : (tree : ExprTree) (x y : ExprTree) → tree.node ≡ node.Add x y
      → read tree ≡ made (ExprNode-F.Add (read x) (read y)) tree.place
  reading-Add tree x y is = by_node tree (node.Add x y) (ExprNode-F.Add (read x) (read y)) is (at-Add x y)

  at-Subtract : (x y : ExprTree) → at (node.Subtract x y) ≡ made (ExprNode-F.Subtract (read x) (read y))
  at-Subtract x y = simp the_lemmas

  pub reading-Subtract : (tree : ExprTree) (x y : ExprTree) → tree.node ≡ node.Subtract x y
      → read tree ≡ made (ExprNode-F.Subtract (read x) (read y)) tree.place
  reading-Subtract tree x y is = by_node tree (node.Subtract x y) (ExprNode-F.Subtract (read x) (read y)) is
      (at-Subtract x y)

  at-Multiply : (x y : ExprTree) → at (node.Multiply x y) ≡ made (ExprNode-F.Multiply (read x) (read y))
  at-Multiply x y = simp the_lemmas

  pub reading-Multiply : (tree : ExprTree) (x y : ExprTree) → tree.node ≡ node.Multiply x y
      → read tree ≡ made (ExprNode-F.Multiply (read x) (read y)) tree.place
  reading-Multiply tree x y is = by_node tree (node.Multiply x y) (ExprNode-F.Multiply (read x) (read y)) is
      (at-Multiply x y)
