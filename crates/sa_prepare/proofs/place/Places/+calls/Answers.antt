use Rattle.std.proofs.Common.{◌++◌, ◌≤◌, length, ap, sym, ◌∙◌, arith}
use Rattle.std.specs.List.{flat_map}
use Rattle.std.proofs.lemmas.List.Folds.{flat_map-map}
use Rattle.sa_ast.specs.declared.expression.ExprTree.{ExprTree}
use Rattle.std.specs.Prelude.{ℕ, List}
use Rattle.sa_prepare.specs.Unbuilt.{calls_in}
use Rattle.sa_prepare.proofs.PlaceLemmas.{take_whole}
use Rattle.sa_prepare.proofs.place.Places.+calls.Goals as goal

pub exprs-returns : goal.exprs-returns
exprs-returns t c =
    let trees = c.args.trees.now in
    let old = c.args.self.now in
    let done : length trees ≤ c.loop-tree.tree-index = omega arith in
    c.loop-tree.invariant
    ∙ ap (λ (some : List ExprTree). old ++ flat_map calls_in some) (take_whole c.loop-tree.tree-index trees done)
    ∙ ap (λ (places : List ℕ). old ++ places) (sym (flat_map-map (λ (one : List ℕ). one) calls_in trees))
