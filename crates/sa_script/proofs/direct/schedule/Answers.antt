use Rattle.std.proofs.Common.{◌≡◌, ◌<◌, ℕ, List, [], ◌∷◌, ◌++◌, get_or, Some, sym, ap, ◌∙◌, arith}
use Rattle.std.specs.Prelude.{slice_get}
use Rattle.std.proofs.lemmas.Option.{slice_get_within}
use Rattle.sa_ast.specs.declared.directive.NumberTree.{NumberTree}
use Rattle.sa_script.proofs.Schedules.{good_more, numbers_more}
use Rattle.sa_script.proofs.direct.schedule.Goals as goal

pub loop-index-preserved : goal.loop-index-preserved
loop-index-preserved c =
    let trees = c.as_slice-tree-items.result.now in
    let past : NumberTree = record { number = 0; place = 0 } in
    record {
      good = good_more c.args.sessions trees c.loop-index.index past c.loop-index.invariant.good c.in_ok-number.ensures.good;
      numbers =
          c.in_ok-push.ensures.ok ∙ ap (λ (n : ℕ). c.loop-index.schedule ++ n ∷ []) c.in_ok-number.ensures.number
          ∙ ap (λ (list : List ℕ). list ++ (get_or trees c.loop-index.index past).number ∷ []) c.loop-index.invariant.numbers ∙ sym (numbers_more trees c.loop-index.index past c.loop-index-test.true);
    }

pub returns-clause-good : goal.returns-clause-good
returns-clause-good c =
    let trees = c.as_slice-tree-items.result.now in
    rw (← c.as_slice-tree-items.ensures) (λ (index : ℕ) (tree : NumberTree) (there : slice_get trees index ≡ Some tree).
    let within : index < c.loop-index.index = omega (arith, slice_get_within trees index tree there) in
    c.loop-index.invariant.good index within tree there)
