use Rattle.std.proofs.Common.{◌≡◌, ℕ, ◌<◌, take, Some, None}
use Rattle.std.specs.Prelude.{slice_get}
use Rattle.sa_ast.specs.declared.directive.NumberTree.{NumberTree}
use Rattle.sa_script.specs.Direct.{schedule_fault, numbers_in}
use Rattle.sa_script.proofs.direct.schedule.Given as goal

abbrev pub invariant-loop-index : goal.invariant-loop-index
invariant-loop-index l = record {
  good : (earlier : ℕ) → earlier < l.index → (other : NumberTree) → slice_get l.tree-items earlier ≡ Some other → schedule_fault l.sessions earlier other ≡ None;
  numbers : l.schedule ≡ numbers_in (take l.index l.tree-items);
}
