use Rattle.std.proofs.Common.{◌≡◌, ℕ, ◌<◌, Some, None}
use Rattle.std.specs.Prelude.{slice_get}
use Rattle.sa_ast.specs.declared.name.NameTree.{NameTree}
use Rattle.sa_script.specs.Insert.{name_fault_at}
use Rattle.sa_script.proofs.insert.check_list.Given as goal

abbrev pub invariant-loop-index : goal.invariant-loop-index
invariant-loop-index l = (k : ℕ) (other : NameTree) → k < l.index → slice_get l.names k ≡ Some other → name_fault_at l.def l.names k other ≡ None
