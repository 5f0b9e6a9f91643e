use Rattle.std.proofs.Common.{◌≡◌, ◌++◌, take}
use Rattle.std.specs.List.{flat_map}
use Rattle.sa_prepare.specs.Unbuilt.{calls_in}
use Rattle.sa_prepare.proofs.place.Places.+calls.Given as goal

abbrev pub invariant-exprs-loop-tree : goal.invariant-exprs-loop-tree
invariant-exprs-loop-tree l = l.self ≡ l.initial.self ++ flat_map calls_in (take l.tree-index l.trees)
