use Rattle.std.proofs.Common.{◌≡◌, ◌++◌, take}
use Rattle.std.specs.List.{flat_map}
use Rattle.sa_ast.specs.declared.select.ItemTree.{ItemTree}
use Rattle.sa_prepare.specs.Unbuilt.{calls_in_item}
use Rattle.sa_prepare.proofs.place.Places.items.Given as goal

abbrev pub invariant-loop-one : goal.invariant-loop-one
invariant-loop-one l = l.self ≡ l.initial.self ++ flat_map (λ (one : ItemTree). calls_in_item one.item) (take l.one-index l.items)
