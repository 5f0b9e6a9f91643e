use Rattle.std.proofs.Common.{◌≡◌, ◌++◌, take}
use Rattle.std.specs.List.{flat_map}
use Rattle.sa_ast.specs.declared.select.OrderTree.{OrderTree}
use Rattle.sa_prepare.specs.Unbuilt.{calls_in}
use Rattle.sa_prepare.proofs.place.Places.order.Given as goal

abbrev pub invariant-loop-one : goal.invariant-loop-one
invariant-loop-one l = l.self ≡ l.initial.self ++ flat_map (λ (one : OrderTree). calls_in one.value) (take l.one-index l.items)
