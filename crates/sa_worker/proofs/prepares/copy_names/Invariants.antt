use Rattle.std.proofs.Common.{◌≡◌, map, take}
use Rattle.sa_query.specs.declared.item.Item.{Item}
use Rattle.sa_worker.proofs.prepares.copy_names.Given as goal

abbrev pub invariant-loop-item : goal.invariant-loop-item
invariant-loop-item l = l.names ≡ map (λ (item : Item). item.name) (take l.item-index l.item-items)
