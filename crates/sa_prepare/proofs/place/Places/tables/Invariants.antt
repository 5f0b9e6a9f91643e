use Rattle.std.proofs.Common.{◌≡◌, ◌++◌, take}
use Rattle.std.specs.List.{flat_map}
use Rattle.sa_ast.specs.declared.select.TableTree.{TableTree}
use Rattle.sa_prepare.specs.Unbuilt.{calls_in_option}
use Rattle.sa_prepare.proofs.place.Places.tables.Given as goal

abbrev pub invariant-loop-one : goal.invariant-loop-one
invariant-loop-one l = l.self ≡ l.initial.self ++ flat_map (λ (one : TableTree). calls_in_option one.on) (take l.one-index l.tables)
