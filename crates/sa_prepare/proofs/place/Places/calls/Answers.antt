use Rattle.std.proofs.Common.{◌≡◌, ◌++◌, append_assoc}
use Rattle.std.specs.List.{flat_map}
use Rattle.sa_ast.specs.declared.select.OrderTree.{OrderTree}
use Rattle.sa_prepare.specs.Unbuilt.{calls_in, all_calls}
use Rattle.sa_prepare.proofs.place.Places.calls.Goals as goal

pub returns : goal.returns
returns c =
    let tree = c.args.tree.now in
    let found : c.args.self.now ++ all_calls tree ≡ c.option-2.new.self ++ flat_map (λ (one : OrderTree). calls_in one.value) tree.order =
    rw (c.in_ok-option-2.ensures, c.in_ok-group.ensures, c.as_slice-3.ensures, c.in_ok-option.ensures, c.in_ok-tables.ensures, c.as_slice-2.ensures, c.in_ok-items.ensures, c.as_slice.ensures)
    (simp append_assoc) in
    rw (found, ← c.as_slice-4.ensures) c.order.ensures
