use Rattle.std.proofs.Common.{◌≡◌, ◌++◌, append_assoc}
use Rattle.sa_print.specs.Select.{limit_text, canonical_select}
use Rattle.sa_print.proofs.printer.Printer.select.Goals as goal

pub returns : goal.returns
returns c =
    let tree = c.args.tree.now in
    let written : c.args.self.now ++ canonical_select tree ≡ c.order.new.self ++ limit_text tree.limit tree.offset =
    rw (c.in_ok-order.ensures, c.as_slice-4.ensures, c.in_ok-condition-2.ensures, c.in_ok-group.ensures, c.as_slice-3.ensures, c.in_ok-condition.ensures, c.in_ok-from.ensures, c.as_slice-2.ensures, c.in_ok-select_list.ensures, c.as_slice.ensures)
    (simp append_assoc) in
    rw written c.limit.ensures
