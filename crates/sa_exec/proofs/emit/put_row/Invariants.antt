use Rattle.std.proofs.Common.{◌≡◌, [], take, map}
use Rattle.sa_cond.specs.Expression.{expr_value}
use Rattle.sa_query.specs.declared.item.Item.{Item}
use Rattle.sa_plan.specs.Chosen.{choice_of}
use Rattle.sa_meaning.specs.Items.{with_row}
use Rattle.sa_exec.proofs.emit.put_row.Given as goal

abbrev pub invariant-loop-item : goal.invariant-loop-item
invariant-loop-item l =
    l.values.items ≡ map (λ (item : Item). expr_value (choice_of l.tables (with_row l.level [] l.row)) item.value) (take l.item-index l.select)
