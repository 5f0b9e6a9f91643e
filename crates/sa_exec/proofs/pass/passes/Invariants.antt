use Rattle.std.proofs.Common.{◌≡◌, [], take, true}
use Rattle.std.specs.List.{list_all}
use Rattle.sa_cond.specs.Condition.{holds}
use Rattle.sa_plan.specs.Chosen.{choice_of}
use Rattle.sa_query.specs.Choices.{is_true}
use Rattle.sa_meaning.specs.Items.{with_row}
use Rattle.sa_exec.proofs.pass.passes.Given as goal

abbrev pub invariant-loop-cond : goal.invariant-loop-cond
invariant-loop-cond l =
    list_all (λ cond. is_true (holds (choice_of l.tables (with_row l.level [] l.row)) cond)) (take l.cond-index l.level.conditions) ≡ true
