use Rattle.std.proofs.Common.{◌≡◌, true, take}
use Rattle.std.specs.List.{list_all}
use Rattle.sa_cond.specs.Cited.{cond_names}
use Rattle.sa_access.specs.Offered.{is_held}
use Rattle.sa_access.proofs.covering.+cond.Given as goal

abbrev pub invariant-holds_conds-loop-cond : goal.invariant-holds_conds-loop-cond
invariant-holds_conds-loop-cond l =
    list_all (λ cond. list_all (is_held l.columns.position l.columns.parts.now) (cond_names cond)) (take l.cond-index l.conds) ≡ true
