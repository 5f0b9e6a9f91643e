use Rattle.std.proofs.Common.{◌≡◌, drop}
use Rattle.sa_access.specs.Sought.{first_sought}
use Rattle.sa_access.proofs.sought.first_sought.Given as goal

abbrev pub invariant-loop-cond : goal.invariant-loop-cond
invariant-loop-cond l =
    first_sought l.asking.earlier.now l.asking.position l.column (drop l.cond-index l.cond-items)
    ≡ first_sought l.asking.earlier.now l.asking.position l.column l.cond-items
