use Rattle.std.proofs.Common.{sym, subst}
use Rattle.sa_prepare.specs.inner.Refused.{IsFault}
use Rattle.sa_prepare.proofs.May.{fault_by}
use Rattle.sa_prepare.proofs.select.fault_of.Goals as goal

pub returns : goal.returns
returns c =
    subst (IsFault c.args.tables.now c.args.select.now) (sym c.err.ensures.value)
    (fault_by c.args.tables.now c.args.select.now c.resolve.result c.resolve.ensures.query c.resolve.ensures.fault)
