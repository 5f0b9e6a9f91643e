use Rattle.sa_sample.proofs.KindLemmas.{told_operation}
use Rattle.sa_sample.proofs.kind.kind_of.Goals as goal

pub returns-in_default : goal.returns-in_default
returns-in_default c =
    told_operation c.args.expr.now c.number-in_default.result c.in_default.not-Literal
    c.in_default.not-Slot c.in_default.not-Column c.number-in_default.ensures
