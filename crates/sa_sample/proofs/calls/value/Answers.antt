use Rattle.std.proofs.Common.{sym, ◌∙◌}
use Rattle.sa_sample.proofs.Everywhere.{can_evaluate}
use Rattle.sa_sample.proofs.calls.value.Goals as goal

pub value_of-requires-clause-typed : goal.value_of-requires-clause-typed
value_of-requires-clause-typed c =
    can_evaluate c.args.expr.now (sym c.has_kind.ensures ∙ c.if-has_kind.true)
