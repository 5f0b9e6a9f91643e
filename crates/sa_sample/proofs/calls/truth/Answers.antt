use Rattle.std.proofs.Common.{sym, ◌∙◌}
use Rattle.sa_sample.proofs.Everywhere.{can_test}
use Rattle.sa_sample.proofs.calls.truth.Goals as goal

pub eval-requires-clause-typed : goal.eval-requires-clause-typed
eval-requires-clause-typed c = can_test c.args.cond.now (sym c.is_typed.ensures ∙ c.if-is_typed.true)
