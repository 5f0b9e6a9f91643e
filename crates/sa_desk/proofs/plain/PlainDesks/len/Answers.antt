use Rattle.std.proofs.Common.{subst}
use Rattle.sa_desk.specs.Plain.{IsPlain}
use Rattle.sa_desk.proofs.PlainCall.{Meets-plain}
use Rattle.sa_desk.proofs.plain.PlainDesks.len.Goals as goal

pub returns-clause-met : goal.returns-clause-met
returns-clause-met c = Meets-plain c.args.self.now (subst IsPlain c.self.view_is c.self.invariant.plain)
