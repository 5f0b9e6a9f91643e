use Rattle.std.proofs.Common.{rules, append_assoc}
use Rattle.sa_explain.proofs.counted.two_decimals.Goals as goal

pub returns : goal.returns
returns c = simp append_assoc (search rules)
