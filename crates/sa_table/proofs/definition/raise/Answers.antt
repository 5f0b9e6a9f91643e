use Rattle.std.proofs.Common.{arith}
use Rattle.sa_table.proofs.RaisedLemmas.{all_raised}
use Rattle.sa_table.proofs.definition.raise.Goals as goal

pub returns : goal.returns
returns c =
    all_raised c.args.keys.now c.loop-number.columns.items c.args.columns.items (omega arith)
    (λ k d h. c.loop-number.invariant.raised k d (omega arith))
