use mir.Syntax.{w64}
use mir.Val.{SFits}
use Rattle.std.proofs.Common.{pos, ◌-ℤ◌, neg_ℤ, rules, arith}
use Rattle.std.proofs.lemmas.Int.{ints}
use Rattle.sa_resolve.proofs.EndsLemmas.{same_within, passed}
use Rattle.sa_resolve.proofs.ends.Ends.negated.Goals as goal

pub returns : goal.returns
returns c =
    let least : SFits w64 c.args.self.least = search rules in
    let greatest : SFits w64 c.args.self.greatest = search rules in
    same_within c.within.result (passed (pos 0 -ℤ passed c.from.result)) (passed (pos 0 -ℤ passed c.from-2.result)) (neg_ℤ c.args.self.greatest) (neg_ℤ c.args.self.least)
    c.within.ensures (omega (arith, ints)) (omega (arith, ints))
