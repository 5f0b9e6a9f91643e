use mir.Syntax.{w64}
use mir.Val.{SFits}
use Rattle.std.proofs.Common.{◌-ℤ◌, rules, arith}
use Rattle.std.proofs.lemmas.Int.{ints}
use Rattle.sa_resolve.proofs.EndsLemmas.{same_within, passed}
use Rattle.sa_resolve.proofs.ends.Ends.subtracted.Goals as goal

pub returns : goal.returns
returns c =
    let least : SFits w64 c.args.self.least = search rules in
    let greatest : SFits w64 c.args.self.greatest = search rules in
    let other_least : SFits w64 c.args.other.least = search rules in
    let other_greatest : SFits w64 c.args.other.greatest = search rules in
    same_within c.within.result (passed (passed c.from.result -ℤ passed c.from-2.result)) (passed (passed c.from-3.result -ℤ passed c.from-4.result))
    (c.args.self.least -ℤ c.args.other.greatest) (c.args.self.greatest -ℤ c.args.other.least) c.within.ensures (omega (arith, ints)) (omega (arith, ints))
