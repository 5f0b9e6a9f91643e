use mir.Syntax.{w64, w128}
use mir.Val.{SFits}
use Rattle.std.proofs.Common.{rules, ap, ◌∙◌, Some, None, if◌then◌else◌}
use Rattle.std.proofs.lemmas.Int.{to_z-of_z}
use Rattle.sa_cond.specs.Interval.{is_bigint}
use Rattle.sa_resolve.proofs.EndsLemmas.{within-some}
use Rattle.sa_resolve.proofs.ends.Ends.within.Goals as goal

pub returns : goal.returns
returns c =
    let least : SFits w64 c.in_ok-bigint.field-0 = search rules in
    let greatest : SFits w64 c.in_ok-bigint-2.field-0 = search rules in
    within-some c.args.least c.args.greatest c.in_ok-bigint.field-0 c.in_ok-bigint-2.field-0 least greatest
    (c.in_ok-bigint.ensures ∙ ap (λ least. if is_bigint least then Some least else None) (to_z-of_z w128 c.args.least c.ranges.least))
    (c.in_ok-bigint-2.ensures ∙ ap (λ greatest. if is_bigint greatest then Some greatest else None) (to_z-of_z w128 c.args.greatest c.ranges.greatest))
