use mir.Syntax.{w64, w128}
use mir.Val.{SFits}
use Rattle.std.proofs.Common.{◌∙◌, rules}
use Rattle.std.specs.Int.{int_min, int_max}
use Rattle.sa_resolve.proofs.EndsLemmas.{same_within, passed, passed_is, corner, extreme}
use Rattle.sa_resolve.proofs.ends.Ends.multiplied.Goals as goal

pub returns : goal.returns
returns c =
    let least : SFits w64 c.args.self.least = search rules in
    let greatest : SFits w64 c.args.self.greatest = search rules in
    let other_least : SFits w64 c.args.other.least = search rules in
    let other_greatest : SFits w64 c.args.other.greatest = search rules in
    let low = corner c.args.self.least c.args.other.least c.product-low.result least other_least c.product-low.ensures in
    let left = corner c.args.self.least c.args.other.greatest c.product-left.result least other_greatest c.product-left.ensures in
    let right = corner c.args.self.greatest c.args.other.least c.product-right.result greatest other_least c.product-right.ensures in
    let high = corner c.args.self.greatest c.args.other.greatest c.product-high.result greatest other_greatest c.product-high.ensures in
    let low_fits : SFits w128 c.product-low.result = record { sfits = c.product-low.type_inv } in
    let left_fits : SFits w128 c.product-left.result = record { sfits = c.product-left.type_inv } in
    let right_fits : SFits w128 c.product-right.result = record { sfits = c.product-right.type_inv } in
    let high_fits : SFits w128 c.product-high.result = record { sfits = c.product-high.type_inv } in
    let min_fits : SFits w128 c.min.result = record { sfits = c.min.type_inv } in
    let min_2_fits : SFits w128 c.min-2.result = record { sfits = c.min-2.type_inv } in
    let min_3_fits : SFits w128 c.min-3.result = record { sfits = c.min-3.type_inv } in
    let min = extreme int_min c.product-low.result c.product-left.result _ _ c.min.result low_fits left_fits low left c.min.ensures.value in
    let min_2 = extreme int_min c.product-right.result c.product-high.result _ _ c.min-2.result right_fits high_fits right high c.min-2.ensures.value in
    let min_3 = extreme int_min c.min.result c.min-2.result _ _ c.min-3.result min_fits min_2_fits min min_2 c.min-3.ensures.value in
    let max_fits : SFits w128 c.max.result = record { sfits = c.max.type_inv } in
    let max_2_fits : SFits w128 c.max-2.result = record { sfits = c.max-2.type_inv } in
    let max_3_fits : SFits w128 c.max-3.result = record { sfits = c.max-3.type_inv } in
    let max = extreme int_max c.product-low.result c.product-left.result _ _ c.max.result low_fits left_fits low left c.max.ensures.value in
    let max_2 = extreme int_max c.product-right.result c.product-high.result _ _ c.max-2.result right_fits high_fits right high c.max-2.ensures.value in
    let max_3 = extreme int_max c.max.result c.max-2.result _ _ c.max-3.result max_fits max_2_fits max max_2 c.max-3.ensures.value in
    same_within c.within.result (passed c.min-3.result) (passed c.max-3.result) _ _ c.within.ensures
    (passed_is c.min-3.result min_3_fits ∙ min_3) (passed_is c.max-3.result max_3_fits ∙ max_3)
