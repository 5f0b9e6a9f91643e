use Rattle.std.proofs.Common.{◌≡◌, ◌∙◌, length, ap, sym, not, arith, Some, None}
use Rattle.std.proofs.lemmas.List.Quantifiers.{position-Some}
use Rattle.std.specs.List.{filter, position}
use Rattle.sa_resolve.specs.Same.{same_aggregate}
use Rattle.sa_resolve.proofs.list.Grouping.{filter_remove, rest_of}
use Rattle.sa_resolve.proofs.grouping.remove_same.Goals as goal

pub remove_at-requires : goal.remove_at-requires
remove_at-requires c =
    let at : position (same_aggregate c.args.one.now) c.as_slice.result.now
    ≡ Some c.in-Some.index = sym c.aggregate_at.ensures ∙ c.in-Some.is in
    let there = (position-Some (same_aggregate c.args.one.now) c.as_slice.result.now c.in-Some.index
    c.args.one.now at).0 in
    let items = ap length c.as_slice.ensures.value in
    omega arith

pub loop-index-preserved : goal.loop-index-preserved
loop-index-preserved c =
    let at : position (same_aggregate c.args.one.now) c.loop-index.kept.items ≡ Some c.in-Some.index =
    ap (position (same_aggregate c.args.one.now)) (sym c.as_slice.ensures.value)
    ∙ sym c.aggregate_at.ensures ∙ c.in-Some.is in
    let there = position-Some (same_aggregate c.args.one.now) c.loop-index.kept.items c.in-Some.index
    c.args.one.now at in
    ap (filter (λ other. not (same_aggregate c.args.one.now other))) c.remove_at.ensures.items
    ∙ filter_remove (same_aggregate c.args.one.now) c.loop-index.kept.items c.in-Some.index c.args.one.now
    there.0 there.1
    ∙ c.loop-index.invariant

pub returns : goal.returns
returns c =
    let none : position (same_aggregate c.args.one.now) c.loop-index.kept.items ≡ None =
    ap (position (same_aggregate c.args.one.now)) (sym c.as_slice.ensures.value)
    ∙ sym c.aggregate_at.ensures ∙ c.in_default.is in
    sym (rest_of (same_aggregate c.args.one.now) c.loop-index.kept.items none) ∙ c.loop-index.invariant
