use Rattle.std.proofs.Common.{◌≡◌, ◌+◌, ◌&&◌, true, false, List, ◌∷◌, drop, sym, subst, subst₂, ap, ap₂, ◌∙◌, arith}
use Rattle.std.specs.Ordering.{is_lt}
use Rattle.sa_key.specs.declared.cut.Cut.{Cut}
use Rattle.sa_key.specs.declared.range.KeyRange.{KeyRange}
use Rattle.sa_key.specs.Range.{order_of_cuts}
use Rattle.sa_interval.specs.Canonical.{AreCanonical, IsListOf, lies_in}
use Rattle.sa_interval.proofs.CutLemmas.{upto_back, upto_lt}
use Rattle.sa_interval.proofs.PutLemmas.{canonical_head}
use Rattle.sa_interval.proofs.Merging.{opened}
use Rattle.sa_interval.proofs.Meets.{Meeting, may_put, meeting_begins, meeting_ends, meets_at, met_one, met_other}
use Rattle.sa_interval.proofs.meeting.meet.Goals as goal

pub loop-i-init : goal.loop-i-init
loop-i-init c =
    subst (λ list. Meeting (λ cut. lies_in c.as_slice-ranges.result.now cut && lies_in c.as_slice-others.result.now cut) list c.as_slice-ranges.result.now c.as_slice-others.result.now) (sym c.new-met.ensures.items)
    (meeting_begins c.as_slice-ranges.result.now c.as_slice-others.result.now (subst AreCanonical (sym c.as_slice-ranges.ensures) c.requires.one) (subst AreCanonical (sym c.as_slice-others.ensures) c.requires.other))

pub put_common-requires-clause-list : goal.put_common-requires-clause-list
put_common-requires-clause-list c = c.loop-i.invariant.canonical

pub put_common-requires-clause-one : goal.put_common-requires-clause-one
put_common-requires-clause-one c =
    canonical_head c.index-ranges-i.result (drop (c.loop-i.i + 1) c.as_slice-ranges.result.now)
    (subst AreCanonical (opened c.as_slice-ranges.result.now c.loop-i.i c.index-ranges-i.result (omega arith) c.index-ranges-i.is) c.loop-i.invariant.one)

pub put_common-requires-clause-other : goal.put_common-requires-clause-other
put_common-requires-clause-other c =
    canonical_head c.index-others-j.result (drop (c.loop-i.j + 1) c.as_slice-others.result.now)
    (subst AreCanonical (opened c.as_slice-others.result.now c.loop-i.j c.index-others-j.result (omega arith) c.index-others-j.is) c.loop-i.invariant.other)

pub put_common-requires-clause-begin : goal.put_common-requires-clause-begin
put_common-requires-clause-begin c =
    let one = opened c.as_slice-ranges.result.now c.loop-i.i c.index-ranges-i.result (omega arith) c.index-ranges-i.is in
    let other = opened c.as_slice-others.result.now c.loop-i.j c.index-others-j.result (omega arith) c.index-others-j.is in
    may_put c.order_of_cuts_is_total.ensures (λ cut. lies_in c.as_slice-ranges.result.now cut && lies_in c.as_slice-others.result.now cut) c.loop-i.met.items c.index-ranges-i.result c.index-others-j.result (drop (c.loop-i.i + 1) c.as_slice-ranges.result.now) (drop (c.loop-i.j + 1) c.as_slice-others.result.now)
    (meets_at (λ cut. lies_in c.as_slice-ranges.result.now cut && lies_in c.as_slice-others.result.now cut) c.loop-i.met.items c.as_slice-ranges.result.now c.as_slice-others.result.now c.loop-i.i c.loop-i.j c.index-ranges-i.result c.index-others-j.result one other c.loop-i.invariant)

pub loop-i-preserved : goal.loop-i-preserved
loop-i-preserved c =
    let one = opened c.as_slice-ranges.result.now c.loop-i.i c.index-ranges-i.result (omega arith) c.index-ranges-i.is in
    let other = opened c.as_slice-others.result.now c.loop-i.j c.index-others-j.result (omega arith) c.index-others-j.is in
    let order = c.order_cuts.ensures ∙ ap₂ order_of_cuts c.view.ensures c.view-in-loop-i.ensures in
    let later : is_lt (order_of_cuts c.index-others-j.result.to c.index-ranges-i.result.to) ≡ false = sym (c.is_lt.ensures ∙ ap is_lt order) ∙ c.if-is_lt.false in
    met_one c.order_of_cuts_is_total.ensures (λ cut. lies_in c.as_slice-ranges.result.now cut && lies_in c.as_slice-others.result.now cut) c.loop-i.met.items c.put_common.new.list.items c.as_slice-ranges.result.now c.as_slice-others.result.now c.loop-i.i c.loop-i.j c.index-ranges-i.result c.index-others-j.result one other c.loop-i.invariant
    (upto_back c.order_of_cuts_is_total.ensures c.index-others-j.result.to c.index-ranges-i.result.to later) c.in_ok-put_common.ensures

pub loop-i-preserved-then-is_lt : goal.loop-i-preserved-then-is_lt
loop-i-preserved-then-is_lt c =
    let one = opened c.as_slice-ranges.result.now c.loop-i.i c.index-ranges-i.result (omega arith) c.index-ranges-i.is in
    let other = opened c.as_slice-others.result.now c.loop-i.j c.index-others-j.result (omega arith) c.index-others-j.is in
    let order = c.order_cuts.ensures ∙ ap₂ order_of_cuts c.view.ensures c.view-in-loop-i.ensures in
    let before : is_lt (order_of_cuts c.index-others-j.result.to c.index-ranges-i.result.to) ≡ true = sym (c.is_lt.ensures ∙ ap is_lt order) ∙ c.if-is_lt.true in
    met_other c.order_of_cuts_is_total.ensures (λ cut. lies_in c.as_slice-ranges.result.now cut && lies_in c.as_slice-others.result.now cut) c.loop-i.met.items c.put_common.new.list.items c.as_slice-ranges.result.now c.as_slice-others.result.now c.loop-i.i c.loop-i.j c.index-ranges-i.result c.index-others-j.result one other c.loop-i.invariant
    (upto_lt c.index-others-j.result.to c.index-ranges-i.result.to before) c.in_ok-put_common.ensures

pub returns : goal.returns
returns c =
    subst₂ (λ (one other : List KeyRange). IsListOf (λ cut. lies_in one cut && lies_in other cut) c.from_vec.result) c.as_slice-ranges.ensures c.as_slice-others.ensures
    (subst (IsListOf (λ cut. lies_in c.as_slice-ranges.result.now cut && lies_in c.as_slice-others.result.now cut)) (sym c.from_vec.ensures)
    (meeting_ends (λ cut. lies_in c.as_slice-ranges.result.now cut && lies_in c.as_slice-others.result.now cut) c.loop-i.met.items c.as_slice-ranges.result.now c.as_slice-others.result.now c.loop-i.i c.loop-i.j (λ here. omega arith) c.loop-i.invariant))
