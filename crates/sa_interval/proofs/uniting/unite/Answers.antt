use Rattle.std.proofs.Common.{◌≡◌, ◌<◌, ◌+◌, ◌||◌, true, false, List, ◌∷◌, length, drop, sym, subst, subst₂, ap, ap₂, ◌∙◌, arith}
use Rattle.sa_key.specs.declared.range.KeyRange.{KeyRange}
use Rattle.sa_key.specs.Range.{IsCanonicalCut}
use Rattle.sa_interval.specs.Canonical.{AreCanonical, IsListOf, lies_in}
use Rattle.sa_interval.specs.inner.Growing.{BeginBy, IsWith}
use Rattle.sa_interval.proofs.PutLemmas.{canonical_head}
use Rattle.sa_interval.proofs.Merging.{Merging, exchanged, merged_one, merged_other, merges_at, merging_begins, merging_ends_at, opened, other_left}
use Rattle.sa_interval.proofs.uniting.unite.Goals as goal

pub loop-i-init : goal.loop-i-init
loop-i-init c =
    subst (λ list. Merging (λ cut. lies_in c.as_slice-ranges.result.now cut || lies_in c.as_slice-others.result.now cut) list c.as_slice-ranges.result.now c.as_slice-others.result.now) (sym c.new-united.ensures.items)
    (merging_begins c.as_slice-ranges.result.now c.as_slice-others.result.now (subst AreCanonical (sym c.as_slice-ranges.ensures) c.requires.one) (subst AreCanonical (sym c.as_slice-others.ensures) c.requires.other))

pub put-requires-clause-list : goal.put-requires-clause-list
put-requires-clause-list c = c.loop-i.invariant.canonical

pub put-requires-clause-from : goal.put-requires-clause-from
put-requires-clause-from c =
    let at = merges_at (λ cut. lies_in c.as_slice-ranges.result.now cut || lies_in c.as_slice-others.result.now cut) c.loop-i.united.items c.as_slice-ranges.result.now (drop c.loop-i.j c.as_slice-others.result.now) c.loop-i.i c.index-ranges-i.result (opened c.as_slice-ranges.result.now c.loop-i.i c.index-ranges-i.result (c.begins_first.ensures.one c.if-begins_first.true) c.index-ranges-i.is) c.loop-i.invariant in
    subst (λ (range : KeyRange). IsCanonicalCut range.from) (sym c.in_ok-copy.ensures) (canonical_head c.index-ranges-i.result (drop (c.loop-i.i + 1) c.as_slice-ranges.result.now) at.one).from

pub put-requires-clause-to : goal.put-requires-clause-to
put-requires-clause-to c =
    let at = merges_at (λ cut. lies_in c.as_slice-ranges.result.now cut || lies_in c.as_slice-others.result.now cut) c.loop-i.united.items c.as_slice-ranges.result.now (drop c.loop-i.j c.as_slice-others.result.now) c.loop-i.i c.index-ranges-i.result (opened c.as_slice-ranges.result.now c.loop-i.i c.index-ranges-i.result (c.begins_first.ensures.one c.if-begins_first.true) c.index-ranges-i.is) c.loop-i.invariant in
    subst (λ (range : KeyRange). IsCanonicalCut range.to) (sym c.in_ok-copy.ensures) (canonical_head c.index-ranges-i.result (drop (c.loop-i.i + 1) c.as_slice-ranges.result.now) at.one).to

pub put-requires-clause-begin : goal.put-requires-clause-begin
put-requires-clause-begin c =
    let at = merges_at (λ cut. lies_in c.as_slice-ranges.result.now cut || lies_in c.as_slice-others.result.now cut) c.loop-i.united.items c.as_slice-ranges.result.now (drop c.loop-i.j c.as_slice-others.result.now) c.loop-i.i c.index-ranges-i.result (opened c.as_slice-ranges.result.now c.loop-i.i c.index-ranges-i.result (c.begins_first.ensures.one c.if-begins_first.true) c.index-ranges-i.is) c.loop-i.invariant in
    subst (λ (range : KeyRange). BeginBy range.from c.loop-i.united.items) (sym c.in_ok-copy.ensures) at.begin_one

pub put-requires-else-begins_first-clause-list : goal.put-requires-else-begins_first-clause-list
put-requires-else-begins_first-clause-list c = c.loop-i.invariant.canonical

pub put-requires-else-begins_first-clause-from : goal.put-requires-else-begins_first-clause-from
put-requires-else-begins_first-clause-from c =
    let at = merges_at (λ cut. lies_in c.as_slice-ranges.result.now cut || lies_in c.as_slice-others.result.now cut) c.loop-i.united.items c.as_slice-others.result.now (drop c.loop-i.i c.as_slice-ranges.result.now) c.loop-i.j c.index-others-j.result (opened c.as_slice-others.result.now c.loop-i.j c.index-others-j.result (other_left c.loop-i.i (length c.as_slice-ranges.result.now) c.loop-i.j (length c.as_slice-others.result.now) (c.begins_first.ensures.other c.if-begins_first.false) (λ past. omega arith)) c.index-others-j.is) (exchanged (λ cut. lies_in c.as_slice-ranges.result.now cut || lies_in c.as_slice-others.result.now cut) c.loop-i.united.items (drop c.loop-i.i c.as_slice-ranges.result.now) (drop c.loop-i.j c.as_slice-others.result.now) c.loop-i.invariant) in
    subst (λ (range : KeyRange). IsCanonicalCut range.from) (sym c.in_ok-copy-2.ensures) (canonical_head c.index-others-j.result (drop (c.loop-i.j + 1) c.as_slice-others.result.now) at.one).from

pub put-requires-else-begins_first-clause-to : goal.put-requires-else-begins_first-clause-to
put-requires-else-begins_first-clause-to c =
    let at = merges_at (λ cut. lies_in c.as_slice-ranges.result.now cut || lies_in c.as_slice-others.result.now cut) c.loop-i.united.items c.as_slice-others.result.now (drop c.loop-i.i c.as_slice-ranges.result.now) c.loop-i.j c.index-others-j.result (opened c.as_slice-others.result.now c.loop-i.j c.index-others-j.result (other_left c.loop-i.i (length c.as_slice-ranges.result.now) c.loop-i.j (length c.as_slice-others.result.now) (c.begins_first.ensures.other c.if-begins_first.false) (λ past. omega arith)) c.index-others-j.is) (exchanged (λ cut. lies_in c.as_slice-ranges.result.now cut || lies_in c.as_slice-others.result.now cut) c.loop-i.united.items (drop c.loop-i.i c.as_slice-ranges.result.now) (drop c.loop-i.j c.as_slice-others.result.now) c.loop-i.invariant) in
    subst (λ (range : KeyRange). IsCanonicalCut range.to) (sym c.in_ok-copy-2.ensures) (canonical_head c.index-others-j.result (drop (c.loop-i.j + 1) c.as_slice-others.result.now) at.one).to

pub put-requires-else-begins_first-clause-begin : goal.put-requires-else-begins_first-clause-begin
put-requires-else-begins_first-clause-begin c =
    let at = merges_at (λ cut. lies_in c.as_slice-ranges.result.now cut || lies_in c.as_slice-others.result.now cut) c.loop-i.united.items c.as_slice-others.result.now (drop c.loop-i.i c.as_slice-ranges.result.now) c.loop-i.j c.index-others-j.result (opened c.as_slice-others.result.now c.loop-i.j c.index-others-j.result (other_left c.loop-i.i (length c.as_slice-ranges.result.now) c.loop-i.j (length c.as_slice-others.result.now) (c.begins_first.ensures.other c.if-begins_first.false) (λ past. omega arith)) c.index-others-j.is) (exchanged (λ cut. lies_in c.as_slice-ranges.result.now cut || lies_in c.as_slice-others.result.now cut) c.loop-i.united.items (drop c.loop-i.i c.as_slice-ranges.result.now) (drop c.loop-i.j c.as_slice-others.result.now) c.loop-i.invariant) in
    subst (λ (range : KeyRange). BeginBy range.from c.loop-i.united.items) (sym c.in_ok-copy-2.ensures) at.begin_one

pub loop-i-preserved-then-begins_first : goal.loop-i-preserved-then-begins_first
loop-i-preserved-then-begins_first c =
    let made = subst (λ range. IsWith c.loop-i.united.items range c.put.new.list.items) c.in_ok-copy.ensures c.in_ok-put.ensures in
    merged_one c.order_of_cuts_is_total.ensures (λ cut. lies_in c.as_slice-ranges.result.now cut || lies_in c.as_slice-others.result.now cut) c.loop-i.united.items c.put.new.list.items c.as_slice-ranges.result.now (drop c.loop-i.j c.as_slice-others.result.now) c.loop-i.i c.index-ranges-i.result
    (opened c.as_slice-ranges.result.now c.loop-i.i c.index-ranges-i.result (c.begins_first.ensures.one c.if-begins_first.true) c.index-ranges-i.is)
    c.loop-i.invariant (sym c.begins_first.ensures.first ∙ c.if-begins_first.true) made

pub loop-i-preserved : goal.loop-i-preserved
loop-i-preserved c =
    let made = subst (λ range. IsWith c.loop-i.united.items range c.put-else-begins_first.new.list.items) c.in_ok-copy-2.ensures c.in_ok-put-2.ensures in
    merged_other c.order_of_cuts_is_total.ensures (λ cut. lies_in c.as_slice-ranges.result.now cut || lies_in c.as_slice-others.result.now cut) c.loop-i.united.items c.put-else-begins_first.new.list.items (drop c.loop-i.i c.as_slice-ranges.result.now) c.as_slice-others.result.now c.loop-i.j c.index-others-j.result
    (opened c.as_slice-others.result.now c.loop-i.j c.index-others-j.result (other_left c.loop-i.i (length c.as_slice-ranges.result.now) c.loop-i.j (length c.as_slice-others.result.now) (c.begins_first.ensures.other c.if-begins_first.false) (λ past. omega arith)) c.index-others-j.is)
    c.loop-i.invariant (sym c.begins_first.ensures.first ∙ c.if-begins_first.false) made

pub returns : goal.returns
returns c =
    subst₂ (λ (one other : List KeyRange). IsListOf (λ cut. lies_in one cut || lies_in other cut) c.from_vec.result) c.as_slice-ranges.ensures c.as_slice-others.ensures
    (subst (IsListOf (λ cut. lies_in c.as_slice-ranges.result.now cut || lies_in c.as_slice-others.result.now cut)) (sym c.from_vec.ensures)
    (merging_ends_at (λ cut. lies_in c.as_slice-ranges.result.now cut || lies_in c.as_slice-others.result.now cut) c.loop-i.united.items c.as_slice-ranges.result.now c.as_slice-others.result.now c.loop-i.i c.loop-i.j (omega arith) (omega arith) c.loop-i.invariant))
