use Rattle.std.proofs.Common.{◌<◌, All, List, length, count_by, sym, ap, ap₂, ◌∙◌, subst, arith}
use Rattle.sa_cost.specs.Cost.{cost_of_ranges}
use Rattle.sa_key.specs.declared.range.KeyRange.{KeyRange}
use Rattle.sa_interval.specs.Canonical.{AreCanonical}
use Rattle.sa_interval.specs.declared.list.RangeList.{RangeList}
use Rattle.sa_index.specs.Entries.{entries_of}
use Rattle.sa_index.specs.Indexed.{Indexed, key_parts}
use Rattle.sa_plan.specs.Lawful.{IsShort}
use Rattle.sa_table.specs.Table.{no_table}
use Rattle.sa_access.specs.Asked.{Asked, asked_table}
use Rattle.sa_access.specs.Offered.{key_at}
use Rattle.sa_access.specs.inner.Asking.{asked_at}
use Rattle.sa_access.specs.inner.Counted.{in_ranges}
use Rattle.sa_access.specs.inner.Offer.{indexed_at}
use Rattle.sa_access.proofs.CountLemmas.{entries-long}
use Rattle.sa_access.proofs.OfferLemmas.{range_offered}
use Rattle.sa_access.proofs.Short.{ranges_short}
use Rattle.sa_access.proofs.offer.range_offer.Goals as goal

pub rows_in-rows-requires-clause-canonical : goal.rows_in-rows-requires-clause-canonical
rows_in-rows-requires-clause-canonical g c =
    let asked : Asked = asked_at c.args.asking.now in
    subst AreCanonical (sym (c.as_slice-ranges.ensures ∙ ap (λ (list : RangeList). list.ranges) c.requires.list))
    (c.ranges_are_canonical.ensures asked.query.filter asked.position (key_at asked c.args.key).parts)

pub rows_in-rows-requires-clause-short : goal.rows_in-rows-requires-clause-short
rows_in-rows-requires-clause-short g c =
    let asked : Asked = asked_at c.args.asking.now in
    subst (λ (index : Indexed). All (IsShort (length (key_parts index))) c.as_slice-ranges.result.now) (sym c.index_of.ensures)
    (subst (All (IsShort (length (key_at asked c.args.key).parts))) (sym (c.as_slice-ranges.ensures ∙ ap (λ (list : RangeList). list.ranges) c.requires.list))
    (ranges_short asked.query.filter asked.position (key_at asked c.args.key).parts))

pub rows_in-rows-requires-clause-few : goal.rows_in-rows-requires-clause-few
rows_in-rows-requires-clause-few g c =
    let asked : Asked = asked_at c.args.asking.now in
    subst (λ (index : Indexed). length (entries_of index) < 4294967296) (sym c.index_of.ensures)
    (omega (
      arith,
      entries-long (indexed_at asked c.args.key) (c.entries_are_the_rows_in_order.ensures.in_order (indexed_at asked c.args.key)),
      (c.len-sound.ensures.sound.each (asked_table asked) no_table c.requires.there.place.table).few_rows,
    ))

pub returns : goal.returns
returns g c =
    let asked : Asked = asked_at c.args.asking.now in
    let ranges_are = c.as_slice-ranges.ensures ∙ ap (λ (list : RangeList). list.ranges) c.requires.list in (
      λ all. absurd (let never = c.if-are_all_tuples.ensures.1 (c.as_slice-ranges.ensures ∙ all) in cc),
      range_offered asked c.args.key c.range_cost.result c.rows_in-rows.result
          (c.rows_in-rows.ensures
          ∙ ap₂ (λ (index : Indexed) (ranges : List KeyRange). count_by (in_ranges index ranges) (entries_of index)) c.index_of.ensures ranges_are)
          (c.range_cost.ensures ∙ ap (λ (ranges : List KeyRange). cost_of_ranges (length ranges) c.rows_in-rows.result) ranges_are),
    )
