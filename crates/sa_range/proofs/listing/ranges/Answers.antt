use Rattle.std.proofs.Common.{◌≤◌, List, All, length, sym, subst, ap, ◌∙◌}
use Rattle.sa_interval.specs.declared.list.RangeList.{RangeList}
use Rattle.sa_interval.specs.Canonical.{AreCanonical}
use Rattle.sa_range.specs.declared.line.Piece.{Piece}
use Rattle.sa_range.specs.RangeList.{parts_of}
use Rattle.sa_range.proofs.Lawful.{made_list, sequences_four}
use Rattle.sa_range.proofs.listing.ranges.Goals as goal

pub united-requires : goal.united-requires
united-requires c =
    subst (All (λ (walk : List Piece). length walk ≤ 4)) (sym (c.as_slice.ensures.value ∙ c.in_ok-served.ensures.walks))
    (sequences_four c.args.filter.now c.args.table (parts_of c.args.filter.now c.args.table c.args.parts.now) c.args.parts.now c.requires.few)

pub returns-clause-exact : goal.returns-clause-exact
returns-clause-exact c =
    made_list c.args.filter.now c.args.table c.args.parts.now c.in_ok-served.served.parts c.as_slice.result.now c.in_ok-united.field-0
    c.in_ok-served.ensures.parts (c.as_slice.ensures.value ∙ c.in_ok-served.ensures.walks) c.in_ok-united.ensures

pub returns-clause-canonical : goal.returns-clause-canonical
returns-clause-canonical c =
    subst AreCanonical (sym (ap (λ (list : RangeList). list.ranges) (returns-clause-exact c)))
    (c.ranges_are_canonical.ensures c.args.filter.now c.args.table c.args.parts.now)
