use Rattle.std.proofs.Common.{◌≡◌, ◌<◌, List, [], get_or, length, map, sym, ap, ◌∙◌, subst, arith}
use Rattle.sa_interval.specs.declared.list.RangeList.{RangeList}
use Rattle.sa_range.specs.RangeList.{range_list}
use Rattle.sa_query.specs.declared.query.TableUse.{TableUse}
use Rattle.sa_table.specs.Table.{Table, table_at}
use Rattle.sa_table.specs.declared.def.KeyDef.{KeyDef}
use Rattle.sa_access.specs.Least.{IsLeast}
use Rattle.sa_access.proofs.Keeping.{drops_none}
use Rattle.sa_access.proofs.LeastLemmas.{chosen_with, least_chosen}
use Rattle.sa_access.proofs.OfferLemmas.{lists_at, lists_long}
use Rattle.sa_access.proofs.best.best_access.Goals as goal

abbrev no_use : TableUse
no_use = record { table = 0; alias = [] }

pub bounds-as_slice-position : goal.bounds-as_slice-position
bounds-as_slice-position g c =
    let there : c.args.position < length c.args.query.now.tables = c.requires.can_choose.there 0 0 (omega arith) in
    omega (arith, there, ap length (c.as_slice.ensures ∙ c.requires.can_choose.ranges_are), lists_long c.args.shelf.now c.args.query.now)

pub least_offer-offer-requires-clause-lists : goal.least_offer-offer-requires-clause-lists
least_offer-offer-requires-clause-lists g c =
    subst (λ (tables : List Table). c.as_slice-lists.result.now
    ≡ map (λ (key : KeyDef). range_list c.args.query.now.filter c.args.position key.parts) (table_at tables (get_or c.args.query.now.tables c.args.position no_use).table).def.keys)
    (sym (c.deref.ensures ∙ c.tables.ensures))
    (c.as_slice-lists.ensures ∙ c.index-as_slice-position.is
    ∙ ap (λ (lists : List (List RangeList)). get_or lists c.args.position c.index-as_slice-position.result) (c.as_slice.ensures ∙ c.requires.can_choose.ranges_are)
    ∙ lists_at c.args.shelf.now c.args.query.now c.args.position c.index-as_slice-position.result no_use (c.requires.can_choose.there 0 0 (omega arith)))

pub built-requires-clause-lists : goal.built-requires-clause-lists
built-requires-clause-lists g c =
    subst (λ (tables : List Table). c.as_slice-lists.result.now
    ≡ map (λ (key : KeyDef). range_list c.args.query.now.filter c.args.position key.parts) (table_at tables (get_or c.args.query.now.tables c.args.position no_use).table).def.keys)
    (sym (c.deref.ensures ∙ c.tables.ensures))
    (c.as_slice-lists.ensures ∙ c.index-as_slice-position.is
    ∙ ap (λ (lists : List (List RangeList)). get_or lists c.args.position c.index-as_slice-position.result) (c.as_slice.ensures ∙ c.requires.can_choose.ranges_are)
    ∙ lists_at c.args.shelf.now c.args.query.now c.args.position c.index-as_slice-position.result no_use (c.requires.can_choose.there 0 0 (omega arith)))

pub returns-clause-least : goal.returns-clause-least
returns-clause-least g c =
    subst (λ (tables : List Table). IsLeast (record { tables = tables; query = c.args.query.now; earlier = c.args.earlier.now; position = c.args.position })
    (chosen_with c.in_ok-built.field-0 c.least_offer-offer.result.cost c.least_offer-offer.result.estimate))
    (c.deref.ensures ∙ c.tables.ensures)
    (least_chosen (record { tables = c.deref.result.now; query = c.args.query.now; earlier = c.args.earlier.now; position = c.args.position })
    c.least_offer-offer.result c.in_ok-built.field-0 c.least_offer-offer.ensures c.in_ok-built.ensures)

pub returns-clause-drops_none : goal.returns-clause-drops_none
returns-clause-drops_none g c =
    drops_none c.order_is_total.ensures c.ranges_cover_once.ensures.own c.entries_are_the_rows_in_order.ensures.in_order
    (record { tables = c.args.shelf.now; query = c.args.query.now; earlier = c.args.earlier.now; position = c.args.position })
    c.in_ok-built.field-0 (returns-clause-least g c).offered
