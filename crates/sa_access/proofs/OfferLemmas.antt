-- What is offered is what its access is reckoned to cost and to give.
use Rattle.std.proofs.Common.{◌≡◌, ◌≢◌, ℕ, ◌+◌, ◌<◌, Bool, true, false, cond, List, [], length, get_or, count_by, refl, sym, ap, ap₂, ◌∙◌, arith}
use Rattle.std.specs.List.{enumerate_from, list_all}
use Rattle.std.proofs.lemmas.List.FromFn.{get_or-enumerate_from, length-enumerate_from}
use Rattle.std.proofs.lemmas.List.{get_or-map, length-map}
use Rattle.std.proofs.lemmas.List.Sums.{length-filter}
use Rattle.sa_cost.specs.Cost.{cost_of_ranges, cost_of_ref}
use Rattle.sa_index.specs.Entries.{entries_of}
use Rattle.sa_interval.specs.declared.list.RangeList.{RangeList}
use Rattle.sa_range.specs.RangeList.{range_list}
use Rattle.sa_plan.specs.declared.access.AccessKind.{AccessKind}
use Rattle.sa_plan.specs.declared.access.AccessKind.TheVariants.{Range, Ref, EqRef, Const}
use Rattle.sa_query.specs.declared.query.Query.{Query}
use Rattle.sa_query.specs.declared.query.TableUse.{TableUse}
use Rattle.sa_table.specs.Table.{Table}
use Rattle.sa_access.specs.Asked.{Asked, range_lists, table_ranges}
use Rattle.sa_access.specs.Offered.{finds_one, key_at}
use Rattle.sa_access.specs.Sought.{is_literal, sought_of}
use Rattle.sa_access.specs.declared.offer.Offer.{Offer}
use Rattle.sa_access.specs.inner.Counted.{in_ranges}
use Rattle.sa_access.specs.inner.Offer.{indexed_at, offer_of, sought_kind}

abbrev pub made : AccessKind → (key cost estimate : ℕ) → Offer
made kind key cost estimate = record { kind = kind; key = key; cost = cost; estimate = estimate }

module _ (asked : Asked) (key : ℕ) where
  abbrev list : RangeList
  list = range_list asked.query.filter asked.position (key_at asked key).parts

  pub range_offered : (cost rows : ℕ) → rows ≡ count_by (in_ranges (indexed_at asked key) list.ranges) (entries_of (indexed_at asked key))
      → cost ≡ cost_of_ranges (length list.ranges) rows → made Range key cost rows ≡ offer_of asked Range key
  unfolding offer_of
  range_offered cost rows rows_are cost_is =
      let estimate = rows_are ∙ sym (length-filter (in_ranges (indexed_at asked key) list.ranges) (entries_of (indexed_at asked key))) in
      ap₂ (made Range key) (cost_is ∙ ap (cost_of_ranges (length list.ranges)) estimate) estimate

  one_row : (literal : Bool) → made (cond literal Const EqRef) key (cost_of_ref 1) 1 ≡ offer_of asked (cond literal Const EqRef) key
  unfolding offer_of
  one_row true = refl
  one_row false = refl

  pub row_offered : (literal : Bool) → literal ≡ list_all is_literal (sought_of asked key) → true ≡ finds_one asked key
      → made (cond literal Const EqRef) key (cost_of_ref 1) 1 ≡ offer_of asked (sought_kind asked key) key
  row_offered literal literal_is one =
      one_row literal
      ∙ ap₂ (λ (finds literals : Bool). offer_of asked (cond finds (cond literals Const EqRef) Ref) key) one literal_is

pub not_empty : {A : Type 0} (xs : List A) (count : ℕ) → count ≡ length xs → count ≢ 0 → xs ≢ []
not_empty xs count is some empty = some (is ∙ ap length empty)

-- the ranges of the table in a position of FROM
pub lists_at : (tables : List Table) (query : Query) (position : ℕ) (d : List RangeList) (none : TableUse) → position < length query.tables
    → get_or (range_lists tables query) position d ≡ table_ranges tables query.filter (position, get_or query.tables position none)
lists_at tables query position d none there =
    let few : position < length (enumerate_from 0 query.tables) = omega (arith, length-enumerate_from 0 query.tables) in
    let start : 0 + position ≡ position = omega arith in
    get_or-map (table_ranges tables query.filter) (enumerate_from 0 query.tables) position (0, none) d few
    ∙ ap (table_ranges tables query.filter)
    (get_or-enumerate_from 0 query.tables position (0, none) there ∙ ap (λ number. (number, get_or query.tables position none)) start)

pub lists_long : (tables : List Table) (query : Query) → length (range_lists tables query) ≡ length query.tables
lists_long tables query = length-map (enumerate_from 0 query.tables) (table_ranges tables query.filter) ∙ length-enumerate_from 0 query.tables
