-- What the judgement of a SELECT at its slots says of the SELECT.
use Rattle.std.proofs.Common.{◌≡◌, List, [], ◌∷◌, ◌++◌, map, Option, None, append_assoc, refl, sym, ap, ◌∙◌}
use Rattle.std.proofs.lemmas.List.Concat.{flat_map-append}
use Rattle.std.specs.List.{flat_map}
use Rattle.sa_ast.specs.declared.select.SelectTree.{SelectTree}
use Rattle.sa_table.specs.Table.{Table}
use Rattle.sa_query.specs.declared.group.Aggregate.{Aggregate}
use Rattle.sa_query.specs.declared.query.Query.{Query}
use Rattle.sa_resolve.specs.declared.fault.ResolveFault.{ResolveFault}
use Rattle.sa_resolve.specs.Clauses.{Clauses, clauses_of, clauses_with, slots_of}
use Rattle.sa_resolve.specs.Faults.{faults_with}
use Rattle.sa_resolve.specs.Node.{Slots}
use Rattle.sa_resolve.specs.Reading.{Reading}
use Rattle.sa_resolve.specs.Resolved.{IsQueryOf, faults_of, query_of, query_with}
use Rattle.sa_resolve.specs.Selected.{Selected}
use Rattle.sa_resolve.specs.Told.{IsToldOf}
use Rattle.sa_resolve.specs.inner.Knowing.{aggregates_in, answer_readings}

-- the slots that the readings over rows have
abbrev pub first_slots : List Table → SelectTree → Option Slots
first_slots tables tree = slots_of (clauses_with tables tree None)

module _ (tables : List Table) (tree : SelectTree) where
  pub query_is : (query : Query) → faults_with tables tree (clauses_with tables tree (first_slots tables tree)) ≡ []
      → query ≡ query_with tables tree (clauses_with tables tree (first_slots tables tree))
      → IsQueryOf tables tree query
  unfolding faults_of query_of clauses_of
  query_is query right is = record { faultless = right; is = is }

  pub told_is : (fault : ResolveFault) → IsToldOf (faults_with tables tree (clauses_with tables tree (first_slots tables tree))) fault
      → IsToldOf (faults_of tables tree) fault
  unfolding faults_of clauses_of
  told_is fault is = is

-- the aggregates of the select list and then those behind it
pub answer_aggregates : (clauses : Clauses) (first all : List Aggregate)
    → first ≡ flat_map (λ (one : Selected). one.item.aggregates) clauses.select
    → all ≡ first ++ aggregates_in (clauses.having ++ clauses.order)
    → all ≡ aggregates_in (answer_readings clauses)
answer_aggregates clauses first all first_is all_is =
    all_is
    ∙ ap (λ before. before ++ aggregates_in (clauses.having ++ clauses.order)) (first_is ∙ sym (of_items clauses.select))
    ∙ sym (flat_map-append (λ (one : Reading). one.aggregates) (map (λ (one : Selected). one.item) clauses.select) (clauses.having ++ clauses.order))
    ∙ ap aggregates_in (sym (append_assoc (map (λ (one : Selected). one.item) clauses.select) clauses.having clauses.order))
  where
    of_items : (items : List Selected)
        → aggregates_in (map (λ (one : Selected). one.item) items) ≡ flat_map (λ (one : Selected). one.item.aggregates) items
    of_items [] = refl
    of_items (one ∷ items) = ap (λ rest. one.item.aggregates ++ rest) (of_items items)
