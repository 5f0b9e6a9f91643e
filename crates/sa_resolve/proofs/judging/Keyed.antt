-- What is told of GROUP BY and ORDER BY: the items too many first.
use Rattle.std.proofs.Common.{◌≡◌, ℕ, ◌≤◌, false, List, [], ◌∷◌, ◌++◌, length, map, take, Option, append-nil, sym, ap, ◌∙◌, refl}
use Rattle.std.proofs.lemmas.List.{take_all}
use Rattle.std.specs.List.{flat_map, zip}
use Rattle.sa_ast.specs.declared.select.GroupTree.{GroupTree}
use Rattle.sa_ast.specs.declared.select.OrderTree.{OrderTree}
use Rattle.sa_query.specs.declared.refusal.ResolveKind.TheVariants.{TooManyItems}
use Rattle.sa_resolve.specs.Clauses.{Clauses}
use Rattle.sa_resolve.specs.Fault.{Fault, least}
use Rattle.sa_resolve.specs.Faults.{group_faults, group_item_faults, order_faults, order_item_faults, own_faults, too_many}
use Rattle.sa_resolve.specs.Reading.{Reading}
use Rattle.sa_resolve.specs.inner.Least.{sooner}
use Rattle.sa_resolve.proofs.LeastLemmas.{least-append}
use Rattle.sa_resolve.proofs.judging.Sooner.{sooner-comm}
use Rattle.sa_resolve.proofs.judging.Zips.{flat_map-zip}

module _ (clauses : Clauses) where
  pub group_told : (trees : List GroupTree) (n : ℕ) (fault : Option Fault) → length (zip trees clauses.group) ≤ n
      → fault ≡ sooner (least (too_many TooManyItems 8 (map (λ (tree : GroupTree). tree.place) trees)))
      (least (flat_map (group_item_faults clauses) (take n (zip trees clauses.group))))
      → fault ≡ least (group_faults clauses trees)
  group_told trees n fault all is =
      is
      ∙ ap (λ pairs. sooner (least (too_many TooManyItems 8 (map (λ (tree : GroupTree). tree.place) trees))) (least (flat_map (group_item_faults clauses) pairs)))
      (take_all n (zip trees clauses.group) all)
      ∙ sooner-comm (least (too_many TooManyItems 8 (map (λ (tree : GroupTree). tree.place) trees))) (least (flat_map (group_item_faults clauses) (zip trees clauses.group)))
      ∙ sym (least-append (flat_map (group_item_faults clauses) (zip trees clauses.group)) (too_many TooManyItems 8 (map (λ (tree : GroupTree). tree.place) trees)))

  own_and_none : (pairs : List (OrderTree × Reading))
      → flat_map (order_item_faults clauses false false) pairs ≡ flat_map (λ (pair : OrderTree × Reading). own_faults clauses pair.1) pairs
  own_and_none [] = refl
  own_and_none (pair ∷ pairs) =
      ap (λ first. first ++ flat_map (order_item_faults clauses false false) pairs) (append-nil (own_faults clauses pair.1))
      ∙ ap (λ rest. own_faults clauses pair.1 ++ rest) (own_and_none pairs)

  pub order_told : (read : OrderTree → Reading) (trees : List OrderTree) (n : ℕ) (fault : Option Fault) → clauses.order ≡ map read trees
      → length clauses.order ≤ n
      → fault ≡ sooner (least (too_many TooManyItems 8 (map (λ (tree : OrderTree). tree.place) trees)))
      (least (flat_map (own_faults clauses) (take n clauses.order)))
      → fault ≡ least (order_faults clauses false false trees)
  order_told read trees n fault order all is =
      is
      ∙ ap (λ ones. sooner (least (too_many TooManyItems 8 (map (λ (tree : OrderTree). tree.place) trees))) (least (flat_map (own_faults clauses) ones)))
      (take_all n clauses.order all)
      ∙ sooner-comm (least (too_many TooManyItems 8 (map (λ (tree : OrderTree). tree.place) trees))) (least (flat_map (own_faults clauses) clauses.order))
      ∙ ap (λ items. sooner (least items) (least (too_many TooManyItems 8 (map (λ (tree : OrderTree). tree.place) trees))))
      (ap (flat_map (own_faults clauses)) order
      ∙ sym (flat_map-zip (own_faults clauses) read trees)
      ∙ ap (λ ones. flat_map (λ (pair : OrderTree × Reading). own_faults clauses pair.1) (zip trees ones)) (sym order)
      ∙ sym (own_and_none (zip trees clauses.order)))
      ∙ sym (least-append (flat_map (order_item_faults clauses false false) (zip trees clauses.order)) (too_many TooManyItems 8 (map (λ (tree : OrderTree). tree.place) trees)))
