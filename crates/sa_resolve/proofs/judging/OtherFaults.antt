-- What is wrong outside the select list, as the code tells it.
use Rattle.std.proofs.Common.{◌≡◌, Bool, true, false, List, [], ◌∷◌, ◌++◌, map, Option, append-nil, refl, sym, ap, ◌∙◌}
use Rattle.std.specs.List.{flat_map, zip}
use Rattle.sa_ast.specs.declared.select.OrderTree.{OrderTree}
use Rattle.sa_ast.specs.declared.select.SelectTree.{SelectTree}
use Rattle.sa_table.specs.Table.{Table}
use Rattle.sa_query.specs.declared.refusal.ResolveKind.TheVariants.{TooManyItems}
use Rattle.sa_resolve.specs.Clauses.{Clauses}
use Rattle.sa_resolve.specs.Fault.{Fault, least}
use Rattle.sa_resolve.specs.Faults.{distinct_faults, group_faults, having_faults, order_faults, order_item_faults, own_faults, too_many}
use Rattle.sa_resolve.specs.Reading.{Reading}
use Rattle.sa_resolve.specs.Tables.{from_faults}
use Rattle.sa_resolve.specs.inner.Judging.{other_faults}
use Rattle.sa_resolve.specs.inner.Knowing.{filters_faults}
use Rattle.sa_resolve.specs.inner.Least.{sooner}
use Rattle.sa_resolve.proofs.LeastLemmas.{least-append, sooner-assoc}
use Rattle.sa_resolve.proofs.judging.Sooner.{sooner-comm, least-both}

five : (a b c d e : List Fault) (x y z u v : Option Fault) → x ≡ least a → y ≡ least b → z ≡ least c → u ≡ least d → v ≡ least e
    → sooner (sooner x y) (sooner z (sooner u v)) ≡ least (a ++ b ++ c ++ d ++ e)
five a b c d e x y z u v xa yb zc ud ve =
    rw (xa, yb, zc, ud, ve) (sym (
    least-append (a ++ b ++ c ++ d) e
    ∙ ap (λ first. sooner first (least e)) (least-append (a ++ b ++ c) d)
    ∙ ap (λ first. sooner (sooner first (least d)) (least e)) (least-append (a ++ b) c)
    ∙ ap (λ first. sooner (sooner (sooner first (least c)) (least d)) (least e)) (least-append a b)
    ∙ sooner-assoc (sooner (sooner (least a) (least b)) (least c)) (least d) (least e)
    ∙ sooner-assoc (sooner (least a) (least b)) (least c) (sooner (least d) (least e))))

module _ (clauses : Clauses) (is_right : Bool) where
  -- DISTINCT adds what it asks
  pub order-distinct : (trees : List OrderTree)
      → least (order_faults clauses true is_right trees)
      ≡ sooner (least (order_faults clauses false false trees))
      (least (flat_map (distinct_faults clauses is_right) (zip trees clauses.order)))
  order-distinct trees =
      least-append (flat_map (order_item_faults clauses true is_right) (zip trees clauses.order)) many
      ∙ ap (λ first. sooner first (least many))
      (least-both (λ (pair : OrderTree × Reading). own_faults clauses pair.1) (distinct_faults clauses is_right) (zip trees clauses.order))
      ∙ turned (least (flat_map (λ (pair : OrderTree × Reading). own_faults clauses pair.1) (zip trees clauses.order)))
      (least (flat_map (distinct_faults clauses is_right) (zip trees clauses.order))) (least many)
      ∙ ap (λ first. sooner first (least (flat_map (distinct_faults clauses is_right) (zip trees clauses.order)))) (sym plain)
    where
      many : List Fault
      many = too_many TooManyItems 8 (map (λ (tree : OrderTree). tree.place) trees)

      turned : (a b c : Option Fault) → sooner (sooner a b) c ≡ sooner (sooner a c) b
      turned a b c = sooner-assoc a b c ∙ ap (sooner a) (sooner-comm b c) ∙ sym (sooner-assoc a c b)

      own_and_none : (pairs : List (OrderTree × Reading))
          → flat_map (order_item_faults clauses false false) pairs ≡ flat_map (λ (pair : OrderTree × Reading). own_faults clauses pair.1) pairs
      own_and_none [] = refl
      own_and_none (pair ∷ pairs) =
          ap (λ first. first ++ flat_map (order_item_faults clauses false false) pairs) (append-nil (own_faults clauses pair.1))
          ∙ ap (λ rest. own_faults clauses pair.1 ++ rest) (own_and_none pairs)

      plain : least (order_faults clauses false false trees)
          ≡ sooner (least (flat_map (λ (pair : OrderTree × Reading). own_faults clauses pair.1) (zip trees clauses.order))) (least many)
      plain =
          least-append (flat_map (order_item_faults clauses false false) (zip trees clauses.order)) many
          ∙ ap (λ first. sooner (least first) (least many)) (own_and_none (zip trees clauses.order))

module _ (tables : List Table) (tree : SelectTree) (clauses : Clauses) (is_right : Bool) (from filter group having order : Option Fault)
    (from_is : from ≡ least (from_faults tables tree.from)) (filter_is : filter ≡ least (filters_faults clauses))
    (group_is : group ≡ least (group_faults clauses tree.group))
    (having_is : having ≡ least (having_faults clauses tree.having_place))
    (order_is : order ≡ least (order_faults clauses false false tree.order)) where
  -- with no DISTINCT
  pub other-plain : tree.distinct ≡ false
      → sooner (sooner from filter) (sooner group (sooner having order)) ≡ least (other_faults tables tree clauses is_right)
  other-plain plain =
      five (from_faults tables tree.from) (filters_faults clauses) (group_faults clauses tree.group)
      (having_faults clauses tree.having_place) (order_faults clauses false false tree.order)
      from filter group having order from_is filter_is group_is having_is order_is
      ∙ ap (λ (distinct : Bool). least (from_faults tables tree.from ++ filters_faults clauses ++ group_faults clauses tree.group
      ++ having_faults clauses tree.having_place ++ order_faults clauses distinct is_right tree.order)) (sym plain)

  -- with DISTINCT
  pub other-distinct : (more : Option Fault) → tree.distinct ≡ true
      → more ≡ least (flat_map (distinct_faults clauses is_right) (zip tree.order clauses.order))
      → sooner (sooner (sooner from filter) (sooner group (sooner having order))) more
      ≡ least (other_faults tables tree clauses is_right)
  other-distinct more distinct more_is =
      sooner-assoc (sooner from filter) (sooner group (sooner having order)) more
      ∙ ap (sooner (sooner from filter)) (sooner-assoc group (sooner having order) more)
      ∙ ap (λ last. sooner (sooner from filter) (sooner group last)) (sooner-assoc having order more)
      ∙ five (from_faults tables tree.from) (filters_faults clauses) (group_faults clauses tree.group)
      (having_faults clauses tree.having_place) (order_faults clauses true is_right tree.order)
      from filter group having (sooner order more) from_is filter_is group_is having_is
      (ap (λ (first : Option Fault). sooner first more) order_is
      ∙ ap (sooner (least (order_faults clauses false false tree.order))) more_is
      ∙ sym (order-distinct clauses is_right tree.order))
      ∙ ap (λ (distinct : Bool). least (from_faults tables tree.from ++ filters_faults clauses ++ group_faults clauses tree.group
      ++ having_faults clauses tree.having_place ++ order_faults clauses distinct is_right tree.order)) (sym distinct)

-- the faults outside DISTINCT, as they are joined
pub fault_by : (from filter first group last having order inner : Option Fault) → first ≡ sooner from filter → last ≡ sooner group inner
    → inner ≡ sooner having order → sooner first last ≡ sooner (sooner from filter) (sooner group (sooner having order))
fault_by from filter first group last having order inner first_is last_is inner_is =
    ap (λ first. sooner first last) first_is
    ∙ ap (sooner (sooner from filter)) (last_is ∙ ap (sooner group) inner_is)
