-- What is told of one expression, by what is kept of it.
use Rattle.std.proofs.Common.{◌≡◌, ℕ, min, Bool, true, false, not, List, [], ◌∷◌, ◌++◌, map, Option, Some, None, option_map, if◌then◌else◌, append-nil, refl, sym, ap, subst, ◌∙◌, arith}
use Rattle.std.proofs.lemmas.Bool.Decides.{nat_tests}
use Rattle.std.specs.List.{flat_map}
use Rattle.std.specs.Option.{is_some}
use Rattle.sa_ast.specs.declared.select.GroupTree.{GroupTree}
use Rattle.sa_query.specs.declared.group.Column.{Column}
use Rattle.sa_query.specs.declared.refusal.ResolveKind.{ResolveKind}
use Rattle.sa_query.specs.declared.refusal.ResolveKind.TheVariants.{GroupRule}
use Rattle.sa_query.specs.Meaning.{is_empty}
use Rattle.sa_resolve.specs.declared.look.Looked.{Looked}
use Rattle.sa_resolve.specs.Clauses.{Clauses, aggregates_of, column_of, group_columns, groups, slots_of}
use Rattle.sa_resolve.specs.Fault.{Fault, comes_first, earlier, fault_at, least, told}
use Rattle.sa_resolve.specs.Faults.{filter_faults, group_item_faults, having_faults, loose_faults, no_aggregates}
use Rattle.sa_resolve.specs.Node.{Slots}
use Rattle.sa_resolve.specs.NodeFaults.{no_condition, no_value}
use Rattle.sa_resolve.specs.Reading.{Reading}
use Rattle.sa_resolve.specs.inner.Gist.{Gist, aggregate_fault, condition_fault, first, gist_of, value_fault}
use Rattle.sa_resolve.specs.inner.Knowing.{AreLooked}
use Rattle.sa_resolve.specs.inner.Least.{nearer, nearest, sooner}
use Rattle.sa_resolve.specs.inner.Looking.{IsLooked}
use Rattle.sa_resolve.proofs.LeastLemmas.{least-append, sooner-assoc}

module _ (kind : ResolveKind) where
  at_first : (place other : ℕ) (is_first : Bool) → comes_first (fault_at kind place) (fault_at kind other) ≡ is_first
      → earlier (fault_at kind place) (Some (fault_at kind other)) ≡ Some (fault_at kind (min place other))
  at_first place other true is =
      let least : place ≡ min place other = grind (arith, nat_tests) in rw is (ap (λ (place : ℕ). Some (fault_at kind place)) least)
  at_first place other false is =
      let least : other ≡ min place other = grind (arith, nat_tests) in rw is (ap (λ (place : ℕ). Some (fault_at kind place)) least)

  at_nearer : (place : ℕ) (other : Option ℕ)
      → earlier (fault_at kind place) (option_map (fault_at kind) other) ≡ option_map (fault_at kind) (nearer (Some place) other)
  at_nearer place None = refl
  at_nearer place (Some other) = at_first place other (comes_first (fault_at kind place) (fault_at kind other)) refl

  -- of faults of one kind the nearest is told
  pub least_at : (places : List ℕ) → least (map (fault_at kind) places) ≡ option_map (fault_at kind) (nearest places)
  least_at [] = refl
  least_at (place ∷ places) = ap (earlier (fault_at kind place)) (least_at places) ∙ at_nearer place (nearest places)

three : (a b c : List Fault) → least (a ++ b ++ c) ≡ sooner (sooner (least a) (least b)) (least c)
three a b c = least-append (a ++ b) c ∙ ap (λ first. sooner first (least c)) (least-append a b)

four : (a b c d : List Fault) → least (a ++ b ++ c ++ d) ≡ sooner (sooner (sooner (least a) (least b)) (least c)) (least d)
four a b c d = least-append (a ++ b ++ c) d ∙ ap (λ first. sooner first (least d)) (three a b c)

module _ (item : Reading) (gist : Gist) (fault : Option Fault) (gist_is : gist ≡ gist_of item) (fault_is : fault ≡ gist.fault) where
  own_is : fault ≡ least item.faults
  own_is = fault_is ∙ ap (λ (gist : Gist). gist.fault) gist_is

  calls_are : (calls : Option Fault) → calls ≡ aggregate_fault gist → calls ≡ least (no_aggregates item)
  calls_are calls is = is ∙ ap (λ (gist : Gist). aggregate_fault gist) gist_is ∙ sym (least_at GroupRule item.calls)

  -- a condition of ON or WHERE
  pub filter_one : (kind calls own result : Option Fault) → kind ≡ condition_fault gist → calls ≡ aggregate_fault gist
      → own ≡ sooner fault kind → result ≡ sooner own calls → result ≡ least (filter_faults item)
  filter_one kind calls own result kind_is calls_is own_sooner is =
      is ∙ ap (λ own. sooner own calls) own_sooner
      ∙ ap (λ fault. sooner (sooner fault kind) calls) own_is
      ∙ ap (λ kind. sooner (sooner (least item.faults) kind) calls) (kind_is ∙ ap (λ (gist : Gist). condition_fault gist) gist_is)
      ∙ ap (sooner (sooner (least item.faults) (least (no_condition item)))) (calls_are calls calls_is)
      ∙ sym (three item.faults (no_condition item) (no_aggregates item))

  other_is : (column : Option Column) (is_other : Bool) → column ≡ gist.column → is_some column ≡ not is_other → is_other ≡ is_empty (column_of item)
  other_is column is_other column_is not_is =
      turned (column_of item) is_other
      (ap (λ (gist : Gist). is_some gist.column) (sym gist_is) ∙ ap (λ (column : Option Column). is_some column) (sym column_is) ∙ not_is)
    where
      turned : (columns : List Column) (is_other : Bool) → is_some (first columns) ≡ not is_other → is_other ≡ is_empty columns
      turned [] true is = refl
      turned [] false is = cc
      turned (column ∷ columns) true is = cc
      turned (column ∷ columns) false is = refl

  -- an item of GROUP BY
  pub group_one : (clauses : Clauses) (tree : GroupTree) (kind calls own both other result : Option Fault) (column : Option Column) (is_other : Bool)
      → kind ≡ value_fault gist → calls ≡ aggregate_fault gist → column ≡ gist.column → is_some column ≡ not is_other
      → other ≡ least (told is_other GroupRule tree.place)
      → own ≡ sooner fault kind → both ≡ sooner own calls → result ≡ sooner both other → result ≡ least (group_item_faults clauses (tree, item))
  group_one clauses tree kind calls own both other result column is_other kind_is calls_is column_is not_is told_is own_sooner both_is is =
      is ∙ ap (λ both. sooner both other) (both_is ∙ ap (λ own. sooner own calls) own_sooner)
      ∙ ap (λ fault. sooner (sooner (sooner fault kind) calls) other) own_is
      ∙ ap (λ kind. sooner (sooner (sooner (least item.faults) kind) calls) other) (kind_is ∙ ap (λ (gist : Gist). value_fault gist) gist_is)
      ∙ ap (λ calls. sooner (sooner (sooner (least item.faults) (least (no_value item))) calls) other) (calls_are calls calls_is)
      ∙ ap (sooner (sooner (sooner (least item.faults) (least (no_value item))) (least (no_aggregates item))))
      (told_is ∙ ap (λ (is_other : Bool). least (told is_other GroupRule tree.place)) (other_is column is_other column_is not_is))
      ∙ sym (four item.faults (no_value item) (no_aggregates item) (told (is_empty (column_of item)) GroupRule tree.place))

  -- HAVING
  pub having_one : (clauses : Clauses) (place : ℕ) (kind loose alone own last result : Option Fault) (is_alone : Bool)
      → kind ≡ condition_fault gist → loose ≡ least (loose_faults clauses item) → is_alone ≡ not (groups clauses)
      → alone ≡ least (told is_alone GroupRule place)
      → own ≡ sooner fault kind → last ≡ sooner loose alone → result ≡ sooner own last
      → result ≡ least (item.faults ++ no_condition item ++ loose_faults clauses item ++ told (not (groups clauses)) GroupRule place)
  having_one clauses place kind loose alone own last result is_alone kind_is loose_is alone_is told_is own_sooner last_is is =
      is ∙ ap (λ own. sooner own last) own_sooner
      ∙ ap (sooner (sooner fault kind)) last_is
      ∙ ap (λ fault. sooner (sooner fault kind) (sooner loose alone)) own_is
      ∙ ap (λ kind. sooner (sooner (least item.faults) kind) (sooner loose alone)) (kind_is ∙ ap (λ (gist : Gist). condition_fault gist) gist_is)
      ∙ ap (λ loose. sooner (sooner (least item.faults) (least (no_condition item))) (sooner loose alone)) loose_is
      ∙ ap (λ alone. sooner (sooner (least item.faults) (least (no_condition item))) (sooner (least (loose_faults clauses item)) alone))
      (told_is ∙ ap (λ (is_alone : Bool). least (told is_alone GroupRule place)) alone_is)
      ∙ sym (sooner-assoc (sooner (least item.faults) (least (no_condition item))) (least (loose_faults clauses item)) (least (told (not (groups clauses)) GroupRule place)))
      ∙ sym (four item.faults (no_condition item) (loose_faults clauses item) (told (not (groups clauses)) GroupRule place))

some_if : (grouped is_alone : Bool) (slots : Slots) → is_some (if grouped then Some slots else None) ≡ not is_alone → is_alone ≡ not grouped
some_if true true slots is = cc
some_if true false slots is = refl
some_if false true slots is = refl
some_if false false slots is = cc

-- a SELECT has slots where it groups
pub grouped_is : (clauses : Clauses) (slots : Option Slots) (is_alone : Bool) → slots ≡ slots_of clauses → is_some slots ≡ not is_alone → is_alone ≡ not (groups clauses)
grouped_is clauses slots is_alone slots_are not_is =
    some_if (groups clauses) is_alone (record { group = group_columns clauses; aggregates = aggregates_of clauses })
    (sym (ap (λ (slots : Option Slots). is_some slots) slots_are) ∙ not_is)

-- where there is no HAVING, and where there is one
pub no_having_told : (clauses : Clauses) (having : List Looked) (place : ℕ) → AreLooked having clauses.having → having ≡ [] → None ≡ least (having_faults clauses place)
no_having_told clauses having place are none = by_ones clauses.having (subst (λ (having : List Looked). AreLooked having clauses.having) none are)
  where
    by_ones : (ones : List Reading) → AreLooked [] ones
        → None ≡ least (flat_map (λ one. one.faults ++ no_condition one ++ loose_faults clauses one ++ told (not (groups clauses)) GroupRule place) ones)
    by_ones [] are = refl
    by_ones (one ∷ ones) are = absurd are

pub one_having_told : (clauses : Clauses) (looked : Looked) (place : ℕ) (result : Option Fault) → AreLooked (looked ∷ []) clauses.having
    → ((item : Reading) → IsLooked looked item
    → result ≡ least (item.faults ++ no_condition item ++ loose_faults clauses item ++ told (not (groups clauses)) GroupRule place))
    → result ≡ least (having_faults clauses place)
one_having_told clauses looked place result are one_is = by_ones clauses.having are
  where
    by_ones : (ones : List Reading) → AreLooked (looked ∷ []) ones
        → result ≡ least (flat_map (λ one. one.faults ++ no_condition one ++ loose_faults clauses one ++ told (not (groups clauses)) GroupRule place) ones)
    by_ones [] are = absurd are
    by_ones (one ∷ []) are = one_is one are.0 ∙ ap least (sym (append-nil (one.faults ++ no_condition one ++ loose_faults clauses one ++ told (not (groups clauses)) GroupRule place)))
    by_ones (one ∷ other ∷ ones) are = absurd are.1

pub some_map : {A B : Type 0} (f : A → B) (one : Option A) → is_some (option_map f one) ≡ is_some one
some_map f None = refl
some_map f (Some x) = refl
