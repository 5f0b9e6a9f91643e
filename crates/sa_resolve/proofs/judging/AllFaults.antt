-- All that is wrong with a SELECT, as the code tells it: the select list first.
use Rattle.std.proofs.Common.{◌≡◌, true, false, List, [], ◌∷◌, ◌++◌, Option, Some, None, refl, sym, ap, ◌∙◌}
use Rattle.std.specs.List.{flat_map}
use Rattle.sa_ast.specs.declared.select.SelectTree.{SelectTree}
use Rattle.sa_table.specs.Table.{Table}
use Rattle.sa_query.specs.Meaning.{is_empty}
use Rattle.sa_resolve.specs.Clauses.{Clauses}
use Rattle.sa_resolve.specs.Fault.{Fault, least}
use Rattle.sa_resolve.specs.Faults.{constant_faults, faults_with, filter_faults, group_faults, having_faults, list_faults, order_faults}
use Rattle.sa_resolve.specs.Tables.{from_faults}
use Rattle.sa_resolve.specs.inner.Judging.{other_faults}
use Rattle.sa_resolve.specs.inner.Least.{sooner}
use Rattle.sa_resolve.proofs.LeastLemmas.{least-append, sooner-assoc}
use Rattle.sa_resolve.proofs.judging.Sooner.{sooner-comm, none_least}

-- the least of seven lists, of which the fourth is told first
seven : (a b c d e f g : List Fault)
    → least (a ++ b ++ c ++ d ++ e ++ f ++ g) ≡ sooner (least d) (least (a ++ (b ++ c) ++ e ++ f ++ g))
seven a b c d e f g =
    least-append (a ++ b ++ c ++ d ++ e ++ f) g
    ∙ ap (λ first. sooner first (least g)) (least-append (a ++ b ++ c ++ d ++ e) f)
    ∙ ap (λ first. sooner (sooner first (least f)) (least g)) (least-append (a ++ b ++ c ++ d) e)
    ∙ ap (λ first. sooner (sooner (sooner first (least e)) (least f)) (least g)) (least-append (a ++ b ++ c) d ∙ sooner-comm (least (a ++ b ++ c)) (least d))
    ∙ behind (least d) (least (a ++ b ++ c)) (least e) (least f) (least g)
    ∙ ap (sooner (least d)) (sym rest)
  where
    behind : (d a e f g : Option Fault) → sooner (sooner (sooner (sooner d a) e) f) g ≡ sooner d (sooner (sooner (sooner a e) f) g)
    behind d a e f g =
        ap (λ first. sooner (sooner first f) g) (sooner-assoc d a e)
        ∙ ap (λ first. sooner first g) (sooner-assoc d (sooner a e) f)
        ∙ sooner-assoc d (sooner (sooner a e) f) g

    first_three : least (a ++ (b ++ c)) ≡ least (a ++ b ++ c)
    first_three =
        least-append a (b ++ c) ∙ ap (sooner (least a)) (least-append b c)
        ∙ sym (sooner-assoc (least a) (least b) (least c))
        ∙ ap (λ first. sooner first (least c)) (sym (least-append a b)) ∙ sym (least-append (a ++ b) c)

    rest : least (a ++ (b ++ c) ++ e ++ f ++ g)
        ≡ sooner (sooner (sooner (least (a ++ b ++ c)) (least e)) (least f)) (least g)
    rest =
        least-append (a ++ (b ++ c) ++ e ++ f) g
        ∙ ap (λ first. sooner first (least g)) (least-append (a ++ (b ++ c) ++ e) f)
        ∙ ap (λ first. sooner (sooner first (least f)) (least g)) (least-append (a ++ (b ++ c)) e)
        ∙ ap (λ first. sooner (sooner (sooner first (least e)) (least f)) (least g)) first_three

module _ (tables : List Table) (tree : SelectTree) (clauses : Clauses) where
  -- what is told first of all
  pub faults-list_first : least (faults_with tables tree clauses)
      ≡ sooner (least (list_faults tables tree clauses))
      (least (other_faults tables tree clauses (is_empty (list_faults tables tree clauses))))
  faults-list_first =
      seven (from_faults tables tree.from) (flat_map filter_faults (clauses.on ++ clauses.filter))
      (constant_faults clauses) (list_faults tables tree clauses) (group_faults clauses tree.group)
      (having_faults clauses tree.having_place)
      (order_faults clauses tree.distinct (is_empty (list_faults tables tree clauses)) tree.order)

  -- where the select list is wrong
  pub wrong_list : (fault : Fault) (other : Option Fault) → Some fault ≡ least (list_faults tables tree clauses)
      → other ≡ least (other_faults tables tree clauses false)
      → least (faults_with tables tree clauses) ≡ sooner (Some fault) other
  wrong_list fault other is rest = by_list (list_faults tables tree clauses) refl
    where
      by_list : (list : List Fault) → list_faults tables tree clauses ≡ list
          → least (faults_with tables tree clauses) ≡ sooner (Some fault) other
      by_list [] empty = let no : Some fault ≡ None = is ∙ ap least empty in cc
      by_list (first ∷ others) some =
          faults-list_first
          ∙ ap (λ (list : List Fault). sooner (least list) (least (other_faults tables tree clauses (is_empty list)))) some
          ∙ ap (λ (told : Option Fault). sooner told (least (other_faults tables tree clauses false))) (sym (is ∙ ap least some))
          ∙ ap (sooner (Some fault)) (sym rest)

  -- where the select list is right
  pub right_list : (other : Option Fault) → None ≡ least (list_faults tables tree clauses)
      → other ≡ least (other_faults tables tree clauses true)
      → least (faults_with tables tree clauses) ≡ other
  right_list other is rest =
      faults-list_first
      ∙ ap (λ (list : List Fault). sooner (least list) (least (other_faults tables tree clauses (is_empty list))))
      (none_least (list_faults tables tree clauses) (sym is))
      ∙ sym rest

  -- where nothing is told
  pub all_right : None ≡ least (list_faults tables tree clauses)
      → None ≡ least (other_faults tables tree clauses true)
      → faults_with tables tree clauses ≡ []
  all_right list rest = none_least (faults_with tables tree clauses) (right_list None list rest)

  -- where nothing is told of the select list
  pub list_right : None ≡ least (list_faults tables tree clauses) → list_faults tables tree clauses ≡ []
  list_right is = none_least (list_faults tables tree clauses) (sym is)
