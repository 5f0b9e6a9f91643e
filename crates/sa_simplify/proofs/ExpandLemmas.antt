-- BETWEEN and IN, written out, say the same.
use Rattle.std.proofs.Common.{◌≡◌, true, ◌&&◌, List, [], ◌∷◌, ◌++◌, map, refl, ap, sym, ◌∙◌}
use Rattle.std.specs.List.{list_all, flat_map}
use Rattle.sa_value.specs.declared.truth.CompareOp.TheVariants.{Eq, Le, Ge}
use Rattle.sa_value.specs.Compare.{truth_of}
use Rattle.sa_value.specs.Logic.{conjunction}
use Rattle.sa_cond.specs.declared.cond.Cond.{Cond, Cond-F}
use Rattle.sa_cond.specs.declared.cond.Cond.TheVariants.{Compare, Between, Among, And, Or}
use Rattle.sa_cond.specs.declared.expr.Expr.{Expr}
use Rattle.sa_cond.specs.Choice.{Choice}
use Rattle.sa_cond.specs.Cited.{cond_names, expr_names}
use Rattle.sa_cond.specs.Condition.{holds, any_of}
use Rattle.sa_cond.specs.Expression.{expr_value}
use Rattle.sa_cond.specs.Interval.{CellKinds, expr_kind}
use Rattle.sa_cond.specs.Typed.{is_well_typed, is_proper, can_compare}
use Rattle.sa_simplify.specs.Node.{of_node}
use Rattle.sa_simplify.specs.Expand.{equality_or_any, node_expanded, expanded}
use Rattle.sa_simplify.proofs.Truths.{conjunction-True_left, disjunction-False_left}
use Rattle.sa_simplify.proofs.Within.{Within, Within-itself, Within-none, Within-trans, Within-left, Within-right, Within-both, Within-append, Within-same}
use Rattle.sa_simplify.proofs.Refines.{Refines, Refines-itself, Refines-trans, Refines-fold, holds-of_node, typed-of_node, names-of_node, both_true, true_both}

-- BETWEEN

between_refines : (value low high : Expr) → Refines (And (Compare Ge value low ∷ Compare Le value high ∷ [])) (Between value low high)
between_refines value low high = record {
  truth = λ choice. holds-of_node choice (Cond-F.And (Compare Ge value low ∷ Compare Le value high ∷ []))
      ∙ ap (λ t. conjunction t (holds choice (Compare Le value high))) (conjunction-True_left (holds choice (Compare Ge value low)))
      ∙ ap (λ t. conjunction t (holds choice (Compare Le value high))) (holds-of_node choice (Cond-F.Compare Ge value low))
      ∙ ap (conjunction (truth_of Ge (expr_value choice value) (expr_value choice low))) (holds-of_node choice (Cond-F.Compare Le value high))
      ∙ sym (holds-of_node choice (Cond-F.Between value low high));
  typed = λ kinds typed.
      let both = both_true (can_compare (expr_kind kinds value) (expr_kind kinds low)) (can_compare (expr_kind kinds value) (expr_kind kinds high)) (sym (typed-of_node kinds (Cond-F.Between value low high)) ∙ typed) in
      typed-of_node kinds (Cond-F.And (Compare Ge value low ∷ Compare Le value high ∷ []))
      ∙ true_both (is_well_typed kinds (Compare Ge value low)) (is_well_typed kinds (Compare Le value high) && true) (typed-of_node kinds (Cond-F.Compare Ge value low) ∙ both.0)
      (true_both (is_well_typed kinds (Compare Le value high)) true (typed-of_node kinds (Cond-F.Compare Le value high) ∙ both.1) refl);
  named = Within-same (names-of_node (Cond-F.And (Compare Ge value low ∷ Compare Le value high ∷ []))) (names-of_node (Cond-F.Between value low high))
      (Within-both
      (Within-same (names-of_node (Cond-F.Compare Ge value low)) refl (Within-left (expr_names value ++ expr_names low) (expr_names high)))
      (Within-both
      (Within-same (names-of_node (Cond-F.Compare Le value high)) refl
      (Within-append (Within-left (expr_names value) (expr_names low)) (Within-itself (expr_names high))))
      (Within-none ((expr_names value ++ expr_names low) ++ expr_names high))));
}

-- IN

abbrev equalities : Expr → List Expr → List Cond
equalities value list = map (λ member. Compare Eq value member) list

equal_truths : (choice : Choice) (value : Expr) (list : List Expr) →
    map (holds choice) (equalities value list) ≡ map (truth_of Eq (expr_value choice value)) (map (expr_value choice) list)
equal_truths choice value [] = refl
equal_truths choice value (member ∷ list) =
    ap (λ t. t ∷ map (holds choice) (equalities value list)) (holds-of_node choice (Cond-F.Compare Eq value member))
    ∙ ap (λ ts. truth_of Eq (expr_value choice value) (expr_value choice member) ∷ ts) (equal_truths choice value list)

equal_typed : (kinds : CellKinds) (value : Expr) (list : List Expr) →
    list_all (λ member. can_compare (expr_kind kinds value) (expr_kind kinds member)) list ≡ true →
    list_all (λ b. b) (map (is_well_typed kinds) (equalities value list)) ≡ true
equal_typed kinds value [] all = refl
equal_typed kinds value (member ∷ list) all =
    let both = both_true (can_compare (expr_kind kinds value) (expr_kind kinds member)) (list_all (λ member. can_compare (expr_kind kinds value) (expr_kind kinds member)) list) all in
    true_both (is_well_typed kinds (Compare Eq value member)) (list_all (λ b. b) (map (is_well_typed kinds) (equalities value list)))
    (typed-of_node kinds (Cond-F.Compare Eq value member) ∙ both.0) (equal_typed kinds value list both.1)

equal_named : (value : Expr) (list : List Expr) →
    Within (flat_map (λ names. names) (map cond_names (equalities value list))) (expr_names value ++ flat_map expr_names list)
equal_named value [] = Within-none (expr_names value ++ [])
equal_named value (member ∷ list) =
    Within-both
    (Within-same (names-of_node (Cond-F.Compare Eq value member)) refl
    (Within-append (Within-itself (expr_names value)) (Within-left (expr_names member) (flat_map expr_names list))))
    (Within-trans (equal_named value list)
    (Within-append (Within-itself (expr_names value)) (Within-right (expr_names member) (flat_map expr_names list))))

any_refines : (value : Expr) (list : List Expr) → Refines (Or (equalities value list)) (Among value list)
any_refines value list = record {
  truth = λ choice. holds-of_node choice (Cond-F.Or (equalities value list)) ∙ ap any_of (equal_truths choice value list)
      ∙ sym (holds-of_node choice (Cond-F.Among value list));
  typed = λ kinds typed. typed-of_node kinds (Cond-F.Or (equalities value list))
      ∙ equal_typed kinds value list
      (both_true (is_proper (expr_kind kinds value)) (list_all (λ member. can_compare (expr_kind kinds value) (expr_kind kinds member)) list)
      (sym (typed-of_node kinds (Cond-F.Among value list)) ∙ typed)).1;
  named = Within-same (names-of_node (Cond-F.Or (equalities value list))) (names-of_node (Cond-F.Among value list)) (equal_named value list);
}

-- one alone says the same as the OR of it
only_refines : (x : Cond) → Refines x (Or (x ∷ []))
only_refines x = record {
  truth = λ choice. sym (holds-of_node choice (Cond-F.Or (x ∷ [])) ∙ disjunction-False_left (holds choice x));
  typed = λ kinds typed. (both_true (is_well_typed kinds x) true (sym (typed-of_node kinds (Cond-F.Or (x ∷ []))) ∙ typed)).0;
  named = Within-same refl (names-of_node (Cond-F.Or (x ∷ []))) (Within-left (cond_names x) []);
}

alone_refines : (xs : List Cond) → Refines (equality_or_any xs) (Or xs)
alone_refines [] = Refines-itself (Or [])
alone_refines (x ∷ []) = only_refines x
alone_refines (x ∷ y ∷ xs) = Refines-itself (Or (x ∷ y ∷ xs))

node_refines : (node : Cond-F Cond) → Refines (node_expanded node) (of_node node)
node_refines (Cond-F.Between value low high) = between_refines value low high
node_refines (Cond-F.Among value list) = Refines-trans (alone_refines (equalities value list)) (any_refines value list)
node_refines node = Refines-itself (of_node node)

pub expanded_refines : (cond : Cond) → Refines (expanded cond) cond
unfolding expanded
expanded_refines = Refines-fold node_expanded node_refines
