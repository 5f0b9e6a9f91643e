-- What a tree names decides its value and its truth.
use Rattle.std.proofs.Common.{◌≡◌, ℤ, ◌+ℤ◌, ◌-ℤ◌, ◌*ℤ◌, neg_ℤ, List, [], ◌∷◌, ◌++◌, Some, All, map, flat_map, not, option_map, refl, sym, subst, ap, ◌∙◌}
use Rattle.std.proofs.lemmas.List.Elements.{All-head, All-tail}
use Rattle.sa_value.specs.Compare.{known, truth_of}
use Rattle.sa_value.specs.Logic.{negation}
use Rattle.sa_cond.specs.declared.cond.Cond.{Cond}
use Rattle.sa_cond.specs.declared.cond.Cond.TheVariants as conds
use Rattle.sa_cond.specs.declared.expr.Expr.{Expr}
use Rattle.sa_cond.specs.declared.expr.Expr.TheVariants as exprs
use Rattle.sa_cond.specs.Choice.{Choice}
use Rattle.sa_cond.specs.Cited.{Name, column, slot, expr_names, cond_names, MeetsName}
use Rattle.sa_cond.specs.Condition.{is_null, all_of, any_of, between, among, holds}
use Rattle.sa_cond.specs.Expression.{number_of, number_or_null, applied, expr_value}
use Rattle.sa_cond.specs.Interval.{CellKinds, Interval, added, subtracted, multiplied, expr_kind, static_interval}
use Rattle.sa_cond.specs.Within.{IsNullOrIn}
use Rattle.sa_cond.specs.Agree.{AgreeAt}
use Rattle.sa_cond.proofs.Forms.{by_forms, value-Column, value-Slot, value-Literal, value-Negate, names-Column, names-Slot, names-Negate}
use Rattle.sa_cond.proofs.CondForms.{by_forms as by_cond_forms, holds-Known, holds-Compare, holds-IsNull, holds-NotNull, holds-Between, holds-Among, holds-And, holds-Or, holds-Not, names-Compare, names-IsNull, names-NotNull, names-Between, names-Among, names-And, names-Or, names-Not}
use Rattle.sa_cond.proofs.IntervalLemmas.{InEach, IsOperation, is_addition, is_subtraction, is_multiplication, HasKind-interval, value_has_kind}
use Rattle.sa_cond.proofs.Lists.{All-left, All-right, All-one, All-flat_map, All-flat}

-- an expression with a static interval is NULL or in it
pub in_interval : (kinds : CellKinds) (choice : Choice) (expr : Expr) (interval : Interval) → All (MeetsName kinds choice) (expr_names expr) → static_interval kinds expr ≡ Some interval
    → IsNullOrIn interval (expr_value choice expr)
in_interval kinds choice expr interval met is =
    subst (λ each. InEach each (expr_value choice expr)) is (HasKind-interval (expr_kind kinds expr) (expr_value choice expr) (value_has_kind kinds choice expr met))

-- functions that agree on each member of a list make the same list of it
map-same : {A B : Type 0} (f g : A → B) (xs : List A) → All (λ x. f x ≡ g x) xs → map f xs ≡ map g xs
map-same f g [] all = refl
map-same f g (x ∷ xs) all =
    ap (λ y. y ∷ map f xs) (All-head (λ x. f x ≡ g x) x xs all) ∙ ap (λ ys. g x ∷ ys) (map-same f g xs (All-tail (λ x. f x ≡ g x) x xs all))

module _ (one other : Choice) where
  abbrev Agree : List Name → Type 0
  Agree names = All (AgreeAt one other) names

  abbrev SameValue : Expr → Type 0
  SameValue expr = Agree (expr_names expr) → expr_value one expr ≡ expr_value other expr

  named : (expr : Expr) (names : List Name) → expr_names expr ≡ names → Agree (expr_names expr) → Agree names
  named expr names is all = subst Agree is all

  module _ (make : Expr → Expr → Expr) (operation : ℤ → ℤ → ℤ) (over : Interval → Interval → Interval) (is : IsOperation make operation over) where
    same_operation : (x y : Expr) → SameValue x → SameValue y → SameValue (make x y)
    same_operation x y left right all =
        let names = named (make x y) (expr_names x ++ expr_names y) (is.names x y) all in
        is.value one x y
        ∙ ap (λ value. applied operation value (expr_value one y)) (left (All-left (AgreeAt one other) (expr_names x) (expr_names y) names))
        ∙ ap (applied operation (expr_value other x)) (right (All-right (AgreeAt one other) (expr_names x) (expr_names y) names))
        ∙ sym (is.value other x y)

  pub value_decided : (expr : Expr) → SameValue expr
  value_decided =
      by_forms SameValue (record {
        at_column = λ table number all.
            value-Column one table number
            ∙ All-one (AgreeAt one other) (column table number) (named (exprs.Column table number) (column table number ∷ []) (names-Column table number) all)
            ∙ sym (value-Column other table number);
        at_slot = λ number all.
            value-Slot one number ∙ All-one (AgreeAt one other) (slot number) (named (exprs.Slot number) (slot number ∷ []) (names-Slot number) all) ∙ sym (value-Slot other number);
        at_literal = λ value all. value-Literal one value ∙ sym (value-Literal other value);
        at_negate = λ x same all.
            value-Negate one x ∙ ap (λ value. number_or_null (option_map neg_ℤ (number_of value))) (same (named (exprs.Negate x) (expr_names x) (names-Negate x) all))
            ∙ sym (value-Negate other x);
        at_add = same_operation exprs.Add (λ x y. x +ℤ y) added is_addition;
        at_subtract = same_operation exprs.Subtract (λ x y. x -ℤ y) subtracted is_subtraction;
        at_multiply = same_operation exprs.Multiply (λ x y. x *ℤ y) multiplied is_multiplication;
      })

  abbrev SameTruth : Cond → Type 0
  SameTruth cond = Agree (cond_names cond) → holds one cond ≡ holds other cond

  cond_named : (cond : Cond) (names : List Name) → cond_names cond ≡ names → Agree (cond_names cond) → Agree names
  cond_named cond names is all = subst Agree is all

  same_members : (members : List Cond) → All SameTruth members → Agree (flat_map (λ names. names) (map cond_names members)) → map (holds one) members ≡ map (holds other) members
  same_members members same all =
      let each = All-flat (AgreeAt one other) cond_names members all in
      map-same (holds one) (holds other) members (λ k d lt. same k d lt (each k d lt))

  same_values : (list : List Expr) → Agree (flat_map expr_names list) → map (expr_value one) list ≡ map (expr_value other) list
  same_values list all =
      let each = All-flat_map (AgreeAt one other) expr_names list all in
      map-same (expr_value one) (expr_value other) list (λ k d lt. value_decided _ (each k d lt))

  pub truth_decided : (cond : Cond) → SameTruth cond
  truth_decided =
      by_cond_forms SameTruth (record {
        at_known = λ truth all. holds-Known one truth ∙ sym (holds-Known other truth);
        at_compare = λ op left right all.
            let names = cond_named (conds.Compare op left right) (expr_names left ++ expr_names right) (names-Compare op left right) all in
            holds-Compare one op left right
            ∙ ap (λ value. truth_of op value (expr_value one right)) (value_decided left (All-left (AgreeAt one other) (expr_names left) (expr_names right) names))
            ∙ ap (truth_of op (expr_value other left)) (value_decided right (All-right (AgreeAt one other) (expr_names left) (expr_names right) names))
            ∙ sym (holds-Compare other op left right);
        at_is_null = λ x all.
            holds-IsNull one x ∙ ap (λ value. known (is_null value)) (value_decided x (cond_named (conds.IsNull x) (expr_names x) (names-IsNull x) all)) ∙ sym (holds-IsNull other x);
        at_not_null = λ x all.
            holds-NotNull one x ∙ ap (λ value. known (not (is_null value))) (value_decided x (cond_named (conds.NotNull x) (expr_names x) (names-NotNull x) all)) ∙ sym (holds-NotNull other x);
        at_between = λ value low high all.
            let names = cond_named (conds.Between value low high) (expr_names value ++ expr_names low ++ expr_names high) (names-Between value low high) all in
            let front = All-left (AgreeAt one other) (expr_names value ++ expr_names low) (expr_names high) names in
            holds-Between one value low high
            ∙ ap (λ v. between v (expr_value one low) (expr_value one high)) (value_decided value (All-left (AgreeAt one other) (expr_names value) (expr_names low) front))
            ∙ ap (λ v. between (expr_value other value) v (expr_value one high)) (value_decided low (All-right (AgreeAt one other) (expr_names value) (expr_names low) front))
            ∙ ap (between (expr_value other value) (expr_value other low)) (value_decided high (All-right (AgreeAt one other) (expr_names value ++ expr_names low) (expr_names high) names))
            ∙ sym (holds-Between other value low high);
        at_among = λ value list all.
            let names = cond_named (conds.Among value list) (expr_names value ++ flat_map expr_names list) (names-Among value list) all in
            holds-Among one value list
            ∙ ap (λ v. among v (map (expr_value one) list)) (value_decided value (All-left (AgreeAt one other) (expr_names value) (flat_map expr_names list) names))
            ∙ ap (among (expr_value other value)) (same_values list (All-right (AgreeAt one other) (expr_names value) (flat_map expr_names list) names))
            ∙ sym (holds-Among other value list);
        at_and = λ members same all.
            holds-And one members ∙ ap all_of (same_members members same (cond_named (conds.And members) _ (names-And members) all)) ∙ sym (holds-And other members);
        at_or = λ members same all.
            holds-Or one members ∙ ap any_of (same_members members same (cond_named (conds.Or members) _ (names-Or members) all)) ∙ sym (holds-Or other members);
        at_not = λ x same all. holds-Not one x ∙ ap negation (same (cond_named (conds.Not x) (cond_names x) (names-Not x) all)) ∙ sym (holds-Not other x);
      })
