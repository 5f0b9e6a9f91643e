-- Conditions that are well-typed, and their members.
use Rattle.std.proofs.Common.{◌≡◌, Bool, true, ◌&&◌, List, [], ◌∷◌, ◌++◌, map, refl, ap, sym, ◌∙◌, subst}
use Rattle.std.specs.List.{list_all}
use Rattle.sa_cond.specs.declared.cond.Cond.{Cond, Cond-F}
use Rattle.sa_cond.specs.declared.cond.Cond.TheVariants.{And, Or}
use Rattle.sa_cond.specs.Typed.{is_well_typed}
use Rattle.sa_simplify.specs.Simple.{IsWellTyped, AreWellTyped}
use Rattle.sa_simplify.proofs.Refines.{typed-of_node, both_true, true_both}

list_all-map : {A : Type 0} (f : A → Bool) (xs : List A) → list_all (λ b. b) (map f xs) ≡ list_all f xs
list_all-map f [] = refl
list_all-map f (x ∷ xs) = ap (λ b. f x && b) (list_all-map f xs)

pub AreWellTyped-And : (cond : Cond) (members : List Cond) → cond ≡ And members → IsWellTyped cond → AreWellTyped members
AreWellTyped-And cond members is typed = record {
  kinds = typed.kinds;
  typed = sym (typed-of_node typed.kinds (Cond-F.And members) ∙ list_all-map (is_well_typed typed.kinds) members) ∙ subst (λ c. is_well_typed typed.kinds c ≡ true) is typed.typed;
}

pub AreWellTyped-Or : (cond : Cond) (members : List Cond) → cond ≡ Or members → IsWellTyped cond → AreWellTyped members
AreWellTyped-Or cond members is typed = record {
  kinds = typed.kinds;
  typed = sym (typed-of_node typed.kinds (Cond-F.Or members) ∙ list_all-map (is_well_typed typed.kinds) members) ∙ subst (λ c. is_well_typed typed.kinds c ≡ true) is typed.typed;
}

list_all-push : (f : Cond → Bool) (xs : List Cond) (x : Cond) → list_all f (xs ++ x ∷ []) ≡ true → (list_all f xs ≡ true) × (f x ≡ true)
list_all-push f [] x all = (refl, (both_true (f x) true all).0)
list_all-push f (y ∷ xs) x all =
    let both = both_true (f y) (list_all f (xs ++ x ∷ [])) all in
    let rest = list_all-push f xs x both.1 in
    (true_both (f y) (list_all f xs) both.0 rest.0, rest.1)

pub AreWellTyped-rest : (xs rest : List Cond) (x : Cond) → xs ≡ rest ++ x ∷ [] → AreWellTyped xs → AreWellTyped rest
AreWellTyped-rest xs rest x is typed = record {
  kinds = typed.kinds;
  typed = (list_all-push (is_well_typed typed.kinds) rest x (subst (λ ys. list_all (is_well_typed typed.kinds) ys ≡ true) is typed.typed)).0;
}

pub AreWellTyped-last : (xs rest : List Cond) (x : Cond) → xs ≡ rest ++ x ∷ [] → AreWellTyped xs → IsWellTyped x
AreWellTyped-last xs rest x is typed = record {
  kinds = typed.kinds;
  typed = (list_all-push (is_well_typed typed.kinds) rest x (subst (λ ys. list_all (is_well_typed typed.kinds) ys ≡ true) is typed.typed)).1;
}
