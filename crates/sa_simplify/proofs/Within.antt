-- Lists of names, all of which stand in another list.
use Rattle.std.proofs.Common.{◌≡◌, List, [], ◌++◌, subst, sym, inl, inr, arith}
use Rattle.std.specs.Prelude.{Contains}
use Rattle.std.proofs.lemmas.List.Elements.{Contains-append_left, Contains-append_right, Contains-append_cases}

module _ {A : Type 0} where
  pub record Within (xs ys : List A) : Type 0 where
    pub at : (x : A) → Contains xs x → Contains ys x

  pub Within-itself : (xs : List A) → Within xs xs
  Within-itself xs = record { at = λ x here. here }

  pub Within-none : (ys : List A) → Within [] ys
  Within-none ys = record { at = λ x here. absurd (omega (arith, here.1)) }

  pub Within-trans : {xs ys zs : List A} → Within xs ys → Within ys zs → Within xs zs
  Within-trans first second = record { at = λ x here. second.at x (first.at x here) }

  pub Within-left : (xs ys : List A) → Within xs (xs ++ ys)
  Within-left xs ys = record { at = λ x here. Contains-append_left xs ys x here }

  pub Within-right : (xs ys : List A) → Within ys (xs ++ ys)
  Within-right xs ys = record { at = λ x here. Contains-append_right xs ys x here }

  pub Within-both : {xs ys zs : List A} → Within xs zs → Within ys zs → Within (xs ++ ys) zs
  Within-both {xs} {ys} {zs} first second = record {
    at = λ x here. elim (Contains-append_cases xs ys x here) [ inl there ↦ first.at x there | inr there ↦ second.at x there ];
  }

  pub Within-append : {xs ys us vs : List A} → Within xs us → Within ys vs → Within (xs ++ ys) (us ++ vs)
  Within-append {xs} {ys} {us} {vs} first second =
      Within-both (Within-trans first (Within-left us vs)) (Within-trans second (Within-right us vs))

  pub Within-same : {xs ys us vs : List A} → xs ≡ us → ys ≡ vs → Within us vs → Within xs ys
  Within-same {xs} {ys} {us} {vs} left right within = record {
    at = λ x here. subst (λ zs. Contains zs x) (sym right) (within.at x (subst (λ zs. Contains zs x) left here));
  }
