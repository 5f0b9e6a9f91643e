-- Tests that are equivalences, and which lists have an element that is like a given one.
use Rattle.std.proofs.Common.{◌≡◌, Bool, true, not, List, [], ◌∷◌, ◌∙◌, sym, inl, inr}
use Rattle.std.specs.List.{list_any, list_all}
use Rattle.std.specs.Cmp.{IsEquivalence}
use Rattle.std.specs.Str.{str_eq_ignore_ascii_case, str_to_ascii_lowercase}
use Rattle.std.proofs.lemmas.Bool.{false≢true, both_ways, not-true, and_parts, or_cases}
use Rattle.std.proofs.lemmas.Cmp.{nat_list_eq_equiv}
use Rattle.sa_lexer.specs.Sign.{spelling}
use Rattle.sa_parser.specs.Token.{same_sign}

pub words_alike : IsEquivalence str_eq_ignore_ascii_case
words_alike = record {
  refl = λ word. nat_list_eq_equiv.refl (str_to_ascii_lowercase word);
  symm = λ word other. nat_list_eq_equiv.symm (str_to_ascii_lowercase word) (str_to_ascii_lowercase other);
  congr = λ word other third.
      nat_list_eq_equiv.congr (str_to_ascii_lowercase word) (str_to_ascii_lowercase other) (str_to_ascii_lowercase third);
}

pub signs_alike : IsEquivalence same_sign
signs_alike = record {
  refl = λ sign. nat_list_eq_equiv.refl (spelling sign);
  symm = λ sign other. nat_list_eq_equiv.symm (spelling sign) (spelling other);
  congr = λ sign other third. nat_list_eq_equiv.congr (spelling sign) (spelling other) (spelling third);
}

module _ {X : Type 0} (like : X → X → Bool) (equivalence : IsEquivalence like) where
  any-like : (x z : X) (ys : List X) → like x z ≡ true → list_any (like x) ys ≡ list_any (λ y. like y z) ys
  any-like x z ys e = λ i. list_any (λ y. (equivalence.congr x z y e ∙ equivalence.symm z y) i) ys

  -- no element is like one of each list
  pub any-apart : (xs ys : List X) (z : X) → list_all (λ x. not (list_any (like x) ys)) xs ≡ true
      → list_any (λ x. like x z) xs ≡ true → list_any (λ y. like y z) ys ≡ true → ⊥
  any-apart [] ys z none here there = false≢true here
  any-apart (x ∷ xs) ys z none here there =
      elim (or_cases _ _ here) [
        | inl e ↦ both_ways _ (sym (any-like x z ys e) ∙ not-true _ (and_parts _ _ none).0) there
        | inr e ↦ any-apart xs ys z (and_parts _ _ none).1 e there
      ]

  -- what is like one of the first list is like one of the second
  pub any-within : (xs ys : List X) (z : X) → list_all (λ x. list_any (like x) ys) xs ≡ true
      → list_any (λ x. like x z) xs ≡ true → list_any (λ y. like y z) ys ≡ true
  any-within [] ys z all here = absurd (false≢true here)
  any-within (x ∷ xs) ys z all here =
      elim (or_cases _ _ here) [
        | inl e ↦ sym (any-like x z ys e) ∙ (and_parts _ _ all).0
        | inr e ↦ any-within xs ys z (and_parts _ _ all).1 e
      ]

  -- what is like something that a list has is like something that the list has
  pub any-moved : (ys : List X) (x z : X) → like x z ≡ true → list_any (λ y. like y x) ys ≡ true → list_any (λ y. like y z) ys ≡ true
  any-moved ys x z e here =
      sym (λ i. list_any (λ y. (equivalence.symm y x ∙ equivalence.congr x z y e ∙ equivalence.symm z y) i) ys) ∙ here

  -- so is what is like one of a list all of whose elements are like one that the first list has
  pub any-all_moved : (ys xs : List X) (z : X) → list_all (λ x. list_any (λ y. like y x) ys) xs ≡ true
      → list_any (λ x. like x z) xs ≡ true → list_any (λ y. like y z) ys ≡ true
  any-all_moved ys [] z all here = absurd (false≢true here)
  any-all_moved ys (x ∷ xs) z all here =
      elim (or_cases _ _ here) [
        | inl e ↦ any-moved ys x z e (and_parts _ _ all).0
        | inr e ↦ any-all_moved ys xs z (and_parts _ _ all).1 e
      ]
