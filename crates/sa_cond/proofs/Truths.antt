-- AND and OR over lists, as a loop computes them.
use Rattle.std.proofs.Common.{◌≡◌, ℕ, ◌+◌, ◌<◌, List, length, get_or, take, drop, map, fold, refl, sym, ap, ◌∙◌}
use Rattle.std.proofs.lemmas.List.{take-append-drop}
use Rattle.std.proofs.lemmas.List.Sums.{fold_more, fold-append}
use Rattle.std.proofs.lemmas.List.Folds.{fold-map, fold_stays}
use Rattle.sa_value.specs.declared.truth.CompareOp.TheVariants.{Eq}
use Rattle.sa_value.specs.declared.truth.Truth.{Truth}
use Rattle.sa_value.specs.declared.truth.Truth.TheVariants.{False, Unknown, True}
use Rattle.sa_value.specs.declared.value.Value.{Value}
use Rattle.sa_value.specs.Compare.{truth_of}
use Rattle.sa_value.specs.Logic.{conjunction, disjunction}
use Rattle.sa_cond.specs.Condition.{all_of, any_of, among}

module _ {A : Type 0} (f : Truth → A → Truth) (start : Truth) (xs : List A) (i : ℕ) (item : A) (within : i < length xs) (is : item ≡ get_or xs i item) where
  pub further : fold f start (take (i + 1) xs) ≡ f (fold f start (take i xs)) item
  further = fold_more f start xs i item within ∙ ap (f (fold f start (take i xs))) (sym is)

  -- what a member decides is decided
  pub decided : (result z : Truth) → ((x : A) → f z x ≡ z) → result ≡ f (fold f start (take i xs)) item → result ≡ z → fold f start xs ≡ z
  decided result z stays next told =
      ap (fold f start) (sym (take-append-drop (i + 1) xs)) ∙ fold-append f start (take (i + 1) xs) (drop (i + 1) xs)
      ∙ ap (λ truth. fold f truth (drop (i + 1) xs)) (further ∙ sym next ∙ told) ∙ fold_stays f z stays (drop (i + 1) xs)

-- what two truths give, in other words for them
pub in_terms_of : (operation : Truth → Truth → Truth) (result a b a' b' : Truth) → result ≡ operation a b → a ≡ a' → b ≡ b' → result ≡ operation a' b'
in_terms_of operation result a b a' b' is left right = is ∙ ap (λ a. operation a b) left ∙ ap (operation a') right

pub conjunction-False : (truth : Truth) → conjunction False truth ≡ False
conjunction-False False = refl
conjunction-False Unknown = refl
conjunction-False True = refl

pub disjunction-True : (truth : Truth) → disjunction True truth ≡ True
disjunction-True False = refl
disjunction-True Unknown = refl
disjunction-True True = refl

-- the AND of truths of members, member by member
abbrev pub and_next : {A : Type 0} → (A → Truth) → Truth → A → Truth
and_next test truth member = conjunction truth (test member)

abbrev pub or_next : {A : Type 0} → (A → Truth) → Truth → A → Truth
or_next test truth member = disjunction truth (test member)

pub all_of-map : {A : Type 0} (test : A → Truth) (xs : List A) → all_of (map test xs) ≡ fold (and_next test) True xs
all_of-map test xs = fold-map conjunction test True xs

pub any_of-map : {A : Type 0} (test : A → Truth) (xs : List A) → any_of (map test xs) ≡ fold (or_next test) False xs
any_of-map test xs = fold-map disjunction test False xs

pub among-map : {A : Type 0} (value : Value) (of : A → Value) (xs : List A) → among value (map of xs) ≡ fold (or_next (λ x. truth_of Eq value (of x))) False xs
among-map value of xs = any_of-map (truth_of Eq value) (map of xs) ∙ fold-map (or_next (truth_of Eq value)) of False xs
