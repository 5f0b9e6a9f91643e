-- Two first places at which something stands are one, and so are the values of an answer.
use Rattle.std.proofs.Common.{◌≡◌, ℕ, ◌<◌, List, [], Option, Some, None, inl, inr, sym, ap, ◌∙◌, arith}
use Rattle.std.specs.Prelude.{slice_get}
use Rattle.std.proofs.lemmas.Bool.Decides.{leb_tells}

pub same_first : (Stands : ℕ → Type 0) (i j : ℕ) → Stands i → Stands j → ((k : ℕ) → k < i → Stands k → ⊥) → ((k : ℕ) → k < j → Stands k → ⊥) → i ≡ j
same_first Stands i j here there none never = elim (leb_tells i j) [
  | inl up ↦ elim (leb_tells j i) [
    | inl down ↦ omega (arith, up.1, down.1)
    | inr less ↦ absurd (never i less.1 here)
  ]
  | inr less ↦ absurd (none j less.1 there)
]

pub some_is : {A : Type 0} (x y : A) → Some x ≡ Some y → x ≡ y
some_is x y e = cc

pub told_same : {A : Type 0} (found : Option A) (x y : A) → found ≡ Some x → found ≡ Some y → x ≡ y
told_same found x y e f = some_is x y (sym e ∙ f)

pub none_told : {A : Type 0} (found : Option A) (x : A) → found ≡ None → found ≡ Some x → ⊥
none_told found x e f = let clash : None ≡ Some x = sym e ∙ f in cc

-- no list of nothing begins with something
pub nothing_first : {A : Type 0} (xs : List A) (x : A) → xs ≡ [] → slice_get xs 0 ≡ Some x → ⊥
nothing_first xs x e f = none_told (slice_get xs 0) x (ap (λ list. slice_get list 0) e) f
