-- A sum over a list is the sum over the sessions of what each has of it.
use Rattle.std.proofs.Common.{◌≡◌, ℕ, zero, suc, ◌+◌, ◌*◌, ◌<◌, ◌≤◌, ◌≢◌, ◌==◌, if◌then◌else◌, List, [], ◌∷◌, length, take, get_or, slice_index, sum, sum_by, All, refl, ap, sym, ◌∙◌, arith, take_all, ⊎_elim}
use Rattle.std.proofs.lemmas.Bool.{cases_eq}
use Rattle.std.proofs.lemmas.List.Sums.{sum_by-cons, sum_by_more}
use Rattle.std.proofs.lemmas.List.Elements.{All-head, All-tail}
use Rattle.std.proofs.lemmas.Bool.Decides.{nat_tests}

-- the sum of f over the numbers below
abbrev pub sum_below : (ℕ → ℕ) → ℕ → ℕ
sum_below f zero = 0
sum_below f (suc n) = sum_below f n + f n

pub sum_below-le : (f g : ℕ → ℕ) (n : ℕ) → ((i : ℕ) → i < n → f i ≤ g i) → sum_below f n ≤ sum_below g n
sum_below-le f g zero less = omega arith
sum_below-le f g (suc n) less =
    let below : sum_below f n ≤ sum_below g n = sum_below-le f g n (λ i within. less i (omega arith)) in
    let here : f n ≤ g n = less n (omega arith) in
    omega arith

pub sum_below-same : (f g : ℕ → ℕ) (n : ℕ) → ((i : ℕ) → i < n → f i ≡ g i) → sum_below f n ≡ sum_below g n
sum_below-same f g zero same = refl
sum_below-same f g (suc n) same =
    let below : sum_below f n ≡ sum_below g n = sum_below-same f g n (λ i within. same i (omega arith)) in
    let here : f n ≡ g n = same n (omega arith) in
    omega arith

pub sum_below-constant : (c n : ℕ) → sum_below (λ i. c) n ≡ n * c
sum_below-constant c zero = omega arith
sum_below-constant c (suc n) = let below = sum_below-constant c n in omega arith

pub sum_below-add : (f g : ℕ → ℕ) (n : ℕ) → sum_below (λ i. f i + g i) n ≡ sum_below f n + sum_below g n
sum_below-add f g zero = refl
sum_below-add f g (suc n) = let below = sum_below-add f g n in omega arith

-- One number alone counts.
pub sum_below-none : (k c n : ℕ) → n < k → sum_below (λ i. if k == i + 1 then c else 0) n ≡ 0
sum_below-none k c zero above = refl
sum_below-none k c (suc n) above =
    let below : sum_below (λ i. if k == i + 1 then c else 0) n ≡ 0 = sum_below-none k c n (omega arith) in
    grind (arith, nat_tests)

pub sum_below-one : (k c n : ℕ) → 1 ≤ k → k ≤ n → sum_below (λ i. if k == i + 1 then c else 0) n ≡ c
sum_below-one k c zero least most = omega arith
sum_below-one k c (suc n) least most = ⊎_elim
    (λ (last : k ≡ n + 1). let below : sum_below (λ i. if k == i + 1 then c else 0) n ≡ 0 = sum_below-none k c n (omega arith) in grind (arith, nat_tests))
    (λ (other : k ≢ n + 1). let below : sum_below (λ i. if k == i + 1 then c else 0) n ≡ c = sum_below-one k c n least (omega arith) in grind (arith, nat_tests))
    (cases_eq k (n + 1))

-- The sum of a list is the sum over its places.
sum_below-take : (xs : List ℕ) (n : ℕ) → n ≤ length xs → sum_below (slice_index xs) n ≡ sum (take n xs)
sum_below-take xs zero within = refl
sum_below-take xs (suc n) within =
    let below : sum_below (slice_index xs) n ≡ sum (take n xs) = sum_below-take xs n (omega arith) in
    let more : sum (take (n + 1) xs) ≡ sum (take n xs) + get_or xs n 0 = sum_by_more (λ (x : ℕ). x) xs n 0 (omega arith) in
    grind arith

pub sum_below-list : (xs : List ℕ) → sum_below (slice_index xs) (length xs) ≡ sum xs
sum_below-list xs = sum_below-take xs (length xs) (omega arith) ∙ ap sum (take_all (length xs) xs (omega arith))

module _ {X : Type 0} (key : X → ℕ) (f : X → ℕ) where
  -- what a session has of the sum
  abbrev pub part : ℕ → X → ℕ
  part session x = if key x == session then f x else 0

  -- the element's key is one of so many sessions
  abbrev pub Within : ℕ → X → Type 0
  Within n x = (1 ≤ key x) × (key x ≤ n)

  pub sum_by-parts : (xs : List X) (n : ℕ) → All (Within n) xs → sum_by f xs ≡ sum_below (λ i. sum_by (part (i + 1)) xs) n
  sum_by-parts [] n all = sym (sum_below-constant 0 n ∙ omega arith)
  sum_by-parts (x ∷ xs) n all =
      let here : Within n x = All-head (Within n) x xs all in
      let rest : sum_by f xs ≡ sum_below (λ i. sum_by (part (i + 1)) xs) n = sum_by-parts xs n (All-tail (Within n) x xs all) in
      let split : sum_below (λ i. sum_by (part (i + 1)) (x ∷ xs)) n ≡ sum_below (λ i. part (i + 1) x + sum_by (part (i + 1)) xs) n =
      sum_below-same _ _ n (λ i within. sum_by-cons (part (i + 1)) x xs) in
      let one : sum_below (λ i. part (i + 1) x) n ≡ f x = sum_below-one (key x) (f x) n here.0 here.1 in
      let apart = sum_below-add (λ i. part (i + 1) x) (λ i. sum_by (part (i + 1)) xs) n in
      let whole : sum_by f (x ∷ xs) ≡ f x + sum_by f xs = sum_by-cons f x xs in
      omega arith
