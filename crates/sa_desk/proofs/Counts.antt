-- How many elements of a list have a key: none, one, or more.
use Rattle.std.specs.List.{IsDistinct}
use Rattle.std.proofs.Common.{eqb, map, ap, false, ◌≡◌, ℕ, zero, suc, ◌+◌, ◌≤◌, ◌≢◌, ◌⊎◌, ◌==◌, Bool, not, if◌then◌else◌, List, [], ◌∷◌, ◌++◌, length, filter, find, sum_by, count_by, Some, None, All, Any, refl, sym, subst, ◌∙◌, arith, inl, inr, ⊎_elim}
use Rattle.std.proofs.lemmas.Bool.{cases_eq}
use Rattle.std.proofs.lemmas.Option.{none-some}
use Rattle.std.proofs.lemmas.Bool.Decides.{nat_tests}
use Rattle.std.proofs.lemmas.List.Sums.{sum_by-cons, sum_by_push, sum_by-append, length-filter}
use Rattle.std.proofs.lemmas.List.Filters.{sum_by-filter_both, length-filter_both}
use Rattle.std.proofs.lemmas.List.Elements.{All-weaker, recursion_from_All, All-head, All-tail, All-cons, All-nil}
use Rattle.sa_desk.proofs.Sums.{sum_below, sum_by-parts, Within}

-- what holds of some element holds of the first one or of a later one
pub Any-cases : {X : Type 0} (P : X → Type 0) (x : X) (xs : List X) → Any P (x ∷ xs) → P x ⊎ Any P xs
Any-cases P x xs (zero, y, within, at, holds) = inl (subst P (sym at) holds)
Any-cases P x xs (suc k, y, within, at, holds) = inr (k, y, omega arith, at, holds)

Any-none : {X : Type 0} (P : X → Type 0) → Any P [] → ⊥
Any-none P found = omega arith

module _ {X : Type 0} (key : X → ℕ) where
  -- whether an element has the key, and how many have it
  abbrev pub has_key : ℕ → X → Bool
  has_key k x = key x == k

  abbrev pub keyed : ℕ → List X → ℕ
  keyed k xs = count_by (has_key k) xs

  -- what one element adds
  abbrev pub one : ℕ → X → ℕ
  one k x = if has_key k x then 1 else 0

  pub keyed-cons : (k : ℕ) (x : X) (xs : List X) → keyed k (x ∷ xs) ≡ one k x + keyed k xs
  keyed-cons k x xs = sum_by-cons (one k) x xs

  pub keyed-push : (k : ℕ) (xs : List X) (x : X) → keyed k (xs ++ x ∷ []) ≡ keyed k xs + one k x
  keyed-push k xs x = sum_by_push (one k) xs x

  -- A filter keeps no more.
  pub keyed-filter : (k : ℕ) (test : X → Bool) (xs : List X) → keyed k (filter test xs) ≤ keyed k xs
  keyed-filter k test xs = omega (arith, sum_by-filter_both test (λ x. not (test x)) (λ x. refl) (one k) xs)

  -- None has the key: all have another, and there is nothing to find.
  pub keyed_none : (k : ℕ) (xs : List X) → All (λ x. key x ≢ k) xs → keyed k xs ≡ 0
  keyed_none k [] other = refl
  keyed_none k (x ∷ xs) other =
      let here : key x ≢ k = All-head (λ x. key x ≢ k) x xs other in
      let rest : keyed k xs ≡ 0 = keyed_none k xs (All-tail (λ x. key x ≢ k) x xs other) in
      let both = keyed-cons k x xs in
      grind (arith, nat_tests)

  pub others_from_none : (k : ℕ) (xs : List X) → keyed k xs ≡ 0 → All (λ x. key x ≢ k) xs
  others_from_none k [] none = All-nil (λ x. key x ≢ k)
  others_from_none k (x ∷ xs) none =
      let both = keyed-cons k x xs in
      let rest : keyed k xs ≡ 0 = omega arith in
      let here : key x ≢ k = λ same. grind (arith, nat_tests) in
      All-cons (λ x. key x ≢ k) x xs here (others_from_none k xs rest)

  pub find_none : (k : ℕ) (xs : List X) → keyed k xs ≡ 0 → find (has_key k) xs ≡ None
  find_none k [] none = refl
  find_none k (x ∷ xs) none =
      let both = keyed-cons k x xs in
      let rest : find (has_key k) xs ≡ None = find_none k xs (omega arith) in
      grind (arith, nat_tests)

  pub none_from_find : (k : ℕ) (xs : List X) → find (has_key k) xs ≡ None → keyed k xs ≡ 0
  none_from_find k [] none = refl
  none_from_find k (x ∷ xs) none =
      let both = keyed-cons k x xs in
      ⊎_elim
      (λ (same : key x ≡ k).
      let first : find (has_key k) (x ∷ xs) ≡ Some x = grind (arith, nat_tests) in
      absurd (none-some x (sym none ∙ first)))
      (λ (other : key x ≢ k).
      let past : find (has_key k) (x ∷ xs) ≡ find (has_key k) xs = grind (arith, nat_tests) in
      let rest : keyed k xs ≡ 0 = none_from_find k xs (sym past ∙ none) in
      grind (arith, nat_tests))
      (cases_eq (key x) k)

  -- Some element has the key.
  pub keyed_some : (k : ℕ) (Q : X → Type 0) (xs : List X) → Any (λ x. (key x ≡ k) × Q x) xs → 1 ≤ keyed k xs
  keyed_some k Q [] found = absurd (Any-none (λ x. (key x ≡ k) × Q x) found)
  keyed_some k Q (x ∷ xs) found =
      let both = keyed-cons k x xs in
      ⊎_elim
      (λ (here : (key x ≡ k) × Q x). let same = here.0 in grind (arith, nat_tests))
      (λ (later : Any (λ x. (key x ≡ k) × Q x) xs). let rest : 1 ≤ keyed k xs = keyed_some k Q xs later in omega arith)
      (Any-cases (λ x. (key x ≡ k) × Q x) x xs found)

  -- Only one element has the key, and it is found.
  pub find_only : (k : ℕ) (Q : X → Type 0) (xs : List X) → keyed k xs ≤ 1 → Any (λ x. (key x ≡ k) × Q x) xs → (x : X) × (find (has_key k) xs ≡ Some x) × (key x ≡ k) × Q x
  find_only k Q [] single found = absurd (Any-none (λ x. (key x ≡ k) × Q x) found)
  find_only k Q (x ∷ xs) single found =
      let both = keyed-cons k x xs in
      ⊎_elim
      (λ (here : (key x ≡ k) × Q x).
      let same = here.0 in
      let first : find (has_key k) (x ∷ xs) ≡ Some x = grind (arith, nat_tests) in
      (x, first, here.0, here.1))
      (λ (later : Any (λ x. (key x ≡ k) × Q x) xs).
      let some : 1 ≤ keyed k xs = keyed_some k Q xs later in
      let rest : (y : X) × (find (has_key k) xs ≡ Some y) × (key y ≡ k) × Q y = find_only k Q xs (omega arith) later in
      let past : find (has_key k) (x ∷ xs) ≡ find (has_key k) xs = grind (arith, nat_tests) in
      (rest.0, past ∙ rest.1, rest.2, rest.3))
      (Any-cases (λ x. (key x ≡ k) × Q x) x xs found)

  -- Without them the list is shorter by as many.
  pub length-others : (k : ℕ) (xs : List X) → length (filter (λ x. not (has_key k x)) xs) + keyed k xs ≡ length xs
  length-others k xs = omega (arith, length-filter_both (has_key k) (λ x. not (has_key k x)) (λ x. refl) xs, length-filter (has_key k) xs)

  -- The length is the sum of how many have each key.
  length-ones : (xs : List X) → sum_by (λ (x : X). 1) xs ≡ length xs
  length-ones [] = refl
  length-ones (x ∷ xs) =
      let both = sum_by-cons (λ (x : X). 1) x xs in
      let rest = length-ones xs in
      omega arith

  pub length-keys : (n : ℕ) (xs : List X) → All (Within key (λ x. 1) n) xs → length xs ≡ sum_below (λ i. keyed (i + 1) xs) n
  length-keys n xs all = sym (length-ones xs) ∙ sum_by-parts key (λ x. 1) xs n all

-- the keys of a list, counted
pub keyed-map : {X : Type 0} (key : X → ℕ) (k : ℕ) (xs : List X) → keyed (λ (x : ℕ). x) k (map key xs) ≡ keyed key k xs
keyed-map key k [] = refl
keyed-map key k (x ∷ xs) =
    let rest : keyed (λ (x : ℕ). x) k (map key xs) ≡ keyed key k xs = keyed-map key k xs in
    keyed-cons (λ (x : ℕ). x) k (key x) (map key xs) ∙ ap (λ count. one key k x + count) rest ∙ sym (keyed-cons key k x xs)

pub keyed-append : {X : Type 0} (key : X → ℕ) (k : ℕ) (xs ys : List X) → keyed key k (xs ++ ys) ≡ keyed key k xs + keyed key k ys
keyed-append key k xs ys = sum_by-append (one key k) xs ys

-- A key that comes once, and first, comes no more.
keyed_no_more : (x : ℕ) (xs : List ℕ) → keyed (λ (y : ℕ). y) x (x ∷ xs) ≤ 1 → keyed (λ (y : ℕ). y) x xs ≡ 0
keyed_no_more x xs single = let both = keyed-cons (λ (y : ℕ). y) x x xs in grind (arith, nat_tests)

keyed-tail : (x : ℕ) (xs : List ℕ) (k : ℕ) → keyed (λ (y : ℕ). y) k (x ∷ xs) ≤ 1 → keyed (λ (y : ℕ). y) k xs ≤ 1
keyed-tail x xs k single = let both = keyed-cons (λ (y : ℕ). y) k x xs in omega arith

-- Numbers of which each comes at most once are distinct.
pub IsDistinct-single : (xs : List ℕ) → ((k : ℕ) → keyed (λ (x : ℕ). x) k xs ≤ 1) → IsDistinct eqb xs
unfolding IsDistinct
IsDistinct-single [] single = tt
IsDistinct-single (x ∷ xs) single =
    let others : All (λ y. y ≢ x) xs = others_from_none (λ (y : ℕ). y) x xs (keyed_no_more x xs (single x)) in
    let apart : All (λ y. eqb x y ≡ false) xs = All-weaker (λ y. y ≢ x) (λ y. eqb x y ≡ false) (λ y other. grind (arith, nat_tests)) xs others in
    (recursion_from_All (λ y. eqb x y ≡ false) xs apart, IsDistinct-single xs (λ k. keyed-tail x xs k (single k)))
