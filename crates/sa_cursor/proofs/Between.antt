-- Tests that pass in front of a list alone: what lies between two of them stands side by side.
use Rattle.std.proofs.Common.{◌≡◌, ℕ, ◌+◌, ◌-◌, ◌≤◌, zero, suc, List, [], ◌∷◌, ◌++◌, take, drop, get_or, Bool, true, false, not, ◌&&◌, ◌||◌, cond, count_by, filter, refl, sym, ap, ◌∙◌, arith}
use Rattle.std.proofs.lemmas.List.Elements.{recursion_from_All}
use Rattle.std.proofs.lemmas.List.Sums.{sum_by-cons}
use Rattle.std.specs.List.{AllByRecursion}
use Rattle.std.specs.List.Sorted.{IsPartitionedBy}
use Rattle.sa_cursor.specs.inner.Stretch.{between}

-- behind a member that fails, all fail
abbrev pub Falls : (ℕ → Bool) → List ℕ → Type 0
Falls p [] = Unit {0}
Falls p (x ∷ xs) = (p x ≡ false → AllByRecursion (λ y. p y ≡ false) xs) × Falls p xs

fails_too : (later earlier : Bool) → (later ≡ true → earlier ≡ true) → earlier ≡ false → later ≡ false
fails_too true earlier up fails = let passes : earlier ≡ true = up refl in cc
fails_too false earlier up fails = refl

pub falls : (p : ℕ → Bool) (xs : List ℕ) → IsPartitionedBy p xs → Falls p xs
falls p [] parted = tt
falls p (x ∷ xs) parted = (
  λ fails. recursion_from_All (λ y. p y ≡ false) xs
      (λ k d there. fails_too (p (get_or xs k d)) (p x) (parted 0 (suc k) d (omega arith) (omega arith)) fails),
  falls p xs (λ i j d order there. parted (suc i) (suc j) d (omega arith) (omega arith)),
)

none_kept : (p : ℕ → Bool) (xs : List ℕ) → AllByRecursion (λ y. p y ≡ false) xs → filter p xs ≡ []
none_kept p [] none = refl
none_kept p (x ∷ xs) none = ap (λ b. cond b (x ∷ filter p xs) (filter p xs)) none.0 ∙ none_kept p xs none.1

counted_yes : (p : ℕ → Bool) (x : ℕ) (xs : List ℕ) → p x ≡ true → count_by p (x ∷ xs) ≡ suc (count_by p xs)
counted_yes p x xs passes =
    sum_by-cons (λ z. cond (p z) 1 0) x xs ∙ ap (λ b. cond b 1 0 + count_by p xs) passes ∙ (let more : 1 + count_by p xs ≡ suc (count_by p xs) = omega arith in more)

counted_no : (p : ℕ → Bool) (x : ℕ) (xs : List ℕ) → p x ≡ false → count_by p (x ∷ xs) ≡ count_by p xs
counted_no p x xs fails =
    sum_by-cons (λ z. cond (p z) 1 0) x xs ∙ ap (λ b. cond b 1 0 + count_by p xs) fails ∙ (let same : 0 + count_by p xs ≡ count_by p xs = omega arith in same)

none_counted : (p : ℕ → Bool) (xs : List ℕ) → AllByRecursion (λ y. p y ≡ false) xs → count_by p xs ≡ 0
none_counted p [] none = refl
none_counted p (x ∷ xs) none = counted_no p x xs none.0 ∙ none_counted p xs none.1

-- nothing lies between a position and one that isn't behind it
pub nothing : (from to : ℕ) (xs : List ℕ) → to ≤ from → between from to xs ≡ []
nothing from to xs order = let none : to - from ≡ 0 = omega arith in ap (λ k. take k (drop from xs)) none

one_more : (from to : ℕ) (x : ℕ) (xs : List ℕ) → between (suc from) (suc to) (x ∷ xs) ≡ between from to xs
one_more from to x xs =
    let same : suc to - suc from ≡ to - from = omega arith in ap (λ k. take k (drop from xs)) same

from_first : (from to : ℕ) (x : ℕ) (xs rest : List ℕ) → from ≡ 0 → rest ≡ between from to xs → x ∷ rest ≡ between from (suc to) (x ∷ xs)
from_first zero to x xs rest first is =
    let short : to - zero ≡ to = omega arith in
    let long : suc to - zero ≡ suc to = omega arith in
    ap (λ ys. x ∷ ys) (is ∙ ap (λ k. take k xs) short) ∙ sym (ap (λ k. take k (x ∷ xs)) long)
from_first (suc from) to x xs rest first is = absurd (omega arith)

abbrev lies : (a b : ℕ → Bool) → ℕ → Bool
lies a b x = not (a x) && b x

between_step : (a b : ℕ → Bool) (x : ℕ) (xs : List ℕ) (in_a in_b : Bool) → a x ≡ in_a → b x ≡ in_b → Falls a (x ∷ xs) → Falls b (x ∷ xs)
    → filter (lies a b) xs ≡ between (count_by a xs) (count_by b xs) xs
    → cond (not in_a && in_b) (x ∷ filter (lies a b) xs) (filter (lies a b) xs) ≡ between (count_by a (x ∷ xs)) (count_by b (x ∷ xs)) (x ∷ xs)
between_step a b x xs true true is_a is_b falls_a falls_b rest =
    rw (counted_yes a x xs is_a, counted_yes b x xs is_b) (rest ∙ sym (one_more (count_by a xs) (count_by b xs) x xs))
between_step a b x xs true false is_a is_b falls_a falls_b rest =
    let none : count_by b xs ≡ 0 = none_counted b xs (falls_b.0 is_b) in
    rw (counted_yes a x xs is_a, counted_no b x xs is_b)
    (rest ∙ nothing (count_by a xs) (count_by b xs) xs (omega arith) ∙ sym (nothing (suc (count_by a xs)) (count_by b xs) (x ∷ xs) (omega arith)))
between_step a b x xs false true is_a is_b falls_a falls_b rest =
    let none : count_by a xs ≡ 0 = none_counted a xs (falls_a.0 is_a) in
    rw (counted_no a x xs is_a, counted_yes b x xs is_b) (from_first (count_by a xs) (count_by b xs) x xs (filter (lies a b) xs) none rest)
between_step a b x xs false false is_a is_b falls_a falls_b rest =
    let none : count_by b xs ≡ 0 = none_counted b xs (falls_b.0 is_b) in
    rw (counted_no a x xs is_a, counted_no b x xs is_b)
    (rest ∙ nothing (count_by a xs) (count_by b xs) xs (omega arith) ∙ sym (nothing (count_by a xs) (count_by b xs) (x ∷ xs) (omega arith)))

-- those that pass the second test and not the first stand between as many as pass each
pub kept_between : (a b : ℕ → Bool) (xs : List ℕ) → Falls a xs → Falls b xs → filter (λ x. not (a x) && b x) xs ≡ between (count_by a xs) (count_by b xs) xs
kept_between a b [] falls_a falls_b = refl
kept_between a b (x ∷ xs) falls_a falls_b =
    between_step a b x xs (a x) (b x) refl refl falls_a falls_b (kept_between a b xs falls_a.1 falls_b.1)

none_before : (c p : ℕ → Bool) → ((y : ℕ) → p y ≡ true → c y ≡ true) → (xs : List ℕ) → AllByRecursion (λ y. c y ≡ false) xs → AllByRecursion (λ y. p y ≡ false) xs
none_before c p before [] none = tt
none_before c p before (x ∷ xs) none = (fails_too (p x) (c x) (before x) none.0, none_before c p before xs none.1)

either_step : (c p q : ℕ → Bool) (x : ℕ) (xs : List ℕ) (in_p in_q : Bool) → p x ≡ in_p → q x ≡ in_q → Falls c (x ∷ xs)
    → ((y : ℕ) → p y ≡ true → c y ≡ true) → ((y : ℕ) → q y ≡ true → c y ≡ false)
    → filter (λ y. p y || q y) xs ≡ filter p xs ++ filter q xs
    → cond (in_p || in_q) (x ∷ filter (λ y. p y || q y) xs) (filter (λ y. p y || q y) xs) ≡ cond in_p (x ∷ filter p xs) (filter p xs) ++ cond in_q (x ∷ filter q xs) (filter q xs)
either_step c p q x xs true true is_p is_q falls_c before behind rest =
    let passes : c x ≡ true = before x is_p in let fails : c x ≡ false = behind x is_q in cc
either_step c p q x xs true false is_p is_q falls_c before behind rest = ap (λ ys. x ∷ ys) rest
either_step c p q x xs false true is_p is_q falls_c before behind rest =
    let none : filter p xs ≡ [] = none_kept p xs (none_before c p before xs (falls_c.0 (behind x is_q))) in
    ap (λ ys. x ∷ ys) (rest ∙ ap (λ ys. ys ++ filter q xs) none) ∙ sym (ap (λ ys. ys ++ (x ∷ filter q xs)) none)
either_step c p q x xs false false is_p is_q falls_c before behind rest = rest

-- what passes one of two tests, where what passes the first stands before what passes the second
pub kept_by_either : (c p q : ℕ → Bool) → ((y : ℕ) → p y ≡ true → c y ≡ true) → ((y : ℕ) → q y ≡ true → c y ≡ false)
    → (xs : List ℕ) → Falls c xs → filter (λ y. p y || q y) xs ≡ filter p xs ++ filter q xs
kept_by_either c p q before behind [] falls_c = refl
kept_by_either c p q before behind (x ∷ xs) falls_c =
    either_step c p q x xs (p x) (q x) refl refl falls_c before behind (kept_by_either c p q before behind xs falls_c.1)

-- a test that nothing passes
pub kept_by_none : (p : ℕ → Bool) → ((y : ℕ) → p y ≡ false) → (xs : List ℕ) → filter p xs ≡ []
kept_by_none p none [] = refl
kept_by_none p none (x ∷ xs) = ap (λ b. cond b (x ∷ filter p xs) (filter p xs)) (none x) ∙ kept_by_none p none xs

-- tests that agree keep the same
pub kept_alike : (p q : ℕ → Bool) → ((y : ℕ) → p y ≡ q y) → (xs : List ℕ) → filter p xs ≡ filter q xs
kept_alike p q alike [] = refl
kept_alike p q alike (x ∷ xs) =
    ap (λ b. cond b (x ∷ filter p xs) (filter p xs)) (alike x) ∙ ap (λ ys. cond (q x) (x ∷ ys) ys) (kept_alike p q alike xs)
