-- How many different values rows have that are in order: those of one value stand side by side.
use Rattle.std.proofs.Common.{◌≡◌, ℕ, ◌+◌, ◌<◌, ◌≤◌, suc, List, [], ◌∷◌, length, drop, get_or, Bool, true, false, not, ◌||◌, cond, refl, sym, ap, ◌∙◌, subst, arith, AllPairs}
use Rattle.std.proofs.lemmas.List.{drop_more, drop_all}
use Rattle.std.proofs.lemmas.Cmp.{alike_right}
use Rattle.std.proofs.lemmas.List.Elements.{recursion_from_All}
use Rattle.std.specs.Cmp.{IsTotalOrder}
use Rattle.std.specs.List.{list_any, AllByRecursion}
use Rattle.std.specs.Ordering.{is_eq, is_gt}
use Rattle.std.specs.declared.cmp.Ordering.{Ordering}
use Rattle.std.specs.declared.cmp.Ordering.TheVariants.{Less, Equal, Greater}
use Rattle.sa_index.specs.Entries.{different}
use Rattle.sa_index.specs.inner.Built.{is_last, ends}

-- no row is greater than a later one
abbrev pub Rows : (ℕ → ℕ → Ordering) → List ℕ → Type 0
Rows order [] = Unit {0}
Rows order (x ∷ xs) = AllByRecursion (λ y. is_gt (order x y) ≡ false) xs × Rows order xs

apart : (order : ℕ → ℕ → Ordering) → IsTotalOrder order → (x y z : ℕ) (first second : Ordering) → order x y ≡ first → is_eq first ≡ false → is_gt first ≡ false → order y z ≡ second → is_gt second ≡ false → is_eq (order x z) ≡ false
apart order total x y z Less Less stands differ fits next still = ap is_eq (total.trans x y z stands next)
apart order total x y z Less Equal stands differ fits next still =
    ap is_eq (sym (alike_right total y z x next) ∙ stands)
apart order total x y z Less Greater stands differ fits next still = cc
apart order total x y z Equal second stands differ fits next still = cc
apart order total x y z Greater second stands differ fits next still = cc

none_alike : (order : ℕ → ℕ → Ordering) → IsTotalOrder order → (x y : ℕ) (zs : List ℕ) → is_eq (order x y) ≡ false → is_gt (order x y) ≡ false → AllByRecursion (λ z. is_gt (order y z) ≡ false) zs → list_any (λ z. is_eq (order x z)) zs ≡ false
none_alike order total x y [] differ fits behind = refl
none_alike order total x y (z ∷ zs) differ fits behind =
    let here : is_eq (order x z) ≡ false = apart order total x y z (order x y) (order y z) refl differ fits refl behind.0 in
    let rest : list_any (λ z. is_eq (order x z)) zs ≡ false = none_alike order total x y zs differ fits behind.1 in
    rw (here, rest) refl

-- a row is like a later one just where it is like the next
next_tells : (order : ℕ → ℕ → Ordering) → IsTotalOrder order → (x : ℕ) (xs : List ℕ) → Rows order (x ∷ xs) → not (list_any (λ z. is_eq (order x z)) xs) ≡ is_last (λ a b. is_eq (order a b)) (x ∷ xs)
next_tells order total x [] rows = refl
next_tells order total x (y ∷ ys) rows =
    elim (is_eq (order x y)) as (λ b. is_eq (order x y) ≡ b → not (b || list_any (λ z. is_eq (order x z)) ys) ≡ not b) [
      | true ↦ λ same. refl
      | false ↦ λ differ. ap not (none_alike order total x y ys differ rows.0.0 rows.1.0)
    ] refl

swapped : (b : Bool) → ◌≡◌ {A = ℕ} (cond b 0 1) (cond (not b) 1 0)
swapped true = refl
swapped false = refl

different_are_ends : (order : ℕ → ℕ → Ordering) → IsTotalOrder order → (xs : List ℕ) → Rows order xs → ends (λ a b. is_eq (order a b)) xs ≡ different (λ a b. is_eq (order a b)) xs
different_are_ends order total [] rows = refl
different_are_ends order total (x ∷ xs) rows =
    let rest : ends (λ a b. is_eq (order a b)) xs ≡ different (λ a b. is_eq (order a b)) xs = different_are_ends order total xs rows.1 in
    let here : cond (is_last (λ a b. is_eq (order a b)) (x ∷ xs)) 1 0 ≡ cond (list_any (λ z. is_eq (order x z)) xs) 0 1 =
    ap (λ b. cond b 1 0) (sym (next_tells order total x xs rows)) ∙ sym (swapped (list_any (λ z. is_eq (order x z)) xs)) in
    ap (λ n. n + ends (λ a b. is_eq (order a b)) xs) here
    ∙ ap (λ n. cond (list_any (λ z. is_eq (order x z)) xs) 0 1 + n) rest

rows_from_pairs : (order : ℕ → ℕ → Ordering) (xs : List ℕ) → AllPairs (λ a b. is_gt (order a b) ≡ false) xs → Rows order xs
rows_from_pairs order [] pairs = tt
rows_from_pairs order (x ∷ xs) pairs = (
  recursion_from_All (λ z. is_gt (order x z) ≡ false) xs (λ k d there. pairs 0 (suc k) d (omega arith) (omega arith)),
  rows_from_pairs order xs (λ i j d before there. pairs (suc i) (suc j) d (omega arith) (omega arith)),
)

pub different-ends : (order : ℕ → ℕ → Ordering) → IsTotalOrder order → (xs : List ℕ) → AllPairs (λ a b. is_gt (order a b) ≡ false) xs → ends (λ a b. is_eq (order a b)) xs ≡ different (λ a b. is_eq (order a b)) xs
different-ends order total xs pairs = different_are_ends order total xs (rows_from_pairs order xs pairs)

pub one_at_most : (b : Bool) → cond b 1 0 ≤ 1
one_at_most true = omega arith
one_at_most false = omega arith

-- a row and those behind it
pub ends-drop : (alike : ℕ → ℕ → Bool) (rows : List ℕ) (i : ℕ) → i < length rows → ends alike (drop i rows) ≡ cond (is_last alike (drop i rows)) 1 0 + ends alike (drop (i + 1) rows)
ends-drop alike rows i here =
    subst (λ xs. ends alike xs ≡ cond (is_last alike xs) 1 0 + ends alike (drop (i + 1) rows)) (sym (drop_more rows i 0 here)) refl

pub last_at_end : (alike : ℕ → ℕ → Bool) (rows : List ℕ) (i : ℕ) → i + 1 ≡ length rows → true ≡ is_last alike (drop i rows)
last_at_end alike rows i end =
    let here : i < length rows = omega arith in
    let behind : drop (i + 1) rows ≡ [] = drop_all (i + 1) rows (omega arith) in
    subst (λ xs. true ≡ is_last alike xs) (sym (drop_more rows i 0 here ∙ ap (λ xs. get_or rows i 0 ∷ xs) behind)) refl

pub last_before : (alike : ℕ → ℕ → Bool) (rows : List ℕ) (i j : ℕ) → j ≡ i + 1 → j < length rows → not (alike (get_or rows i 0) (get_or rows j 0)) ≡ is_last alike (drop i rows)
last_before alike rows i j next there =
    let here : i < length rows = omega arith in
    let behind : drop (i + 1) rows ≡ get_or rows j 0 ∷ drop (j + 1) rows = ap (λ k. drop k rows) (sym next) ∙ drop_more rows j 0 there in
    subst (λ xs. not (alike (get_or rows i 0) (get_or rows j 0)) ≡ is_last alike xs) (sym (drop_more rows i 0 here ∙ ap (λ xs. get_or rows i 0 ∷ xs) behind)) refl
