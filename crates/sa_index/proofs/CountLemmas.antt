-- How many of a list pass a test that its first members pass and the others don't.
use Rattle.std.proofs.Common.{◌≡◌, ℕ, ◌+◌, ◌-◌, ◌≤◌, zero, suc, List, length, take, Bool, true, false, count_by, refl, sym, ap, ◌∙◌, arith, add-one}
use Rattle.std.proofs.lemmas.List.{take_all}
use Rattle.std.proofs.lemmas.List.Sums.{count_by_more_yes, count_by_more_no}
use Rattle.std.specs.List.{AllWithin}
use Rattle.std.specs.List.Sorted.{IsPartitionPoint}

first_pass : (p : ℕ → Bool) (xs : List ℕ) (n : ℕ) → n ≤ length xs → AllWithin (λ x. p x ≡ true) xs 0 n → (i : ℕ) → i ≤ n → count_by p (take i xs) ≡ i
first_pass p xs n fits all zero below = refl
first_pass p xs n fits all (suc i) below =
    let rest : count_by p (take i xs) ≡ i = first_pass p xs n fits all i (omega arith) in
    let more : count_by p (take (i + 1) xs) ≡ count_by p (take i xs) + 1 =
    count_by_more_yes p xs i 0 (omega arith) (all i 0 (omega arith) (omega arith)) in
    let next : i + 1 ≡ suc i = add-one i in
    ap (λ k. count_by p (take k xs)) (sym next) ∙ more ∙ omega arith

others_fail : (p : ℕ → Bool) (xs : List ℕ) (n : ℕ) → IsPartitionPoint (λ x. p x ≡ true) (λ x. p x ≡ false) xs n → (k i : ℕ) → i ≡ n + k → i ≤ length xs → count_by p (take i xs) ≡ n
others_fail p xs n parted zero i stands fits =
    let here : i ≡ n = omega arith in
    first_pass p xs i fits (λ j d low high. parted.0 j d low (omega arith)) i (omega arith) ∙ here
others_fail p xs n parted (suc k) i stands fits =
    let before : ℕ = n + k in
    let rest : count_by p (take (n + k) xs) ≡ n = others_fail p xs n parted k (n + k) refl (omega arith) in
    let more : count_by p (take (n + k + 1) xs) ≡ count_by p (take (n + k) xs) =
    count_by_more_no p xs (n + k) 0 (omega arith) (parted.1 (n + k) 0 (omega arith) (omega arith)) in
    let next : i ≡ n + k + 1 = omega arith in
    ap (λ j. count_by p (take j xs)) next ∙ more ∙ rest

pub count-partition : (p : ℕ → Bool) (xs : List ℕ) (n : ℕ) → n ≤ length xs → IsPartitionPoint (λ x. p x ≡ true) (λ x. p x ≡ false) xs n → n ≡ count_by p xs
count-partition p xs n fits parted =
    sym (others_fail p xs n parted (length xs - n) (length xs) (omega arith) (omega arith))
    ∙ ap (count_by p) (take_all (length xs) xs (omega arith))
