-- A product of two numbers is between the products of the ends of their intervals.
use Rattle.std.proofs.Common.{◌≡◌, ℕ, zero, suc, ℤ, pos, negsuc, ◌+ℤ◌, ◌*ℤ◌, ◌≤ℤ◌, ap, ◌∙◌, subst, arith}
use Rattle.std.proofs.Math.IntN.{*ℤ-zero, *ℤ-negsuc, *ℤ_comm, suc_ℤ-*ℤ}
use Rattle.std.proofs.lemmas.Int.{ints, clamps}
use Rattle.std.specs.Int.{int_min, int_max}
use Rattle.std.specs.Int.Signed.{≤ℤ_refl}

times_suc : (x : ℤ) (n : ℕ) → x *ℤ pos (suc n) ≡ x *ℤ pos n +ℤ x
times_suc x n = *ℤ_comm x (pos (suc n)) ∙ suc_ℤ-*ℤ (pos n) x ∙ ap (λ (m : ℤ). m +ℤ x) (*ℤ_comm (pos n) x)

-- a factor that isn't negative keeps the order
times_pos : (n : ℕ) (x y : ℤ) → x ≤ℤ y → (x *ℤ pos n) ≤ℤ (y *ℤ pos n)
times_pos zero x y h = rw (*ℤ-zero x, *ℤ-zero y) (≤ℤ_refl (pos zero))
times_pos (suc n) x y h = let below = times_pos n x y h in omega (arith, ints, below, times_suc x n, times_suc y n)

-- a negative factor turns it round
times_neg : (n : ℕ) (x y : ℤ) → x ≤ℤ y → (y *ℤ negsuc n) ≤ℤ (x *ℤ negsuc n)
times_neg n x y h = let above = times_pos (suc n) x y h in omega (arith, ints, above, *ℤ-negsuc x n, *ℤ-negsuc y n)

pub left_low : (l h a b : ℤ) → l ≤ℤ a → a ≤ℤ h → int_min (l *ℤ b) (h *ℤ b) ≤ℤ (a *ℤ b)
left_low l h a (pos n) low high = let one = times_pos n l a low in let two = times_pos n a h high in omega (arith, ints, clamps, one, two)
left_low l h a (negsuc n) low high = let one = times_neg n l a low in let two = times_neg n a h high in omega (arith, ints, clamps, one, two)

pub left_high : (l h a b : ℤ) → l ≤ℤ a → a ≤ℤ h → (a *ℤ b) ≤ℤ int_max (l *ℤ b) (h *ℤ b)
left_high l h a (pos n) low high = let one = times_pos n l a low in let two = times_pos n a h high in omega (arith, ints, clamps, one, two)
left_high l h a (negsuc n) low high = let one = times_neg n l a low in let two = times_neg n a h high in omega (arith, ints, clamps, one, two)

right_low : (l h a b : ℤ) → l ≤ℤ b → b ≤ℤ h → int_min (a *ℤ l) (a *ℤ h) ≤ℤ (a *ℤ b)
right_low l h a b low high = let P : ℤ → ℤ → ℤ → Type 0 = λ x y z. int_min x y ≤ℤ z in
    subst (λ z. P (a *ℤ l) (a *ℤ h) z) (*ℤ_comm b a) (subst (λ y. P (a *ℤ l) y (b *ℤ a)) (*ℤ_comm h a) (subst (λ x. P x (h *ℤ a) (b *ℤ a)) (*ℤ_comm l a) (left_low l h b a low high)))

right_high : (l h a b : ℤ) → l ≤ℤ b → b ≤ℤ h → (a *ℤ b) ≤ℤ int_max (a *ℤ l) (a *ℤ h)
right_high l h a b low high = let P : ℤ → ℤ → ℤ → Type 0 = λ x y z. z ≤ℤ int_max x y in
    subst (λ z. P (a *ℤ l) (a *ℤ h) z) (*ℤ_comm b a) (subst (λ y. P (a *ℤ l) y (b *ℤ a)) (*ℤ_comm h a) (subst (λ x. P x (h *ℤ a) (b *ℤ a)) (*ℤ_comm l a) (left_high l h b a low high)))

pub product_low : (l h m k a b : ℤ) → l ≤ℤ a → a ≤ℤ h → m ≤ℤ b → b ≤ℤ k → int_min (int_min (l *ℤ m) (l *ℤ k)) (int_min (h *ℤ m) (h *ℤ k)) ≤ℤ (a *ℤ b)
product_low l h m k a b low high under over =
    let across = left_low l h a b low high in let first = right_low m k l b under over in let second = right_low m k h b under over in
    omega (arith, ints, clamps, across, first, second)

pub product_high : (l h m k a b : ℤ) → l ≤ℤ a → a ≤ℤ h → m ≤ℤ b → b ≤ℤ k → (a *ℤ b) ≤ℤ int_max (int_max (l *ℤ m) (l *ℤ k)) (int_max (h *ℤ m) (h *ℤ k))
product_high l h m k a b low high under over =
    let across = left_high l h a b low high in let first = right_high m k l b under over in let second = right_high m k h b under over in
    omega (arith, ints, clamps, across, first, second)
