-- Products that stop: in any order, in any groups, and with a sum.
use Rattle.std.proofs.Common.{◌≡◌, ℕ, ◌+◌, ◌*◌, ap, sym, ◌∙◌, arith}
use Rattle.sa_cost.specs.Cost.{stopped, sum_of, product_of}
use Rattle.sa_cost.specs.Law.{TakesAnyOrder, Distributes}

once : (a b : ℕ) → stopped (stopped a * b) ≡ stopped (a * b)
once a b = grind arith

exchanged : (a b : ℕ) → product_of a b ≡ product_of b a
exchanged a b = let e : a * b ≡ b * a = omega arith in ap stopped e

-- a stop in the second factor is one, too
once_second : (a b : ℕ) → stopped (a * stopped b) ≡ stopped (b * a)
once_second a b = exchanged a (stopped b) ∙ once b a

pub product-any_order : TakesAnyOrder product_of
product-any_order = record {
  exchanged = exchanged;
  grouped = λ a b c. let e : a * b * c ≡ b * c * a = omega arith in
      once (a * b) c ∙ ap stopped e ∙ sym (once_second a (b * c));
}

sums_stop : (a b : ℕ) → stopped (stopped a + stopped b) ≡ stopped (a + b)
sums_stop a b = omega arith

pub distributes : Distributes
distributes a b c = let e : (b + c) * a ≡ a * b + a * c = omega arith in
    once_second a (b + c) ∙ ap stopped e ∙ sym (sums_stop (a * b) (a * c))
