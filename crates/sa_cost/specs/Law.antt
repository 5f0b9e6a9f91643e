-- What is true of costs, whatever they are: the order of sums and products, and where they stop.
use Rattle.std.specs.Prelude.{◌≡◌, ℕ, ◌≤◌}
use Rattle.sa_cost.specs.Cost.{stopped, sum_of, product_of}

-- An operation takes its members in any order and in any groups.
pub record TakesAnyOrder (of : ℕ → ℕ → ℕ) : Type 0 where
  pub exchanged : (a b : ℕ) → of a b ≡ of b a
  pub grouped : (a b c : ℕ) → of (of a b) c ≡ of a (of b c)

-- Members that aren't less don't give less.
abbrev pub KeepsOrder : (ℕ → ℕ → ℕ) → Type 0
KeepsOrder of = (a b c d : ℕ) → a ≤ c → b ≤ d → of a b ≤ of c d

-- A member that was stopped before gives what it gives as it is.
abbrev pub StopsOnce : (ℕ → ℕ → ℕ) → Type 0
StopsOnce of = (a b : ℕ) → of (stopped a) b ≡ of a b

-- A product with a sum is the sum of the products.
abbrev pub Distributes : Type 0
Distributes = (a b c : ℕ) → product_of a (sum_of b c) ≡ sum_of (product_of a b) (product_of a c)
