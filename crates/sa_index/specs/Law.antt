-- What it is for some numbers to stand in order.
use Rattle.std.specs.Prelude.{◌≡◌, ℕ, List, false, AllPairs}
use Rattle.std.specs.List.Sorted.{IsPermutation}
use Rattle.std.specs.Ordering.{is_lt}
use Rattle.std.specs.declared.cmp.Ordering.{Ordering}

-- The list has each of the numbers once, and none of them comes before an earlier one.
pub record IsInOrder (order : ℕ → ℕ → Ordering) (numbers list : List ℕ) : Type 0 where
  pub same : IsPermutation numbers list
  pub rises : AllPairs (λ earlier later. is_lt (order later earlier) ≡ false) list
