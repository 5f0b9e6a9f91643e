-- What reading a table costs, and how costs are added and multiplied: they stop at 2^120.
use Rattle.std.specs.Prelude.{ℕ, ◌+◌, ◌*◌, ◌^◌, min}

-- a cost as it is kept: no cost is greater than 2^120
abbrev pub stopped : ℕ → ℕ
stopped cost = min cost (2 ^ 120)

abbrev pub sum_of : ℕ → ℕ → ℕ
sum_of a b = stopped (a + b)

abbrev pub product_of : ℕ → ℕ → ℕ
product_of a b = stopped (a * b)

-- all rows of a table
abbrev pub cost_of_scan : ℕ → ℕ
cost_of_scan rows = stopped (20 + 5 * rows)

-- all rows, from an index alone
abbrev pub cost_of_index : ℕ → ℕ
cost_of_index rows = stopped (20 + 4 * rows)

-- so many rows through an index, in so many ranges
abbrev pub cost_of_ranges : (ranges rows : ℕ) → ℕ
cost_of_ranges ranges rows = stopped (20 * ranges + 6 * rows)

-- the rows of one value through an index, as many as are expected
abbrev pub cost_of_ref : ℕ → ℕ
cost_of_ref estimate = stopped (20 + 6 * estimate)
