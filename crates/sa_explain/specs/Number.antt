-- How a document tells numbers.
use Rattle.std.specs.Prelude.{ℕ, ◌/◌, ◌%◌, ◌==◌, List, ◌++◌, codes, if◌then◌else◌}
use Rattle.std.specs.Fmt.{decimal}
use Rattle.serde_json.specs.Data.{Data, unsigned, null, number, string}

-- a number that counts
abbrev pub count : ℕ → Data
count n = number (unsigned n)

-- a number of hundredths, with two decimals
abbrev pub two_decimals : ℕ → List ℕ
two_decimals hundredths = decimal (hundredths / 100) ++ codes "." ++ decimal (hundredths / 10 % 10)
    ++ decimal (hundredths % 10)

-- A quotient of so many hundredths, cut down to two decimals; null where the divisor is 0.
abbrev pub quotient : (hundredths divisor : ℕ) → Data
quotient hundredths divisor =
    if divisor == 0 then null else string (two_decimals (hundredths / divisor))
