-- What a read does to the bytes that a source has left, where these are told, and to a count of faults.
use Rattle.std.specs.Prelude.{◌≡◌, ℕ, ◌+◌, ◌-◌, ◌^◌, ◌≤◌, min, List, [], ◌++◌, Option, Some, None, ⊤}

-- The bytes are the first of those left, where these are told.
abbrev pub Takes : Option (List ℕ) → Option (List ℕ) → List ℕ → Type 0
Takes (Some old) (Some new) bytes = old ≡ bytes ++ new
Takes (Some old) None bytes = ⊥
Takes None (Some new) bytes = ⊥
Takes None None bytes = ⊤

-- No byte is left, where these are told.
abbrev pub IsAtEnd : Option (List ℕ) → Type 0
IsAtEnd None = ⊤
IsAtEnd (Some left) = left ≡ []

-- One more, up to the last value of 64 bits.
abbrev pub raised : ℕ → ℕ
raised count = min (count + 1) (2 ^ 64 - 1)

-- The count is greater than before, or is the last value of its type.
abbrev pub HasRisen : ℕ → ℕ → Type 0
HasRisen before after = raised before ≤ after
