-- What a write does to the bytes that a sink has taken, where these are told.
use Rattle.std.specs.Prelude.{◌≡◌, ℕ, List, ◌++◌, Option, Some, None, ⊤}

-- The bytes are put behind those taken before, where these are told.
abbrev pub Appends : Option (List ℕ) → Option (List ℕ) → List ℕ → Type 0
Appends (Some old) (Some new) bytes = new ≡ old ++ bytes
Appends (Some old) None bytes = ⊥
Appends None (Some new) bytes = ⊥
Appends None None bytes = ⊤
