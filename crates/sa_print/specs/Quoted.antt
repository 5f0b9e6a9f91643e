-- How something is written between quotes.
use Rattle.std.specs.Prelude.{ℕ, Bool, not, List, [], ◌∷◌, ◌++◌, ◌&&◌, ◌||◌, ◌==◌, flat_map, if◌then◌else◌}

-- Between quotes the quote itself is doubled, and in a text a backslash too. A name is in
-- backquotes, which are byte 96, and knows no backslash.
abbrev pub is_doubled : ℕ → ℕ → Bool
is_doubled quote byte = byte == quote || (byte == 92 && not (quote == 96))

-- one byte between such quotes
abbrev pub byte_between : ℕ → ℕ → List ℕ
byte_between quote byte = if is_doubled quote byte then byte ∷ byte ∷ [] else byte ∷ []

-- The bytes between such quotes.
unfoldable pub between_quotes : ℕ → List ℕ → List ℕ
between_quotes quote bytes = flat_map (byte_between quote) bytes

-- the bytes with the quotes around them
abbrev pub quoted : ℕ → List ℕ → List ℕ
quoted quote bytes = quote ∷ between_quotes quote bytes ++ quote ∷ []

-- A text stands in single quotes, which are byte 39.
abbrev pub canonical_literal : List ℕ → List ℕ
canonical_literal text = quoted 39 text
