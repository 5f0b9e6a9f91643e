-- What a part in quotes holds, with doubled quotes and escapes undone.
use Rattle.std.specs.Prelude.{ℕ, ◌≡◌, ◌<◌, ◌≤◌, ◌⊎◌, Bool, not, List, [], ◌∷◌, ◌++◌, ◌&&◌, ◌==◌, if◌then◌else◌}
use Rattle.sa_lexer.specs.Opening.{escapes}

-- What a backslash before a byte stands for. `\%` and `\_` keep the backslash, since it means
-- something in a pattern. Before any other byte it vanishes.
abbrev pub escape : ℕ → List ℕ
escape byte =
    if byte == 48 then 0 ∷ []
    else (if byte == 98 then 8 ∷ []
    else (if byte == 116 then 9 ∷ []
    else (if byte == 110 then 10 ∷ []
    else (if byte == 114 then 13 ∷ []
    else (if byte == 90 then 26 ∷ []
    else (if byte == 37 then 92 ∷ 37 ∷ []
    else (if byte == 95 then 92 ∷ 95 ∷ []
    else byte ∷ [])))))))

-- The bytes that an escape of a byte takes stand for this much. Before a character past ASCII the
-- backslash alone is passed, and stands for nothing.
abbrev pub Escapes : ℕ → List ℕ → ℕ → Type 0
Escapes byte meaning len = ((len ≡ 2) × (byte < 128) × (meaning ≡ escape byte))
    ⊎ ((len ≡ 1) × (128 ≤ byte) × (meaning ≡ []))

-- whether a byte stands for itself wherever it stands between quotes
abbrev pub is_other : ℕ → ℕ → Bool
is_other quote byte = not (byte == quote) && not (escapes quote byte)

-- What the bytes between two quotes stand for.
unfoldable pub held_in : ℕ → List ℕ → List ℕ
held_in quote [] = []
held_in quote (first ∷ []) = first ∷ []
held_in quote (first ∷ second ∷ rest) =
    if first == quote && second == quote then quote ∷ held_in quote rest
    else (if escapes quote first then escape second ++ held_in quote rest
    else first ∷ held_in quote (second ∷ rest))
