-- Where a piece of a script ends.
use Rattle.std.specs.Prelude.{ℕ, zero, suc, ◌≡◌, ◌≢◌, ◌+◌, ◌-◌, ◌==◌, ◌⊎◌, List, [], ◌∷◌, ◌++◌, length, drop, slice_get, slice_index, true, false, MatchBool, Some, Result, Ok, if◌then◌else◌}
use Rattle.std.specs.List.{concat}
use Rattle.sa_lexer.specs.declared.opening.Opening.TheVariants.{Plain}
use Rattle.sa_lexer.specs.declared.piece.PieceEnd.{PieceEnd}
use Rattle.sa_lexer.specs.Byte.{is_quote}
use Rattle.sa_lexer.specs.Fault.{Fault, ◌>>=◌}
use Rattle.sa_lexer.specs.Opening.{opening_of, len_at}
use Rattle.sa_lexer.specs.Spans.{InQuotes}
use Rattle.sa_lexer.specs.Grammar.{IsLineComment, IsComment, Follow}

-- The first `;` outside quotes and comments, or the end of the bytes. These are the bytes of a text
-- from the place on, of which the first `inside` are passed.
unfoldable pub end_from : ℕ → ℕ → List ℕ → Result PieceEnd Fault
end_from inside place [] = Ok (record { end = place; closed = false })
end_from (suc inside) place (byte ∷ bytes) = end_from inside (place + 1) bytes
end_from zero place (byte ∷ bytes) =
    if byte == 59 then Ok (record { end = place; closed = true })
    else (len_at place (byte ∷ bytes) >>= λ len. end_from (len - 1) (place + 1) bytes)

-- The end of the piece of a text that begins at a place.
abbrev pub piece_end_at : ℕ → List ℕ → Result PieceEnd Fault
piece_end_at from text = end_from from 0 text

-- A stretch of a piece is a comment, a part in quotes, or one byte that opens neither and is no `;`.
abbrev pub IsStretch : List ℕ → List ℕ → Type 0
IsStretch bytes after =
    ((byte : ℕ) × (byte ≢ 59) × (bytes ≡ byte ∷ []) × (opening_of (bytes ++ after) ≡ Plain))
    ⊎ (IsLineComment bytes after
    ⊎ (IsComment bytes
    ⊎ ((quote : ℕ) × (held : List ℕ) × (is_quote quote ≡ true) × InQuotes quote bytes held
    × (slice_index after 0 ≢ quote))))

-- From a place on the text is a piece and what follows it, a `;` or nothing.
abbrev pub EndsPiece : ℕ → List ℕ → PieceEnd → Type 0
EndsPiece from text found =
    (stretches : List (List ℕ)) × (after : List ℕ) × (drop from text ≡ concat stretches ++ after)
    × (found.end ≡ from + length (concat stretches))
    × Follow IsStretch stretches after
    × MatchBool found.closed (slice_get after 0 ≡ Some 59) (after ≡ [])
