-- Where tokens stand in a text, and what stands there.
use Rattle.std.specs.Prelude.{ℕ, ◌≡◌, ◌<◌, ◌≤◌, ◌⊎◌, true, false, List, [], ◌∷◌, ◌++◌, length, slice_index, slice_range, IsTrue, All}
use Rattle.std.specs.Char.{is_ascii_digit}
use Rattle.std.specs.List.{AllPass, AllByRecursion, flat_map}
use Rattle.std.specs.Str.{all_ascii_digits}
use Rattle.std.specs.Str.Parse.{digits_value}
use Rattle.sa_lexer.specs.declared.token.Token.{Token}
use Rattle.sa_lexer.specs.declared.token.TokenKind.{TokenKind}
use Rattle.sa_lexer.specs.declared.token.TokenKind.TheVariants.{Word, QuotedName, Text, Number, Sign}
use Rattle.sa_lexer.specs.Byte.{is_word_byte}
use Rattle.sa_lexer.specs.Opening.{escapes}
use Rattle.sa_lexer.specs.Quoted.{escape, is_other}
use Rattle.sa_lexer.specs.Sign.{spelling}

-- Spans rise from a place on: each begins at or after the end of the one before, has a byte at least,
-- and ends within the text.
abbrev pub SpansRise : ℕ → ℕ → List Token → Type 0
SpansRise from end [] = from ≤ end
SpansRise from end (token ∷ tokens) =
    (from ≤ token.start) × (token.start < token.end) × SpansRise token.end end tokens

-- a few bytes between quotes, and what they stand for
pub record Part : Type 0 where
  pub source : List ℕ
  pub meaning : List ℕ

-- Between quotes stand doubled quotes, escapes, and other bytes, which stand for themselves.
abbrev pub IsPart : ℕ → Part → Type 0
IsPart quote part =
    ((part.source ≡ quote ∷ quote ∷ []) × (part.meaning ≡ quote ∷ []))
    ⊎ (((byte : ℕ) × (escapes quote 92 ≡ true) × (part.source ≡ 92 ∷ byte ∷ [])
    × (part.meaning ≡ escape byte))
    ⊎ ((byte : ℕ) × (is_other quote byte ≡ true) × (part.source ≡ byte ∷ [])
    × (part.meaning ≡ byte ∷ [])))

abbrev pub source_of : List Part → List ℕ
source_of parts = flat_map (λ part. part.source) parts

abbrev pub meaning_of : List Part → List ℕ
meaning_of parts = flat_map (λ part. part.meaning) parts

-- The bytes are parts between two quotes, and hold what the parts stand for.
abbrev pub InQuotes : ℕ → List ℕ → List ℕ → Type 0
InQuotes quote bytes held =
    (parts : List Part) × AllByRecursion (IsPart quote) parts
    × (bytes ≡ quote ∷ (source_of parts ++ quote ∷ [])) × (held ≡ meaning_of parts)

-- Bytes spell a token: a word's are its own, a text and a name in quotes hold it, a number's are up to
-- 38 digits of that value, a sign's are its spelling.
abbrev pub Spells : List ℕ → TokenKind → Type 0
Spells bytes (Word word) = (word ≡ bytes) × (0 < length bytes) × AllPass is_word_byte bytes
    × (is_ascii_digit (slice_index bytes 0) ≡ false)
Spells bytes (QuotedName name) = InQuotes 96 bytes name × (0 < length name)
Spells bytes (Text text) = (InQuotes 39 bytes text ⊎ InQuotes 34 bytes text) × (length text ≤ 255)
Spells bytes (Number number) = (digits_value 10 bytes ≡ number) × (0 < length bytes)
    × (length bytes ≤ 38) × IsTrue (all_ascii_digits bytes)
Spells bytes (Sign sign) = bytes ≡ spelling sign

-- Each token is spelled by what stands at its span.
abbrev pub AllSpelled : List ℕ → List Token → Type 0
AllSpelled text tokens =
    All (λ token. Spells (slice_range text token.start token.end) token.kind) tokens
