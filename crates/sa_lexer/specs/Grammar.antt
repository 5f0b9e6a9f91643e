-- A text without a fault is its tokens, each as long as it can be, with blanks alone between them.
use Rattle.std.specs.Prelude.{ℕ, ◌≡◌, ◌≢◌, ◌+◌, ◌<◌, ◌≤◌, ◌⊎◌, ⊤, true, false, not, ◌==◌, List, [], ◌∷◌, ◌++◌, length, drop, slice_index, codes}
use Rattle.std.specs.List.{AllPass, concat}
use Rattle.sa_lexer.specs.declared.opening.Opening.TheVariants.{LineComment, Plain}
use Rattle.sa_lexer.specs.declared.sign.Sign as sign_type
use Rattle.sa_lexer.specs.declared.token.Token.{Token}
use Rattle.sa_lexer.specs.declared.token.TokenKind.{TokenKind}
use Rattle.sa_lexer.specs.declared.token.TokenKind.TheVariants.{Word, QuotedName, Text, Number, Sign}
use Rattle.sa_lexer.specs.Byte.{is_space, is_word_byte}
use Rattle.sa_lexer.specs.Opening.{begins_with, is_executable, opening_of}
use Rattle.sa_lexer.specs.Sign.{spelling}
use Rattle.sa_lexer.specs.Spans.{Spells}

-- A comment that its line ends, with what follows it: the end of the text, or the line's end.
abbrev pub IsLineComment : List ℕ → List ℕ → Type 0
IsLineComment bytes after = (opening_of (bytes ++ after) ≡ LineComment)
    × AllPass (λ byte. not (byte == 10)) bytes × ((after ≡ []) ⊎ (slice_index after 0 ≡ 10))

-- A comment from `/*` up to the first `*/` behind it.
abbrev pub IsComment : List ℕ → Type 0
IsComment bytes =
    (inner : List ℕ) × (bytes ≡ codes "/*" ++ (inner ++ codes "*/"))
    × ((k : ℕ) → k < length inner
    → begins_with (codes "*/") (drop k (inner ++ codes "*/")) ≡ false)

-- A blank is a byte of white space or a comment, but none that MariaDB would run.
abbrev pub IsBlank : List ℕ → List ℕ → Type 0
IsBlank bytes after = ((byte : ℕ) × (is_space byte ≡ true) × (bytes ≡ byte ∷ []))
    ⊎ (IsLineComment bytes after ⊎ (IsComment bytes × (is_executable (bytes ++ after) ≡ false)))

-- Parts stand one after another, each before what follows it.
abbrev pub Follow : (List ℕ → List ℕ → Type 0) → List (List ℕ) → List ℕ → Type 0
Follow Is [] after = ⊤
Follow Is (part ∷ parts) after = Is part (concat parts ++ after) × Follow Is parts after

-- A token ends where what follows can't go on with it: no byte of a word follows a word or a number, no
-- quote a closing quote, and no longer sign, comment or quoted part begins where a sign does.
abbrev pub Ends : List ℕ → List ℕ → TokenKind → Type 0
Ends bytes after (Word word) = is_word_byte (slice_index after 0) ≡ false
Ends bytes after (QuotedName name) = slice_index after 0 ≢ slice_index bytes 0
Ends bytes after (Text text) = slice_index after 0 ≢ slice_index bytes 0
Ends bytes after (Number number) = is_word_byte (slice_index after 0) ≡ false
Ends bytes after (Sign sign) =
    (opening_of (bytes ++ after) ≡ Plain)
    × ((other : sign_type.Sign) → begins_with (spelling other) (bytes ++ after) ≡ true
    → length (spelling other) ≤ length bytes)

-- The bytes of a text from the place on are these tokens, with blanks before, between and after them.
abbrev pub AreTokens : ℕ → List ℕ → List Token → Type 0
AreTokens place bytes [] = (blanks : List (List ℕ)) × (bytes ≡ concat blanks) × Follow IsBlank blanks []
AreTokens place bytes (token ∷ tokens) =
    (blanks : List (List ℕ)) × (spelled after : List ℕ)
    × (bytes ≡ concat blanks ++ (spelled ++ after)) × Follow IsBlank blanks (spelled ++ after)
    × (token.start ≡ place + length (concat blanks)) × (token.end ≡ token.start + length spelled)
    × Spells spelled token.kind × Ends spelled after token.kind × AreTokens token.end after tokens
