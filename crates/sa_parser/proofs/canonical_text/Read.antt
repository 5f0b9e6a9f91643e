-- The tokens of a text are made of its bytes.
use Rattle.std.proofs.Common.{◌≡◌, ℕ, true, List, [], ◌∷◌, Ok, sym, subst}
use Rattle.std.specs.Str.{all_ascii_digits}
use Rattle.std.specs.Str.Parse.{digits_value}
use Rattle.std.proofs.lemmas.Str.Parse.{IsNumeralModel, numerals_by_value, tells_all_ascii_digits, digits_value_short}
use Rattle.sa_lexer.specs.declared.token.Token.{Token}
use Rattle.sa_lexer.specs.declared.token.TokenKind.{TokenKind}
use Rattle.sa_lexer.specs.declared.token.TokenKind.TheVariants.{Word, QuotedName, Text, Number, Sign}
use Rattle.sa_lexer.specs.Tokens.{tokens_of}
use Rattle.sa_lexer.specs.Spans.{Spells}
use Rattle.sa_lexer.specs.Grammar.{AreTokens}
use Rattle.sa_lexer.proofs.Laws.{are_tokens}
use Rattle.sa_parser.proofs.canonical_text.Each.{IsRead, AreRead}

-- numerals, as the lexer tells them
pub numerals : IsNumeralModel (λ digits. all_ascii_digits digits ≡ true) (digits_value 10)
numerals = numerals_by_value (λ digits. all_ascii_digits digits ≡ true) tells_all_ascii_digits

read_kind : (bytes : List ℕ) (kind : TokenKind) → Spells bytes kind → IsRead kind
read_kind bytes (Word word) h = let Read : List ℕ → Type 0 = λ some. IsRead (Word some) in subst Read (sym h.0) (h.1, h.2, h.3)
read_kind bytes (QuotedName name) h = h.1
read_kind bytes (Text text) h = h.1
read_kind bytes (Number number) h =
    let Read : ℕ → Type 0 = λ some. IsRead (Number some) in
    subst Read h.0 (digits_value_short numerals bytes 38 h.3 h.2)
read_kind bytes (Sign sign) h = tt

read_from : (place : ℕ) (bytes : List ℕ) (tokens : List Token) → AreTokens place bytes tokens → AreRead tokens
read_from place bytes [] h = tt
read_from place bytes (token ∷ tokens) h = (read_kind h.1 token.kind h.7, read_from token.end h.2 tokens h.9)

pub are_read : (text : List ℕ) (tokens : List Token) → tokens_of text ≡ Ok tokens → AreRead tokens
are_read text tokens e = read_from 0 text tokens (are_tokens text tokens e)
