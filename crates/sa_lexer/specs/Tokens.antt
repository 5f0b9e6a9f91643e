-- The tokens of a text, from left to right, up to the first fault.
use Rattle.std.specs.Prelude.{ℕ, zero, suc, ◌+◌, ◌-◌, List, [], ◌∷◌, ◌++◌, Option, Some, None, Result, Ok}
use Rattle.sa_lexer.specs.declared.token.Token.{Token}
use Rattle.sa_lexer.specs.declared.token.TokenKind.{TokenKind}
use Rattle.sa_lexer.specs.Fault.{Fault, ◌>>=◌}
use Rattle.sa_lexer.specs.Lexeme.{lexeme_at}

-- The token that a lexeme from start to end is. A blank is none.
abbrev pub token_of : ℕ → ℕ → Option TokenKind → List Token
token_of start end None = []
token_of start end (Some kind) = record { kind = kind; start = start; end = end } ∷ []

-- The tokens of the bytes from the place on, of which the first `inside` belong to what was read
-- before.
unfoldable pub tokens_from : ℕ → ℕ → List ℕ → Result (List Token) Fault
tokens_from inside place [] = Ok []
tokens_from (suc inside) place (byte ∷ bytes) = tokens_from inside (place + 1) bytes
tokens_from zero place (byte ∷ bytes) = do
  lexeme ← lexeme_at place (byte ∷ bytes)
  tokens ← tokens_from (lexeme.len - 1) (place + 1) bytes
  Ok (token_of place (place + lexeme.len) lexeme.kind ++ tokens)

-- The tokens of a text, or its leftmost fault.
abbrev pub tokens_of : List ℕ → Result (List Token) Fault
tokens_of bytes = tokens_from 0 0 bytes
