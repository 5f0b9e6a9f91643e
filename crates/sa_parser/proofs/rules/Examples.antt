-- Tokens for examples, and what an optional value tells of one that is made of it.
use Rattle.std.proofs.Common.{◌≡◌, true, is_some, Option, Some, None, option_map, refl}
use Rattle.std.proofs.lemmas.Bool.{false≢true}
use Rattle.sa_lexer.specs.declared.token.Token.{Token}
use Rattle.sa_lexer.specs.declared.token.TokenKind.{TokenKind}

-- a token at the beginning of a text
abbrev pub first_token : TokenKind → Token
first_token kind = record { kind = kind; start = 0; end = 0 }

module _ {X Y : Type 0} (make : X → Y) where
  -- where something is made of a value, there is a value
  pub is_there : (found : Option X) (value : Y) → option_map make found ≡ Some value → is_some found ≡ true
  is_there (Some part) value e = refl
  is_there None value e = cc

  -- and of a value that is there, something is made
  pub there : (found : Option X) → is_some found ≡ true → (value : Y) × (option_map make found ≡ Some value)
  there (Some part) h = (make part, refl)
  there None h = absurd (false≢true h)
