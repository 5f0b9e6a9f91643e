-- What one token can be: a word or sign that stands as it is written, a name, a number, a text.
use Rattle.std.specs.Prelude.{ℕ, Bool, false, List, [], ◌∷◌, if◌then◌else◌, Option, Some, None, option_map, nat_lt}
use Rattle.std.specs.Str.{bytes_eq, str_eq_ignore_ascii_case}
use Rattle.sa_lexer.specs.declared.token.Token.{Token}
use Rattle.sa_lexer.specs.declared.token.TokenKind.{TokenKind}
use Rattle.sa_lexer.specs.declared.token.TokenKind.TheVariants.{Word, QuotedName, Text, Number}
use Rattle.sa_lexer.specs.declared.token.TokenKind.TheVariants as kinds
use Rattle.sa_lexer.specs.declared.sign.Sign.{Sign}
use Rattle.sa_lexer.specs.Sign.{spelling}
use Rattle.sa_lexer.specs.Reserved.{is_reserved}
use Rattle.sa_ast.specs.declared.name.NameTree.{NameTree}

-- Whether a token is this word. A word counts as a keyword in either case of its letters.
unfoldable pub is_word : List ℕ → TokenKind → Bool
is_word text (Word word) = str_eq_ignore_ascii_case text word
is_word text kind = false

abbrev pub same_sign : Sign → Sign → Bool
same_sign sign other = bytes_eq (spelling sign) (spelling other)

-- whether a token is this sign
unfoldable pub is_sign : Sign → TokenKind → Bool
is_sign sign (kinds.Sign other) = same_sign sign other
is_sign sign kind = false

-- the place of a token that is this word
abbrev pub word_in : List ℕ → Token → Option ℕ
word_in text token = if is_word text token.kind then Some token.start else None

-- the place of a token that is this sign
abbrev pub sign_in : Sign → Token → Option ℕ
sign_in sign token = if is_sign sign token.kind then Some token.start else None

-- A word that isn't reserved is a name, and so is whatever stands in backquotes.
unfoldable pub name_of : TokenKind → Option (List ℕ)
name_of (Word word) = if is_reserved word then None else Some word
name_of (QuotedName name) = Some name
name_of kind = None

abbrev pub name_in : Token → Option NameTree
name_in token = option_map (λ name. record { name = name; place = token.start }) (name_of token.kind)

-- a number below a bound
abbrev pub number_of : ℕ → TokenKind → Option ℕ
number_of bound (Number number) = if nat_lt number bound then Some number else None
number_of bound kind = None

abbrev pub number_in : ℕ → Token → Option ℕ
number_in bound token = number_of bound token.kind

-- any number
abbrev pub any_number_of : TokenKind → Option ℕ
any_number_of (Number number) = Some number
any_number_of kind = None

abbrev pub any_number_in : Token → Option ℕ
any_number_in token = any_number_of token.kind

abbrev pub text_of : TokenKind → Option (List ℕ)
text_of (Text text) = Some text
text_of kind = None

-- The place of the first token; 0 where there is none.
abbrev pub first_place : List Token → ℕ
first_place [] = 0
first_place (token ∷ rest) = token.start
