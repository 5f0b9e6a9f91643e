-- The readers of one word, one sign, one name and one number.
use Rattle.std.proofs.Common.{◌≡◌, ℕ, Bool, true, false, is_some, List, [], Option, Some, None, option_map, if◌then◌else◌, nat_lt, refl, ap, ◌∙◌}
use Rattle.sa_lexer.specs.declared.sign.Sign.{Sign}
use Rattle.sa_lexer.specs.declared.token.Token.{Token}
use Rattle.sa_lexer.specs.declared.token.TokenKind.{TokenKind}
use Rattle.sa_lexer.specs.declared.token.TokenKind.TheVariants as kinds
use Rattle.sa_parser.specs.Form.{One}
use Rattle.sa_parser.specs.inner.Reading.{one, word, sign, name}
use Rattle.sa_parser.specs.Token.{is_word, is_sign, name_of, number_of, word_in, sign_in, name_in, number_in}
use Rattle.sa_parser.proofs.Alike.{words_alike, signs_alike}
use Rattle.sa_parser.proofs.Heads.{is_number, only_word, only_sign, only_names, only_numbers, only_word-has, only_sign-has, only_names-has, only_numbers-has}
use Rattle.sa_parser.proofs.Law.{Law, Ahead}
use Rattle.sa_parser.proofs.laws.One.{one_shape, one-Law, one-Ahead}

-- a token at the beginning of a text
abbrev first_token : TokenKind → Token
first_token kind = record { kind = kind; start = 0; end = 0 }

passes : {X : Type 0} (test : Bool) (place value : X) → (if test then Some place else None) ≡ Some value → test ≡ true
passes true place value e = refl
passes false place value e = cc

is_there : {X Y : Type 0} (make : X → Y) (found : Option X) (value : Y) → option_map make found ≡ Some value → is_some found ≡ true
is_there make (Some part) value e = refl
is_there make None value e = cc

pub word-Law : (text : List ℕ) → Law (One (word_in text)) (One (word_in text)) (one_shape (only_word text)) (word text)
unfolding is_word
word-Law text =
    one-Law (word_in text) (only_word text) (λ token value e. only_word-has text token.kind ∙ passes _ token.start value e)
    (first_token (kinds.Word text)) 0 (ap (λ test. if test then Some 0 else None) (words_alike.refl text))

pub word-Ahead : (text : List ℕ) → Ahead (word text)
word-Ahead text = one-Ahead (word_in text)

pub sign-Law : (which : Sign) → Law (One (sign_in which)) (One (sign_in which)) (one_shape (only_sign which)) (sign which)
unfolding is_sign
sign-Law which =
    one-Law (sign_in which) (only_sign which) (λ token value e. only_sign-has which token.kind ∙ passes _ token.start value e)
    (first_token (kinds.Sign which)) 0 (ap (λ test. if test then Some 0 else None) (signs_alike.refl which))

pub sign-Ahead : (which : Sign) → Ahead (sign which)
sign-Ahead which = one-Ahead (sign_in which)

pub name-Law : Law (One name_in) (One name_in) (one_shape only_names) name
unfolding name_of
name-Law =
    one-Law name_in only_names (λ token value e. only_names-has token.kind ∙ is_there _ (name_of token.kind) value e)
    (first_token (kinds.QuotedName [])) (record { name = []; place = 0 }) refl

pub name-Ahead : Ahead name
name-Ahead = one-Ahead name_in

number_of-is : (bound : ℕ) (kind : TokenKind) (value : ℕ) → number_of bound kind ≡ Some value → is_number kind ≡ true
number_of-is bound (kinds.Number number) value e = refl
number_of-is bound (kinds.Word word) value e = cc
number_of-is bound (kinds.QuotedName name) value e = cc
number_of-is bound (kinds.Text text) value e = cc
number_of-is bound (kinds.Sign sign) value e = cc

-- a number below a bound that isn't 0
pub number-Law : (bound : ℕ) → nat_lt 0 bound ≡ true
    → Law (One (number_in bound)) (One (number_in bound)) (one_shape only_numbers) (one (number_in bound))
number-Law bound positive =
    one-Law (number_in bound) only_numbers (λ token value e. only_numbers-has token.kind ∙ number_of-is bound token.kind value e)
    (first_token (kinds.Number 0)) 0 (ap (λ test. if test then Some 0 else None) positive)

pub number-Ahead : (bound : ℕ) → Ahead (one (number_in bound))
number-Ahead bound = one-Ahead (number_in bound)
