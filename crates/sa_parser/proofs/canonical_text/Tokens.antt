-- Tokens of a canonical text, as the grammar takes them.
use Rattle.std.proofs.Common.{◌≡◌, ℕ, ◌<◌, Bool, true, false, List, [], ◌∷◌, Some, None, cond, refl, ap}
use Rattle.std.specs.Prelude.{not}
use Rattle.std.proofs.lemmas.Bool.{and_parts, not-true, lt-ltb}
use Rattle.sa_lexer.specs.declared.sign.Sign as signs
use Rattle.sa_lexer.specs.declared.token.TokenKind.TheVariants as kinds
use Rattle.sa_ast.specs.declared.name.NameTree.{NameTree}
use Rattle.sa_print.specs.Name.{is_word}
use Rattle.sa_lexer.specs.Reserved.{is_reserved}
use Rattle.sa_parser.specs.Token.{is_word as is_word_token, is_sign, name_of, word_in, sign_in, name_in, any_number_in, number_in}
use Rattle.sa_parser.specs.Form.{Word, Sign, Name, Number, NumberBelow}
use Rattle.sa_parser.proofs.Alike.{words_alike, signs_alike}
use Rattle.sa_parser.proofs.canonical_text.Build.{one}
use Rattle.sa_parser.proofs.canonical_text.Lexed.{token_at}
use Rattle.sa_parser.proofs.canonical_text.Pieces.{is_bare, kind_by, name_kind}

pub word_is : (text : List ℕ) (place len : ℕ) → Word text (token_at (kinds.Word text) place len ∷ []) place
unfolding is_word_token
word_is text place len = one (word_in text) (token_at (kinds.Word text) place len) place (ap (λ test. cond test (Some place) None) (words_alike.refl text))

pub sign_is : (which : signs.Sign) (place len : ℕ) → Sign which (token_at (kinds.Sign which) place len ∷ []) place
unfolding is_sign
sign_is which place len = one (sign_in which) (token_at (kinds.Sign which) place len) place (ap (λ test. cond test (Some place) None) (signs_alike.refl which))

abbrev pub name_at : List ℕ → ℕ → NameTree
name_at name place = record { name = name; place = place }

named : (name : List ℕ) (bare : Bool) → is_bare name ≡ bare → name_of (kind_by bare name) ≡ Some name
unfolding name_of
named name true e =
    ap (λ test. cond test None (Some name)) (not-true (is_reserved name) (and_parts (is_word name) (not (is_reserved name)) e).1)
named name false e = refl

pub name_of-kind : (name : List ℕ) → name_of (name_kind name) ≡ Some name
name_of-kind name = named name (is_bare name) refl

pub name_is : (name : List ℕ) (place len : ℕ) → Name (token_at (name_kind name) place len ∷ []) (name_at name place)
name_is name place len = one name_in (token_at (name_kind name) place len) (name_at name place) (rw name_of-kind refl)

pub number_is : (number place len : ℕ) → Number (token_at (kinds.Number number) place len ∷ []) number
number_is number place len = one any_number_in (token_at (kinds.Number number) place len) number refl

pub number_below_is : (bound number place len : ℕ) → number < bound → NumberBelow bound (token_at (kinds.Number number) place len ∷ []) number
number_below_is bound number place len small =
    one (number_in bound) (token_at (kinds.Number number) place len) number (ap (λ test. cond test (Some number) None) (lt-ltb number bound small))
