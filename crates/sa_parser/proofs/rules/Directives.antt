-- The directives of a script.
use Rattle.std.proofs.Common.{◌≡◌, ℕ, true, false, is_some, codes, [], ◌∷◌, Some, refl, sym, ◌∙◌}
use Rattle.sa_lexer.specs.declared.token.TokenKind.{TokenKind}
use Rattle.sa_lexer.specs.declared.token.TokenKind.TheVariants as kinds
use Rattle.sa_ast.specs.declared.directive.NumberTree.{NumberTree}
use Rattle.sa_parser.specs.Token.{any_number_of}
use Rattle.sa_parser.specs.DirectiveGrammar as form
use Rattle.sa_parser.specs.DirectiveGrammar.{placed_number_in, PlacedNumber, Numbers, Load, Schedule, directive}
use Rattle.sa_parser.specs.inner.DirectiveReading.{sees_number, placed_number, numbers, load, schedule, directive_read}
use Rattle.sa_parser.proofs.Heads.{starts, is_number, only_numbers, only_word, only_numbers-has, apart, within}
use Rattle.sa_parser.proofs.Law.{Shape}
use Rattle.sa_parser.proofs.Looks.{Looks, sees_word-Looks}
use Rattle.sa_parser.proofs.laws.One.{one_shape, one-Law}
use Rattle.sa_parser.proofs.rules.Agrees.{Agrees, one-Agrees, word-Agrees, name-Agrees, made-Agrees, reshaped-Agrees, then-Agrees, either-Agrees, chain-Agrees}
use Rattle.sa_parser.proofs.rules.Examples.{first_token}

placed-is : (place : ℕ) (kind : TokenKind) (value : NumberTree) → form.placed_number place kind ≡ Some value → is_number kind ≡ true
placed-is place (kinds.Number number) value e = refl
placed-is place (kinds.Word word) value e = cc
placed-is place (kinds.QuotedName name) value e = cc
placed-is place (kinds.Text text) value e = cc
placed-is place (kinds.Sign sign) value e = cc

placed_number-Agrees : {levels : ℕ} → Agrees PlacedNumber PlacedNumber (one_shape only_numbers) levels placed_number placed_number
placed_number-Agrees =
    one-Agrees placed_number_in
    (one-Law placed_number_in only_numbers (λ token value e. only_numbers-has token.kind ∙ placed-is token.start token.kind value e)
    (first_token (kinds.Number 0)) (record { number = 0; place = 0 }) refl)

number-tells : (kind : TokenKind) → is_number kind ≡ is_some (any_number_of kind)
number-tells (kinds.Number number) = refl
number-tells (kinds.Word word) = refl
number-tells (kinds.QuotedName name) = refl
number-tells (kinds.Text text) = refl
number-tells (kinds.Sign sign) = refl

sees_number-Looks : Looks only_numbers sees_number
unfolding sees_number starts
sees_number-Looks = record { is = elim [ [] ↦ refl | token ∷ rest ↦ sym (only_numbers-has token.kind ∙ number-tells token.kind) ] }

abbrev numbers_shape : Shape
numbers_shape = record { opens = only_numbers; blank = false; goes_on = only_numbers }

numbers-Agrees : {levels : ℕ} → Agrees Numbers Numbers numbers_shape levels numbers numbers
unfolding numbers apart within
numbers-Agrees =
    reshaped-Agrees
    (chain-Agrees _ sees_number-Looks (made-Agrees _ placed_number-Agrees) placed_number-Agrees refl refl refl refl)
    numbers_shape refl refl refl

load-Agrees : {levels : ℕ} → Agrees Load Load (one_shape (only_word (codes "LOAD"))) levels load load
unfolding Load load apart within
load-Agrees =
    then-Agrees
    (then-Agrees
    (then-Agrees (then-Agrees (made-Agrees _ (word-Agrees (codes "LOAD"))) (word-Agrees (codes "DATA")) refl) name-Agrees refl)
    (word-Agrees (codes "BYTES")) refl)
    placed_number-Agrees refl

abbrev schedule_shape : Shape
schedule_shape = record { opens = only_word (codes "SCHEDULE"); blank = false; goes_on = only_numbers }

schedule-Agrees : {levels : ℕ} → Agrees Schedule Schedule schedule_shape levels schedule schedule
unfolding Schedule schedule apart within
schedule-Agrees = reshaped-Agrees (then-Agrees (made-Agrees _ (word-Agrees (codes "SCHEDULE"))) numbers-Agrees refl) schedule_shape refl refl refl

abbrev pub directive_shape : Shape
directive_shape = record {
  opens = record {
    names = false;
    numbers = false;
    texts = false;
    words = codes "QUANTUM" ∷ codes "TURNS" ∷ codes "LOAD" ∷ codes "SESSION" ∷ codes "SCHEDULE" ∷ [];
    signs = [];
  };
  blank = false;
  goes_on = only_numbers;
}

-- No expression is inside, so levels don't matter.
pub directive-Agrees : {levels : ℕ} → Agrees directive directive directive_shape levels directive_read directive_read
unfolding directive directive_read apart within
directive-Agrees =
    reshaped-Agrees
    (either-Agrees (sees_word-Looks (codes "QUANTUM")) (then-Agrees (made-Agrees _ (word-Agrees (codes "QUANTUM"))) placed_number-Agrees refl)
    (either-Agrees (sees_word-Looks (codes "TURNS")) (then-Agrees (made-Agrees _ (word-Agrees (codes "TURNS"))) placed_number-Agrees refl)
    (either-Agrees (sees_word-Looks (codes "LOAD")) load-Agrees
    (either-Agrees (sees_word-Looks (codes "SESSION")) (then-Agrees (made-Agrees _ (word-Agrees (codes "SESSION"))) placed_number-Agrees refl)
    schedule-Agrees
    refl refl refl refl)
    refl refl refl refl)
    refl refl refl refl)
    refl refl refl refl)
    directive_shape refl refl refl
