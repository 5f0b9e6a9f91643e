-- The kind of a column.
use Rattle.std.proofs.Common.{ℕ, ◌^◌, true, false, codes, [], ◌∷◌, refl}
use Rattle.sa_lexer.specs.declared.sign.Sign.TheVariants as signs
use Rattle.sa_parser.specs.SetupGrammar.{Digits, Kind}
use Rattle.sa_parser.specs.inner.SetupReading.{digits, kind, sees_int}
use Rattle.sa_parser.proofs.Heads.{or, only_word, only_sign, apart, within}
use Rattle.sa_parser.proofs.Law.{Shape}
use Rattle.sa_parser.proofs.Looks.{Looks, or-Looks, sees_word-Looks, sees_sign-Looks}
use Rattle.sa_parser.proofs.rules.Agrees.{Agrees, word-Agrees, number_below-Agrees, made-Agrees, reshaped-Agrees, perhaps-Agrees, then-Agrees, either-Agrees, brackets-Agrees}
use Rattle.sa_parser.proofs.rules.Numbers.{any_number-Agrees}

abbrev digits_shape : Shape
digits_shape = record { opens = only_sign signs.LeftParen; blank = true; goes_on = only_sign signs.LeftParen }

digits-Agrees : {levels : ℕ} → Agrees Digits Digits digits_shape levels digits digits
unfolding Digits digits apart within
digits-Agrees = perhaps-Agrees (sees_sign-Looks signs.LeftParen) (brackets-Agrees any_number-Agrees refl) refl refl

sees_int-Looks : Looks (or (only_word (codes "INT")) (only_word (codes "INTEGER"))) sees_int
sees_int-Looks = or-Looks (sees_word-Looks (codes "INT")) (sees_word-Looks (codes "INTEGER"))

abbrev pub kind_shape : Shape
kind_shape = record {
  opens = record {
    names = false;
    numbers = false;
    texts = false;
    words = codes "INT" ∷ codes "INTEGER" ∷ codes "BIGINT" ∷ codes "VARCHAR" ∷ [];
    signs = [];
  };
  blank = false;
  goes_on = only_sign signs.LeftParen;
}

pub kind-Agrees : {levels : ℕ} → Agrees Kind Kind kind_shape levels kind kind
unfolding Kind kind apart within
kind-Agrees =
    reshaped-Agrees
    (either-Agrees sees_int-Looks
    (then-Agrees
    (made-Agrees _ (either-Agrees (sees_word-Looks (codes "INT")) (word-Agrees (codes "INT")) (word-Agrees (codes "INTEGER")) refl refl refl refl))
    digits-Agrees refl)
    (either-Agrees (sees_word-Looks (codes "BIGINT")) (then-Agrees (made-Agrees _ (word-Agrees (codes "BIGINT"))) digits-Agrees refl)
    (then-Agrees (made-Agrees _ (word-Agrees (codes "VARCHAR"))) (brackets-Agrees (number_below-Agrees (2 ^ 14) refl) refl) refl)
    refl refl refl refl)
    refl refl refl refl)
    kind_shape refl refl refl
