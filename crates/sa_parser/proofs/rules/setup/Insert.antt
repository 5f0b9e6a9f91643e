-- INSERT.
use Rattle.std.proofs.Common.{ℕ, false, codes, refl}
use Rattle.sa_lexer.specs.declared.sign.Sign.TheVariants as signs
use Rattle.sa_parser.specs.SetupGrammar.{Tuple, Insert}
use Rattle.sa_parser.specs.inner.SetupReading.{tuple, insert}
use Rattle.sa_parser.proofs.Heads.{only_word, only_sign, apart, within}
use Rattle.sa_parser.proofs.Law.{Shape}
use Rattle.sa_parser.proofs.Looks.{sees_sign-Looks}
use Rattle.sa_parser.proofs.rules.Agrees.{Agrees, word-Agrees, name-Agrees, made-Agrees, placed-Agrees, reshaped-Agrees, perhaps-Agrees, then-Agrees, brackets_shape, brackets-Agrees, commas-Agrees}
use Rattle.sa_parser.proofs.rules.setup.Literal.{literal-Agrees}

tuple-Agrees : {levels : ℕ} → Agrees Tuple Tuple brackets_shape levels tuple tuple
unfolding Tuple tuple apart
tuple-Agrees = placed-Agrees _ (brackets-Agrees (commas-Agrees literal-Agrees refl) refl) refl

abbrev pub insert_shape : Shape
insert_shape = record { opens = only_word (codes "INSERT"); blank = false; goes_on = only_sign signs.Comma }

pub insert-Agrees : {levels : ℕ} → Agrees Insert Insert insert_shape levels insert insert
unfolding Insert insert apart within
insert-Agrees =
    reshaped-Agrees
    (then-Agrees
    (then-Agrees
    (then-Agrees
    (then-Agrees (then-Agrees (made-Agrees _ (word-Agrees (codes "INSERT"))) (word-Agrees (codes "INTO")) refl) name-Agrees refl)
    (perhaps-Agrees (sees_sign-Looks signs.LeftParen) (brackets-Agrees (commas-Agrees name-Agrees refl) refl) refl refl) refl)
    (word-Agrees (codes "VALUES")) refl)
    (commas-Agrees tuple-Agrees refl) refl)
    insert_shape refl refl refl
