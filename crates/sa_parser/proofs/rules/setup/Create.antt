-- CREATE TABLE.
use Rattle.std.proofs.Common.{ℕ, true, false, codes, [], ◌∷◌, refl}
use Rattle.sa_lexer.specs.declared.sign.Sign.TheVariants as signs
use Rattle.sa_lexer.specs.Reserved.{is_reserved}
use Rattle.sa_parser.specs.Form.{Either}
use Rattle.sa_parser.specs.SetupGrammar.{Column, Key, Definition, Create}
use Rattle.sa_parser.specs.inner.SetupReading.{part, definition, engine, create}
use Rattle.sa_parser.proofs.Heads.{only_word, apart, within}
use Rattle.sa_parser.proofs.Law.{Shape}
use Rattle.sa_parser.proofs.Looks.{sees_word-Looks, sees_sign-Looks, sees_name-Looks}
use Rattle.sa_parser.proofs.rules.Agrees.{Agrees, word-Agrees, sign-Agrees, name-Agrees, made-Agrees, reshaped-Agrees, perhaps-Agrees, then-Agrees, either-Agrees, chain-Agrees, brackets-Agrees}
use Rattle.sa_parser.proofs.rules.setup.Column.{column_shape, column-Agrees}
use Rattle.sa_parser.proofs.rules.setup.Key.{keys, key-Agrees}

-- a column or a key
abbrev part_shape : Shape
part_shape = record { opens = record keys { names = true }; blank = false; goes_on = column_shape.goes_on }

part-Agrees : {levels : ℕ} → Agrees (Either Column Key) (Either Column Key) part_shape levels part part
unfolding part apart within is_reserved
part-Agrees = reshaped-Agrees (either-Agrees sees_name-Looks column-Agrees key-Agrees refl refl refl refl) part_shape refl refl refl

abbrev definition_shape : Shape
definition_shape = record { opens = part_shape.opens; blank = false; goes_on = record column_shape.goes_on { signs = signs.Comma ∷ signs.LeftParen ∷ [] } }

definition-Agrees : {levels : ℕ} → Agrees Definition Definition definition_shape levels definition definition
unfolding Definition definition apart within
definition-Agrees =
    reshaped-Agrees
    (chain-Agrees _ (sees_sign-Looks signs.Comma) (made-Agrees _ part-Agrees) (then-Agrees (made-Agrees _ (sign-Agrees signs.Comma)) part-Agrees refl)
    refl refl refl refl)
    definition_shape refl refl refl

abbrev pub create_shape : Shape
create_shape = record { opens = only_word (codes "CREATE"); blank = false; goes_on = only_word (codes "ENGINE") }

pub create-Agrees : {levels : ℕ} → Agrees Create Create create_shape levels create create
unfolding Create create engine apart within
create-Agrees =
    reshaped-Agrees
    (chain-Agrees _ (sees_word-Looks (codes "ENGINE"))
    (then-Agrees
    (then-Agrees (then-Agrees (made-Agrees _ (word-Agrees (codes "CREATE"))) (word-Agrees (codes "TABLE")) refl) name-Agrees refl)
    (brackets-Agrees definition-Agrees refl) refl)
    (then-Agrees
    (then-Agrees (made-Agrees _ (word-Agrees (codes "ENGINE"))) (perhaps-Agrees (sees_sign-Looks signs.Equal) (sign-Agrees signs.Equal) refl refl) refl)
    name-Agrees refl)
    refl refl refl refl)
    create_shape refl refl refl
