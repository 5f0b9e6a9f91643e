-- A column's name.
use Rattle.std.proofs.Common.{false, ℕ, [], ◌∷◌, refl}
use Rattle.sa_lexer.specs.declared.sign.Sign.TheVariants as signs
use Rattle.sa_parser.specs.ExprGrammar.{Column}
use Rattle.sa_parser.specs.inner.ExprReading.{column}
use Rattle.sa_parser.proofs.Heads.{only_names, only_sign, apart, within, has}
use Rattle.sa_parser.proofs.Law.{Shape}
use Rattle.sa_parser.proofs.Looks.{sees_sign-Looks}
use Rattle.sa_parser.proofs.LooksAhead.{Suffices}
use Rattle.sa_parser.proofs.laws.Begins.{name-Suffices, made-Suffices, then-Suffices, sign-Suffices, perhaps-Suffices, none-Suffices}
use Rattle.sa_parser.proofs.rules.Agrees.{Agrees, sign-Agrees, name-Agrees, made-Agrees, perhaps-Agrees, then-Agrees}

abbrev pub column_shape : Shape
column_shape = record { opens = only_names; blank = false; goes_on = only_sign signs.Dot }

pub column-Agrees : {levels : ℕ} → Agrees Column Column column_shape levels column column
unfolding Column column apart within
column-Agrees =
    then-Agrees (made-Agrees _ name-Agrees)
    (perhaps-Agrees (sees_sign-Looks signs.Dot) (then-Agrees (made-Agrees _ (sign-Agrees signs.Dot)) name-Agrees refl) refl refl) refl

-- one name is a column, and so are two with a dot between them
pub column-Suffices : Suffices (has only_names ∷ []) Column
unfolding Column
column-Suffices = then-Suffices (made-Suffices _ name-Suffices) (none-Suffices _)

pub dotted-Suffices : Suffices (has only_names ∷ has (only_sign signs.Dot) ∷ has only_names ∷ []) Column
unfolding Column
dotted-Suffices =
    then-Suffices (made-Suffices _ name-Suffices) (perhaps-Suffices (then-Suffices (made-Suffices _ (sign-Suffices signs.Dot)) name-Suffices))
