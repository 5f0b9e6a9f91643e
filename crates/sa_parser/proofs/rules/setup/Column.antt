-- A column of a table that is set up.
use Rattle.std.proofs.Common.{ℕ, false, codes, [], ◌∷◌, refl}
use Rattle.sa_lexer.specs.declared.sign.Sign.TheVariants as signs
use Rattle.sa_parser.specs.SetupGrammar.{Attribute, Column}
use Rattle.sa_parser.specs.inner.SetupReading.{option, column, sees_option}
use Rattle.sa_parser.proofs.Heads.{Heads, only_names, only_word, apart, within}
use Rattle.sa_parser.proofs.Law.{Shape}
use Rattle.sa_parser.proofs.Looks.{Looks, or-Looks, sees_word-Looks}
use Rattle.sa_parser.proofs.rules.Agrees.{Agrees, word-Agrees, name-Agrees, made-Agrees, reshaped-Agrees, perhaps-Agrees, then-Agrees, either-Agrees, chain-Agrees}
use Rattle.sa_parser.proofs.rules.setup.Kind.{kind-Agrees}

abbrev options : Heads
options = record {
  names = false;
  numbers = false;
  texts = false;
  words = codes "NOT" ∷ codes "NULL" ∷ codes "DEFAULT" ∷ codes "PRIMARY" ∷ codes "UNIQUE" ∷ [];
  signs = [];
}

abbrev option_shape : Shape
option_shape = record { opens = options; blank = false; goes_on = only_word (codes "KEY") }

option-Agrees : {levels : ℕ} → Agrees Attribute Attribute option_shape levels option option
unfolding Attribute option apart within
option-Agrees =
    reshaped-Agrees
    (either-Agrees (sees_word-Looks (codes "NOT")) (then-Agrees (made-Agrees _ (word-Agrees (codes "NOT"))) (word-Agrees (codes "NULL")) refl)
    (either-Agrees (sees_word-Looks (codes "NULL")) (made-Agrees _ (word-Agrees (codes "NULL")))
    (either-Agrees (sees_word-Looks (codes "DEFAULT")) (then-Agrees (made-Agrees _ (word-Agrees (codes "DEFAULT"))) (word-Agrees (codes "NULL")) refl)
    (either-Agrees (sees_word-Looks (codes "PRIMARY")) (then-Agrees (made-Agrees _ (word-Agrees (codes "PRIMARY"))) (word-Agrees (codes "KEY")) refl)
    (then-Agrees (made-Agrees _ (word-Agrees (codes "UNIQUE")))
    (perhaps-Agrees (sees_word-Looks (codes "KEY")) (word-Agrees (codes "KEY")) refl refl) refl)
    refl refl refl refl)
    refl refl refl refl)
    refl refl refl refl)
    refl refl refl refl)
    option_shape refl refl refl

sees_option-Looks : Looks options sees_option
sees_option-Looks =
    or-Looks (sees_word-Looks (codes "NOT"))
    (or-Looks (sees_word-Looks (codes "NULL"))
    (or-Looks (sees_word-Looks (codes "DEFAULT")) (or-Looks (sees_word-Looks (codes "PRIMARY")) (sees_word-Looks (codes "UNIQUE")))))

abbrev pub column_shape : Shape
column_shape = record {
  opens = only_names;
  blank = false;
  goes_on = record {
    names = false;
    numbers = false;
    texts = false;
    words = codes "NOT" ∷ codes "NULL" ∷ codes "DEFAULT" ∷ codes "PRIMARY" ∷ codes "UNIQUE" ∷ codes "KEY" ∷ [];
    signs = signs.LeftParen ∷ [];
  };
}

pub column-Agrees : {levels : ℕ} → Agrees Column Column column_shape levels column column
unfolding Column column apart within
column-Agrees =
    reshaped-Agrees
    (chain-Agrees _ sees_option-Looks (then-Agrees (made-Agrees _ name-Agrees) kind-Agrees refl) option-Agrees refl refl refl refl)
    column_shape refl refl refl
