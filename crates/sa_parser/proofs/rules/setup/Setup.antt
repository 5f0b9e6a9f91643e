-- The statements that set tables up.
use Rattle.std.proofs.Common.{ℕ, false, codes, [], ◌∷◌, refl}
use Rattle.sa_lexer.specs.declared.sign.Sign.TheVariants as signs
use Rattle.sa_parser.specs.SetupGrammar.{setup}
use Rattle.sa_parser.specs.inner.SetupReading.{setup_read}
use Rattle.sa_parser.proofs.Heads.{apart, within}
use Rattle.sa_parser.proofs.Law.{Shape}
use Rattle.sa_parser.proofs.Looks.{sees_word-Looks}
use Rattle.sa_parser.proofs.rules.Agrees.{Agrees, made-Agrees, reshaped-Agrees, either-Agrees}
use Rattle.sa_parser.proofs.rules.setup.Create.{create-Agrees}
use Rattle.sa_parser.proofs.rules.setup.Insert.{insert-Agrees}

abbrev pub setup_shape : Shape
setup_shape = record {
  opens = record { names = false; numbers = false; texts = false; words = codes "CREATE" ∷ codes "INSERT" ∷ []; signs = [] };
  blank = false;
  goes_on = record { names = false; numbers = false; texts = false; words = codes "ENGINE" ∷ []; signs = signs.Comma ∷ [] };
}

-- No expression is inside, so levels don't matter.
pub setup-Agrees : {levels : ℕ} → Agrees setup setup setup_shape levels setup_read setup_read
unfolding setup setup_read apart within
setup-Agrees =
    reshaped-Agrees (either-Agrees (sees_word-Looks (codes "CREATE")) (made-Agrees _ create-Agrees) (made-Agrees _ insert-Agrees) refl refl refl refl)
    setup_shape refl refl refl
