-- Factors, products and sums.
use Rattle.std.proofs.Common.{ℕ, suc, refl}
use Rattle.sa_lexer.specs.declared.sign.Sign.TheVariants as signs
use Rattle.sa_ast.specs.declared.expression.ExprTree.{ExprTree}
use Rattle.sa_parser.specs.declared.rule.Rule.{Rule}
use Rattle.sa_parser.specs.declared.rule.Rule.TheVariants as rule
use Rattle.sa_parser.specs.Form.{Form}
use Rattle.sa_parser.specs.inner.Reading.{Reader}
use Rattle.sa_parser.specs.ExprGrammar.{Factor, Term, Sum}
use Rattle.sa_parser.specs.inner.ExprReading.{factor, term, sum}
use Rattle.sa_parser.specs.Tree.{additive_in}
use Rattle.sa_parser.proofs.Heads.{apart, within}
use Rattle.sa_parser.proofs.Looks.{sees_sign-Looks}
use Rattle.sa_parser.proofs.rules.Agrees.{Agrees, one-Agrees, sign-Agrees, made-Agrees, reshaped-Agrees, then-Agrees, then-Agrees_inside, either-Agrees, chain-Agrees}
use Rattle.sa_parser.proofs.rules.Atoms.{sees_additive-Looks, additive-Law}
use Rattle.sa_parser.proofs.rules.Primary.{primary-Agrees}
use Rattle.sa_parser.proofs.rules.Shapes.{Inside, factor_shape, term_shape, sum_shape}

module _ {inner wide : Rule → Form ExprTree} {levels : ℕ} {read deeper : Rule → Reader ExprTree} (inside : Inside inner wide levels read deeper) where
  pub factor-Agrees : Agrees (Factor inner) (Factor wide) factor_shape (suc levels) (factor read) (factor deeper)
  unfolding Factor factor apart within
  factor-Agrees =
      reshaped-Agrees
      (either-Agrees (sees_sign-Looks signs.Minus)
      (then-Agrees_inside (made-Agrees _ (sign-Agrees signs.Minus)) (inside rule.Factor) refl refl)
      (either-Agrees (sees_sign-Looks signs.Plus)
      (then-Agrees_inside (made-Agrees _ (sign-Agrees signs.Plus)) (inside rule.Factor) refl refl)
      (primary-Agrees inside) refl refl refl refl)
      refl refl refl refl)
      factor_shape refl refl refl

  pub term-Agrees : Agrees (Term inner) (Term wide) term_shape (suc levels) (term read) (term deeper)
  unfolding Term term apart within
  term-Agrees =
      reshaped-Agrees
      (chain-Agrees _ (sees_sign-Looks signs.Star) factor-Agrees
      (then-Agrees (made-Agrees _ (sign-Agrees signs.Star)) factor-Agrees refl) refl refl refl refl)
      term_shape refl refl refl

  pub sum-Agrees : Agrees (Sum inner) (Sum wide) sum_shape (suc levels) (sum read) (sum deeper)
  unfolding Sum sum apart within
  sum-Agrees =
      reshaped-Agrees
      (chain-Agrees _ sees_additive-Looks term-Agrees
      (then-Agrees (made-Agrees _ (one-Agrees additive_in additive-Law)) term-Agrees refl) refl refl refl refl)
      sum_shape refl refl refl
