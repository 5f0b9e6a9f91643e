-- Predicates, and what NOT, AND and OR make of them.
use Rattle.std.proofs.Common.{ℕ, suc, codes, refl}
use Rattle.sa_lexer.specs.declared.sign.Sign.TheVariants as signs
use Rattle.sa_ast.specs.declared.expression.ExprTree.{ExprTree}
use Rattle.sa_lexer.specs.Reserved.{is_reserved}
use Rattle.sa_parser.specs.declared.rule.Rule.{Rule}
use Rattle.sa_parser.specs.declared.rule.Rule.TheVariants as rule
use Rattle.sa_parser.specs.Form.{Form}
use Rattle.sa_parser.specs.inner.Reading.{Reader}
use Rattle.sa_parser.specs.ExprGrammar.{Predicate, Negation, Conjunction, Disjunction}
use Rattle.sa_parser.specs.inner.ExprReading.{predicate, negation, conjunction, disjunction, sees_predicate, sees_and}
use Rattle.sa_parser.proofs.Heads.{Heads, or, only_word, only_sign, apart, within}
use Rattle.sa_parser.proofs.Looks.{Looks, or-Looks, sees_word-Looks, sees_sign-Looks}
use Rattle.sa_parser.proofs.rules.Agrees.{Agrees, word-Agrees, sign-Agrees, made-Agrees, reshaped-Agrees, perhaps-Agrees, then-Agrees, then-Agrees_inside, either-Agrees, chain-Agrees}
use Rattle.sa_parser.proofs.rules.Atoms.{sees_comparison-Looks}
use Rattle.sa_parser.proofs.rules.Shapes.{Inside, predicate_shape, negation_shape, conjunction_shape, disjunction_shape, tail_shape}
use Rattle.sa_parser.proofs.rules.Sum.{sum-Agrees}
use Rattle.sa_parser.proofs.rules.Tail.{tail-Agrees}

sees_predicate-Looks : Looks tail_shape.opens sees_predicate
sees_predicate-Looks =
    or-Looks sees_comparison-Looks
    (or-Looks (sees_word-Looks (codes "IS"))
    (or-Looks (sees_word-Looks (codes "NOT")) (or-Looks (sees_word-Looks (codes "BETWEEN")) (sees_word-Looks (codes "IN")))))

abbrev ands : Heads
ands = or (only_word (codes "AND")) (only_sign signs.AndAnd)

sees_and-Looks : Looks ands sees_and
sees_and-Looks = or-Looks (sees_word-Looks (codes "AND")) (sees_sign-Looks signs.AndAnd)

module _ {inner wide : Rule → Form ExprTree} {levels : ℕ} {read deeper : Rule → Reader ExprTree} (inside : Inside inner wide levels read deeper) where
  pub predicate-Agrees : Agrees (Predicate inner) (Predicate wide) predicate_shape (suc levels) (predicate read) (predicate deeper)
  unfolding Predicate predicate apart within
  predicate-Agrees =
      reshaped-Agrees
      (then-Agrees (made-Agrees _ (sum-Agrees inside)) (perhaps-Agrees sees_predicate-Looks (tail-Agrees inside) refl refl) refl)
      predicate_shape refl refl refl

  pub negation-Agrees : Agrees (Negation inner) (Negation wide) negation_shape (suc levels) (negation read) (negation deeper)
  unfolding Negation negation apart within is_reserved
  negation-Agrees =
      reshaped-Agrees
      (either-Agrees (sees_word-Looks (codes "NOT"))
      (then-Agrees_inside (made-Agrees _ (word-Agrees (codes "NOT"))) (inside rule.Negation) refl refl) predicate-Agrees refl refl refl refl)
      negation_shape refl refl refl

  pub conjunction-Agrees : Agrees (Conjunction inner) (Conjunction wide) conjunction_shape (suc levels) (conjunction read) (conjunction deeper)
  unfolding Conjunction conjunction apart within
  conjunction-Agrees =
      reshaped-Agrees
      (made-Agrees _
      (chain-Agrees _ sees_and-Looks (made-Agrees _ negation-Agrees)
      (then-Agrees
      (made-Agrees _ (either-Agrees (sees_word-Looks (codes "AND")) (word-Agrees (codes "AND")) (sign-Agrees signs.AndAnd) refl refl refl refl))
      negation-Agrees refl)
      refl refl refl refl))
      conjunction_shape refl refl refl

  pub disjunction-Agrees : Agrees (Disjunction inner) (Disjunction wide) disjunction_shape (suc levels) (disjunction read) (disjunction deeper)
  unfolding Disjunction disjunction apart within
  disjunction-Agrees =
      reshaped-Agrees
      (made-Agrees _
      (chain-Agrees _ (sees_word-Looks (codes "OR")) (made-Agrees _ conjunction-Agrees)
      (then-Agrees (made-Agrees _ (word-Agrees (codes "OR"))) conjunction-Agrees refl) refl refl refl refl))
      disjunction_shape refl refl refl
