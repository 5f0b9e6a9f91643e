-- What is a factor is also a term, a sum and so on up to a whole expression, and brackets make a factor of that again.
use Rattle.std.proofs.Common.{ℕ, suc, List, [], ◌∷◌, ◌++◌, subst, append-nil}
use Rattle.sa_lexer.specs.declared.sign.Sign.TheVariants as signs
use Rattle.sa_lexer.specs.declared.token.Token.{Token}
use Rattle.sa_lexer.specs.declared.token.TokenKind.TheVariants as kinds
use Rattle.sa_ast.specs.declared.expression.ExprTree.{ExprTree}
use Rattle.sa_parser.specs.declared.members.Members.TheVariants.{Alone}
use Rattle.sa_parser.specs.declared.rule.Rule.{Rule}
use Rattle.sa_parser.specs.declared.rule.Rule.TheVariants as rule
use Rattle.sa_parser.specs.Tree.{times_tree, sum_tree, predicate_tree, with_member, and_tree, or_tree}
use Rattle.sa_parser.specs.Form.{Form, Made, Perhaps, Brackets}
use Rattle.sa_parser.specs.ExprGrammar.{Primary, Factor, Term, Sum, PredicateTail, Predicate, Negation, Conjunction, Disjunction, nested}
use Rattle.sa_parser.proofs.canonical_text.Build.{made, then, first, second, nothing, alone}
use Rattle.sa_parser.proofs.canonical_text.Lexed.{token_at}
use Rattle.sa_parser.proofs.canonical_text.Tokens.{sign_is}

module _ (inner : Rule → Form ExprTree) (tokens : List Token) (tree : ExprTree) where
  pub primary-Factor : Primary inner tokens tree → Factor inner tokens tree
  unfolding Factor
  primary-Factor is = second _ _ (second _ _ is)

  pub factor-Term : Factor inner tokens tree → Term inner tokens tree
  unfolding Term
  factor-Term is = alone (Factor inner) times_tree _ is

  pub term-Sum : Term inner tokens tree → Sum inner tokens tree
  unfolding Sum
  term-Sum is = alone (Term inner) sum_tree _ is

  pub factor-Sum : Factor inner tokens tree → Sum inner tokens tree
  factor-Sum is = term-Sum (factor-Term is)

  pub sum-Predicate : Sum inner tokens tree → Predicate inner tokens tree
  unfolding Predicate
  sum-Predicate is =
      let Is : List Token → Type 0 = λ some. Predicate inner some tree in
      let Tail = Perhaps (PredicateTail inner) in
      subst Is (append-nil tokens) (then (Made predicate_tree (Sum inner)) Tail (made (Sum inner) predicate_tree is) (nothing (PredicateTail inner)))

  pub predicate-Negation : Predicate inner tokens tree → Negation inner tokens tree
  unfolding Negation
  predicate-Negation is = second _ _ is

  pub factor-Negation : Factor inner tokens tree → Negation inner tokens tree
  factor-Negation is = predicate-Negation (sum-Predicate (factor-Sum is))

  pub negation-Conjunction : Negation inner tokens tree → Conjunction inner tokens tree
  unfolding Conjunction
  negation-Conjunction is = made _ and_tree (alone _ with_member _ (made (Negation inner) Alone is))

  pub conjunction-Disjunction : Conjunction inner tokens tree → Disjunction inner tokens tree
  unfolding Disjunction
  conjunction-Disjunction is = made _ or_tree (alone _ with_member _ (made (Conjunction inner) Alone is))

  pub negation-Disjunction : Negation inner tokens tree → Disjunction inner tokens tree
  negation-Disjunction is = conjunction-Disjunction (negation-Conjunction is)

  pub predicate-Disjunction : Predicate inner tokens tree → Disjunction inner tokens tree
  predicate-Disjunction is = negation-Disjunction (predicate-Negation is)

  pub sum-Disjunction : Sum inner tokens tree → Disjunction inner tokens tree
  sum-Disjunction is = predicate-Disjunction (sum-Predicate is)

-- a form in brackets
pub brackets : {A : Type 0} (Is : Form A) {tokens : List Token} {value : A} (place end : ℕ) → Is tokens value
    → Brackets Is (token_at (kinds.Sign signs.LeftParen) place 1 ∷ [] ++ tokens ++ token_at (kinds.Sign signs.RightParen) end 1 ∷ []) value
brackets Is place end is =
    then _ _ (then _ _ (made _ _ (sign_is signs.LeftParen place 1)) is) (sign_is signs.RightParen end 1)

module _ (levels place end : ℕ) (tokens : List Token) (tree : ExprTree) where
  pub bracketed-Factor : Disjunction (nested levels) tokens tree
      → Factor (nested (suc levels)) (token_at (kinds.Sign signs.LeftParen) place 1 ∷ [] ++ tokens ++ token_at (kinds.Sign signs.RightParen) end 1 ∷ []) tree
  unfolding Primary nested
  bracketed-Factor is =
      primary-Factor (nested (suc levels)) _ tree (first _ _ (brackets (nested (suc levels) rule.Expression) place end is))
