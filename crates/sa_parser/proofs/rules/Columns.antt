-- A column alone is an expression by each rule.
use Rattle.std.proofs.Common.{ℕ, suc, Bool, List, Option, subst, append-nil}
use Rattle.sa_lexer.specs.declared.token.TokenKind.{TokenKind}
use Rattle.sa_ast.specs.declared.expression.ExprTree.{ExprTree}
use Rattle.sa_parser.specs.declared.rule.Rule.{Rule}
use Rattle.sa_parser.specs.declared.rule.Rule.TheVariants as rule
use Rattle.sa_parser.specs.Form.{Form, Chain, Then, Perhaps}
use Rattle.sa_parser.specs.ExprGrammar.{Column, Primary, Factor, Term, Sum, Predicate, Negation, Conjunction, Disjunction, ruled, nested}
use Rattle.sa_parser.proofs.LooksAhead.{Suffices}
use Rattle.sa_parser.proofs.laws.Begins.{first-Suffices, second-Suffices, made-Suffices, then-Suffices, none-Suffices, no_parts-Suffices}

module _ {tests : List (TokenKind → Bool)} where
  -- a beginning alone is a chain
  chain-Suffices : {A B : Type 0} (take : A → B → A) {First : Form A} (Next : Form B) → Suffices tests First → Suffices tests (Chain First take Next)
  chain-Suffices take {First} Next suffices =
      let in_chain : List (TokenKind → Bool) → Type 0 = λ tests. Suffices tests (Chain First take Next) in
      subst in_chain (append-nil tests) (then-Suffices (made-Suffices _ suffices) (no_parts-Suffices Next))

  -- what can be left out is left out
  short-Suffices : {A B : Type 0} {First : Form (Option A → B)} (Second : Form A) → Suffices tests First → Suffices tests (Then First (Perhaps Second))
  short-Suffices {First} Second suffices =
      let in_both : List (TokenKind → Bool) → Type 0 = λ tests. Suffices tests (Then First (Perhaps Second)) in
      subst in_both (append-nil tests) (then-Suffices suffices (none-Suffices Second))

module _ {tests : List (TokenKind → Bool)} (suffices : Suffices tests Column) (inner : Rule → Form ExprTree) where
  factor-Suffices : Suffices tests (Factor inner)
  unfolding Factor Primary
  factor-Suffices = second-Suffices _ (second-Suffices _ (second-Suffices _ (second-Suffices _ (first-Suffices _ suffices))))

  sum-Suffices : Suffices tests (Sum inner)
  unfolding Sum Term
  sum-Suffices = chain-Suffices _ _ (chain-Suffices _ _ factor-Suffices)

  negation-Suffices : Suffices tests (Negation inner)
  unfolding Negation Predicate
  negation-Suffices = second-Suffices _ (short-Suffices _ (made-Suffices _ sum-Suffices))

  disjunction-Suffices : Suffices tests (Disjunction inner)
  unfolding Disjunction Conjunction
  disjunction-Suffices = made-Suffices _ (chain-Suffices _ _ (made-Suffices _ (made-Suffices _ (chain-Suffices _ _ (made-Suffices _ negation-Suffices)))))

  ruled-Suffices : (which : Rule) → Suffices tests (ruled inner which)
  ruled-Suffices rule.Expression = disjunction-Suffices
  ruled-Suffices rule.Negation = negation-Suffices
  ruled-Suffices rule.Sum = sum-Suffices
  ruled-Suffices rule.Factor = factor-Suffices

pub nested-Suffices : {tests : List (TokenKind → Bool)} → Suffices tests Column → (levels : ℕ) (which : Rule) → Suffices tests (nested (suc levels) which)
unfolding nested
nested-Suffices suffices levels which = ruled-Suffices suffices (nested levels) which
