-- Expressions of so many levels.
use Rattle.std.proofs.Common.{◌≤◌, ℕ, zero, suc, List, [], ◌∷◌, refl, arith}
use Rattle.sa_lexer.specs.declared.token.Token.{Token}
use Rattle.sa_lexer.specs.declared.token.TokenKind.TheVariants as kinds
use Rattle.sa_parser.specs.declared.rule.Rule.{Rule}
use Rattle.sa_parser.specs.declared.rule.Rule.TheVariants as rule
use Rattle.sa_parser.specs.ExprGrammar.{nested}
use Rattle.sa_parser.specs.inner.ExprReading.{nested_read}
use Rattle.sa_parser.specs.Token.{name_of}
use Rattle.sa_parser.proofs.Heads.{has}
use Rattle.sa_parser.proofs.Law.{Law, Ahead, Deeper}
use Rattle.sa_parser.proofs.laws.Refuse.{refuse-Law, refuse-Ahead, refuse-Deeper}
use Rattle.sa_parser.proofs.rules.Column.{column-Suffices}
use Rattle.sa_parser.proofs.rules.Columns.{nested-Suffices}
use Rattle.sa_parser.proofs.rules.Examples.{first_token}
use Rattle.sa_parser.proofs.rules.Logic.{negation-Agrees, disjunction-Agrees}
use Rattle.sa_parser.proofs.rules.Shapes.{Inside, shape_of}
use Rattle.sa_parser.proofs.rules.Sum.{factor-Agrees, sum-Agrees}

-- a name in backquotes
abbrev some_name : List Token
some_name = first_token (kinds.QuotedName []) ∷ []

flat-Agrees : (more : ℕ) → Inside (nested 0) (nested 1) 0 (nested_read 0) (nested_read more)
unfolding nested nested_read has name_of
flat-Agrees more which =
    let (tree, is) = (nested-Suffices column-Suffices 0 which).is some_name refl in
    record {
      law = refuse-Law (shape_of which) (λ tokens tree never. never) some_name tree is;
      ahead = refuse-Ahead;
      keeps = refuse-Deeper (nested_read more which);
    }

deeper-Agrees : (levels more : ℕ) → Inside (nested levels) (nested (suc levels)) levels (nested_read levels) (nested_read more)
    → Inside (nested (suc levels)) (nested (suc (suc levels))) (suc levels) (nested_read (suc levels)) (nested_read (suc more))
unfolding nested nested_read
deeper-Agrees levels more inside rule.Expression = disjunction-Agrees inside
deeper-Agrees levels more inside rule.Negation = negation-Agrees inside
deeper-Agrees levels more inside rule.Sum = sum-Agrees inside
deeper-Agrees levels more inside rule.Factor = factor-Agrees inside

pub nested-Agrees : (levels more : ℕ) → levels ≤ more → Inside (nested levels) (nested (suc levels)) levels (nested_read levels) (nested_read more)
nested-Agrees zero more few = flat-Agrees more
nested-Agrees (suc levels) zero few = absurd (omega (arith, few))
nested-Agrees (suc levels) (suc more) few = deeper-Agrees levels more (nested-Agrees levels more (omega (arith, few)))

pub nested-Law : (levels : ℕ) (which : Rule) → Law (nested levels which) (nested (suc levels) which) (shape_of which) (nested_read levels which)
nested-Law levels which = (nested-Agrees levels levels (omega arith) which).law

pub nested-Ahead : (levels : ℕ) (which : Rule) → Ahead (nested_read levels which)
nested-Ahead levels which = (nested-Agrees levels levels (omega arith) which).ahead

pub nested-Deeper : (levels more : ℕ) → levels ≤ more → (which : Rule) → Deeper levels (nested_read levels which) (nested_read more which)
nested-Deeper levels more few which = (nested-Agrees levels more few which).keeps
