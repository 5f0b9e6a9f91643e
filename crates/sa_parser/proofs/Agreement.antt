-- The readers of whole statements and directives agree with their forms.
use Rattle.std.proofs.Common.{◌≡◌, ℕ, List, [], ◌∷◌, ◌++◌, length, Ok, Err}
use Rattle.sa_lexer.specs.declared.token.Token.{Token}
use Rattle.sa_ast.specs.declared.statement.Statement.{Statement}
use Rattle.sa_parser.specs.Fault.{FaultyAt}
use Rattle.sa_ast.specs.declared.directive.Directive.{Directive}
use Rattle.sa_parser.specs.DirectiveGrammar.{directive}
use Rattle.sa_parser.specs.Parse.{IsStatement, IsSetup, IsDirective}
use Rattle.sa_parser.specs.inner.StatementReading.{statement_read}
use Rattle.sa_parser.specs.inner.SetupReading.{setup_read}
use Rattle.sa_parser.specs.inner.DirectiveReading.{directive_read}
use Rattle.sa_parser.specs.SetupGrammar.{setup}
use Rattle.sa_parser.proofs.Consequences.{one_value, whole-is}
use Rattle.sa_parser.proofs.Law.{Law, Ahead}
use Rattle.sa_parser.proofs.rules.AnyLevel.{some-sound, some-unique, some-leftover, some-faulty}
use Rattle.sa_parser.proofs.rules.Directives.{directive_shape, directive-Agrees}
use Rattle.sa_parser.proofs.rules.OneLevel.{one-leftover, one-faulty}
use Rattle.sa_parser.proofs.rules.Statements.{statement-Levelled}
use Rattle.sa_parser.proofs.rules.setup.Setup.{setup_shape, setup-Agrees}

setup-Law : Law setup setup setup_shape setup_read
setup-Law = (setup-Agrees {levels = 0}).law

setup-Ahead : Ahead setup_read
setup-Ahead = (setup-Agrees {levels = 0}).ahead

pub statement-sound : (levels : ℕ) (tokens : List Token) (tree : Statement) → statement_read levels tokens ≡ Ok (tree, []) → IsStatement tokens tree
statement-sound = some-sound statement-Levelled

pub statement-unique : (tokens : List Token) (tree other : Statement) → IsStatement tokens tree → IsStatement tokens other → tree ≡ other
statement-unique = some-unique statement-Levelled

pub statement-leftover : (tokens : List Token) (tree : Statement) (token : Token) (behind : List Token)
    → statement_read (length tokens) tokens ≡ Ok (tree, token ∷ behind)
    → (before : List Token) × (tokens ≡ before ++ token ∷ behind) × FaultyAt IsStatement before (token ∷ behind)
statement-leftover = some-leftover statement-Levelled

pub statement-faulty : (tokens : List Token) (left : ℕ) → statement_read (length tokens) tokens ≡ Err left
    → (before behind : List Token) × (tokens ≡ before ++ behind) × (left ≡ length behind) × FaultyAt IsStatement before behind
statement-faulty = some-faulty statement-Levelled

pub setup-sound : (tokens : List Token) (tree : Statement) → setup_read tokens ≡ Ok (tree, []) → IsSetup tokens tree
setup-sound = whole-is setup-Law

pub setup-unique : (tokens : List Token) (tree other : Statement) → IsSetup tokens tree → IsSetup tokens other → tree ≡ other
setup-unique = one_value setup-Law

pub setup-leftover : (tokens : List Token) (tree : Statement) (token : Token) (behind : List Token)
    → setup_read tokens ≡ Ok (tree, token ∷ behind)
    → (before : List Token) × (tokens ≡ before ++ token ∷ behind) × FaultyAt IsSetup before (token ∷ behind)
setup-leftover = one-leftover setup-Law setup-Ahead

pub setup-faulty : (tokens : List Token) (left : ℕ) → setup_read tokens ≡ Err left
    → (before behind : List Token) × (tokens ≡ before ++ behind) × (left ≡ length behind) × FaultyAt IsSetup before behind
setup-faulty = one-faulty setup-Law setup-Ahead

directive-Law : Law directive directive directive_shape directive_read
directive-Law = (directive-Agrees {levels = 0}).law

directive-Ahead : Ahead directive_read
directive-Ahead = (directive-Agrees {levels = 0}).ahead

pub directive-sound : (tokens : List Token) (tree : Directive) → directive_read tokens ≡ Ok (tree, []) → IsDirective tokens tree
directive-sound = whole-is directive-Law

pub directive-unique : (tokens : List Token) (tree other : Directive) → IsDirective tokens tree → IsDirective tokens other → tree ≡ other
directive-unique = one_value directive-Law

pub directive-leftover : (tokens : List Token) (tree : Directive) (token : Token) (behind : List Token)
    → directive_read tokens ≡ Ok (tree, token ∷ behind)
    → (before : List Token) × (tokens ≡ before ++ token ∷ behind) × FaultyAt IsDirective before (token ∷ behind)
directive-leftover = one-leftover directive-Law directive-Ahead

pub directive-faulty : (tokens : List Token) (left : ℕ) → directive_read tokens ≡ Err left
    → (before behind : List Token) × (tokens ≡ before ++ behind) × (left ≡ length behind) × FaultyAt IsDirective before behind
directive-faulty = one-faulty directive-Law directive-Ahead
