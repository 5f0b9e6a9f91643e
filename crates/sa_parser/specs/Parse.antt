-- What the parser answers: the tree of the tokens, or their first fault. What is said of a fault
-- holds in any grammar.
use Rattle.std.specs.Prelude.{◌≡◌, ◌≢◌, ℕ, ◌<◌, ◌≤◌, ◌⊎◌, true, List, [], ◌∷◌, ◌++◌, Result, Ok, Err}
use Rattle.sa_lexer.specs.declared.sign.Sign.TheVariants as signs
use Rattle.sa_lexer.specs.declared.token.Token.{Token}
use Rattle.sa_ast.specs.declared.directive.Directive.{Directive}
use Rattle.sa_ast.specs.declared.statement.Statement.{Statement}
use Rattle.sa_ast.specs.declared.statement.Statement.TheVariants.{Create, Insert}
use Rattle.sa_parser.specs.declared.answer.ParseFault.{ParseFault}
use Rattle.sa_parser.specs.declared.answer.ParseFault.TheVariants.{Syntax, NotSupported, TooDeep, OutOfMemory}
use Rattle.sa_parser.specs.Token.{is_sign}
use Rattle.sa_parser.specs.Form.{Form}
use Rattle.sa_parser.specs.StatementGrammar.{statement}
use Rattle.sa_parser.specs.SetupGrammar.{setup}
use Rattle.sa_parser.specs.DirectiveGrammar.{directive}
use Rattle.sa_parser.specs.Depth.{depth_of, most_levels, StaysFlat}
use Rattle.sa_parser.specs.Fault.{Begins, FaultyAt, fault_place, IsUnsupported}

-- The tokens are a statement of a session, however deep its expressions nest.
abbrev pub IsStatement : Form Statement
IsStatement tokens tree = (levels : ℕ) × statement levels tokens tree

-- The tokens are a statement that sets tables up.
abbrev pub IsSetup : Form Statement
IsSetup tokens tree = setup tokens tree

-- The tokens are a directive of a script.
abbrev pub IsDirective : Form Directive
IsDirective tokens tree = directive tokens tree

-- The next token would go deeper than there are levels. A star does so only where it may stand.
abbrev pub DeepensTooFar : {A : Type 0} → Form A → List Token → Token → Type 0
DeepensTooFar Is before token =
    StaysFlat before × (most_levels < depth_of (before ++ token ∷ []))
    × (is_sign signs.Star token.kind ≡ true → Begins Is (before ++ token ∷ []))

-- A token goes too deep, and no fault stands before it.
abbrev pub GoesTooDeep : {A : Type 0} → Form A → List Token → ℕ → Type 0
GoesTooDeep Is tokens place =
    (before : List Token) × (token : Token) × (behind : List Token)
    × (tokens ≡ before ++ token ∷ behind)
    × Begins Is before × DeepensTooFar Is before token × (place ≡ token.start)

-- The faulty token doesn't go too deep.
abbrev pub StaysInLevels : List Token → List Token → Type 0
StaysInLevels before [] = StaysFlat before
StaysInLevels before (token ∷ behind) =
    StaysFlat before
    × ((is_sign signs.Star token.kind ≡ true) ⊎ (depth_of (before ++ token ∷ []) ≤ most_levels))

-- The tokens have their first fault at the place, and of it the kind says this.
abbrev pub HasFault : {A : Type 0} → Form A → List Token → (List Token → List Token → Type 0) → ℕ
    → Type 0
HasFault Is tokens IsKind place =
    (before : List Token) × (behind : List Token) × (tokens ≡ before ++ behind)
    × FaultyAt Is before behind
    × StaysInLevels before behind × IsKind before behind × (place ≡ fault_place before behind)

-- The answer is the tree, or the fault with its kind and place, unless memory ran out.
abbrev pub IsAnswer : {A : Type 0} → Form A → List Token → Result A ParseFault → Type 0
IsAnswer Is tokens (Ok tree) = Is tokens tree × StaysFlat tokens
IsAnswer Is tokens (Err (Syntax place)) =
    HasFault Is tokens (λ before behind. IsUnsupported Is before behind → ⊥) place
IsAnswer Is tokens (Err (NotSupported place)) = HasFault Is tokens (IsUnsupported Is) place
IsAnswer Is tokens (Err (TooDeep place)) = GoesTooDeep Is tokens place
IsAnswer Is tokens (Err OutOfMemory) = Unit {0}

-- A statement that sets tables up.
abbrev pub SetsUp : Statement → Type 0
SetsUp (Create tree) = Unit {0}
SetsUp (Insert tree) = Unit {0}
SetsUp tree = ⊥

-- An answer other than want of memory.
pub record HasAnswer {A : Type 0} (Is : Form A) (tokens : List Token) : Type 0 where
  pub answer : Result A ParseFault
  pub is : IsAnswer Is tokens answer
  pub known : answer ≢ Err OutOfMemory
