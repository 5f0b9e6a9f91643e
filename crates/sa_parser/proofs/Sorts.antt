-- A session's statement is none that sets tables up, and the other way round: what is so of every value of a form.
use Rattle.std.proofs.Common.{ℕ, List, subst, sym, Bool, Option, inl, inr, Result, Ok, Err, IfOk}
use Rattle.sa_lexer.specs.declared.token.Token.{Token}
use Rattle.sa_ast.specs.declared.expression.ExprTree.{ExprTree}
use Rattle.sa_ast.specs.declared.kind.AskKind.{AskKind}
use Rattle.sa_ast.specs.declared.kind.KillKind.{KillKind}
use Rattle.sa_ast.specs.declared.select.SelectTree.{SelectTree}
use Rattle.sa_ast.specs.declared.statement.Statement.{Statement}
use Rattle.sa_ast.specs.declared.statement.Statement.TheVariants as said
use Rattle.sa_print.specs.Statement.{HasText}
use Rattle.sa_parser.specs.Form.{Form, Made, Then, Either}
use Rattle.sa_parser.specs.StatementGrammar.{Explain, Analyze, Show, Kill, Set, TraceRows, Wait, statement}
use Rattle.sa_parser.specs.SetupGrammar.{setup}
use Rattle.sa_parser.specs.declared.answer.ParseFault.{ParseFault}
use Rattle.sa_parser.specs.Parse.{IsStatement, IsSetup, IsAnswer, SetsUp}

-- every value of the form is so
abbrev Each : {A : Type 0} → Form A → (A → Type 0) → Type 0
Each {A} Is So = (tokens : List Token) (value : A) → Is tokens value → So value

-- so is what is made of a value
made-each : {A B : Type 0} (So : B → Type 0) (make : A → B) (Is : Form A) → Each Is (λ part. So (make part)) → Each (Made make Is) So
unfolding Made
made-each So make Is each tokens value is = subst So (sym is.2) (each tokens is.0 is.1)

then-each : {A B : Type 0} (So : B → Type 0) (First : Form (A → B)) (Second : Form A) → Each First (λ make. (part : A) → So (make part)) → Each (Then First Second) So
unfolding Then
then-each So First Second each tokens value is = subst So (sym is.7) (each is.0 is.2 is.5 is.3)

-- where what is so of the second part is so of the whole
then-each_second : {A B : Type 0} (So : B → Type 0) (First : Form (A → B)) (Second : Form A) (Part : A → Type 0)
    → Each First (λ make. (part : A) → Part part → So (make part)) → Each Second Part → Each (Then First Second) So
unfolding Then
then-each_second So First Second Part each parts tokens value is = subst So (sym is.7) (each is.0 is.2 is.5 is.3 (parts is.1 is.3 is.6))

either-each : {A : Type 0} (So : A → Type 0) (First Second : Form A) → Each First So → Each Second So → Each (Either First Second) So
unfolding Either
either-each So First Second first second tokens value is = elim is [ inl h ↦ first tokens value h | inr h ↦ second tokens value h ]

trace-text : Each TraceRows HasText
unfolding TraceRows
trace-text =
    then-each _ _ _ (then-each (λ make. (f : ℕ) → HasText (make f)) _ _ (then-each (λ make. (e f : ℕ) → HasText (make e f)) _ _
    (then-each (λ make. (d e f : ℕ) → HasText (make d e f)) _ _ (then-each (λ make. (c d e f : ℕ) → HasText (make c d e f)) _ _
    (made-each (λ make. (b c d e f : ℕ) → HasText (make b c d e f)) _ _ (λ tokens part is b c d e f. tt))))))

explain-text : (Expr : Form ExprTree) → Each (Explain Expr) HasText
unfolding Explain
explain-text Expr =
    then-each_second HasText _ _ HasText
    (then-each (λ make. (part : Statement) → HasText part → HasText (make part)) _ _
    (made-each (λ make. (format : Option ℕ) (part : Statement) → HasText part → HasText (make format part)) _ _ (λ tokens part is format statement so. so)))
    (either-each HasText _ _
    (then-each HasText _ _ (then-each (λ make. (id : ℕ) → HasText (make id)) _ _
    (made-each (λ make. (connection id : ℕ) → HasText (make connection id)) _ _ (λ tokens part is connection id. tt))))
    (made-each HasText said.Explain _ (λ tokens part is. tt)))

analyze-text : (Expr : Form ExprTree) → Each (Analyze Expr) HasText
unfolding Analyze
analyze-text Expr =
    then-each HasText _ _ (then-each (λ make. (tree : SelectTree) → HasText (make tree)) _ _
    (made-each (λ make. (format : Option ℕ) (tree : SelectTree) → HasText (make format tree)) _ _ (λ tokens part is format tree. tt)))

show-text : Each Show HasText
unfolding Show
show-text =
    then-each HasText _ _ (then-each (λ make. (id : ℕ) → HasText (make id)) _ _
    (then-each (λ make. (for id : ℕ) → HasText (make for id)) _ _
    (then-each (λ make. (format : Option ℕ) (for id : ℕ) → HasText (make format for id)) _ _
    (made-each (λ make. (kind : AskKind) (format : Option ℕ) (for id : ℕ) → HasText (make kind format for id)) _ _ (λ tokens part is kind format for id. tt)))))

kill-text : Each Kill HasText
unfolding Kill
kill-text =
    then-each HasText _ _ (then-each (λ make. (id : ℕ) → HasText (make id)) _ _
    (made-each (λ make. (kind : Option KillKind) (id : ℕ) → HasText (make kind id)) _ _ (λ tokens part is kind id. tt)))

set-text : Each Set HasText
unfolding Set
set-text =
    then-each_second HasText _ _ HasText
    (then-each (λ make. (part : Statement) → HasText part → HasText (make part)) _ _
    (made-each (λ make. (session : Option ℕ) (part : Statement) → HasText part → HasText (make session part)) _ _ (λ tokens part is session statement so. so)))
    (either-each HasText _ _
    (then-each HasText _ _ (then-each (λ make. (on : Bool) → HasText (make on)) _ _
    (made-each (λ make. (equal : ℕ) (on : Bool) → HasText (make equal on)) _ _ (λ tokens part is equal on. tt))))
    (then-each HasText _ _ (then-each (λ make. (steps : ℕ) → HasText (make steps)) _ _
    (made-each (λ make. (equal steps : ℕ) → HasText (make equal steps)) _ _ (λ tokens part is equal steps. tt)))))

wait-text : Each Wait HasText
unfolding Wait
wait-text =
    then-each HasText _ _ (then-each (λ make. (at : ℕ) → HasText (make at)) _ _
    (then-each (λ make. (word at : ℕ) → HasText (make word at)) _ _
    (then-each (λ make. (id word at : ℕ) → HasText (make id word at)) _ _
    (made-each (λ make. (for id word at : ℕ) → HasText (make for id word at)) _ _ (λ tokens part is for id word at. tt)))))

-- a session's statement has a canonical text
pub statement-text : (tokens : List Token) (tree : Statement) → IsStatement tokens tree → HasText tree
unfolding statement
statement-text tokens tree is =
    either-each HasText _ _ trace-text (either-each HasText _ _ (made-each HasText said.Select _ (λ tokens part is. tt))
    (either-each HasText _ _ (explain-text _) (either-each HasText _ _ (analyze-text _) (either-each HasText _ _ show-text
    (either-each HasText _ _ kill-text (either-each HasText _ _ set-text wait-text)))))) tokens tree is.1

-- a statement of the set-up sets tables up
pub setup-sets_up : (tokens : List Token) (tree : Statement) → IsSetup tokens tree → SetsUp tree
unfolding setup
setup-sets_up tokens tree is =
    either-each SetsUp _ _ (made-each SetsUp said.Create _ (λ tokens part is. tt)) (made-each SetsUp said.Insert _ (λ tokens part is. tt)) tokens tree is

pub answer-text : (tokens : List Token) (answer : Result Statement ParseFault) → IsAnswer IsStatement tokens answer → IfOk answer HasText
answer-text tokens (Ok tree) is = statement-text tokens tree is.0
answer-text tokens (Err fault) is = tt

pub answer-sets_up : (tokens : List Token) (answer : Result Statement ParseFault) → IsAnswer IsSetup tokens answer → IfOk answer SetsUp
answer-sets_up tokens (Ok tree) is = setup-sets_up tokens tree is.0
answer-sets_up tokens (Err fault) is = tt
