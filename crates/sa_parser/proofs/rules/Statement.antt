-- A session's statement, over the law of its queries.
use Rattle.std.proofs.Common.{ℕ, codes, [], refl}
use Rattle.sa_lexer.specs.declared.sign.Sign.TheVariants as signs
use Rattle.sa_ast.specs.declared.expression.ExprTree.{ExprTree}
use Rattle.sa_ast.specs.declared.statement.Statement.{Statement}
use Rattle.sa_ast.specs.declared.statement.Statement.TheVariants as said
use Rattle.sa_parser.specs.Form.{Form, Made, Either}
use Rattle.sa_parser.specs.inner.Reading.{Reader, made, either, sees_word}
use Rattle.sa_parser.specs.Token.{is_word, is_sign}
use Rattle.sa_parser.specs.SelectGrammar.{Select}
use Rattle.sa_parser.specs.inner.SelectReading.{select}
use Rattle.sa_parser.specs.StatementGrammar.{TraceRows, Explain, Analyze, Show, Kill, Set, Wait}
use Rattle.sa_parser.specs.inner.StatementReading.{sees_trace, trace_rows, explain, analyze, show, kill, set, wait}
use Rattle.sa_parser.proofs.Heads.{Heads, only_word, only_sign, apart, within, has}
use Rattle.sa_parser.proofs.Law.{Shape}
use Rattle.sa_parser.proofs.Looks.{sees_word-Looks}
use Rattle.sa_parser.proofs.LooksAhead.{Fails, Begins}
use Rattle.sa_parser.proofs.laws.Begins.{made-Suffices, first-Suffices, Suffices-Begins}
use Rattle.sa_parser.proofs.laws.Either.{either_shape, either-Deeper}
use Rattle.sa_parser.proofs.laws.EitherAhead.{either_ahead_shape, either_ahead-Law, either_ahead-Ahead}
use Rattle.sa_parser.proofs.laws.Fails.{Law-Fails, made-Fails, either-Fails}
use Rattle.sa_parser.proofs.laws.One.{one_shape}
use Rattle.sa_parser.proofs.rules.Agrees.{Agrees, either-Agrees}
use Rattle.sa_parser.proofs.rules.AgreesIf.{AgreesIf, always-AgreesIf, made-AgreesIf, either-AgreesIf}
use Rattle.sa_parser.proofs.rules.Commands.{show-Agrees, kill-Agrees, set-Agrees, wait-Agrees}
use Rattle.sa_parser.proofs.rules.Explains.{query_shape, explain-AgreesIf, analyze-AgreesIf}
use Rattle.sa_parser.proofs.rules.TraceQuery.{trace_query-Suffices}
use Rattle.sa_parser.proofs.rules.TraceRows.{trace_start, trace_tests, start_tokens, sees_trace-LooksAhead, trace-Agrees, trace-Passes, trace-Begins}

-- a statement that doesn't begin with SELECT
abbrev Other : Form ExprTree → Form Statement
Other Expr = Either (Explain Expr) (Either (Analyze Expr) (Either Show (Either Kill (Either Set Wait))))

abbrev other : Reader ExprTree → Reader Statement
other expr =
    either (sees_word (codes "EXPLAIN")) (explain expr)
    (either (sees_word (codes "ANALYZE")) (analyze expr)
    (either (sees_word (codes "SHOW")) show (either (sees_word (codes "KILL")) kill (either (sees_word (codes "SET")) set wait))))

-- a query, or a statement that doesn't begin with SELECT
abbrev Plain : Form ExprTree → Form Statement
Plain Expr = Either (Made said.Select (Select Expr)) (Other Expr)

abbrev plain : Reader ExprTree → Reader Statement
plain expr = either (sees_word (codes "SELECT")) (made said.Select (select expr)) (other expr)

-- a statement over the form of its expressions
abbrev pub Said : Form ExprTree → Form Statement
Said Expr = Either TraceRows (Plain Expr)

abbrev pub said_read : Reader ExprTree → Reader Statement
said_read expr = either sees_trace trace_rows (plain expr)

abbrev command_shape : Shape
command_shape = either_shape (one_shape (only_word (codes "SHOW")))
    (either_shape (one_shape (only_word (codes "KILL"))) (either_shape (one_shape (only_word (codes "SET"))) (one_shape (only_word (codes "WAIT")))))

abbrev other_shape : Heads → Shape
other_shape following = either_shape (query_shape (codes "EXPLAIN") following) (either_shape (query_shape (codes "ANALYZE") following) command_shape)

abbrev plain_shape : Heads → Shape
plain_shape following = either_shape (query_shape (codes "SELECT") following) (other_shape following)

-- a statement goes on with what a query goes on with, and the trace's name with a dot
abbrev pub said_shape : Heads → Shape
said_shape following = either_ahead_shape (only_sign signs.Dot) (one_shape (only_word (codes "SELECT"))) (plain_shape following)

-- the statements without a query
command-Agrees : {levels : ℕ} → Agrees (Either Show (Either Kill (Either Set Wait))) (Either Show (Either Kill (Either Set Wait))) command_shape levels
    (either (sees_word (codes "SHOW")) show (either (sees_word (codes "KILL")) kill (either (sees_word (codes "SET")) set wait)))
    (either (sees_word (codes "SHOW")) show (either (sees_word (codes "KILL")) kill (either (sees_word (codes "SET")) set wait)))
unfolding apart within
command-Agrees =
    either-Agrees (sees_word-Looks (codes "SHOW")) show-Agrees
    (either-Agrees (sees_word-Looks (codes "KILL")) kill-Agrees
    (either-Agrees (sees_word-Looks (codes "SET")) set-Agrees wait-Agrees refl refl refl refl) refl refl refl refl)
    refl refl refl refl

module _ {Sure : Type 0} (Expr WideExpr : Form ExprTree) (expr deeper : Reader ExprTree) {following : Heads} {levels : ℕ}
    (query : AgreesIf Sure (Select Expr) (Select WideExpr) (query_shape (codes "SELECT") following) levels (select expr) (select deeper)) where
  other-AgreesIf : AgreesIf Sure (Other Expr) (Other WideExpr) (other_shape following) levels (other expr) (other deeper)
  unfolding apart within
  other-AgreesIf =
      either-AgreesIf (sees_word-Looks (codes "EXPLAIN")) (explain-AgreesIf Expr WideExpr expr deeper query)
      (either-AgreesIf (sees_word-Looks (codes "ANALYZE")) (analyze-AgreesIf Expr WideExpr expr deeper query) (always-AgreesIf command-Agrees)
      refl refl refl refl)
      refl refl refl refl

  plain-AgreesIf : AgreesIf Sure (Plain Expr) (Plain WideExpr) (plain_shape following) levels (plain expr) (plain deeper)
  unfolding apart within
  plain-AgreesIf = either-AgreesIf (sees_word-Looks (codes "SELECT")) (made-AgreesIf _ query) other-AgreesIf refl refl refl refl

  plain-Fails : Fails trace_tests (only_sign signs.Dot) (Select Expr) → Fails trace_tests (only_sign signs.Dot) (Plain Expr)
  unfolding apart
  plain-Fails fails = either-Fails (made-Fails _ fails) (Law-Fails (only_word (codes "SELECT")) _ (only_sign signs.Dot) other-AgreesIf.law refl refl)

  plain-Begins : Begins trace_tests (Plain Expr)
  unfolding has is_word is_sign
  plain-Begins =
      Suffices-Begins trace_start [] (has (only_sign signs.Dot)) start_tokens (first-Suffices _ (made-Suffices _ (trace_query-Suffices Expr))) refl

  pub said-AgreesIf : Fails trace_tests (only_sign signs.Dot) (Select Expr)
      → AgreesIf Sure (Said Expr) (Said WideExpr) (said_shape following) levels (said_read expr) (said_read deeper)
  said-AgreesIf fails =
      let trace = trace-Agrees {levels = levels} in
      record {
        law = either_ahead-Law sees_trace-LooksAhead trace.law plain-AgreesIf.law trace-Passes (plain-Fails fails);
        ahead = λ sure. either_ahead-Ahead sees_trace-LooksAhead trace.law plain-AgreesIf.law trace-Begins plain-Begins trace.ahead (plain-AgreesIf.ahead sure);
        keeps = either-Deeper sees_trace trace.keeps plain-AgreesIf.keeps;
      }
