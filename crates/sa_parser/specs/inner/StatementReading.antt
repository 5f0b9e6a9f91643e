-- How a session's statement is read.
use Rattle.std.specs.Prelude.{ℕ, ◌+◌, ◌^◌, Bool, false, ◌&&◌, ◌||◌, List, ◌∷◌, codes, Option}
use Rattle.sa_lexer.specs.declared.sign.Sign.TheVariants as signs
use Rattle.sa_lexer.specs.declared.token.Token.{Token}
use Rattle.sa_ast.specs.declared.expression.ExprTree.{ExprTree}
use Rattle.sa_ast.specs.declared.kind.AskKind.{AskKind}
use Rattle.sa_ast.specs.declared.kind.AskKind.TheVariants as ask
use Rattle.sa_ast.specs.declared.kind.KillKind.{KillKind}
use Rattle.sa_ast.specs.declared.kind.KillKind.TheVariants as killed
use Rattle.sa_ast.specs.declared.statement.Statement.{Statement}
use Rattle.sa_ast.specs.declared.statement.Statement.TheVariants as said
use Rattle.sa_parser.specs.declared.rule.Rule.TheVariants as rule
use Rattle.sa_parser.specs.Token.{is_word, is_sign}
use Rattle.sa_parser.specs.SelectTree.{or_else}
use Rattle.sa_parser.specs.inner.Reading.{Reader, one, either, perhaps, ◌<$>◌, ◌<*>◌, word, sign, number, number_below, sees_word}
use Rattle.sa_parser.specs.inner.ExprReading.{nested_read}
use Rattle.sa_parser.specs.inner.SelectReading.{select}
use Rattle.sa_parser.specs.StatementGrammar.{switch_in, steps_in}

unfoldable pub format : Reader (Option ℕ)
format = perhaps (sees_word (codes "FORMAT"))
    ((λ place _ _. place) <$> word (codes "FORMAT") <*> sign signs.Equal <*> word (codes "JSON"))

unfoldable pub for_connection : Reader Statement
for_connection = (λ _ _ id. said.Show ask.Explain id) <$> word (codes "FOR") <*> word
    (codes "CONNECTION") <*> number

unfoldable pub explain : Reader ExprTree → Reader Statement
explain expr =
    (λ _ _ statement. statement) <$> word (codes "EXPLAIN") <*> format <*>
    either (sees_word (codes "FOR")) for_connection (said.Explain <$> select expr)

unfoldable pub analyze : Reader ExprTree → Reader Statement
analyze expr = (λ _ _ tree. said.Analyze tree) <$> word (codes "ANALYZE") <*> format <*> select expr

unfoldable pub ask_kind : Reader AskKind
ask_kind = either (sees_word (codes "EXPLAIN")) ((λ _. ask.Explain) <$> word (codes "EXPLAIN"))
    ((λ _. ask.Analyze) <$> word (codes "ANALYZE"))

unfoldable pub show : Reader Statement
show = (λ _ kind _ _ id. said.Show kind id) <$> word (codes "SHOW") <*> ask_kind <*> format <*> word
    (codes "FOR") <*> number

-- whether CONNECTION or QUERY comes next
abbrev pub sees_kill_kind : List Token → Bool
sees_kill_kind tokens = sees_word (codes "CONNECTION") tokens || sees_word (codes "QUERY") tokens

unfoldable pub kill_kind : Reader KillKind
kill_kind =
    either (sees_word (codes "CONNECTION")) ((λ _. killed.Connection) <$> word (codes "CONNECTION"))
    ((λ _. killed.Query) <$> word (codes "QUERY"))

unfoldable pub kill : Reader Statement
kill = (λ _ kind id. said.Kill (or_else killed.Connection kind) id) <$> word
    (codes "KILL") <*> perhaps sees_kill_kind kill_kind <*> number

unfoldable pub set_trace : Reader Statement
set_trace = (λ _ _ on. said.SetTrace on) <$> word
    (codes "optimizer_trace") <*> sign signs.Equal <*> one switch_in

unfoldable pub set_limit : Reader Statement
set_limit = (λ _ _ steps. said.SetLimit steps) <$> word
    (codes "max_row_steps") <*> sign signs.Equal <*> one steps_in

unfoldable pub set : Reader Statement
set =
    (λ _ _ statement. statement) <$> word (codes "SET") <*> perhaps (sees_word (codes "SESSION"))
    (word (codes "SESSION"))
    <*> either (sees_word (codes "optimizer_trace")) set_trace set_limit

-- whether the tokens are those of the trace up to its dot
unfoldable pub sees_trace : List Token → Bool
sees_trace (first ∷ second ∷ third ∷ fourth ∷ fifth ∷ rest) =
    is_word (codes "SELECT") first.kind
    && (is_sign signs.Star second.kind && (is_word (codes "FROM") third.kind
    && (is_word (codes "information_schema") fourth.kind && is_sign signs.Dot fifth.kind)))
sees_trace tokens = false

unfoldable pub trace_rows : Reader Statement
trace_rows =
    (λ _ _ _ _ _ _. said.TraceRows) <$> word (codes "SELECT") <*> sign signs.Star <*> word
    (codes "FROM")
    <*> word (codes "information_schema") <*> sign signs.Dot <*> word (codes "optimizer_trace")

unfoldable pub wait : Reader Statement
wait = (λ _ _ id _ at. said.Wait id at) <$> word (codes "WAIT") <*> word
    (codes "FOR") <*> number <*> word (codes "AT") <*> number_below (2 ^ 40 + 1)

unfoldable pub statement_read : ℕ → Reader Statement
statement_read levels =
    either sees_trace trace_rows
    (either (sees_word (codes "SELECT")) (said.Select <$> select (nested_read levels rule.Expression))
    (either (sees_word (codes "EXPLAIN")) (explain (nested_read levels rule.Expression))
    (either (sees_word (codes "ANALYZE")) (analyze (nested_read levels rule.Expression))
    (either (sees_word (codes "SHOW")) show
    (either (sees_word (codes "KILL")) kill (either (sees_word (codes "SET")) set wait))))))
