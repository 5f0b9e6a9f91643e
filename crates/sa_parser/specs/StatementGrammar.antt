-- The grammar of a session's statements.
-- Source: MariaDB Knowledge Base, "EXPLAIN", "ANALYZE Statement", "SHOW EXPLAIN", "SHOW ANALYZE", "KILL
-- [CONNECTION | QUERY]", "SET", "Optimizer Trace". WAIT is this product's own.
use Rattle.std.specs.Prelude.{ℕ, ◌+◌, ◌^◌, Bool, true, false, codes, if◌then◌else◌, nat_lt, Option, Some, None}
use Rattle.std.specs.Str.{bytes_eq}
use Rattle.sa_lexer.specs.declared.sign.Sign.TheVariants as signs
use Rattle.sa_lexer.specs.declared.token.Token.{Token}
use Rattle.sa_lexer.specs.declared.token.TokenKind.{TokenKind}
use Rattle.sa_lexer.specs.declared.token.TokenKind.TheVariants.{Text}
use Rattle.sa_ast.specs.declared.expression.ExprTree.{ExprTree}
use Rattle.sa_ast.specs.declared.kind.AskKind.TheVariants as ask
use Rattle.sa_ast.specs.declared.kind.KillKind.TheVariants as killed
use Rattle.sa_ast.specs.declared.statement.Statement.{Statement}
use Rattle.sa_ast.specs.declared.statement.Statement.TheVariants as said
use Rattle.sa_parser.specs.declared.rule.Rule.TheVariants as rule
use Rattle.sa_parser.specs.Token.{number_of}
use Rattle.sa_parser.specs.SelectTree.{or_else}
use Rattle.sa_parser.specs.Form.{Form, One, Perhaps, ◌<$>◌, ◌<*>◌, ◌<|>◌, Word, Sign, Number, NumberBelow}
use Rattle.sa_parser.specs.ExprGrammar.{nested}
use Rattle.sa_parser.specs.SelectGrammar.{Select}

-- `FORMAT = JSON`, which may be left out
unfoldable pub Format : Form (Option ℕ)
Format = Perhaps
    ((λ place _ _. place) <$> Word (codes "FORMAT") <*> Sign signs.Equal <*> Word (codes "JSON"))

-- what switches the trace on or off
unfoldable pub switch_of : TokenKind → Option Bool
switch_of (Text text) =
    if bytes_eq text (codes "enabled=on") then Some true
    else (if bytes_eq text (codes "enabled=off") then Some false else None)
switch_of kind = None

abbrev pub switch_in : Token → Option Bool
switch_in token = switch_of token.kind

abbrev pub positive : Option ℕ → Option ℕ
positive None = None
positive (Some number) = if nat_lt 0 number then Some number else None

-- a number of row steps, from 1 to 2^40
unfoldable pub steps_in : Token → Option ℕ
steps_in token = positive (number_of (2 ^ 40 + 1) token.kind)

unfoldable pub Explain : Form ExprTree → Form Statement
Explain Expr =
    (λ _ _ statement. statement) <$> Word (codes "EXPLAIN") <*> Format <*>
    ((λ _ _ id. said.Show ask.Explain id) <$> Word (codes "FOR") <*> Word
    (codes "CONNECTION") <*> Number <|> said.Explain <$> Select Expr)

unfoldable pub Analyze : Form ExprTree → Form Statement
Analyze Expr = (λ _ _ tree. said.Analyze tree) <$> Word (codes "ANALYZE") <*> Format <*> Select Expr

unfoldable pub Show : Form Statement
Show =
    (λ _ kind _ _ id. said.Show kind id) <$> Word (codes "SHOW")
    <*> ((λ _. ask.Explain) <$> Word (codes "EXPLAIN") <|> (λ _. ask.Analyze) <$> Word
    (codes "ANALYZE"))
    <*> Format <*> Word (codes "FOR") <*> Number

-- KILL alone ends the session.
unfoldable pub Kill : Form Statement
Kill =
    (λ _ kind id. said.Kill (or_else killed.Connection kind) id) <$> Word (codes "KILL")
    <*> Perhaps
    ((λ _. killed.Connection) <$> Word (codes "CONNECTION") <|> (λ _. killed.Query) <$> Word
    (codes "QUERY"))
    <*> Number

unfoldable pub Set : Form Statement
Set =
    (λ _ _ statement. statement) <$> Word (codes "SET") <*> Perhaps (Word (codes "SESSION")) <*>
    ((λ _ _ on. said.SetTrace on) <$> Word
    (codes "optimizer_trace") <*> Sign signs.Equal <*> One switch_in
    <|> (λ _ _ steps. said.SetLimit steps) <$> Word
    (codes "max_row_steps") <*> Sign signs.Equal <*> One steps_in)

unfoldable pub TraceRows : Form Statement
TraceRows =
    (λ _ _ _ _ _ _. said.TraceRows) <$> Word (codes "SELECT") <*> Sign signs.Star <*> Word
    (codes "FROM")
    <*> Word (codes "information_schema") <*> Sign signs.Dot <*> Word (codes "optimizer_trace")

unfoldable pub Wait : Form Statement
Wait = (λ _ _ id _ at. said.Wait id at) <$> Word (codes "WAIT") <*> Word
    (codes "FOR") <*> Number <*> Word (codes "AT") <*> NumberBelow (2 ^ 40 + 1)

-- a statement of a session, with expressions that nest so deep
unfoldable pub statement : ℕ → Form Statement
statement levels =
    TraceRows <|>
    (said.Select <$> Select (nested levels rule.Expression) <|>
    (Explain (nested levels rule.Expression)
    <|> (Analyze (nested levels rule.Expression) <|> (Show <|> (Kill <|> (Set <|> Wait))))))
