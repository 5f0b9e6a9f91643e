-- The canonical text of a statement.
use Rattle.std.specs.Prelude.{ℕ, Bool, List, [], ◌++◌, codes, if◌then◌else◌, ⊤}
use Rattle.std.specs.Fmt.{decimal}
use Rattle.sa_ast.specs.declared.kind.AskKind.{AskKind}
use Rattle.sa_ast.specs.declared.kind.AskKind.TheVariants as ask
use Rattle.sa_ast.specs.declared.kind.KillKind.{KillKind}
use Rattle.sa_ast.specs.declared.kind.KillKind.TheVariants as killed
use Rattle.sa_ast.specs.declared.statement.Statement.{Statement}
use Rattle.sa_ast.specs.declared.statement.Statement.TheVariants.{Select, Explain, Analyze, Show, Kill, SetTrace, SetLimit, TraceRows, Wait, Create, Insert}
use Rattle.sa_print.specs.Select.{canonical_select}

-- A statement of a session has a canonical text. One that sets tables up has none.
abbrev pub HasText : Statement → Type 0
HasText (Create tree) = ⊥
HasText (Insert tree) = ⊥
HasText statement = ⊤

-- what is asked for
abbrev pub ask_word : AskKind → List ℕ
ask_word ask.Explain = codes "EXPLAIN"
ask_word ask.Analyze = codes "ANALYZE"

-- what is ended
abbrev pub kill_word : KillKind → List ℕ
kill_word killed.Query = codes "QUERY"
kill_word killed.Connection = codes "CONNECTION"

abbrev pub switch_word : Bool → List ℕ
switch_word on = if on then codes "on" else codes "off"

-- A statement.
abbrev pub canonical_statement : Statement → List ℕ
canonical_statement (Select tree) = canonical_select tree
canonical_statement (Explain tree) = codes "EXPLAIN " ++ canonical_select tree
canonical_statement (Analyze tree) = codes "ANALYZE " ++ canonical_select tree
canonical_statement (Show kind id) = codes "SHOW " ++ ask_word kind ++ codes " FOR " ++ decimal id
canonical_statement (Kill kind id) = codes "KILL " ++ kill_word kind ++ codes " " ++ decimal id
canonical_statement (SetTrace on) =
    codes "SET optimizer_trace = 'enabled=" ++ switch_word on ++ codes "'"
canonical_statement (SetLimit steps) = codes "SET max_row_steps = " ++ decimal steps
canonical_statement TraceRows = codes "SELECT * FROM information_schema.optimizer_trace"
canonical_statement (Wait id at) = codes "WAIT FOR " ++ decimal id ++ codes " AT " ++ decimal at
canonical_statement (Create tree) = []
canonical_statement (Insert tree) = []
