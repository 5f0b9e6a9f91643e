-- What refusals, kinds and reasons are called in a journal's lines.
use Rattle.std.specs.Prelude.{ℕ, List, codes}
use Rattle.sa_lexer.specs.declared.fault.LexKind.{LexKind}
use Rattle.sa_lexer.specs.declared.fault.LexKind.TheVariants.{BadByte, OpenText, OpenComment, NumberTooLong, TextTooLong}
use Rattle.sa_ast.specs.declared.kind.AskKind.{AskKind}
use Rattle.sa_ast.specs.declared.kind.AskKind.TheVariants.{Explain, Analyze}
use Rattle.sa_ast.specs.declared.kind.KillKind.{KillKind}
use Rattle.sa_ast.specs.declared.kind.KillKind.TheVariants.{Query, Connection}
use Rattle.sa_query.specs.declared.refusal.ResolveKind.{ResolveKind}
use Rattle.sa_query.specs.declared.refusal.ResolveKind.TheVariants as resolve
use Rattle.sa_desk.specs.declared.entry.RefusedWhy.{RefusedWhy}
use Rattle.sa_desk.specs.declared.entry.RefusedWhy.TheVariants as why

abbrev pub lex_name : LexKind → List ℕ
lex_name BadByte = codes "BadByte"
lex_name OpenText = codes "OpenText"
lex_name OpenComment = codes "OpenComment"
lex_name NumberTooLong = codes "NumberTooLong"
lex_name TextTooLong = codes "TextTooLong"

abbrev pub resolve_name : ResolveKind → List ℕ
resolve_name resolve.UnknownTable = codes "UnknownTable"
resolve_name resolve.UnknownColumn = codes "UnknownColumn"
resolve_name resolve.Ambiguous = codes "Ambiguous"
resolve_name resolve.DuplicateAlias = codes "DuplicateAlias"
resolve_name resolve.TypeMismatch = codes "TypeMismatch"
resolve_name resolve.ExprRange = codes "ExprRange"
resolve_name resolve.GroupRule = codes "GroupRule"
resolve_name resolve.TooManyTables = codes "TooManyTables"
resolve_name resolve.TooManyItems = codes "TooManyItems"
resolve_name resolve.TooManyConstants = codes "TooManyConstants"

abbrev pub ask_name : AskKind → List ℕ
ask_name Explain = codes "explain"
ask_name Analyze = codes "analyze"

abbrev pub kill_name : KillKind → List ℕ
kill_name Query = codes "query"
kill_name Connection = codes "connection"

abbrev pub why_name : RefusedWhy → List ℕ
why_name why.NotExplainable = codes "NotExplainable"
why_name why.NoSuchThread = codes "NoSuchThread"
