-- The grammars: the statements of a session, those that set tables up, and the directives of a script.
use Rattle.std.specs.Prelude.{length}
use Rattle.sa_ast.specs.declared.directive.Directive.{Directive}
use Rattle.sa_ast.specs.declared.statement.Statement.{Statement}
use Rattle.sa_parser.specs.declared.grammar.Grammar.{Grammar}
use Rattle.sa_parser.specs.declared.grammar.Grammar.TheVariants.{Session, Setup, Script}
use Rattle.sa_parser.specs.Form.{Form}
use Rattle.sa_parser.specs.inner.Reading.{Reader}
use Rattle.sa_parser.specs.Parse.{IsStatement, IsSetup, IsDirective}
use Rattle.sa_parser.specs.inner.StatementReading.{statement_read}
use Rattle.sa_parser.specs.inner.SetupReading.{setup_read}
use Rattle.sa_parser.specs.inner.DirectiveReading.{directive_read}

-- what the tokens of a grammar are
abbrev pub tree_of : Grammar → Type 0
tree_of Session = Statement
tree_of Setup = Statement
tree_of Script = Directive

abbrev pub form_of : (grammar : Grammar) → Form (tree_of grammar)
form_of Session = IsStatement
form_of Setup = IsSetup
form_of Script = IsDirective

-- how they are read; as many levels as there are tokens are enough
abbrev pub read_by : (grammar : Grammar) → Reader (tree_of grammar)
read_by Session tokens = statement_read (length tokens) tokens
read_by Setup tokens = setup_read tokens
read_by Script tokens = directive_read tokens
