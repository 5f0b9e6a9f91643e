-- Statements at every level of their expressions.
use Rattle.std.proofs.Common.{◌≤◌, ℕ, suc, arith}
use Rattle.sa_parser.specs.declared.rule.Rule.TheVariants as rule
use Rattle.sa_parser.specs.ExprGrammar.{nested}
use Rattle.sa_parser.specs.inner.ExprReading.{nested_read}
use Rattle.sa_parser.specs.StatementGrammar.{statement}
use Rattle.sa_parser.specs.inner.StatementReading.{statement_read}
use Rattle.sa_parser.proofs.Law.{Shape, Law, Ahead, Deeper}
use Rattle.sa_parser.proofs.LooksAhead.{Suffices}
use Rattle.sa_parser.proofs.rules.AgreesIf.{AgreesIf}
use Rattle.sa_parser.proofs.rules.AnyLevel.{Levelled}
use Rattle.sa_parser.proofs.rules.Column.{dotted-Suffices}
use Rattle.sa_parser.proofs.rules.Columns.{nested-Suffices}
use Rattle.sa_parser.proofs.rules.Item.{dotted}
use Rattle.sa_parser.proofs.rules.Nested.{nested-Agrees}
use Rattle.sa_parser.proofs.rules.Query.{query-AgreesIf}
use Rattle.sa_parser.proofs.rules.Select.{select_shape}
use Rattle.sa_parser.proofs.rules.Statement.{said_shape, said-AgreesIf}
use Rattle.sa_parser.proofs.rules.TableStar.{nested-Refuses}
use Rattle.sa_parser.proofs.rules.TraceFails.{trace_query-Fails}

abbrev pub statement_shape : Shape
statement_shape = said_shape select_shape.goes_on

statement-AgreesIf : (levels more : ℕ) → levels ≤ more
    → AgreesIf (Suffices dotted (nested levels rule.Expression)) (statement levels) (statement (suc levels)) statement_shape (suc levels)
    (statement_read levels) (statement_read more)
unfolding statement statement_read
statement-AgreesIf levels more few =
    said-AgreesIf (nested levels rule.Expression) (nested (suc levels) rule.Expression) (nested_read levels rule.Expression) (nested_read more rule.Expression)
    (query-AgreesIf levels more few) (trace_query-Fails (nested-Agrees levels more few rule.Expression) (nested-Refuses levels))

pub statement-Law : (levels : ℕ) → Law (statement levels) (statement (suc levels)) statement_shape (statement_read levels)
statement-Law levels = (statement-AgreesIf levels levels (omega arith)).law

-- Without a level no column is an expression, and the reader fails at the name of `t.*`, where it would go on if it saw the star.
pub statement-Ahead : (levels : ℕ) → Ahead (statement_read (suc levels))
statement-Ahead levels =
    (statement-AgreesIf (suc levels) (suc levels) (omega arith)).ahead (nested-Suffices dotted-Suffices levels rule.Expression)

pub statement-Deeper : (levels more : ℕ) → levels ≤ more → Deeper (suc levels) (statement_read levels) (statement_read more)
statement-Deeper levels more few = (statement-AgreesIf levels more few).keeps

pub statement-Levelled : Levelled statement statement_shape statement_read
statement-Levelled = record { law = statement-Law; ahead = statement-Ahead; keeps = statement-Deeper }
