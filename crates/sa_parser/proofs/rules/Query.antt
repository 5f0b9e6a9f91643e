-- A query whose expressions nest so deep.
use Rattle.std.proofs.Common.{ℕ, suc, ◌≤◌}
use Rattle.sa_parser.specs.declared.rule.Rule.TheVariants as rule
use Rattle.sa_parser.specs.ExprGrammar.{nested}
use Rattle.sa_parser.specs.inner.ExprReading.{nested_read}
use Rattle.sa_parser.specs.SelectGrammar.{Select}
use Rattle.sa_parser.specs.inner.SelectReading.{select}
use Rattle.sa_parser.proofs.LooksAhead.{Suffices}
use Rattle.sa_parser.proofs.rules.Agrees.{Agrees}
use Rattle.sa_parser.proofs.rules.AgreesIf.{AgreesIf, sure-Agrees}
use Rattle.sa_parser.proofs.rules.Column.{dotted-Suffices}
use Rattle.sa_parser.proofs.rules.Columns.{nested-Suffices}
use Rattle.sa_parser.proofs.rules.Item.{dotted}
use Rattle.sa_parser.proofs.rules.Nested.{nested-Agrees}
use Rattle.sa_parser.proofs.rules.Select.{select_shape, select-AgreesIf}
use Rattle.sa_parser.proofs.rules.TableStar.{nested-Refuses}

pub query-AgreesIf : (levels more : ℕ) → levels ≤ more
    → AgreesIf (Suffices dotted (nested levels rule.Expression)) (Select (nested levels rule.Expression)) (Select (nested (suc levels) rule.Expression)) select_shape
    (suc levels) (select (nested_read levels rule.Expression)) (select (nested_read more rule.Expression))
query-AgreesIf levels more few = select-AgreesIf (nested-Agrees levels more few rule.Expression) (nested-Refuses levels)

-- Without a level no column is an expression, and the reader fails at the name of `t.*`.
pub query-Agrees : (levels more : ℕ) → suc levels ≤ more
    → Agrees (Select (nested (suc levels) rule.Expression)) (Select (nested (suc (suc levels)) rule.Expression)) select_shape
    (suc (suc levels)) (select (nested_read (suc levels) rule.Expression)) (select (nested_read more rule.Expression))
query-Agrees levels more few = sure-Agrees (query-AgreesIf (suc levels) more few) (nested-Suffices dotted-Suffices levels rule.Expression)
