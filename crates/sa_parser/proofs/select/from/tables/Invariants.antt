-- The tables that are left are read in the turns that are left.
use Rattle.std.proofs.Common.{◌≡◌, ◌-◌, ◌++◌}
use Rattle.sa_lexer.specs.declared.sign.Sign.TheVariants as signs
use Rattle.sa_parser.specs.declared.rule.Rule.TheVariants as rules
use Rattle.sa_parser.specs.inner.ExprReading.{nested_read}
use Rattle.sa_parser.specs.inner.Reading.{more, sees_sign, sign, ◌<$>◌, ◌<*>◌}
use Rattle.sa_parser.specs.inner.SelectReading.{joined, tables}
use Rattle.sa_parser.proofs.select.from.tables.Given as goal

abbrev pub invariant-loop-turn : goal.invariant-loop-turn
invariant-loop-turn l =
    let expr = nested_read l.fn.levels rules.Expression in
    let next = (λ _ next. next) <$> sign signs.Comma <*> joined expr in
    tables expr l.fn.cursor ≡ more (sees_sign signs.Comma) (λ tables next. tables ++ next) next (l._turn-end - l._turn) l.tables l.cursor
