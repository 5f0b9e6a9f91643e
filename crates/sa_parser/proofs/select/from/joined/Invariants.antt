-- The joined tables that are left are read in the turns that are left.
use Rattle.std.proofs.Common.{◌≡◌, ◌-◌, [], ◌∷◌, ◌++◌, codes}
use Rattle.sa_parser.specs.declared.rule.Rule.TheVariants as rules
use Rattle.sa_parser.specs.inner.ExprReading.{nested_read}
use Rattle.sa_parser.specs.inner.Reading.{more, perhaps, after, sees_word, ◌<$>◌, ◌<*>◌}
use Rattle.sa_parser.specs.inner.SelectReading.{joined, join, table, sees_join}
use Rattle.sa_parser.specs.SelectTree.{joined_table}
use Rattle.sa_parser.proofs.select.from.joined.Given as goal

abbrev pub invariant-loop-turn : goal.invariant-loop-turn
invariant-loop-turn l =
    let expr = nested_read l.fn.levels rules.Expression in
    let next = joined_table <$> join <*> table <*> perhaps (sees_word (codes "ON")) (after (codes "ON") expr) in
    joined expr l.fn.cursor ≡ more sees_join (λ tables next. tables ++ next ∷ []) next (l._turn-end - l._turn) l.tables l.cursor
