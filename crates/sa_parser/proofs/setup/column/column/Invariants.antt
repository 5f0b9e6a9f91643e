-- The options that are left are read in the turns that are left.
use Rattle.std.proofs.Common.{◌≡◌, ◌-◌}
use Rattle.sa_parser.specs.inner.Reading.{more}
use Rattle.sa_parser.specs.SetupTree.{with_option}
use Rattle.sa_parser.specs.inner.SetupReading.{column, option, sees_option}
use Rattle.sa_parser.proofs.setup.column.column.Given as goal

abbrev pub invariant-loop-turn : goal.invariant-loop-turn
invariant-loop-turn l = column l.fn.cursor ≡ more sees_option with_option option (l._turn-end - l._turn) l.column l.cursor
