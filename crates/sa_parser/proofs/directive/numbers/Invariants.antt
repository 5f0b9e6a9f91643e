-- The numbers that are left are read in the turns that are left.
use Rattle.std.proofs.Common.{◌≡◌, ◌-◌, [], ◌∷◌, ◌++◌}
use Rattle.sa_parser.specs.inner.Reading.{more}
use Rattle.sa_parser.specs.inner.DirectiveReading.{sees_number, placed_number, numbers}
use Rattle.sa_parser.proofs.directive.numbers.Given as goal

abbrev pub invariant-loop-turn : goal.invariant-loop-turn
invariant-loop-turn l =
    numbers l.fn.cursor ≡ more sees_number (λ found next. found ++ next ∷ []) placed_number (l._turn-end - l._turn) l.numbers l.cursor
