-- What ENGINE says is read in the turns that are left.
use Rattle.std.proofs.Common.{◌≡◌, ◌-◌, codes}
use Rattle.sa_parser.specs.inner.Reading.{more, sees_word}
use Rattle.sa_parser.specs.inner.SetupReading.{create, engine}
use Rattle.sa_parser.proofs.setup.create.create.Given as goal

abbrev pub invariant-loop-turn : goal.invariant-loop-turn
invariant-loop-turn l =
    create l.fn.cursor ≡ more (sees_word (codes "ENGINE")) (λ tree _. tree) engine (l._turn-end - l._turn) l.tree l.cursor
