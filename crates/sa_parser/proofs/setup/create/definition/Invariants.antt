-- The parts that are left are read in the turns that are left.
use Rattle.std.proofs.Common.{◌≡◌, ◌-◌}
use Rattle.sa_lexer.specs.declared.sign.Sign.TheVariants as signs
use Rattle.sa_parser.specs.inner.Reading.{more, sees_sign, sign, ◌<$>◌, ◌<*>◌}
use Rattle.sa_parser.specs.SetupTree.{with_part}
use Rattle.sa_parser.specs.inner.SetupReading.{definition, part}
use Rattle.sa_parser.proofs.setup.create.definition.Given as goal

abbrev pub invariant-loop-turn : goal.invariant-loop-turn
invariant-loop-turn l =
    let next = (λ _ next. next) <$> sign signs.Comma <*> part in
    definition l.fn.cursor ≡ more (sees_sign signs.Comma) with_part next (l._turn-end - l._turn) l.parts l.cursor
