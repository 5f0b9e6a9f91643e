-- The values that are left are read in the turns that are left.
use Rattle.std.proofs.Common.{◌≡◌, ◌-◌, [], ◌∷◌, ◌++◌}
use Rattle.sa_lexer.specs.declared.sign.Sign.TheVariants as signs
use Rattle.sa_parser.specs.inner.Reading.{commas, more, sees_sign, sign, ◌<$>◌, ◌<*>◌}
use Rattle.sa_parser.specs.inner.SetupReading.{literal}
use Rattle.sa_parser.proofs.setup.literal.literals.Given as goal

abbrev pub invariant-loop-turn : goal.invariant-loop-turn
invariant-loop-turn l =
    let next = (λ _ next. next) <$> sign signs.Comma <*> literal in
    commas literal l.fn.cursor ≡ more (sees_sign signs.Comma) (λ found next. found ++ next ∷ []) next (l._turn-end - l._turn) l.values l.cursor
