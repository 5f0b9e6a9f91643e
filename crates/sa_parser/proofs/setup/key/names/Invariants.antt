-- The names that are left are read in the turns that are left.
use Rattle.std.proofs.Common.{◌≡◌, ◌-◌, [], ◌∷◌, ◌++◌}
use Rattle.sa_lexer.specs.declared.sign.Sign.TheVariants as signs
use Rattle.sa_parser.specs.inner.Reading.{commas, more, sees_sign, sign, ◌<$>◌, ◌<*>◌}
use Rattle.sa_parser.specs.inner.SetupReading.{name_text}
use Rattle.sa_parser.proofs.setup.key.names.Given as goal

abbrev pub invariant-loop-turn : goal.invariant-loop-turn
invariant-loop-turn l =
    let next = (λ _ next. next) <$> sign signs.Comma <*> name_text in
    commas name_text l.fn.cursor ≡ more (sees_sign signs.Comma) (λ found next. found ++ next ∷ []) next (l._turn-end - l._turn) l.names l.cursor
