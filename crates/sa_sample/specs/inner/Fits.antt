-- The kinds that a test of a condition tells apart, and which of them may be compared.
use Rattle.std.specs.Prelude.{Bool, true, false}
use Rattle.sa_cond.specs.Interval.{ExprKind, number, sum, text, null, faulty}
use Rattle.sa_sample.specs.declared.kind.Kind.{Kind}
use Rattle.sa_sample.specs.declared.kind.Kind.TheVariants as kinds

-- an expression's kind without its interval
abbrev pub told : ExprKind → Kind
told (number interval) = kinds.Number
told sum = kinds.Sum
told text = kinds.Text
told null = kinds.Null
told faulty = kinds.Faulty

-- whether a kind is one of a value
abbrev pub proper : Kind → Bool
proper kinds.Faulty = false
proper kind = true

-- whether two kinds may be compared
abbrev pub fit : Kind → Kind → Bool
fit kinds.Faulty right = false
fit left kinds.Faulty = false
fit kinds.Text kinds.Number = false
fit kinds.Text kinds.Sum = false
fit kinds.Number kinds.Text = false
fit kinds.Sum kinds.Text = false
fit left right = true
