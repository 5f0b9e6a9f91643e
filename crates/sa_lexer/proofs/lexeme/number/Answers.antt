use Rattle.std.proofs.Common.{ℕ, subst, sym}
use Rattle.std.proofs.Math.Nat.{sub-zero}
use Rattle.std.specs.Str.{IsCharBoundary}
use Rattle.sa_lexer.proofs.Cuts.{after_digits}
use Rattle.sa_lexer.proofs.Runs.{digits_of_run}
use Rattle.sa_lexer.proofs.lexeme.number.Goals as goal

pub range-requires-clause-end_boundary : goal.range-requires-clause-end_boundary
range-requires-clause-end_boundary c =
    subst (λ (n : ℕ). IsCharBoundary c.args.rest.now n) (sym c.run_of_digits-len.ensures) (after_digits c.args.rest.now c.utf8.rest)

pub value_of-number-requires-clause-digits : goal.value_of-number-requires-clause-digits
value_of-number-requires-clause-digits c = rw (c.range.ensures.value, c.run_of_digits-len.ensures, sub-zero) (digits_of_run c.args.rest.now)
