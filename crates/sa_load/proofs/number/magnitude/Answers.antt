use Rattle.std.proofs.Common.{get_or, refl, sym, arith}
use Rattle.sa_load.proofs.Digits.{read-more}
use Rattle.sa_load.proofs.number.magnitude.Goals as goal

pub loop-byte-preserved : goal.loop-byte-preserved
loop-byte-preserved c =
    let digit = c.if-not-is_ascii_digit.ensures in
    let next = c.saturating_add-number.ensures in
    read-more c.args.digits.now c.loop-byte.byte-index c.loop-byte.number (get_or c.args.digits.now c.loop-byte.byte-index 0) _
    (omega arith) c.loop-byte.invariant refl (sym digit.value) digit.cases
    (rw (c.saturating_mul.ensures, c.from.ensures) at next)
