use Rattle.std.proofs.Common.{true, false, ◌<◌, ◌≤◌, length, drop, ap, arith}
use Rattle.std.proofs.lemmas.List.{take_rest, length-drop}
use Rattle.std.proofs.lemmas.Str.{IsCharBoundary-after_ascii}
use Rattle.std.proofs.lemmas.Result.{err_from_is_err_and}
use Rattle.sa_lexer.specs.Piece.{piece_end_at}
use Rattle.sa_lexer.proofs.Ends.{starts, found, goes_on, fails, ends}
use Rattle.sa_lexer.proofs.FaultyLemmas.{piece_told}
use Rattle.sa_lexer.proofs.Pieces.{ends_piece}
use Rattle.sa_lexer.proofs.piece.piece_end.Goals as goal

pub loop-place-init : goal.loop-place-init
loop-place-init c =
    let within : c.args.from ≤ length c.as_bytes-bytes.result.now = omega (arith, c.requires.0, ap length c.as_bytes-bytes.ensures.value) in
    record { after = omega arith; within = within; same = starts c.args.from c.as_bytes-bytes.result.now within }

pub returns-then-bytes-place-eq59-clause-exact : goal.returns-then-bytes-place-eq59-clause-exact
returns-then-bytes-place-eq59-clause-exact c =
    rw (← c.as_bytes-bytes.ensures.value) (found c.as_bytes-bytes.result.now c.loop-place.place (piece_end_at c.args.from c.as_bytes-bytes.result.now) c.loop-place-test.true c.if-bytes-place-eq59.true c.loop-place.invariant.same)

pub returns-then-bytes-place-eq59-clause-whole : goal.returns-then-bytes-place-eq59-clause-whole
returns-then-bytes-place-eq59-clause-whole c =
    ends_piece c.args.from c.args.text.now (record { end = c.loop-place.place; closed = true }) c.requires.0 (returns-then-bytes-place-eq59-clause-exact c)

pub returns-then-bytes-place-eq59-clause-next : goal.returns-then-bytes-place-eq59-clause-next
returns-then-bytes-place-eq59-clause-next c = λ closed.
    let here = rw c.as_bytes-bytes.ensures.value at c.if-bytes-place-eq59.true in
    let within : c.loop-place.place < length c.args.text.now = omega (arith, ap length c.as_bytes-bytes.ensures.value) in
    IsCharBoundary-after_ascii c.args.text.now c.loop-place.place c.utf8.text within (omega (arith, here))

pub returns-in_err-place-clause-exact : goal.returns-in_err-place-clause-exact
returns-in_err-place-clause-exact c =
    let p = err_from_is_err_and c.from_residual.result c.from_residual.ensures.1 in
    let read = rw take_rest at c.in_err-place.ensures.exact in
    rw (p.1, p.2, ← c.as_bytes-bytes.ensures.value) (fails c.in_err-place.field-0.0 c.as_bytes-bytes.result.now c.loop-place.place (piece_end_at c.args.from c.as_bytes-bytes.result.now) c.loop-place-test.true c.if-bytes-place-eq59.false read c.loop-place.invariant.same)

pub returns-in_err-place-clause-faulty : goal.returns-in_err-place-clause-faulty
returns-in_err-place-clause-faulty c =
    let p = err_from_is_err_and c.from_residual.result c.from_residual.ensures.1 in
    rw p.1 (piece_told c.args.from c.args.text.now p.0 c.requires.0 (rw p.1 at (returns-in_err-place-clause-exact c)))

pub returns-in_err-place-clause-open_alone : goal.returns-in_err-place-clause-open_alone
returns-in_err-place-clause-open_alone c =
    let p = err_from_is_err_and c.from_residual.result c.from_residual.ensures.1 in
    rw (p.1, p.2) c.in_err-place.ensures.open_alone

pub loop-place-preserved : goal.loop-place-preserved
loop-place-preserved c =
    let bytes = c.as_bytes-bytes.result.now in
    let read = rw take_rest at c.in_ok-place.ensures.exact in
    let fits : c.in_ok-place.field-0 ≤ length (drop c.loop-place.place bytes) = rw take_rest at c.in_ok-place.ensures.within in
    record {
      after = omega (arith, c.loop-place.invariant.after);
      within = omega (arith, length-drop c.loop-place.place bytes);
      same = goes_on bytes c.loop-place.place c.in_ok-place.field-0 (piece_end_at c.args.from bytes) c.loop-place-test.true c.if-bytes-place-eq59.false c.in_ok-place.ensures.some fits read c.loop-place.invariant.same;
    }

pub returns-clause-exact : goal.returns-clause-exact
returns-clause-exact c =
    rw (← c.as_bytes-bytes.ensures.value) (ends c.as_bytes-bytes.result.now c.loop-place.place (piece_end_at c.args.from c.as_bytes-bytes.result.now) c.loop-place-test.false c.loop-place.invariant.same)

pub returns-clause-whole : goal.returns-clause-whole
returns-clause-whole c = ends_piece c.args.from c.args.text.now (record { end = c.loop-place.place; closed = false }) c.requires.0 (returns-clause-exact c)
