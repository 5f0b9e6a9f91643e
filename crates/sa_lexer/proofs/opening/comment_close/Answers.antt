use Rattle.std.proofs.Common.{◌≡◌, drop, true, false}
use Rattle.std.proofs.lemmas.List.{take_rest}
use Rattle.std.specs.Prelude.{codes}
use Rattle.sa_lexer.specs.Opening.{begins_with, comment_close}
use Rattle.sa_lexer.proofs.Closes.{comment_here, comment_later, none_left, no_comment}
use Rattle.sa_lexer.proofs.opening.comment_close.Goals as goal

pub returns-then-starts_with-clause-exact : goal.returns-then-starts_with-clause-exact
returns-then-starts_with-clause-exact c =
    let asked = rw take_rest at c.starts_with.ensures.value in
    let here : begins_with (codes "*/") (drop c.loop-place.place c.args.bytes.now) ≡ true = cc in
    comment_here c.args.bytes.now c.loop-place.place c.loop-place-test.true here c.loop-place.invariant

pub loop-place-preserved : goal.loop-place-preserved
loop-place-preserved c =
    let asked = rw take_rest at c.starts_with.ensures.value in
    let here : begins_with (codes "*/") (drop c.loop-place.place c.args.bytes.now) ≡ false = cc in
    comment_later c.args.bytes.now c.loop-place.place c.loop-place-test.true here c.loop-place.invariant

pub returns-clause-exact : goal.returns-clause-exact
returns-clause-exact c = none_left comment_close c.args.bytes.now c.loop-place.place no_comment c.loop-place-test.false c.loop-place.invariant
