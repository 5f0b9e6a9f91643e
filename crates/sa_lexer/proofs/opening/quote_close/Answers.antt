use Rattle.sa_lexer.specs.Opening.{quote_close}
use Rattle.sa_lexer.proofs.Closes.{none_left, no_quote}
use Rattle.sa_lexer.proofs.opening.quote_close.Goals as goal

pub returns-clause-exact : goal.returns-clause-exact
returns-clause-exact c = none_left (quote_close c.args.quote) c.args.bytes.now c.loop-place.place (no_quote c.args.quote) c.loop-place-test.false c.loop-place.invariant.same
