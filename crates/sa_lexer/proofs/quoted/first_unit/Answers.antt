use Rattle.std.proofs.Math.Nat.{sub-zero}
use Rattle.sa_lexer.proofs.Held.{held_run, after_others}
use Rattle.sa_lexer.proofs.quoted.first_unit.Goals as goal

pub range-requires-clause-end_boundary : goal.range-requires-clause-end_boundary
range-requires-clause-end_boundary c = rw (c.run_of_others-run.ensures, c.as_bytes.ensures.value) (after_others c.args.quote c.args.rest.now c.requires.quote c.utf8.rest)

pub returns-then-run-gt0-clause-held : goal.returns-then-run-gt0-clause-held
returns-then-run-gt0-clause-held c = rw (c.range.ensures.value, c.run_of_others-run.ensures, c.as_bytes.ensures.value, sub-zero) (held_run c.args.quote c.args.rest.now)

pub returns-then-run-gt0-clause-cut : goal.returns-then-run-gt0-clause-cut
returns-then-run-gt0-clause-cut c = rw (c.run_of_others-run.ensures, c.as_bytes.ensures.value) (after_others c.args.quote c.args.rest.now c.requires.quote c.utf8.rest)
