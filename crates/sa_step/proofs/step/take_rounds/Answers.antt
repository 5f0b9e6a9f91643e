use Rattle.std.proofs.Common.{◌∙◌}
use Rattle.sa_step.proofs.step.take_rounds.Goals as goal

pub returns-clause-finished : goal.returns-clause-finished
returns-clause-finished g c = c.take_round.ensures.none c.loop-test.false

pub loop-preserved : goal.loop-preserved
loop-preserved g c = record {
  running = c.take_round.ensures.running;
  script = c.take_round.ensures.script ∙ c.loop.invariant.script;
  timed = λ slots started. c.take_round.ensures.timed slots (c.loop.invariant.timed slots started);
}

pub returns-clause-timed : goal.returns-clause-timed
returns-clause-timed g c = λ slots started. c.take_round.ensures.timed slots (c.loop.invariant.timed slots started)
