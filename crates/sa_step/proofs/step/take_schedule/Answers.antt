use Rattle.std.proofs.Common.{length, refl, ◌∙◌, arith}
use Rattle.sa_step.proofs.Remaining.{count_same}
use Rattle.sa_step.proofs.Ordering.{on_time_named, schedule_last}
use Rattle.sa_step.proofs.step.take_schedule.Goals as goal

pub take_turn-taken-requires-clause-least : goal.take_turn-taken-requires-clause-least
take_turn-taken-requires-clause-least g c = (c.requires.there c.loop-session.session-index 0 c.loop-session-test.true).0

pub take_turn-taken-requires-clause-most : goal.take_turn-taken-requires-clause-most
take_turn-taken-requires-clause-most g c =
    let count =
    count_same (g.P.Preparer.answers c.args.prepare.now) c.args.sessions.now c.loop-session.sessions c.requires.running c.loop-session.invariant.running c.loop-session.invariant.script in
    let there = c.requires.there c.loop-session.session-index 0 c.loop-session-test.true in omega (arith, count, there.1)

pub loop-session-preserved : goal.loop-session-preserved
loop-session-preserved g c =
    let gives = g.P.Preparer.answers c.args.prepare.now in
    let first = c.args.sessions.now in
    let before = c.loop-session.sessions in
    let after = c.take_turn-taken.new.sessions in
    let were = count_same gives first before c.requires.running c.loop-session.invariant.running c.loop-session.invariant.script in
    let are = count_same gives before after c.loop-session.invariant.running c.take_turn-taken.ensures.running c.take_turn-taken.ensures.script ∙ were in
    let there = c.requires.there c.loop-session.session-index 0 c.loop-session-test.true in
    record {
      running = c.take_turn-taken.ensures.running;
      script = c.take_turn-taken.ensures.script ∙ c.loop-session.invariant.script;
      timed = λ slots started. on_time_named gives slots (length first.views) c.args.schedule.now c.loop-session.session-index _ before after c.loop-session.invariant.running were are
          c.loop-session-test.true refl there.0 there.1 (c.loop-session.invariant.timed slots started) c.take_turn-taken.ensures.by;
    }

pub returns-clause-timed : goal.returns-clause-timed
returns-clause-timed g c =
    let first = c.args.sessions.now in
    let last = c.loop-session.sessions in
    let were = count_same (g.P.Preparer.answers c.args.prepare.now) first last c.requires.running c.loop-session.invariant.running c.loop-session.invariant.script in
    λ slots started. schedule_last (g.P.Preparer.answers c.args.prepare.now) slots (length first.views) c.args.schedule.now c.loop-session.session-index last were c.loop-session-test.false (c.loop-session.invariant.timed slots started)
