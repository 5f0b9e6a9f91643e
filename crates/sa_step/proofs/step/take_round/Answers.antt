use Rattle.std.proofs.Common.{◌≡◌, ◌+◌, length, refl, sym, subst, ap, ◌∙◌, arith}
use Rattle.sa_step.specs.Sessions.{AllSessions}
use Rattle.sa_step.proofs.Remaining.{count_same}
use Rattle.sa_step.specs.inner.Timely.{IsOnTime, in_round}
use Rattle.sa_step.proofs.Ordering.{on_time_round, round_first, round_last}
use Rattle.sa_step.proofs.Rounds.{some_left, none_left}
use Rattle.sa_step.proofs.step.take_round.Goals as goal

pub loop-index-preserved : goal.loop-index-preserved
loop-index-preserved g c =
    let first = c.args.sessions.now in
    let before = c.loop-index.sessions in
    let after = c.take_turn-taken.new.sessions in
    record {
      running = c.take_turn-taken.ensures.running;
      script = c.take_turn-taken.ensures.script ∙ c.loop-index.invariant.script;
      timed = λ slots place started.
          let gives = g.P.Preparer.answers c.args.prepare.now in
          let were = count_same gives first before c.requires.running c.loop-index.invariant.running c.loop-index.invariant.script in
          let are = count_same gives before after c.loop-index.invariant.running c.take_turn-taken.ensures.running c.take_turn-taken.ensures.script ∙ were in
          let below = c.loop-index-test.true in
          let all = c.len-index-end.ensures in
          let next = on_time_round gives slots (length first.views) c.loop-index.index (place + c.loop-index.index) _ before after c.loop-index.invariant.running were are
          (omega (arith, below, all)) refl (c.loop-index.invariant.timed slots place started) c.take_turn-taken.ensures.by in
          let further : place + c.loop-index.index + 1 ≡ place + (c.loop-index.index + 1) = omega arith in
          subst (λ at. IsOnTime (g.P.Preparer.answers c.args.prepare.now) slots (in_round (length first.views) (c.loop-index.index + 1)) at after) further next;
      some = λ is. some_left first before after c.loop-index.index c.loop-index.any c.take_turn-taken.result c.loop-index.invariant.some c.loop-index.invariant.none
          c.take_turn-taken.ensures.some c.take_turn-taken.ensures.none (sym c.either-any.ensures ∙ is);
      none = λ is. none_left first before after c.loop-index.index c.loop-index.any c.take_turn-taken.result c.loop-index.invariant.none c.take_turn-taken.ensures.none (sym c.either-any.ensures ∙ is);
    }

pub loop-index-init : goal.loop-index-init
loop-index-init g c = record {
  running = c.requires.running;
  script = refl;
  timed = λ slots place started. round_first (g.P.Preparer.answers c.args.prepare.now) slots (length c.args.sessions.now.views) place c.args.sessions.now started;
  some = λ any. absurd cc;
  none = λ none. (refl, λ session least most. absurd (omega (arith, least, most)));
}

pub take_turn-taken-requires-clause-most : goal.take_turn-taken-requires-clause-most
take_turn-taken-requires-clause-most g c =
    let first = c.args.sessions.now in
    let count = count_same (g.P.Preparer.answers c.args.prepare.now) first c.loop-index.sessions c.requires.running c.loop-index.invariant.running c.loop-index.invariant.script in
    let below = c.loop-index-test.true in
    let all = c.len-index-end.ensures in omega (arith, count, below, all)

pub returns-clause-none : goal.returns-clause-none
returns-clause-none g c none =
    let done = c.loop-index.invariant.none none in
    let end = c.loop-index-test.false in
    let all = c.len-index-end.ensures in
    λ session least most. let count = ap (λ (all : AllSessions). length all.views) done.0 in done.1 session least (omega (arith, most, count, end, all))

pub returns-clause-timed : goal.returns-clause-timed
returns-clause-timed g c =
    let first = c.args.sessions.now in
    let last = c.loop-index.sessions in
    let were = count_same (g.P.Preparer.answers c.args.prepare.now) first last c.requires.running c.loop-index.invariant.running c.loop-index.invariant.script in
    let low = c.loop-index-test.false in
    let high = c.loop-index.auto.index-end in
    let all = c.len-index-end.ensures in
    λ slots started. round_last (g.P.Preparer.answers c.args.prepare.now) slots (length first.views) c.loop-index.index started.0 last were (omega (arith, low, high, all))
    (c.loop-index.invariant.timed slots started.0 started.1)
