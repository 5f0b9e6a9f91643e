use Rattle.std.proofs.Common.{◌≡◌, ℕ}
use Rattle.sa_step.specs.Sessions.{AreRunning}
use Rattle.sa_step.specs.Remaining.{remaining}
use Rattle.sa_step.specs.inner.Timely.{IsInRounds}
use Rattle.sa_step.proofs.step.take_rounds.Given as goal

-- The sessions of this script go on.
abbrev pub invariant-loop : goal.invariant-loop
invariant-loop g l = record {
  running : AreRunning (g.P.Preparer.answers l.prepare) l.sessions;
  script : l.sessions.script ≡ l.fn.sessions.script;
  timed : (slots : ℕ → ℕ → ℕ) → IsInRounds (g.P.Preparer.answers l.prepare) slots l.fn.sessions → IsInRounds (g.P.Preparer.answers l.prepare) slots l.sessions;
}

abbrev pub decreases-loop : goal.decreases-loop
decreases-loop g l = remaining l.sessions.views
