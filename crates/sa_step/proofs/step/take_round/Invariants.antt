use Rattle.std.proofs.Common.{◌≡◌, ℕ, ◌+◌, ◌<◌, ◌≤◌, true, false, [], length}
use Rattle.sa_worker.specs.View.{done}
use Rattle.sa_step.specs.Sessions.{AreRunning, view_in}
use Rattle.sa_step.specs.Remaining.{remaining}
use Rattle.sa_step.specs.Schedule.{slot}
use Rattle.sa_step.specs.inner.Timely.{IsOnTime, in_round}
use Rattle.sa_step.proofs.step.take_round.Given as goal

-- The sessions of this script go on. Where none has taken a turn all so far are done, and else fewer turns remain.
abbrev pub invariant-loop-index : goal.invariant-loop-index
invariant-loop-index g l = record {
  running : AreRunning (g.P.Preparer.answers l.prepare) l.sessions;
  script : l.sessions.script ≡ l.fn.sessions.script;
  timed : (slots : ℕ → ℕ → ℕ) (place : ℕ) → IsOnTime (g.P.Preparer.answers l.prepare) slots (slot (length l.fn.sessions.views) []) place l.fn.sessions
      → IsOnTime (g.P.Preparer.answers l.prepare) slots (in_round (length l.fn.sessions.views) l.index) (place + l.index) l.sessions;
  some : l.any ≡ true → remaining l.sessions.views < remaining l.fn.sessions.views;
  none : l.any ≡ false → (l.sessions ≡ l.fn.sessions) × ((session : ℕ) → 1 ≤ session → session ≤ l.index → (view_in l.sessions.views session).stage ≡ done);
}
