use Rattle.std.proofs.Common.{◌≡◌, ℕ, length, drop}
use Rattle.sa_step.specs.Sessions.{AreRunning}
use Rattle.sa_step.specs.Schedule.{slot}
use Rattle.sa_step.specs.inner.Timely.{IsOnTime}
use Rattle.sa_step.proofs.step.take_schedule.Given as goal

-- The sessions of this script go on, as the rest of the schedule says.
abbrev pub invariant-loop-session : goal.invariant-loop-session
invariant-loop-session g l = record {
  running : AreRunning (g.P.Preparer.answers l.prepare) l.sessions;
  script : l.sessions.script ≡ l.fn.sessions.script;
  timed : (slots : ℕ → ℕ → ℕ) → IsOnTime (g.P.Preparer.answers l.prepare) slots (slot (length l.fn.sessions.views) l.schedule) 0 l.fn.sessions
      → IsOnTime (g.P.Preparer.answers l.prepare) slots (slot (length l.fn.sessions.views) (drop l.session-index l.schedule)) l.session-index l.sessions;
}
