use Rattle.std.proofs.Common.{◌≡◌}
use Rattle.sa_run.specs.inner.Along.{IsAlong}
use Rattle.sa_run.proofs.session.run_session.Given as goal

-- The session has come so far.
abbrev pub invariant-running : goal.invariant-running
invariant-running g l = record {
  along : IsAlong (g.P.Preparer.answers l.prepare) l.script l.board l.pass l.worker;
  session : l.pass.session ≡ l.fn.pass.session;
}
