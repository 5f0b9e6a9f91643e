-- The limits that every script keeps.
use Rattle.std.specs.Prelude.{◌≤◌, length, All}
use Rattle.sa_script.specs.declared.script.Script.{Script}

pub record IsWithinLimits (script : Script) : Type 0 where
  pub sessions : length script.sessions ≤ 16
  pub statements : All (λ texts. length texts ≤ 256) script.sessions
  pub least_quantum : 1 ≤ script.quantum
  pub most_quantum : script.quantum ≤ 64
  pub least_turns : 1 ≤ script.turns
  pub most_turns : script.turns ≤ 1_000_000_000
  pub scheduled : length script.schedule ≤ 65_536
  pub schedule : All (λ session. (1 ≤ session) × (session ≤ length script.sessions)) script.schedule
