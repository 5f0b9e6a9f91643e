-- Calls that are counted, of which chosen ones fail.
use Rattle.std.specs.Prelude.{ℕ, ◌+◌, List, Contains}
use Rattle.sa_source.specs.Source.{raised}

-- the numbers of the calls that fail, and how many calls and faults there were
pub record Calls : Type 0 where
  pub failing : List ℕ
  pub made : ℕ
  pub faults : ℕ

-- before the first call
abbrev pub no_calls : List ℕ → Calls
no_calls failing = record { failing = failing; made = 0; faults = 0 }

-- The next call is one that fails: its number, counted from 1, is among the chosen ones.
abbrev pub FailsNext : Calls → Type 0
FailsNext calls = Contains calls.failing (calls.made + 1)

-- after a call that did not fail
abbrev pub after_call : Calls → Calls
after_call calls = record calls { made = raised calls.made }

-- after a call that failed
abbrev pub after_fault : Calls → Calls
after_fault calls = record calls { made = raised calls.made; faults = raised calls.faults }
