-- A fault of a script: its kind, its byte in the script, and the number of the row that is at
-- fault, if one is.
use Rattle.std.specs.Prelude.{ℕ, Option, Some, None}
use Rattle.sa_script.specs.declared.fault.ScriptKind.{ScriptKind}

pub record Fault : Type 0 where
  pub kind : ScriptKind
  pub place : ℕ
  pub line : Option ℕ

-- a fault at a byte, without a row
abbrev pub fault_at : ScriptKind → ℕ → Fault
fault_at kind place = record { kind = kind; place = place; line = None }

-- a fault of a row, by its number from 1 on
abbrev pub row_fault_at : ScriptKind → (place number : ℕ) → Fault
row_fault_at kind place number = record { kind = kind; place = place; line = Some number }
