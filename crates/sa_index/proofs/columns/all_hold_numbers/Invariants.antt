use Rattle.std.proofs.Common.{ℕ, ◌<◌, get_or}
use Rattle.sa_index.specs.inner.Columns.{HoldsNumbers}
use Rattle.sa_index.proofs.columns.all_hold_numbers.Given as goal

abbrev pub invariant-loop-part : goal.invariant-loop-part
invariant-loop-part l = (k : ℕ) → k < l.part-index → HoldsNumbers l.tables l.table (get_or l.parts k 0)
