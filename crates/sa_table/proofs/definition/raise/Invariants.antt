use Rattle.std.proofs.Common.{◌≡◌, ℕ, ◌<◌, ◌≤◌, vec_len, get_or}
use Rattle.sa_table.specs.declared.def.ColumnDef.{ColumnDef}
use Rattle.sa_table.specs.Table.{raised_column}
use Rattle.sa_table.proofs.definition.raise.Given as goal

abbrev pub invariant-loop-number : goal.invariant-loop-number
invariant-loop-number l = record {
  long : vec_len l.columns ≡ vec_len l.initial.columns;
  raised : (k : ℕ) (d : ColumnDef) → k < l.number → get_or l.columns.items k d ≡ raised_column l.keys (k, get_or l.initial.columns.items k d);
  others : (k : ℕ) (d : ColumnDef) → l.number ≤ k → get_or l.columns.items k d ≡ get_or l.initial.columns.items k d;
}
