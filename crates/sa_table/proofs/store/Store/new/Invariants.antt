use Rattle.std.proofs.Common.{◌≡◌, ℕ, ◌<◌, [], vec_len, get_or}
use Rattle.sa_table.specs.declared.column.Column.{Column}
use Rattle.sa_table.specs.declared.def.ColumnDef.{ColumnDef}
use Rattle.sa_table.specs.inner.Column.{values_in, HoldsKind}
use Rattle.sa_table.proofs.store.Store.new.Given as goal

abbrev pub invariant-loop-def : goal.invariant-loop-def
invariant-loop-def l = record {
  long : vec_len l.columns ≡ l.def-index;
  empty : (k : ℕ) (column : Column) → k < l.def-index → values_in (get_or l.columns.items k column) ≡ [];
  kinds : (k : ℕ) (def : ColumnDef) (column : Column) → k < l.def-index → HoldsKind (get_or l.defs k def).kind (get_or l.columns.items k column);
}
