use Rattle.std.proofs.Common.{◌≡◌, ℕ, ◌<◌, ◌≤◌, vec_len, get_or}
use Rattle.sa_value.specs.declared.value.Value.{Value}
use Rattle.sa_table.specs.declared.column.Column.{Column}
use Rattle.sa_table.specs.Table.{value_in}
use Rattle.sa_table.specs.inner.Store.{TakesValue}
use Rattle.sa_table.proofs.store.Store.push.Given as goal

abbrev pub invariant-loop-column : goal.invariant-loop-column
invariant-loop-column l = record {
  count : l.self.count ≡ l.initial.self.count;
  wide : vec_len l.self.columns ≡ vec_len l.initial.self.columns;
  long : vec_len l.row ≡ vec_len l.initial.row;
  taken : (k : ℕ) (column : Column) → k < l.column → TakesValue (get_or l.initial.self.columns.items k column) (get_or l.self.columns.items k column) (value_in l.initial.row.items k);
  left : (k : ℕ) (column : Column) → l.column ≤ k → get_or l.self.columns.items k column ≡ get_or l.initial.self.columns.items k column;
  values : (k : ℕ) (value : Value) → l.column ≤ k → get_or l.row.items k value ≡ get_or l.initial.row.items k value;
}
