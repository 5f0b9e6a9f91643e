use Rattle.std.proofs.Common.{ℕ, ◌<◌, get_or}
use Rattle.sa_table.specs.declared.column.Column.{Column}
use Rattle.sa_table.specs.Table.{value_in}
use Rattle.sa_table.specs.inner.Column.{CanTake}
use Rattle.sa_table.specs.inner.Store.{SameStore}
use Rattle.sa_table.proofs.store.Store.reserve.Given as goal

abbrev pub invariant-loop-index : goal.invariant-loop-index
invariant-loop-index l = record {
  same : SameStore l.initial.self l.self;
  room : (k : ℕ) (column : Column) → k < l.index → CanTake (get_or l.self.columns.items k column) (value_in l.row k);
}
