use Rattle.std.proofs.Common.{◌≡◌, ℕ, ◌==◌, ◌&&◌, take}
use Rattle.std.specs.List.{list_any}
use Rattle.indexmap.specs.IndexSet.{contains_by}
use Rattle.sa_query.specs.declared.group.Column.{Column}
use Rattle.sa_resolve.specs.Same.{same_column}
use Rattle.sa_resolve.proofs.slots.Slots.new.Given as goal

abbrev pub invariant-loop-one : goal.invariant-loop-one
invariant-loop-one l =
    (column : Column) → contains_by (λ (key : ℕ × ℕ). column.table == key.0 && column.column == key.1)
    l.grouped
    ≡ list_any (same_column column) (take l.one-index l.one-items)
