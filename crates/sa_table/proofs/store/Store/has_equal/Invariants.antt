use Rattle.std.proofs.Common.{◌≡◌, drop}
use Rattle.sa_table.specs.Table.{key_tuple}
use Rattle.sa_table.specs.AddRow.{same_tuple}
use Rattle.sa_table.specs.inner.Store.{row_in}
use Rattle.sa_table.proofs.store.Store.has_equal.Given as goal

abbrev pub invariant-loop-part : goal.invariant-loop-part
invariant-loop-part l =
    same_tuple (key_tuple (drop l.part-index l.parts) l.row) (key_tuple (drop l.part-index l.parts) (row_in l.self.columns.items l.other))
    ≡ same_tuple (key_tuple l.parts l.row) (key_tuple l.parts (row_in l.self.columns.items l.other))
