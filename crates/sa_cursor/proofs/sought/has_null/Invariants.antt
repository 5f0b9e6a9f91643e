use Rattle.std.proofs.Common.{◌≡◌, drop}
use Rattle.std.specs.List.{list_any}
use Rattle.sa_table.specs.AddRow.{is_null}
use Rattle.sa_cursor.proofs.sought.has_null.Given as goal

abbrev pub invariant-loop-index : goal.invariant-loop-index
invariant-loop-index l = list_any is_null (drop l.index l.tuple) ≡ list_any is_null l.tuple
