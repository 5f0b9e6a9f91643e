use Rattle.std.proofs.Common.{◌≡◌, ℕ, ◌<◌, get_or, true}
use Rattle.sa_table.specs.declared.def.KeyDef.{KeyDef}
use Rattle.sa_table.specs.declared.index.Index.{Index}
use Rattle.sa_table.specs.Table.{is_unique}
use Rattle.sa_table.specs.inner.Index.{HasSpace}
use Rattle.sa_table.specs.inner.Keys.{SameIndexes}
use Rattle.sa_table.proofs.keys.reserve_indexes.Given as goal

abbrev pub invariant-loop-number : goal.invariant-loop-number
invariant-loop-number l = record {
  same : SameIndexes l.initial.indexes l.indexes;
  room : (k : ℕ) (key : KeyDef) (index : Index) → k < l.number → is_unique (get_or l.keys k key) ≡ true → HasSpace (get_or l.indexes k index);
}
