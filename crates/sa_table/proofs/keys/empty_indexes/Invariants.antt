use Rattle.std.proofs.Common.{◌≡◌, ℕ, ◌<◌, vec_len, get_or, []}
use Rattle.sa_table.specs.declared.def.KeyDef.{KeyDef}
use Rattle.sa_table.specs.declared.index.Index.{Index}
use Rattle.sa_table.specs.inner.Keys.{IsIndexed}
use Rattle.sa_table.proofs.keys.empty_indexes.Given as goal

abbrev pub invariant-loop-key : goal.invariant-loop-key
invariant-loop-key l = record {
  each_one : vec_len l.indexes ≡ l._key-index;
  each : (k : ℕ) (key : KeyDef) (index : Index) → k < l._key-index → IsIndexed [] key (get_or l.indexes.items k index);
}
