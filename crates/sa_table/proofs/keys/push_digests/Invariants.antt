use Rattle.std.proofs.Common.{◌≡◌, ℕ, ◌<◌, ◌≤◌, length, get_or, true}
use Rattle.sa_table.specs.declared.def.KeyDef.{KeyDef}
use Rattle.sa_table.specs.declared.index.Index.{Index}
use Rattle.sa_table.specs.Table.{is_unique, key_tuple}
use Rattle.sa_table.specs.inner.Digest.{digest_of}
use Rattle.sa_table.specs.inner.Index.{AddsDigest}
use Rattle.sa_table.proofs.keys.push_digests.Given as goal

abbrev pub invariant-loop-position : goal.invariant-loop-position
invariant-loop-position l = record {
  each_one : length l.indexes ≡ length l.initial.indexes;
  added : (k : ℕ) (key : KeyDef) (index : Index) → k < l.position → is_unique (get_or l.keys k key) ≡ true → AddsDigest (get_or l.initial.indexes k index) (get_or l.indexes k index) l.number (digest_of (key_tuple (get_or l.keys k key).parts l.row));
  left : (k : ℕ) (index : Index) → l.position ≤ k → get_or l.indexes k index ≡ get_or l.initial.indexes k index;
}
