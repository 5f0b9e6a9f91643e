-- How an index finds the rows of a key.
use Rattle.std.specs.Prelude.{◌≡◌, ◌≢◌, ℕ, ◌-◌, ◌<◌, ◌≤◌, List, [], length, true, All, Option, Some, slice_index, slice_index_or, vec_len}
use Rattle.sa_value.specs.declared.value.Value.{Value}
use Rattle.sa_table.specs.declared.def.KeyDef.{KeyDef}
use Rattle.sa_table.specs.declared.index.Index.{Index}
use Rattle.sa_table.specs.declared.store.Store.{Store}
use Rattle.sa_table.specs.Table.{is_unique, key_tuple}
use Rattle.sa_table.specs.Sound.{IsDistinct}
use Rattle.sa_table.specs.inner.Column.{IsRanged}
use Rattle.sa_table.specs.inner.Digest.{digest_of}
use Rattle.sa_table.specs.inner.Index.{bound_in, SameIndex, HasSpace, AddsDigest}
use Rattle.sa_table.specs.inner.Store.{rows_in, Fills}

-- the digest of what a row has in a key
abbrev pub row_digest : List ℕ → List (List Value) → ℕ → Option ℕ
row_digest parts rows row = digest_of (key_tuple parts (slice_index_or rows row []))

-- The last row with a digest below a number: what is given is the number after it, or 0 where there
-- is none.
pub record IsAfterLast (parts : List ℕ) (rows : List (List Value)) (digest : ℕ)
    (below given : ℕ) : Type 0 where
  pub within : given ≤ below
  pub last : 0 < given → row_digest parts rows (given - 1) ≡ Some digest
  pub others : (row : ℕ) → given ≤ row → row < below → row_digest parts rows row ≢ Some digest

-- Each digest leads to its last row, and each row to the one before it with its digest.
pub record IsIndexed (rows : List (List Value)) (key : KeyDef) (index : Index) : Type 0 where
  pub before_all : vec_len index.before ≡ length rows
  pub last : (digest : ℕ) → IsAfterLast key.parts rows digest (length rows) (bound_in index digest)
  pub before : (row : ℕ) (digest : ℕ) → row < length rows
      → row_digest key.parts rows row ≡ Some digest
      → IsAfterLast key.parts rows digest row (slice_index index.before.items row)

-- Each unique key has its index.
pub record AreIndexed (rows : List (List Value)) (keys : List KeyDef)
    (indexes : List Index) : Type 0 where
  pub each_one : length indexes ≡ length keys
  pub each : (k : ℕ) (key : KeyDef) (index : Index) → k < length keys
      → is_unique (slice_index_or keys k key) ≡ true
      → IsIndexed rows (slice_index_or keys k key) (slice_index_or indexes k index)

-- A key of a table's rows can be searched for a row.
pub record IsSearchable (store : Store) (key : KeyDef) (row : List Value) : Type 0 where
  pub filled : Fills store
  pub wide : length row ≡ vec_len store.columns
  pub ranged : All IsRanged row
  pub parts : All (λ part. part < vec_len store.columns) key.parts
  pub distinct : IsDistinct (rows_in store) key

-- The indexes say what they said, whatever room they have.
pub record SameIndexes (old new : List Index) : Type 0 where
  pub each_one : length new ≡ length old
  pub each : (k : ℕ) (index : Index) → k < length old
      → SameIndex (slice_index_or old k index) (slice_index_or new k index)

-- The index of each unique key has room for one row more.
abbrev pub HaveSpace : List KeyDef → List Index → Type 0
HaveSpace keys indexes = (k : ℕ) (key : KeyDef) (index : Index) → k < length keys
    → is_unique (slice_index_or keys k key) ≡ true → HasSpace (slice_index_or indexes k index)

-- A row is put at the end of the index of each unique key.
pub record AddDigests (keys : List KeyDef) (row : List Value) (number : ℕ)
    (old new : List Index) : Type 0 where
  pub each_one : length new ≡ length old
  pub each : (k : ℕ) (key : KeyDef) (index : Index) → k < length keys
      → is_unique (slice_index_or keys k key) ≡ true
      → AddsDigest (slice_index_or old k index)
      (slice_index_or new k index) number
      (digest_of (key_tuple (slice_index_or keys k key).parts row))
