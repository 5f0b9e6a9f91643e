-- What an index says of rows, and how it takes one more.
use Rattle.std.specs.Prelude.{◌≡◌, ℕ, nat_eq, ◌+◌, ◌<◌, [], ◌∷◌, ◌++◌, if◌then◌else◌, Option, Some, None, unwrap_or, vec_len}
use Rattle.std.specs.Vec.{vec_capacity}
use Rattle.std.specs.HashMap.{get, spare}
use Rattle.sa_table.specs.declared.index.Index.{Index}

-- the number after that of the last row with a digest
abbrev pub bound_in : Index → ℕ → ℕ
bound_in index digest = unwrap_or (get nat_eq index.last digest) 0

abbrev pub bound_before : Index → Option ℕ → ℕ
bound_before index None = 0
bound_before index (Some digest) = bound_in index digest

abbrev pub bound_after : Index → ℕ → Option ℕ → ℕ → ℕ
bound_after index row None digest = bound_in index digest
bound_after index row (Some added) digest =
    if nat_eq added digest then row + 1 else bound_in index digest

-- A row is put at the end, under a digest or under none.
pub record AddsDigest (old new : Index) (row : ℕ) (digest : Option ℕ) : Type 0 where
  pub bounds : (asked : ℕ) → bound_in new asked ≡ bound_after old row digest asked
  pub before : new.before.items ≡ old.before.items ++ bound_before old digest ∷ []

-- There is room for one row more.
pub record HasSpace (index : Index) : Type 0 where
  pub last : 0 < spare index.last
  pub before : vec_len index.before < vec_capacity index.before

-- The index says what it said, whatever room it has.
pub record SameIndex (old new : Index) : Type 0 where
  pub bounds : (digest : ℕ) → bound_in new digest ≡ bound_in old digest
  pub before : new.before.items ≡ old.before.items
