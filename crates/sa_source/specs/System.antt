-- What a source or a sink of the system is seen as.
use Rattle.std.specs.Prelude.{ℕ}

-- its reader or writer, and how often that failed
pub record Watched (X : Type 0) : Type 0 where
  pub device : X
  pub faults : ℕ
