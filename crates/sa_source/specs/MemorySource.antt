-- What a source in memory is seen as.
use Rattle.std.specs.Prelude.{ℕ, List}
use Rattle.sa_source.specs.Calls.{Calls}

-- the bytes that are left, how many a call gives at most, and its calls
pub record SourceState : Type 0 where
  pub left : List ℕ
  pub piece : ℕ
  pub calls : Calls
