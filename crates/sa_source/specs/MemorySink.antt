-- What a sink in memory is seen as.
use Rattle.std.specs.Prelude.{ℕ, List}
use Rattle.sa_source.specs.Calls.{Calls}

-- the bytes that were taken, how many a call takes at most, and its calls
pub record SinkState : Type 0 where
  pub taken : List ℕ
  pub piece : ℕ
  pub calls : Calls
