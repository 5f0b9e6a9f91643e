-- For what an access is chosen, as the code holds it, and what is there of it.
use Rattle.std.specs.Prelude.{ℕ, ◌<◌, length}
use Rattle.sa_index.specs.Indexed.{IsKeyOf}
use Rattle.sa_access.specs.Asked.{Asked, asked_table}
use Rattle.sa_access.specs.declared.asking.Asking.{Asking}

abbrev pub asked_at : Asking → Asked
asked_at asking = record {
  tables = asking.tables.now;
  query = asking.query.now;
  earlier = asking.earlier.now;
  position = asking.position;
}

-- The position is of FROM, and its table is there.
pub record IsThere (asked : Asked) : Type 0 where
  pub position : asked.position < length asked.query.tables
  pub table : asked_table asked < length asked.tables

-- So is a key of the table.
pub record IsKeyThere (asked : Asked) (number : ℕ) : Type 0 where
  pub place : IsThere asked
  pub key : IsKeyOf asked.tables (asked_table asked) number
