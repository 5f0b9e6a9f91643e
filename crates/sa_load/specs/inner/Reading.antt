-- What a reader of a text has left, and what a read takes of it.
use Rattle.std.specs.Prelude.{◌≡◌, ℕ, ◌+◌, List, [], ◌∷◌, length, Bool, true, false, Some}
use Rattle.std.proofs.Common.{Bor}
use Rattle.csv.specs.Machine.{ends_at_end}
use Rattle.csv.specs.Reading.{records_from, reader_config, reader_state, reader_trim, source_of, Ready, default_config}
use Rattle.csv.specs.declared.parser.Config.{Config}
use Rattle.csv.specs.declared.parser.State.{State}
use Rattle.csv.specs.declared.reader.Reader.{Reader}
use Rattle.csv.specs.declared.reader.Trim.TheVariants as trim
use Rattle.sa_load.specs.Csv.{Fields}

-- the records that are left of a text, from a state between two records
abbrev pub records_left : Config → State → List ℕ → List Fields
records_left config state bytes = records_from config (length bytes + 1) state bytes

-- A reader with `csv`'s own settings has these records left, and stands between two records.
pub record HasLeft (reader : Reader (Bor (List ℕ))) (left : List Fields) : Type 0 where
  pub untrimmed : reader_trim reader ≡ trim.None
  pub ready : Ready reader
  pub plain : reader_config reader ≡ default_config
  pub between : ends_at_end (reader_state reader) ≡ false
  pub bytes : List ℕ
  pub unread : source_of (λ s. Some s.now) reader ≡ Some bytes
  pub left_are : left ≡ records_left default_config (reader_state reader) bytes

-- A read takes the first record that is left, or finds none.
abbrev pub TakesNext : List Fields → Bool → Fields → Reader (Bor (List ℕ)) → Type 0
TakesNext left true fields after = (rest : List Fields) × (left ≡ fields ∷ rest) × HasLeft after rest
TakesNext left false fields after = left ≡ []
