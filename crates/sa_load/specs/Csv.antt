-- The records of a CSV text, which are those that `csv` reads: no header, commas, quotes `"`, no blank lines.
-- Source: RFC 4180.
use Rattle.std.specs.Prelude.{ℕ, List}
use Rattle.csv.specs.Reading.{records, default_config, strip_bom}

-- the fields of a record, each as its bytes
abbrev pub Fields : Type 0
Fields = List (List ℕ)

-- the records of a text; a byte order mark at its start is none of it
unfoldable pub records_of : List ℕ → List Fields
records_of text = records default_config (strip_bom text)
