-- What loading the records of a text into a table answers, and which rows the table has then.
use Rattle.std.specs.Prelude.{◌≡◌, ℕ, ◌+◌, ◌<◌, ◌≤◌, List, [], ◌++◌, map, take, length, slice_get, slice_index_or, Some, Result, Ok, Err}
use Rattle.sa_table.specs.Table.{Table}
use Rattle.sa_load.specs.declared.fault.LoadCause.{LoadCause}
use Rattle.sa_load.specs.declared.fault.LoadFault.{LoadFault}
use Rattle.sa_load.specs.declared.fault.LoadFault.TheVariants.{Bad, OutOfMemory}
use Rattle.sa_load.specs.Csv.{Fields}
use Rattle.sa_load.specs.Record.{record_causes, row_of}

-- a table with the rows of these records at its end
abbrev pub with_records : Table → List Fields → Table
with_records table records =
    record table { rows = table.rows ++ map (row_of table.def.columns) records }

-- the causes of the record at an index, in the table with the rows of the records before it
abbrev pub causes_at : Table → List Fields → ℕ → List LoadCause
causes_at table records index =
    record_causes (with_records table (take index records)) (slice_index_or records index [])

-- The first records, so many, have no cause to be refused, and their rows are in the table.
pub record LoadsFirst (count : ℕ) (before : Table) (records : List Fields)
    (after : Table) : Type 0 where
  pub there : count ≤ length records
  pub faultless : (index : ℕ) → index < count → causes_at before records index ≡ []
  pub rows : after ≡ with_records before (take count records)

-- The record at this index is the first faulty one, with this as its first cause.
pub record StopsAt (index : ℕ) (cause : LoadCause) (before : Table) (records : List Fields)
    (after : Table) : Type 0 where
  pub there : index < length records
  pub first : slice_get (causes_at before records index) 0 ≡ Some cause
  pub loaded : LoadsFirst index before records after

-- Each record is loaded, or those before the first faulty one, whose number counts from 1 on. Where
-- memory ends, some are.
abbrev pub Loads : Table → List Fields → Table → Result ℕ LoadFault → Type 0
Loads before records after (Ok count) = (count ≡ length records) × LoadsFirst count before records after
Loads before records after (Err (Bad number cause)) =
    (index : ℕ) × (number ≡ index + 1) × StopsAt index cause before records after
Loads before records after (Err OutOfMemory) = (count : ℕ) × LoadsFirst count before records after
