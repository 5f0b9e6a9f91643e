use Rattle.csv.specs.Records.{fields_of}
use Rattle.sa_load.proofs.RecordCauses.{IsReadUpTo}
use Rattle.sa_load.proofs.record.read_row.Given as goal

abbrev pub invariant-loop-column : goal.invariant-loop-column
invariant-loop-column l = IsReadUpTo l.column l.fn.def.columns (fields_of l.record) l.values.items
