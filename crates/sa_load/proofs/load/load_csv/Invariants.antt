use Rattle.std.proofs.Common.{◌-◌}
use Rattle.sa_load.specs.Csv.{records_of}
use Rattle.sa_load.proofs.Loading.{IsLoading}
use Rattle.sa_load.proofs.load.load_csv.Given as goal

abbrev pub invariant-loop-record : goal.invariant-loop-record
invariant-loop-record l = IsLoading l.fn.tables l.table (records_of l.bytes) l.loaded l.tables l.reader

abbrev pub decreases-loop-record : goal.decreases-loop-record
decreases-loop-record l = 1000000 - l.loaded
