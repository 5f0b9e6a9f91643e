use Rattle.std.proofs.Common.{◌≡◌, take}
use Rattle.sa_index.specs.Indexed.{tuple_of}
use Rattle.sa_index.proofs.entries.tuple_of.Given as goal

abbrev pub invariant-loop-part : goal.invariant-loop-part
invariant-loop-part l = l.tuple ≡ tuple_of l.tables l.table (take l.part-index l.parts) l.row
