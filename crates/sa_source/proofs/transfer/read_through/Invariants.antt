use Rattle.std.proofs.Common.{◌-◌, ◌≤◌, vec_len}
use Rattle.sa_source.specs.Source.{Takes}
use Rattle.sa_source.proofs.transfer.read_through.Given as goal

abbrev pub invariant-loop-bytes : goal.invariant-loop-bytes
invariant-loop-bytes g l = record {
  few : vec_len l.bytes ≤ l.limit;
  counted : g.S.Source.faults l.fn.source ≤ g.S.Source.faults l.source;
  took : Takes (g.S.Source.left l.fn.source) (g.S.Source.left l.source) l.bytes.items;
}

abbrev pub decreases-loop-bytes : goal.decreases-loop-bytes
decreases-loop-bytes g l = l.limit - vec_len l.bytes
