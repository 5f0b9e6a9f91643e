use Rattle.std.proofs.Common.{◌-◌, ◌≤◌, length, take}
use Rattle.sa_source.specs.Sink.{Appends}
use Rattle.sa_source.proofs.transfer.write_all.Given as goal

abbrev pub invariant-loop-written : goal.invariant-loop-written
invariant-loop-written g l = record {
  inside : l.written ≤ length l.text;
  counted : g.K.Sink.faults l.fn.sink ≤ g.K.Sink.faults l.sink;
  took : Appends (g.K.Sink.taken l.fn.sink) (g.K.Sink.taken l.sink) (take l.written l.text);
}

abbrev pub decreases-loop-written : goal.decreases-loop-written
decreases-loop-written g l = length l.text - l.written
