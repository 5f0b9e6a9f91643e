use Rattle.std.proofs.Common.{arith}
use Rattle.sa_range.specs.inner.Longer.{longer_of}
use Rattle.sa_range.proofs.Limited.{found_all, found_more, found_too_many}
use Rattle.sa_range.proofs.longer.longer.Goals as goal

pub loop-walk-preserved : goal.loop-walk-preserved
loop-walk-preserved c = record {
  found = found_more (longer_of c.args.step.now.condition.now c.args.step.now.table c.args.step.now.columns.now c.args.step.now.column c.args.step.now.line.now)
      c.args.walks.now c.loop-walk.walk-index c.walk-item.result c.as_slice.result.now (omega arith) c.walk-item.is c.as_slice.ensures
      c.loop-walk.longer.items c.put_longer.new.longer.items c.loop-walk.invariant.found c.in_ok-put_longer.ensures;
  few = omega (arith, c.len.ensures);
}

pub returns-then-len-gt-LIMIT : goal.returns-then-len-gt-LIMIT
returns-then-len-gt-LIMIT c =
    found_too_many (longer_of c.args.step.now.condition.now c.args.step.now.table c.args.step.now.columns.now c.args.step.now.column c.args.step.now.line.now)
    c.args.walks.now c.loop-walk.walk-index c.walk-item.result c.as_slice.result.now (omega arith) c.walk-item.is c.as_slice.ensures
    c.loop-walk.longer.items c.put_longer.new.longer.items c.loop-walk.invariant.found c.in_ok-put_longer.ensures (omega (arith, c.len.ensures))

pub returns : goal.returns
returns c =
    found_all (longer_of c.args.step.now.condition.now c.args.step.now.table c.args.step.now.columns.now c.args.step.now.column c.args.step.now.line.now)
    c.args.walks.now c.loop-walk.walk-index (omega arith) c.loop-walk.longer.items c.loop-walk.invariant.found c.loop-walk.invariant.few
