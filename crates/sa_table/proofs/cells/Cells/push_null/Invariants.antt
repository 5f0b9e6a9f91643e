use Rattle.std.proofs.Common.{◌≡◌, ◌<◌, ◌≤◌, ◌-◌, vec_len}
use Rattle.std.specs.Vec.{vec_capacity}
use Rattle.sa_table.specs.inner.Cells.{cells_of}
use Rattle.sa_table.proofs.cells.Cells.push_null.Given as goal

abbrev pub invariant-loop-self : goal.invariant-loop-self
invariant-loop-self g l = record {
  short : vec_len l.self.nulls ≤ vec_len l.self.items;
  items : vec_len l.self.items < vec_capacity l.self.items;
  enough : vec_len l.self.items < vec_capacity l.self.nulls;
  same : cells_of l.self.nulls.items l.self.items.items ≡ cells_of l.initial.self.nulls.items l.initial.self.items.items;
}

abbrev pub decreases-loop-self : goal.decreases-loop-self
decreases-loop-self g l = vec_len l.self.items - vec_len l.self.nulls
