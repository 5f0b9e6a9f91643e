use Rattle.std.proofs.Common.{◌∙◌, ◌++◌, ◌∷◌, [], ap, arith, None}
use Rattle.sa_table.proofs.CellsLemmas.{padded, null_pushed}
use Rattle.sa_table.proofs.cells.Cells.push_null.Goals as goal

pub loop-self-preserved : goal.loop-self-preserved
loop-self-preserved g c = record {
  short = omega arith;
  items = c.loop-self.invariant.items;
  enough = omega arith;
  same = rw c.push_reserved.ensures.items (padded _ _ (omega arith) ∙ c.loop-self.invariant.same);
}

pub returns : goal.returns
returns g c =
    rw (c.push_reserved-2.ensures.items, c.push_reserved-3.ensures.items) (null_pushed _ _ _ (omega arith) ∙ ap (λ cells. cells ++ None ∷ []) c.loop-self.invariant.same)
