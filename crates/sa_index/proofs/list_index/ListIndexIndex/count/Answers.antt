use Rattle.std.proofs.Common.{ap, arith}
use Rattle.sa_table.specs.Table.{row_count}
use Rattle.sa_index.specs.Indexed.{Indexed}
use Rattle.sa_index.proofs.BuiltLemmas.{length-rows}
use Rattle.sa_index.proofs.list_index.ListIndexIndex.count.Goals as goal

pub returns : goal.returns
returns c =
    let long = length-rows _ _ _ _ c.self.invariant in
    let same = ap (λ (index : Indexed). row_count index.tables index.table) c.self.view_is in
    omega arith
