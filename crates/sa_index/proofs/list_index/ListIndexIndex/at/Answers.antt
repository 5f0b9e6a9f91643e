use Rattle.std.proofs.Common.{◌≡◌, ◌<◌, Some, sym, subst, arith}
use Rattle.std.specs.List.{slice_get}
use Rattle.sa_table.specs.Table.{row_count}
use Rattle.sa_index.specs.Indexed.{Indexed}
use Rattle.sa_index.specs.Entries.{entries_of}
use Rattle.sa_index.proofs.BuiltLemmas.{length-rows, entry_at}
use Rattle.sa_index.proofs.list_index.ListIndexIndex.at.Goals as goal

pub index-requires : goal.index-requires
index-requires c =
    let there = subst (λ (index : Indexed). c.args.position < row_count index.tables index.table) (sym c.self.view_is) c.requires.there in
    let long = length-rows _ _ _ _ c.self.invariant in
    omega arith

pub returns : goal.returns
returns c =
    let there = subst (λ (index : Indexed). c.args.position < row_count index.tables index.table) (sym c.self.view_is) c.requires.there in
    let long = length-rows _ _ _ _ c.self.invariant in
    subst (λ (index : Indexed). slice_get (entries_of index) c.args.position ≡ Some c.index.result.now) c.self.view_is
    (entry_at _ _ _ _ c.self.invariant c.args.position c.index.result.now (omega arith) c.index.ensures)
