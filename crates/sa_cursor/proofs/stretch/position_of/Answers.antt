use Rattle.std.proofs.Common.{Some, arith}
use Rattle.std.proofs.lemmas.List.Sums.{count_by-le-length}
use Rattle.sa_key.specs.Cut.{cut_at}
use Rattle.sa_key.specs.Order.{is_before}
use Rattle.sa_index.specs.Indexed.{Indexed, key_parts, tuple_of}
use Rattle.sa_index.specs.Entries.{entries_of}
use Rattle.sa_cursor.proofs.stretch.position_of.Goals as goal

pub returns-clause-within : goal.returns-clause-within
returns-clause-within g c =
    let index : Indexed = g.I.Index.indexed c.args.index.now in
    let long = c.each_order_has_all_rows.ensures index.tables index.table (Some index.key) in
    let few = count_by-le-length (λ row. is_before (tuple_of index.tables index.table (key_parts index) row) (cut_at c.args.cut.now)) (entries_of index) in
    omega (arith, long, few, c.lower.ensures)
