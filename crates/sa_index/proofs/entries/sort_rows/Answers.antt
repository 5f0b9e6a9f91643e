use Rattle.std.proofs.Common.{rules}
use Rattle.sa_index.proofs.ArrangedLemmas.{rise_from_sorted}
use Rattle.sa_index.proofs.RowLemmas.{rows-order, sorted_from_calls}
use Rattle.sa_index.proofs.entries.sort_rows.Goals as goal

pub returns : goal.returns
returns c =
    let orders = rows-order c.order_of_tuples_is_total.ensures c.args.tables.now c.args.table c.args.parts.now in
    record {
      same = c.sort_unstable_by.ensures.permutation;
      rises = rise_from_sorted orders.total c.sort_unstable_by.new.self.items
          (sorted_from_calls orders.total c.sort_unstable_by.new.self.items c.sort_unstable_by.ensures.sorted (λ a r q k. search rules));
    }
