use Rattle.sa_index.specs.Indexed.{key_parts}
use Rattle.sa_index.specs.Entries.{rows_of}
use Rattle.sa_index.proofs.ArrangedLemmas.{arranged-in_order, arranged_from_rise}
use Rattle.sa_index.proofs.RowLemmas.{rows-order}
use Rattle.sa_index.proofs.law.entries_are_the_rows_in_order.Goals as goal

pub returns : goal.returns
returns c = record {
  in_order = λ index. arranged-in_order (rows-order c.order_of_tuples_is_total.ensures index.tables index.table (key_parts index)).total (rows_of index);
  only = λ index rows given. arranged_from_rise (rows-order c.order_of_tuples_is_total.ensures index.tables index.table (key_parts index)) (rows_of index) rows given.same given.rises;
}
