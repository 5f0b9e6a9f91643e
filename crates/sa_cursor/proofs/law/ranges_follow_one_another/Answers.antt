use Rattle.std.proofs.Common.{length}
use Rattle.sa_index.specs.Indexed.{parts_of}
use Rattle.sa_cursor.proofs.Ranges.{apart, entries_in_ranges}
use Rattle.sa_cursor.proofs.law.ranges_follow_one_another.Goals as goal

pub returns : goal.returns
returns c = λ tables table key ranges lawful.
    entries_in_ranges
    (record {
      entries = record {
        total = c.order_of_tuples_is_total.ensures;
        down = c.before_goes_down.ensures;
        in_order = c.entries_are_the_rows_in_order.ensures.in_order;
      };
      up = c.before_goes_up.ensures;
      alike = c.canonical_form_has_the_same_before.ensures;
    })
    (record { tables = tables; table = table; key = key }) ranges
    (apart (length (parts_of tables table key)) ranges lawful.short lawful.rising.disjoint)
