use Rattle.std.proofs.Common.{◌≢◌, ◌∙◌, subst, arith}
use Rattle.std.proofs.lemmas.List.{get_or_read, get_or-set_other}
use Rattle.sa_value.specs.declared.value.Value.TheVariants.{Null}
use Rattle.sa_table.specs.Table.{value_in}
use Rattle.sa_table.specs.inner.Store.{TakesValue}
use Rattle.sa_table.proofs.StoreLemmas.{rows_pushed, taken_more}
use Rattle.sa_table.proofs.store.Store.push.Goals as goal

pub loop-column-preserved : goal.loop-column-preserved
loop-column-preserved c =
    let old = c.args.self.now.columns.items in
    let now = c.loop-column.self.columns.items in
    let i = c.loop-column.column in
    record {
      count = c.loop-column.invariant.count;
      wide = c.loop-column.invariant.wide;
      long = c.loop-column.invariant.long;
      taken = taken_more old now c.args.row.items i c.push.new.self (omega arith) c.loop-column.invariant.taken
          (λ column.
          subst (λ was. TakesValue was c.push.new.self (value_in c.args.row.items i))
          (get_or_read now i _ (omega arith) c.index_mut-in-loop-column.ensures.value column ∙ c.loop-column.invariant.left i column (omega arith))
          (subst (λ value. TakesValue c.index_mut-in-loop-column.result.now c.push.new.self value)
          (c.replace-value.ensures.value ∙ get_or_read c.loop-column.row.items i _ (omega arith) c.index_mut.ensures.value Null ∙ c.loop-column.invariant.values i Null (omega arith))
          record { values = c.push.ensures.values; kinds = c.push.ensures.kind }));
      left = λ k column h. let apart : k ≢ i = omega arith in get_or-set_other now i k c.push.new.self column apart ∙ c.loop-column.invariant.left k column (omega arith);
      values = λ k value h. let apart : k ≢ i = omega arith in get_or-set_other c.loop-column.row.items i k c.replace-value.new.dest value apart ∙ c.loop-column.invariant.values k value (omega arith);
    }

pub returns-clause-rows : goal.returns-clause-rows
returns-clause-rows c =
    rw c.loop-column.invariant.count
    (rows_pushed c.args.self.now.columns.items c.loop-column.self.columns.items c.args.row.items c.args.self.now.count
    record {
      wide = omega arith;
      values = omega arith;
      filled = λ k column h. c.requires.filled k column h;
      each = λ k column h. (c.loop-column.invariant.taken k column (omega arith)).values;
    })
