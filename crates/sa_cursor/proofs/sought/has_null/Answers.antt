use Rattle.std.proofs.Common.{◌+◌, ◌∙◌, sym, ap, ◌||◌, drop, arith}
use Rattle.std.specs.List.{list_any}
use Rattle.sa_value.specs.Value.{value_at}
use Rattle.sa_table.specs.AddRow.{is_null}
use Rattle.sa_cursor.proofs.Left.{null_first}
use Rattle.sa_cursor.proofs.sought.has_null.Goals as goal

pub returns-then-is_null : goal.returns-then-is_null
returns-then-is_null c =
    sym (
    sym c.loop-index.invariant
    ∙ null_first c.args.tuple.now c.loop-index.index (value_at c.get.result) (omega arith) c.get.ensures
    ∙ ap (λ first. first || list_any is_null (drop (c.loop-index.index + 1) c.args.tuple.now)) (sym c.is_null.ensures ∙ c.if-is_null.true))

pub loop-index-preserved : goal.loop-index-preserved
loop-index-preserved c =
    sym (
    null_first c.args.tuple.now c.loop-index.index (value_at c.get.result) (omega arith) c.get.ensures
    ∙ ap (λ first. first || list_any is_null (drop (c.loop-index.index + 1) c.args.tuple.now)) (sym c.is_null.ensures ∙ c.if-is_null.false))
    ∙ c.loop-index.invariant
