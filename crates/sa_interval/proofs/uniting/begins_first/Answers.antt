use Rattle.std.proofs.Common.{sym, ap, ap₂, ◌∙◌}
use Rattle.std.specs.Ordering.{is_le}
use Rattle.sa_key.specs.Range.{order_of_cuts}
use Rattle.sa_interval.proofs.Merging.{first_at, first_alone, none_is_first}
use Rattle.sa_interval.proofs.uniting.begins_first.Goals as goal

pub returns-then-j-b-clause-first : goal.returns-then-j-b-clause-first
returns-then-j-b-clause-first c =
    c.is_le.ensures
    ∙ ap is_le (c.order_cuts.ensures ∙ ap₂ order_of_cuts c.view.ensures c.view-then-j-b.ensures)
    ∙ first_at c.args.a.now c.args.b.now c.args.i c.args.j c.index-a-i.result c.index-b-j.result c.if-i-a.true c.if-j-b.true

pub returns-then-i-a-clause-first : goal.returns-then-i-a-clause-first
returns-then-i-a-clause-first c = first_alone c.args.a.now c.args.b.now c.args.i c.args.j c.if-i-a.true c.if-j-b.false

pub returns-clause-first : goal.returns-clause-first
returns-clause-first c = none_is_first c.args.a.now c.args.b.now c.args.i c.args.j c.if-i-a.false
