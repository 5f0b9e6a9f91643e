use Rattle.std.proofs.Common.{◌≡◌, false, sym, subst, subst₂, ap, ap₂, ◌∙◌}
use Rattle.std.specs.Ordering.{is_lt}
use Rattle.sa_key.specs.declared.cut.Cut.{Cut}
use Rattle.sa_key.specs.Range.{IsCanonicalCut, order_of_cuts}
use Rattle.sa_interval.specs.inner.Growing.{BeginBy, IsWith, common, earlier, later}
use Rattle.sa_interval.proofs.CutLemmas.{earlier_is, later_is}
use Rattle.sa_interval.proofs.PutLemmas.{with_empty}
use Rattle.sa_interval.proofs.meeting.put_common.Goals as goal

pub put-requires-clause-from : goal.put-requires-clause-from
put-requires-clause-from c =
    subst IsCanonicalCut (sym (c.in_ok-copy.ensures ∙ c.later_of-from.ensures))
    (later_is IsCanonicalCut c.args.a.now.from c.args.b.now.from c.requires.one.from c.requires.other.from)

pub put-requires-clause-to : goal.put-requires-clause-to
put-requires-clause-to c =
    subst IsCanonicalCut (sym (c.in_ok-copy-2.ensures ∙ c.earlier_of-to.ensures))
    (earlier_is IsCanonicalCut c.args.a.now.to c.args.b.now.to c.requires.one.to c.requires.other.to)

pub put-requires-clause-begin : goal.put-requires-clause-begin
put-requires-clause-begin c =
    subst (λ bound. BeginBy bound c.args.list.now.items) (sym (c.in_ok-copy.ensures ∙ c.later_of-from.ensures)) c.requires.begin

pub returns-in_ok-put : goal.returns-in_ok-put
returns-in_ok-put c =
    subst₂ (λ (from to : Cut). IsWith c.args.list.now.items (record { from = from; to = to }) c.put.new.list.items)
    (c.in_ok-copy.ensures ∙ c.later_of-from.ensures) (c.in_ok-copy-2.ensures ∙ c.earlier_of-to.ensures) c.in_ok-put.ensures

pub returns-else-is_lt : goal.returns-else-is_lt
returns-else-is_lt c =
    let order = c.order_cuts.ensures ∙ ap₂ order_of_cuts (c.view.ensures ∙ c.later_of-from.ensures) (c.view-2.ensures ∙ c.earlier_of-to.ensures) in
    let empty : is_lt (order_of_cuts (later c.args.a.now.from c.args.b.now.from) (earlier c.args.a.now.to c.args.b.now.to)) ≡ false = sym (c.is_lt.ensures ∙ ap is_lt order) ∙ c.if-is_lt.false in
    with_empty c.order_of_cuts_is_total.ensures c.args.list.now.items (common c.args.a.now c.args.b.now) c.requires.list
    (later_is IsCanonicalCut c.args.a.now.from c.args.b.now.from c.requires.one.from c.requires.other.from)
    (earlier_is IsCanonicalCut c.args.a.now.to c.args.b.now.to c.requires.one.to c.requires.other.to)
    c.requires.begin empty
