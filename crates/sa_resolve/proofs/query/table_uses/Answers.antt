use Rattle.std.proofs.Common.{◌≡◌, ◌<◌, ◌≤◌, List, length, get_or, subst, ◌∙◌}
use Rattle.sa_resolve.specs.declared.sight.Source.{Source as Item}
use Rattle.sa_resolve.specs.Resolved.{table_use}
use Rattle.sa_resolve.specs.inner.Names.{source_at}
use Rattle.sa_resolve.proofs.judging.Uses.{all_made, push_more, uses_are}
use Rattle.sa_resolve.proofs.query.table_uses.Goals as goal

pub loop-source-preserved : goal.loop-source-preserved
loop-source-preserved c =
    c.in_ok-push.ensures.items
    ∙ push_more (λ (item : Item). table_use (source_at item)) c.args.sight.now.sources.items c.loop-source.source-index c.source-item.result _ _
    (subst (λ (items : List Item). c.loop-source.source-index < length items) c.deref-source-items.ensures.value c.loop-source-test.true)
    (subst (λ (items : List Item). c.source-item.result ≡ get_or items c.loop-source.source-index c.source-item.result) c.deref-source-items.ensures.value c.source-item.is)
    c.loop-source.invariant c.in_ok-table_use.ensures

pub returns : goal.returns
returns c = λ tables from is.
    all_made (λ (item : Item). table_use (source_at item)) c.args.sight.now.sources.items c.loop-source.source-index _
    (subst (λ (items : List Item). length items ≤ c.loop-source.source-index) c.deref-source-items.ensures.value c.loop-source-test.false)
    c.loop-source.invariant
    ∙ uses_are tables from c.args.sight.now is
