use Rattle.std.proofs.Common.{◌≡◌, ◌<◌, ◌≤◌, List, [], ◌∷◌, ◌++◌, get_or, length, ap, subst, ◌∙◌}
use Rattle.sa_interval.specs.declared.list.RangeList.{RangeList}
use Rattle.sa_query.specs.declared.query.TableUse.{TableUse}
use Rattle.sa_access_tests.proofs.Lists.{lists_pushed, lists_whole}
use Rattle.sa_access_tests.proofs.ranges.range_lists.Goals as goal

pub loop-position-preserved : goal.loop-position-preserved
loop-position-preserved c =
    let position = c.loop-position.position in
    let used = c.used-item.result in
    c.in_ok-push.ensures.ok
    ∙ ap (λ (one : List RangeList). c.loop-position.lists ++ one ∷ []) c.in_ok-table_ranges.ensures
    ∙ lists_pushed c.args.tables.now c.args.query.now c.loop-position.lists position used
    (subst (λ (uses : List TableUse). position < length uses) c.as_slice-used-items.ensures c.loop-position-test.true)
    (subst (λ (uses : List TableUse). used ≡ get_or uses position used) c.as_slice-used-items.ensures c.used-item.is)
    c.loop-position.invariant

pub returns : goal.returns
returns c =
    lists_whole c.args.tables.now c.args.query.now c.loop-position.lists c.loop-position.position
    (subst (λ (uses : List TableUse). length uses ≤ c.loop-position.position) c.as_slice-used-items.ensures c.loop-position-test.false)
    c.loop-position.invariant
