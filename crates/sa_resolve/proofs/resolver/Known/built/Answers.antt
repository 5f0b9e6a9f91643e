use Rattle.std.proofs.Common.{List, map, ap, ◌∙◌}
use Rattle.sa_ast.specs.declared.select.OrderTree.{OrderTree}
use Rattle.sa_resolve.specs.Clauses.{clauses_with, items, scope_of}
use Rattle.sa_resolve.specs.Expression.{first}
use Rattle.sa_resolve.specs.Resolved.{order_key}
use Rattle.sa_resolve.specs.inner.Building.{placed}
use Rattle.sa_resolve.specs.inner.Judging.{parts_of}
use Rattle.sa_resolve.proofs.judging.Answered.{answered_is}
use Rattle.sa_resolve.proofs.judging.Queries.{keys_are, query_made}
use Rattle.sa_resolve.proofs.judging.Ungrouped.{parts_are}
use Rattle.sa_resolve.proofs.resolver.Known.built.Goals as goal

pub returns : goal.returns
returns c = λ tables found ready items_are values.
    let tree = c.args.self.now.tree.now in
    let clauses = clauses_with tables tree found in
    let sees = c.answered.ensures.sees tables tree found ready.reader in
    let last = answered_is tables tree found c.args.slots _ c.as_slice.result.now ready.slots_are c.as_ref.ensures.value (c.as_slice.ensures.value ∙ items_are) in
    let conds = c.in_ok-filter.ensures tables found ready.reader values sees last in
    let parts = c.parts-group.ensures ∙ ap parts_of ready.slots_are ∙ parts_are tables tree found ready.settled in
    query_made tables tree clauses _ _ _ _ _ _ _
    (c.from_vec.ensures ∙ c.in_ok-tables.ensures tables tree.from ready.reader.sight)
    conds.0
    (c.from_vec-2.ensures ∙ items_are)
    (ap (λ pair. pair.0) parts) (ap (λ pair. pair.1) parts)
    conds.1
    (keys_are tables tree found _ (c.from_vec-3.ensures
    ∙ c.in_ok-order.ensures tables (scope_of tables tree found first) clauses.select sees last
    ∙ ap (λ (trees : List OrderTree). map (λ (one : OrderTree). order_key one (placed tables (scope_of tables tree found first) (items tables tree found) one.value)) trees) c.as_slice-2.ensures))
