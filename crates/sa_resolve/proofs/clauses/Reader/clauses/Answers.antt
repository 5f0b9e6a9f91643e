use Rattle.std.proofs.Common.{List, map, subst}
use Rattle.sa_ast.specs.declared.select.GroupTree.{GroupTree}
use Rattle.sa_ast.specs.declared.select.OrderTree.{OrderTree}
use Rattle.sa_resolve.specs.Clauses.{clauses_with, item_reading}
use Rattle.sa_resolve.specs.Expression.{first, last}
use Rattle.sa_resolve.specs.inner.Judging.{HaveLooked}
use Rattle.sa_resolve.specs.inner.Knowing.{AreLooked}
use Rattle.sa_resolve.proofs.judging.Havings.{aggregates_twice}
use Rattle.sa_resolve.proofs.clauses.Reader.clauses.Goals as goal

pub returns : goal.returns
returns c = λ tables slots knows.
    let tree = c.args.tree.now in
    let clauses = clauses_with tables tree slots in
    let having = c.in_ok-having.ensures tables tree slots knows in
    let order : HaveLooked c.having.new.aggregates.items c.order.new.aggregates.items c.in_ok-order.order.items clauses.order =
    subst (λ (trees : List OrderTree). HaveLooked c.having.new.aggregates.items c.order.new.aggregates.items c.in_ok-order.order.items
    (map (λ (one : OrderTree). item_reading tables tree slots first one.value) trees)) c.as_slice-2.ensures (c.in_ok-order.ensures tables tree slots knows) in (
      record {
        filters = c.in_ok-filters.ensures tables slots knows;
        select = knows.select;
        group = subst (λ (trees : List GroupTree). AreLooked c.in_ok-group.group.items (map (λ (one : GroupTree). item_reading tables tree slots last one.value) trees))
            c.as_slice.ensures (c.in_ok-group.ensures tables tree slots knows);
        having = having.looked_are;
        order = order.looked_are;
      },
      aggregates_twice c.args.aggregates.now.items _ _ clauses.having clauses.order having.aggregates order.aggregates,
    )
