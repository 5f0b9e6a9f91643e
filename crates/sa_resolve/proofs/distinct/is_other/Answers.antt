use Rattle.std.proofs.Common.{List, Option, Bor, sym, ap, subst, ◌∙◌}
use Rattle.std.specs.Option.{IfSome}
use Rattle.sa_query.specs.declared.item.Item.{Item}
use Rattle.sa_resolve.specs.Reading.{Reading}
use Rattle.sa_resolve.specs.inner.Building.{IsLast}
use Rattle.sa_resolve.proofs.judging.Distincts.{other_is}
use Rattle.sa_resolve.proofs.distinct.is_other.Goals as goal

pub returns : goal.returns
returns c = λ clauses tables scope one sees last are one_is.
    other_is clauses one c.args.items c.in-Some.items c.in_ok-value.value c.has_value.result c.in-Some.is are
    (c.in_ok-value.ensures tables scope clauses.select sees
    (subst (λ (items : Option (Bor (List Item))). IfSome items (λ _. IsLast scope clauses.select c.args.builder.now.stage)) c.in-Some.is last)
    ∙ ap (λ (one : Reading). one.expr) (sym one_is))
    c.has_value.ensures
