use Rattle.std.proofs.Common.{◌∙◌, ap, sym, subst}
use Rattle.sa_query.specs.Groups.{firsts}
use Rattle.sa_resolve.specs.Clauses.{clauses_with}
use Rattle.sa_resolve.specs.Same.{same_aggregate}
use Rattle.sa_resolve.specs.inner.Knowing.{AreLooked}
use Rattle.sa_resolve.proofs.list.Grouping.{not_grouped, slots_made}
use Rattle.sa_resolve.proofs.clauses.Clauses.slots.Goals as goal

pub returns-then-not-does_group : goal.returns-then-not-does_group
returns-then-not-does_group c = λ tables tree slots sight known aggregates.
    not_grouped (clauses_with tables tree slots)
    (sym (c.does_group.ensures tables tree slots sight known) ∙ c.if-not-does_group.true)

pub returns : goal.returns
returns c = λ tables tree slots sight known aggregates.
    let clauses = clauses_with tables tree slots in
    let group = subst (λ looked. AreLooked looked clauses.group) (sym c.deref.ensures.value) known.group in
    slots_made clauses c.in_ok-new.field-0.group.items c.in_ok-new.field-0.aggregates.items
    (sym (c.does_group.ensures tables tree slots sight known) ∙ c.if-not-does_group.false)
    (c.in_ok-new.ensures.0 ∙ c.in_ok-group.ensures clauses.group group)
    (c.in_ok-new.ensures.1 ∙ c.in_ok-aggregates.ensures ∙ ap (firsts same_aggregate) aggregates)
