use Rattle.std.proofs.Common.{ℕ, ap, ◌∙◌}
use Rattle.std.specs.Prelude.{◌==◌}
use Rattle.sa_resolve.specs.Clauses.{clauses_with, select_scope}
use Rattle.sa_resolve.specs.declared.look.Looked.{Looked}
use Rattle.std.specs.List.{list_any}
use Rattle.std.specs.Option.{is_some}
use Rattle.sa_resolve.specs.inner.Knowing.{as_looked}
use Rattle.sa_resolve.proofs.judging.Calls.{calls_known, groups_by, parts_calls, same_empty}
use Rattle.sa_resolve.proofs.clauses.Clauses.does_group.Goals as goal

pub returns : goal.returns
returns c = λ tables tree slots sight known.
    let clauses = clauses_with tables tree slots in
    let self = c.args.self.now in
    c.is_any.ensures
    ∙ groups_by clauses _ _ _ _ _
    (same_empty self.group.items clauses.group _ known.group (c.is_empty-is_grouped.ensures ∙ ap (λ (count : ℕ). count == 0) self.group.ok.0))
    (c.has_call-select.ensures ∙ parts_calls tables (select_scope tables tree slots) sight 0 self.select.now.parts.items tree.items known.select.parts)
    (c.has_call-filters.ensures ∙ ap (list_any (λ (one : Looked). is_some one.facts.call)) c.deref.ensures.value
    ∙ calls_known self.filters.items _ known.filters)
    (c.has_call-order.ensures ∙ ap (list_any (λ (one : Looked). is_some one.facts.call)) c.deref-2.ensures.value
    ∙ calls_known self.order.items _ known.order)
    (c.having_has_call-having.ensures ∙ calls_known (as_looked self.having) _ known.having)
