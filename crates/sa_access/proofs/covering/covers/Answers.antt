use Rattle.std.proofs.Common.{◌≡◌, Bool, ◌&&◌, List, sym, ap, ◌∙◌}
use Rattle.std.specs.List.{list_all}
use Rattle.sa_cond.specs.Cited.{Name, column, expr_names}
use Rattle.sa_query.specs.declared.group.Aggregate.{Aggregate}
use Rattle.sa_query.specs.declared.group.Column.{Column}
use Rattle.sa_query.specs.declared.item.Item.{Item}
use Rattle.sa_query.specs.declared.order.OrderKey.{OrderKey}
use Rattle.sa_access.specs.Offered.{is_held, names_in}
use Rattle.sa_access.proofs.CoverLemmas.{all_but, no_aggregates, no_group, no_select, order_held}
use Rattle.sa_access.proofs.covering.covers.Goals as goal

in_select : (p : Name → Bool) (items others : List Item) → items ≡ others → list_all (λ item. list_all p (expr_names item.value)) items ≡ list_all (λ item. list_all p (expr_names item.value)) others
in_select p items others same = ap (λ (list : List Item). list_all (λ item. list_all p (expr_names item.value)) list) same

in_group : (p : Name → Bool) (group others : List Column) → group ≡ others → list_all (λ one. p (column one.table one.column)) group ≡ list_all (λ one. p (column one.table one.column)) others
in_group p group others same = ap (λ (list : List Column). list_all (λ one. p (column one.table one.column)) list) same

in_aggregates : (p : Name → Bool) (aggregates others : List Aggregate) → aggregates ≡ others
    → list_all (λ one. list_all p (names_in expr_names one.argument)) aggregates ≡ list_all (λ one. list_all p (names_in expr_names one.argument)) others
in_aggregates p aggregates others same = ap (λ (list : List Aggregate). list_all (λ one. list_all p (names_in expr_names one.argument)) list) same

in_order : (p : Name → Bool) (keys others : List OrderKey) → keys ≡ others → list_all (λ key. list_all p (expr_names key.value)) keys ≡ list_all (λ key. list_all p (expr_names key.value)) others
in_order p keys others same = ap (λ (list : List OrderKey). list_all (λ key. list_all p (expr_names key.value)) list) same

pub returns-then-not-holds_select : goal.returns-then-not-holds_select
returns-then-not-holds_select c =
    let p : Name → Bool = is_held c.args.columns.now.position c.args.columns.now.parts.now in
    no_select p c.args.query.now (sym c.if-not-holds_cond.ensures)
    (sym (c.if-not-holds_select.ensures ∙ in_select p c.as_slice.result.now c.args.query.now.select c.as_slice.ensures))

pub returns-then-not-holds_group : goal.returns-then-not-holds_group
returns-then-not-holds_group c =
    let p : Name → Bool = is_held c.args.columns.now.position c.args.columns.now.parts.now in
    no_group p c.args.query.now (sym c.if-not-holds_cond.ensures)
    (sym (c.if-not-holds_select.ensures ∙ in_select p c.as_slice.result.now c.args.query.now.select c.as_slice.ensures))
    (sym (c.if-not-holds_group.ensures ∙ in_group p c.as_slice-2.result.now c.args.query.now.group c.as_slice-2.ensures))

pub returns-then-not-holds_aggregates : goal.returns-then-not-holds_aggregates
returns-then-not-holds_aggregates c =
    let p : Name → Bool = is_held c.args.columns.now.position c.args.columns.now.parts.now in
    no_aggregates p c.args.query.now (sym c.if-not-holds_cond.ensures)
    (sym (c.if-not-holds_select.ensures ∙ in_select p c.as_slice.result.now c.args.query.now.select c.as_slice.ensures))
    (sym (c.if-not-holds_group.ensures ∙ in_group p c.as_slice-2.result.now c.args.query.now.group c.as_slice-2.ensures))
    (sym (c.if-not-holds_aggregates.ensures ∙ in_aggregates p c.as_slice-3.result.now c.args.query.now.aggregates c.as_slice-3.ensures))

pub returns-then-holds_having : goal.returns-then-holds_having
returns-then-holds_having c =
    let p : Name → Bool = is_held c.args.columns.now.position c.args.columns.now.parts.now in
    c.holds_order.ensures ∙ in_order p c.as_slice-then-holds_having.result.now c.args.query.now.order c.as_slice-then-holds_having.ensures
    ∙ sym (all_but p c.args.query.now (sym c.if-not-holds_cond.ensures)
    (sym (c.if-not-holds_select.ensures ∙ in_select p c.as_slice.result.now c.args.query.now.select c.as_slice.ensures))
    (sym (c.if-not-holds_group.ensures ∙ in_group p c.as_slice-2.result.now c.args.query.now.group c.as_slice-2.ensures))
    (sym (c.if-not-holds_aggregates.ensures ∙ in_aggregates p c.as_slice-3.result.now c.args.query.now.aggregates c.as_slice-3.ensures))
    ∙ ap (λ (having : Bool). having && order_held p c.args.query.now) (sym c.if-holds_having.ensures))
