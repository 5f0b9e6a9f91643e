use Rattle.std.proofs.Common.{◌≡◌, Bool, ◌&&◌, List, inl, inr, sym, ap, ◌∙◌}
use Rattle.std.specs.List.{list_all}
use Rattle.sa_cond.specs.Cited.{Name, cond_names, expr_names}
use Rattle.sa_cond.specs.declared.cond.Cond.{Cond}
use Rattle.sa_cond.specs.declared.expr.Expr.{Expr}
use Rattle.sa_access.specs.Offered.{is_held}
use Rattle.sa_access.proofs.CoverLemmas.{among_held, and_held, or_held}
use Rattle.sa_access.proofs.covering.+cond.Goals as goal

pub holds_cond-returns-then-holds_expr-4 : goal.holds_cond-returns-then-holds_expr-4
holds_cond-returns-then-holds_expr-4 t c =
    let p : Name → Bool = is_held c.args.columns.now.position c.args.columns.now.parts.now in
    c.holds_exprs.ensures ∙ ap (λ (list : List Expr). list_all (λ expr. list_all p (expr_names expr)) list) c.as_slice.ensures
    ∙ sym (among_held p c.args.cond.now c.in-Among.value c.in-Among.list c.in-Among.is
    ∙ ap (λ (first : Bool). first && list_all (λ expr. list_all p (expr_names expr)) c.in-Among.list) (sym c.if-holds_expr-4.ensures))

pub holds_cond-returns-else-holds_expr-4 : goal.holds_cond-returns-else-holds_expr-4
holds_cond-returns-else-holds_expr-4 t c =
    let p : Name → Bool = is_held c.args.columns.now.position c.args.columns.now.parts.now in
    c.if-holds_expr-4.false
    ∙ sym (among_held p c.args.cond.now c.in-Among.value c.in-Among.list c.in-Among.is
    ∙ ap (λ (first : Bool). first && list_all (λ expr. list_all p (expr_names expr)) c.in-Among.list) (sym c.if-holds_expr-4.ensures))

pub holds_cond-returns-in-And : goal.holds_cond-returns-in-And
holds_cond-returns-in-And t c =
    let p : Name → Bool = is_held c.args.columns.now.position c.args.columns.now.parts.now in
    let held : c.holds_conds.result ≡ list_all (λ (member : Cond). list_all p (cond_names member)) c.in-And.members =
    c.holds_conds.ensures ∙ ap (λ (list : List Cond). list_all (λ member. list_all p (cond_names member)) list) c.as_slice-in-And.ensures in
    elim c.in-And.is [
      | inl is ↦ held ∙ sym (and_held p c.args.cond.now c.in-And.members is)
      | inr is ↦ held ∙ sym (or_held p c.args.cond.now c.in-And.members is)
    ]
