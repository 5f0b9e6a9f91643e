use Rattle.std.proofs.Common.{◌<◌, ◌^◌, ◌+◌, [], take, refl, subst, sym, ◌∙◌, arith}
use Rattle.sa_resolve.specs.declared.scope.Scope.{Scope as View}
use Rattle.sa_resolve.specs.Tables.{over_rows, sources_of}
use Rattle.sa_resolve.specs.inner.Names.{Sees}
use Rattle.sa_resolve.proofs.names.Seeing.{Sees-up_to}
use Rattle.sa_resolve.proofs.judging.Uses.{no_on_cond, no_values, one_on_cond}
use Rattle.sa_resolve.proofs.query.put_join.Goals as goal

pub returns-in-None : goal.returns-in-None
returns-in-None c = λ tables from sight seeks within few.
    no_on_cond tables from c.args.number c.args.conds.now.items _ c.in-None.is

pub returns-in_ok-push-in-Some : goal.returns-in_ok-push-in-Some
returns-in_ok-push-in-Some c = λ tables from sight seeks within few.
    let fits : c.args.number + 1 < 2 ^ 64 = omega arith in
    let seen = over_rows (sources_of tables (take (c.args.number + 1) from)) in
    one_on_cond tables from c.args.number c.args.conds.now.items _ _ c.in_ok-cond-in-Some.field-0 _ c.in-Some.is
    (c.in_ok-cond-in-Some.ensures tables seen [] no_values
    (subst (λ (view : View). Sees tables seen [] view) (sym (c.filtering.ensures.scope ∙ c.up_to.ensures fits))
    (Sees-up_to tables from [] c.args.number c.args.rows.now sight within seeks))
    (c.filtering.ensures.stage seen refl))
    c.in_ok-push-in-Some.ensures.items
