use Rattle.std.proofs.Common.{[], None, refl, subst, sym}
use Rattle.sa_resolve.specs.declared.scope.Scope.{Scope as View}
use Rattle.sa_resolve.specs.Tables.{over_rows, sources_of}
use Rattle.sa_resolve.specs.inner.Names.{Sees}
use Rattle.sa_resolve.proofs.names.Seeing.{Sees-rows}
use Rattle.sa_resolve.proofs.judging.Uses.{no_values, no_where_cond, one_where_cond}
use Rattle.sa_resolve.proofs.query.put_filter.Goals as goal

pub returns-in-None : goal.returns-in-None
returns-in-None c = λ tables from sight count seeks.
    no_where_cond tables from c.args.conds.now.items _ c.in-None.is

pub returns-in_ok-push-in-Some : goal.returns-in_ok-push-in-Some
returns-in_ok-push-in-Some c = λ tables from sight count seeks.
    let seen = over_rows (sources_of tables from) in
    one_where_cond tables from c.args.conds.now.items _ _ c.in_ok-cond-in-Some.field-0 _ c.in-Some.is
    (c.in_ok-cond-in-Some.ensures tables seen [] no_values
    (subst (λ (view : View). Sees tables seen [] view) (sym c.filtering.ensures.scope)
    (Sees-rows tables from [] None c.args.rows.now sight count seeks))
    (c.filtering.ensures.stage seen refl))
    c.in_ok-push-in-Some.ensures.items
