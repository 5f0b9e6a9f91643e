use Rattle.std.proofs.Common.{◌<◌, ◌^◌, ◌+◌, [], take, subst, sym, arith}
use Rattle.sa_resolve.specs.declared.scope.Scope.{Scope as View}
use Rattle.sa_resolve.specs.Tables.{over_rows, sources_of}
use Rattle.sa_resolve.specs.inner.Names.{Sees}
use Rattle.sa_resolve.proofs.names.Seeing.{Sees-up_to}
use Rattle.sa_resolve.proofs.judging.Ons.{no_on, one_on}
use Rattle.sa_resolve.proofs.clauses.Reader.put_join.Goals as goal

pub returns-in-None : goal.returns-in-None
returns-in-None c = λ tables from ones sight seeks within few are.
    no_on tables from c.args.number c.args.joins.now.items ones are _ c.in-None.is

pub returns-in_ok-push-in-Some : goal.returns-in_ok-push-in-Some
returns-in_ok-push-in-Some c = λ tables from ones sight seeks within few are.
    let fits : c.args.number + 1 < 2 ^ 64 = omega arith in
    one_on tables from c.args.number c.args.joins.now.items ones are _ _ c.in_ok-looked-in-Some.looked _ c.in-Some.is
    (c.in_ok-looked-in-Some.ensures tables _ []
    (subst (λ (view : View). Sees tables (over_rows (sources_of tables (take (c.args.number + 1) from))) [] view) (sym (c.up_to.ensures fits))
    (Sees-up_to tables from [] c.args.number c.args.self.now.rows sight within seeks))).looked_is
    c.in_ok-push-in-Some.ensures.items
