use Rattle.std.proofs.Common.{[], None, List, subst, sym}
use Rattle.std.proofs.lemmas.Result.{IfOk-weaker}
use Rattle.sa_ast.specs.declared.select.TableTree.{TableTree}
use Rattle.sa_resolve.specs.Tables.{on_readings}
use Rattle.sa_resolve.specs.inner.Knowing.{AreLooked}
use Rattle.sa_resolve.specs.inner.Names.{IsSight}
use Rattle.sa_resolve.proofs.names.Seeing.{Sees-rows}
use Rattle.sa_resolve.proofs.judging.Ons.{no_where, one_where}
use Rattle.sa_resolve.proofs.clauses.Reader.filters.Goals as goal

pub returns-in-None : goal.returns-in-None
returns-in-None c = λ tables slots knows.
    let tree = c.args.tree.now in
    no_where tables tree slots c.in_ok-joins.joins.items
    (subst (λ (from : List TableTree). AreLooked c.in_ok-joins.joins.items (on_readings tables from)) c.as_slice.ensures
    (c.in_ok-joins.ensures tables (subst (λ (from : List TableTree). IsSight tables from c.args.self.now.rows.sight.now) (sym c.as_slice.ensures) knows.sight) knows.seeks))
    c.in-None.is

pub returns : goal.returns
returns c = λ tables slots knows.
    let tree = c.args.tree.now in
    let joins = subst (λ (from : List TableTree). AreLooked c.in_ok-joins.joins.items (on_readings tables from)) c.as_slice.ensures
    (c.in_ok-joins.ensures tables (subst (λ (from : List TableTree). IsSight tables from c.args.self.now.rows.sight.now) (sym c.as_slice.ensures) knows.sight) knows.seeks) in
    let looked = c.in_ok-looked-in-Some.ensures tables _ [] (Sees-rows tables tree.from [] None c.args.self.now.rows knows.sight knows.count knows.seeks) in
    IfOk-weaker c.with_last.result _ _
    (λ all is. one_where tables tree slots c.in_ok-joins.joins.items joins _ c.in_ok-looked-in-Some.looked all.items c.in-Some.is looked.looked_is is)
    c.with_last.ensures
