use Rattle.std.proofs.Common.{◌≡◌, ◌++◌, List, map, length, sym, ap, subst, ◌∙◌}
use Rattle.sa_ast.specs.declared.select.TableTree.{TableTree}
use Rattle.sa_cond.specs.declared.cond.Cond.TheVariants.{And}
use Rattle.sa_resolve.specs.Clauses.{clauses_with, option_list, scope_of}
use Rattle.sa_resolve.specs.Expression.{first, reading}
use Rattle.sa_resolve.specs.Reading.{Reading}
use Rattle.sa_resolve.specs.Tables.{on_readings, over_rows, sources_of}
use Rattle.sa_resolve.specs.inner.Names.{IsSight}
use Rattle.sa_resolve.proofs.resolver.Known.conditions.Goals as goal

pub returns : goal.returns
returns c = λ tables found knows values sees last.
    let tree = c.args.self.now.tree.now in
    let rows = c.args.self.now.reader.rows in (
      subst (λ (from : List TableTree). c.in_ok-filter.filter ≡ And (map (λ (one : Reading). one.cond)
          (on_readings tables from ++ option_list (reading tables (over_rows (sources_of tables from))) tree.filter))) c.as_slice.ensures
          (c.in_ok-filter.ensures tables (subst (λ (from : List TableTree). IsSight tables from rows.sight.now) (sym c.as_slice.ensures) knows.sight)
          (knows.count ∙ ap (λ (from : List TableTree). length from) (sym c.as_slice.ensures)) knows.seeks),
      c.in_ok-having.ensures tables (scope_of tables tree found first) (clauses_with tables tree found).select values sees last,
    )
