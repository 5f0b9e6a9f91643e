use Rattle.std.proofs.Common.{sym, subst}
use Rattle.sa_query.specs.WellTyped.{IsWellTyped}
use Rattle.sa_access_tests.proofs.Fits.{fits_simplified}
use Rattle.sa_access_tests.proofs.asked.resolved.Goals as goal

pub returns-clause-fits : goal.returns-clause-fits
returns-clause-fits c =
    subst (IsWellTyped c.args.tables.now) (sym c.in_ok-simplified.ensures)
    (fits_simplified c.args.tables.now c.in_ok-query.query c.simple_is_typed.ensures c.simple_names_no_more.ensures c.in_ok-query.ensures)
