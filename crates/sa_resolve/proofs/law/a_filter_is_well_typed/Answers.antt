use Rattle.sa_resolve.proofs.fit.Proved.{filter_is_fit, select_is_fit, rows_are_fit, tables_are_there, tables_are_few}
use Rattle.sa_resolve.proofs.law.a_filter_is_well_typed.Goals as goal

pub returns : goal.returns
returns c = record {
  filter = filter_is_fit;
  select = select_is_fit;
  rows = rows_are_fit;
  there = tables_are_there;
  few = tables_are_few;
}
