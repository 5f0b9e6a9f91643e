use Rattle.std.proofs.Common.{refl}
use Rattle.sa_plan.proofs.names.table_names.Goals as goal

pub returns : goal.returns
returns c = rw (c.in_ok-column_names.ensures, c.in_ok-key_names.ensures, c.as_slice.ensures, c.as_slice-2.ensures) refl
