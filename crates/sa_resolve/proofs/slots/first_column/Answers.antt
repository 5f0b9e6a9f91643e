use Rattle.sa_resolve.proofs.Places.{place_or_length}
use Rattle.sa_resolve.proofs.slots.first_column.Goals as goal

pub returns : goal.returns
returns c = place_or_length _ c.args.columns.now _ _ c.column_at.ensures c.unwrap_or.ensures
