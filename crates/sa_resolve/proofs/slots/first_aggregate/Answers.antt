use Rattle.sa_resolve.proofs.Places.{place_or_length}
use Rattle.sa_resolve.proofs.slots.first_aggregate.Goals as goal

pub returns : goal.returns
returns c = place_or_length _ c.args.aggregates.now _ _ c.aggregate_at.ensures c.unwrap_or.ensures
