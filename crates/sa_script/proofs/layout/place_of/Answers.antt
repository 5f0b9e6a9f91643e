use Rattle.sa_script.proofs.Places.{place_or_length}
use Rattle.sa_script.proofs.layout.place_of.Goals as goal

pub returns : goal.returns
returns c = place_or_length _ c.args.names.now _ _ c.name_at.ensures c.unwrap_or.ensures
