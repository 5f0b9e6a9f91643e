use Rattle.sa_script.proofs.Places.{place_few, place_or_length}
use Rattle.sa_script.proofs.create.name_index.Goals as goal

pub returns-clause-index : goal.returns-clause-index
returns-clause-index c = place_or_length _ c.args.names.now _ _ c.name_at.ensures c.unwrap_or.ensures

pub returns-clause-few : goal.returns-clause-few
returns-clause-few c = place_few _ c.args.names.now _ (place_or_length _ c.args.names.now _ _ c.name_at.ensures c.unwrap_or.ensures)
