use Rattle.sa_worker_tests.proofs.ListedSound.{listed_sound}
use Rattle.sa_worker_tests.proofs.tests.script.start.Goals as goal

pub new-requires-clause-sound : goal.new-requires-clause-sound
new-requires-clause-sound c = listed_sound c.args.listed.now _ c.requires
