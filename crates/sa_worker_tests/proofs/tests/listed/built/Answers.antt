use Rattle.sa_worker_tests.proofs.ListedSound.{sound_built}
use Rattle.sa_worker_tests.proofs.tests.listed.built.Goals as goal

pub returns : goal.returns
returns c =
    sound_built c.args.ready.now c.args.text.now (c.prepared_is_sound.ensures c.args.ready.now c.args.text.now) c.prepare.result c.prepare.ensures
