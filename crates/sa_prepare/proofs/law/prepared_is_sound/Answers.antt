use Rattle.sa_prepare.proofs.SoundWork.{prepared_is_sound}
use Rattle.sa_prepare.proofs.law.prepared_is_sound.Goals as goal

pub returns : goal.returns
returns c = prepared_is_sound
