-- No history is long.
use Rattle.std.proofs.Common.{◌≤◌, length, sum, arith}
use Rattle.sa_desk.specs.Contents.{Contents, IsSound}
use Rattle.sa_desk.proofs.Capacity.{sound_fits}

-- The journal of a sound desk is no longer than all shares together.
pub history-short : (desk : Contents) → IsSound desk → length desk.journal ≤ sum desk.shares
history-short desk sound = let fits = sound_fits desk sound in omega arith

pub history-few : (desk : Contents) → IsSound desk → length desk.journal ≤ 1048576
history-few desk sound = let short = history-short desk sound in let few = sound.few in omega arith
