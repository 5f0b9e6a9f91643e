use Rattle.std.proofs.Common.{◌≡◌, ◌*◌, ◌≤◌, sum, take}
use Rattle.sa_desk.proofs.desk.parts.room_for.Given as goal

abbrev pub invariant-loop-share : goal.invariant-loop-share
invariant-loop-share l = (l.room ≡ sum (take l.share-index l.shares)) × (l.room ≤ 65536 * l.share-index)
