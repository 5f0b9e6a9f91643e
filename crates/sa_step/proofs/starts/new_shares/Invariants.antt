use Rattle.std.proofs.Common.{◌≡◌, map}
use Rattle.std.specs.List.{range_with_len}
use Rattle.sa_step.specs.Starts.{share_in}
use Rattle.sa_step.proofs.starts.new_shares.Given as goal

abbrev pub invariant-loop-place : goal.invariant-loop-place
invariant-loop-place l = l.shares.items ≡ map (share_in l.statements l.own) (range_with_len 1 l.place)
