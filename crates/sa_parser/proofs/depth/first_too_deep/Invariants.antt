use Rattle.std.proofs.Common.{◌≡◌, fold, take}
use Rattle.sa_parser.specs.Depth.{at_first, with_token, StaysFlat}
use Rattle.sa_parser.proofs.depth.first_too_deep.Given as goal

abbrev pub invariant-loop-place : goal.invariant-loop-place
invariant-loop-place l = record {
  counted : l.levels ≡ fold with_token at_first (take l.place l.tokens);
  flat : StaysFlat (take l.place l.tokens);
}
