use Rattle.std.proofs.Common.{length, ◌-◌, drop}
use Rattle.std.specs.Str.{IsCharBoundary}
use Rattle.sa_lexer.specs.First.{StandsBehindBlanks}
use Rattle.sa_lexer.proofs.first.first_token.Given as goal

abbrev pub invariant-loop-len : goal.invariant-loop-len
invariant-loop-len l = record {
  stands : StandsBehindBlanks l.text l.start (drop l.start l.text);
  cut : IsCharBoundary l.text l.start;
}

abbrev pub decreases-loop-len : goal.decreases-loop-len
decreases-loop-len l = length l.text - l.start
