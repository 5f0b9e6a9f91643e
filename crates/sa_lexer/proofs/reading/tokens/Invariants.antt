use Rattle.std.proofs.Common.{◌≡◌, ◌+◌, length}
use denote.Text.{Utf8}
use denote.Shadow.{shadow}
use Rattle.sa_lexer.specs.Tokens.{tokens_from, tokens_of}
use Rattle.sa_lexer.proofs.Steps.{with_front}
use Rattle.sa_lexer.proofs.reading.tokens.Given as goal

abbrev pub invariant-loop-rest : goal.invariant-loop-rest
invariant-loop-rest l =
    shadow (Utf8 l.rest) × (l.place + length l.rest ≡ length l.text) × (with_front l.tokens.items (tokens_from 0 l.place l.rest) ≡ tokens_of l.text)

abbrev pub decreases-loop-rest : goal.decreases-loop-rest
decreases-loop-rest l = length l.rest
