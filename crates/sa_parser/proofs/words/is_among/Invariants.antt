use Rattle.std.proofs.Common.{◌≡◌, ℕ, List, Bor, false, take}
use Rattle.std.specs.List.{list_any}
use Rattle.sa_parser.specs.Token.{is_word}
use Rattle.sa_parser.proofs.words.is_among.Given as goal

abbrev pub invariant-loop-word : goal.invariant-loop-word
invariant-loop-word l = list_any (λ (word : Bor (List ℕ)). is_word word.now l.token.kind) (take l.word-index l.words) ≡ false
