use Rattle.std.proofs.Common.{◌≡◌, ℕ, List, Bor, false, take}
use Rattle.std.specs.List.{list_any}
use Rattle.std.specs.Str.{str_eq_ignore_ascii_case}
use Rattle.sa_lexer.proofs.reserved.is_among.Given as goal

abbrev pub invariant-loop-reserved : goal.invariant-loop-reserved
invariant-loop-reserved l = list_any (λ (reserved : Bor (List ℕ)). str_eq_ignore_ascii_case reserved.now l.word) (take l.reserved-index l.words) ≡ false
