use Rattle.std.proofs.Common.{◌≡◌, ◌++◌, codes, map, take, flat_map, string_bytes}
use Rattle.sa_explain.specs.Written.{cond_text}
use Rattle.sa_explain.proofs.condition.conditions_text.Given as goal

abbrev pub invariant-loop-next : goal.invariant-loop-next
invariant-loop-next l =
    string_bytes l.text ≡ cond_text l.names l.levels l.first ++ flat_map (λ next. codes " AND " ++ next) (map (cond_text l.names l.levels) (take l.next-index l.rest))
