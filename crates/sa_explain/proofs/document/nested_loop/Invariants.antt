use Rattle.std.proofs.Common.{◌≡◌, ℕ, map, take}
use Rattle.std.specs.List.{enumerate_from}
use Rattle.std.specs.Option.{option_copied}
use Rattle.serde_json.specs.View.{view}
use Rattle.sa_plan.specs.declared.plan.Level.{Level}
use Rattle.sa_explain.specs.Document.{level_data, counters_at}
use Rattle.sa_explain.proofs.document.nested_loop.Given as goal

abbrev pub invariant-loop-index : goal.invariant-loop-index
invariant-loop-index l =
    map view l.list.items
    ≡ map (λ (numbered : ℕ × Level). level_data l.names l.levels numbered.1 (counters_at (option_copied l.report) numbered.0)) (take l.index (enumerate_from 0 l.levels))
