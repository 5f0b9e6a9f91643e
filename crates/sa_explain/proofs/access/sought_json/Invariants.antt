use Rattle.std.proofs.Common.{◌≡◌, map, take}
use Rattle.serde_json.specs.Data.{string}
use Rattle.serde_json.specs.View.{view}
use Rattle.sa_plan.specs.Lawful.{expr_of}
use Rattle.sa_explain.specs.Written.{expr_text}
use Rattle.sa_explain.proofs.access.sought_json.Given as goal

abbrev pub invariant-loop-part : goal.invariant-loop-part
invariant-loop-part l =
    map view l.items.items ≡ map (λ part. string (expr_text l.names l.levels (expr_of part))) (take l.part-index l.from)
