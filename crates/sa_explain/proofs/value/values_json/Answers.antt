use Rattle.std.proofs.Common.{◌≡◌, List, map, ap, ◌∙◌}
use Rattle.std.proofs.lemmas.List.{take_all}
use Rattle.serde_json.specs.Data.{Data, array}
use Rattle.serde_json.specs.View.{view, items_of}
use Rattle.serde_json.specs.Written.{has_float}
use Rattle.sa_explain.specs.Values.{value_data, values_data}
use Rattle.sa_explain.proofs.Exact.{values_are_exact}
use Rattle.sa_explain.proofs.value.values_json.Goals as goal

pub returns-clause-exact : goal.returns-clause-exact
returns-clause-exact c =
    let values = c.args.values.now in
    let whole = c.loop-value.invariant ∙ ap (map value_data) (take_all c.loop-value.value-index values c.loop-value-test.false) in
    let told : view c.from.result ≡ values_data values = c.from.ensures ∙ ap (λ (each : List Data). array (items_of each)) whole in
    ap has_float told ∙ values_are_exact values
