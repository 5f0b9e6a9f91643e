use Rattle.std.proofs.Common.{◌≡◌, ℕ, ◌≤◌, List, [], ◌∷◌, ◌++◌, length, map, sym, ap, subst, ◌∙◌}
use Rattle.std.specs.List.{enumerate_from}
use Rattle.std.specs.Option.{option_copied}
use Rattle.std.proofs.lemmas.List.{map_push, take_all}
use Rattle.std.proofs.lemmas.List.FromFn.{length-enumerate_from}
use Rattle.serde_json.specs.Data.{Data, array}
use Rattle.serde_json.specs.View.{view, items_of}
use Rattle.sa_plan.specs.declared.plan.Level.{Level}
use Rattle.sa_explain.specs.Document.{level_data, counters_at}
use Rattle.sa_explain.proofs.Loops.{map-numbered}
use Rattle.sa_explain.proofs.document.nested_loop.Goals as goal

pub loop-index-preserved : goal.loop-index-preserved
loop-index-preserved c =
    let names = c.args.names.now in
    let levels = c.args.levels.now in
    let index = c.loop-index.index in
    let level = c.index-levels-index.result in
    let f : ℕ × Level → Data = λ numbered. level_data names levels numbered.1 (counters_at (option_copied c.args.report) numbered.0) in
    let one_is : view c.in_ok-level_json.field-0 ≡ f (index, level) = c.in_ok-level_json.ensures ∙ ap (level_data names levels level) c.counters_at-counters.ensures in
    ap (map view) c.in_ok-push.ensures.items
    ∙ map_push view c.loop-index.list.items c.in_ok-level_json.field-0
    ∙ ap (λ one. map view c.loop-index.list.items ++ one ∷ []) one_is
    ∙ map-numbered f levels index level (map view c.loop-index.list.items) c.loop-index-test.true c.index-levels-index.is c.loop-index.invariant

pub returns : goal.returns
returns c =
    let levels = c.args.levels.now in
    let index = c.loop-index.index in
    let f : ℕ × Level → Data = λ numbered. level_data c.args.names.now levels numbered.1 (counters_at (option_copied c.args.report) numbered.0) in
    let past : length (enumerate_from 0 levels) ≤ index = subst (λ n. n ≤ index) (sym (length-enumerate_from 0 levels)) c.loop-index-test.false in
    c.from.ensures ∙ ap (λ (told : List Data). array (items_of told)) (c.loop-index.invariant ∙ ap (map f) (take_all index (enumerate_from 0 levels) past))
