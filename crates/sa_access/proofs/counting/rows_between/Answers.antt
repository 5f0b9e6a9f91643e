use Rattle.std.proofs.Common.{◌≡◌, ◌≤◌, ◌-◌, ap, ap₂, ◌∙◌, arith}
use Rattle.sa_index.specs.Entries.{count_before}
use Rattle.sa_access.proofs.CountLemmas.{rows_between, start_before_end}
use Rattle.sa_access.proofs.counting.rows_between.Goals as goal

pub overflow_sub-result : goal.overflow_sub-result
overflow_sub-result g c =
    let index = g.I.Index.indexed c.args.index.now in
    let from : c.lower-from.result ≡ count_before index c.args.range.now.from = c.lower-from.ensures ∙ ap (count_before index) c.view.ensures in
    let to : c.lower-to.result ≡ count_before index c.args.range.now.to = c.lower-to.ensures ∙ ap (count_before index) c.view-2.ensures in
    let fits : count_before index c.args.range.now.from ≤ count_before index c.args.range.now.to =
    start_before_end c.order_is_total.ensures index c.args.range.now c.requires.canonical c.requires.short in
    omega (arith, from, to, fits)

pub returns : goal.returns
returns g c =
    let index = g.I.Index.indexed c.args.index.now in
    ap₂ (λ to from. to - from) (c.lower-to.ensures ∙ ap (count_before index) c.view-2.ensures) (c.lower-from.ensures ∙ ap (count_before index) c.view.ensures)
    ∙ rows_between c.order_is_total.ensures index c.args.range.now c.requires.canonical c.requires.short
