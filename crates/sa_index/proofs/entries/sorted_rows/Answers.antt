use Rattle.std.proofs.Common.{◌≡◌, length, ap, ◌∙◌, arith}
use Rattle.std.proofs.lemmas.List.FromFn.{length-range_with_len}
use Rattle.std.proofs.lemmas.List.Sorted.{length_permutation}
use Rattle.sa_index.proofs.entries.sorted_rows.Goals as goal

pub returns-clause-few : goal.returns-clause-few
returns-clause-few c =
    let long : length c.sort_rows.new.rows.items ≡ c.count_rows.result =
    length_permutation c.in_ok-rows.rows.items c.sort_rows.new.rows.items c.sort_rows.ensures.same
    ∙ ap length c.in_ok-rows.ensures ∙ length-range_with_len 0 c.count_rows.result in
    omega (arith, c.count_rows.ensures.few)
