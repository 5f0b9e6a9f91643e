use Rattle.std.proofs.Common.{◌≡◌, ℕ, List, [], ◌∷◌, ◌++◌, length, take, sym, ap, ◌∙◌, arith}
use Rattle.std.proofs.lemmas.List.FromFn.{length-map-range_with_len, map-range_with_len_more}
use Rattle.sa_index.specs.Entries.{is_alike, different}
use Rattle.sa_index.proofs.RowLemmas.{prefixes-ends}
use Rattle.sa_index.proofs.entries.distinct_counts.Goals as goal

pub push-requires : goal.push-requires
push-requires c =
    let long : length c.loop-count.counts.items ≡ c.loop-count.count = ap length c.loop-count.invariant ∙ length-map-range_with_len _ 0 c.loop-count.count in
    (omega arith, omega arith)

pub loop-count-preserved : goal.loop-count-preserved
loop-count-preserved c =
    let count_of : ℕ → ℕ = λ count. different (is_alike c.args.tables.now c.args.table (take count c.args.parts.now)) c.args.rows.now in
    let here : c.distinct_count.result ≡ count_of c.loop-count.count =
    c.distinct_count.ensures ∙ prefixes-ends c.order_of_tuples_is_total.ensures c.args.tables.now c.args.table c.args.parts.now c.args.rows.now c.loop-count.count c.requires.rise in
    c.push.ensures.items
    ∙ ap (λ (count : ℕ). c.loop-count.counts.items ++ count ∷ []) here
    ∙ ap (λ (counts : List ℕ). counts ++ count_of c.loop-count.count ∷ []) c.loop-count.invariant
    ∙ sym (map-range_with_len_more count_of 0 c.loop-count.count c.loop-count.count (omega arith))
