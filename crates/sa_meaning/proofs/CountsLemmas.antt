-- What a run has counted, item by item.
use Rattle.std.proofs.Common.{◌≡◌, ℕ, ◌+◌, ◌≤◌, Bool, true, false, cond, Some, List, [], ◌∷◌, ◌++◌, length, take, count_by, slice_get, refl, sym, ap, ◌∙◌, arith}
use Rattle.std.specs.List.{flat_map}
use Rattle.std.proofs.lemmas.List.{length-append, length-take}
use Rattle.std.proofs.lemmas.List.Sums.{sum_by_push, sum_by-cons, count_by-le-length}
use Rattle.sa_count.specs.declared.counters.Counters.{Counters}
use Rattle.sa_plan.specs.declared.plan.Plan.{Plan}
use Rattle.sa_meaning.specs.Data.{RunData}
use Rattle.sa_meaning.specs.Items.{RunItem, open_level, read_row, emit_row, items}
use Rattle.sa_meaning.specs.Counts.{is_open, is_read, is_pass, is_emit, counters_of, sent_count}
use Rattle.sa_meaning.specs.Output.{rows_from, kept}
use Rattle.sa_meaning.proofs.Lists.{take-next}

-- one more where a test is true
abbrev pub one_if : Bool → ℕ
one_if passed = cond passed 1 0

pub one_if-le : (passed : Bool) → one_if passed ≤ 1
one_if-le true = omega arith
one_if-le false = omega arith

-- the counters of a level with one item more
abbrev pub counted : ℕ → Counters → RunItem → Counters
counted level counters item = record {
  loops = counters.loops + one_if (is_open level item);
  rows = counters.rows + one_if (is_read level item);
  passed = counters.passed + one_if (is_pass level item);
}

count_by-push : (test : RunItem → Bool) (made : List RunItem) (item : RunItem) → count_by test (made ++ item ∷ []) ≡ count_by test made + one_if (test item)
count_by-push test made item = sum_by_push (λ x. cond (test x) 1 0) made item

-- At first nothing is counted.
pub counters_of-zero : (made : List RunItem) (level : ℕ) → counters_of (take 0 made) level ≡ record { loops = 0; rows = 0; passed = 0 }
counters_of-zero made level = refl

-- An item more counts once at most in each counter.
pub counters_of-next : (made : List RunItem) (steps level : ℕ) (item : RunItem) → slice_get made steps ≡ Some item
    → counters_of (take (steps + 1) made) level ≡ counted level (counters_of (take steps made) level) item
counters_of-next made steps level item here =
    let push = λ (test : RunItem → Bool).
    ap (count_by test) (take-next made steps item here) ∙ count_by-push test (take steps made) item in
    let loops = push (is_open level) in
    let rows = push (is_read level) in
    let passed = push (is_pass level) in
    cc

-- No counter is above the number of items.
pub counters_of-le : (made : List RunItem) (steps level : ℕ)
    → (let counters = counters_of (take steps made) level in (counters.loops ≤ steps) × (counters.rows ≤ steps) × (counters.passed ≤ steps))
counters_of-le made steps level =
    let few = length-take steps made in
    let le = λ (test : RunItem → Bool). count_by-le-length test (take steps made) in
    (omega (arith, few, le (is_open level)), omega (arith, few, le (is_read level)), omega (arith, few, le (is_pass level)))

-- The rows that were given out are those that are kept.
length-rows_from : (item : RunItem) → length (rows_from item) ≡ one_if (is_emit item)
length-rows_from (open_level level) = refl
length-rows_from (read_row level passed) = refl
length-rows_from (emit_row row) = refl

length-rows : (made : List RunItem) → length (flat_map rows_from made) ≡ count_by is_emit made
length-rows [] = refl
length-rows (item ∷ made) =
    omega (arith, length-rows made, length-rows_from item, length-append (rows_from item) (flat_map rows_from made), sum_by-cons (λ x. one_if (is_emit x)) item made)

pub sent_count-kept : (plan : Plan) (tables : RunData) (steps : ℕ) → sent_count plan tables steps ≡ length (kept plan tables steps)
unfolding sent_count kept
sent_count-kept plan tables steps = sym (length-rows (take steps (items plan tables)))
