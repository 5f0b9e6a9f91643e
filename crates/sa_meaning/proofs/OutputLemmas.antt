-- The rows that a run keeps, item by item.
use Rattle.std.proofs.Common.{◌≡◌, ℕ, ◌+◌, ◌≤◌, Some, List, [], ◌∷◌, ◌++◌, length, take, drop, slice_get, refl, sym, ap, ◌∙◌, arith}
use Rattle.std.specs.List.{flat_map}
use Rattle.std.proofs.lemmas.List.{append-nil, take_all, length-append, take-append-drop, take-take}
use Rattle.std.proofs.lemmas.List.Concat.{flat_map-append}
use Rattle.sa_value.specs.declared.value.Value.{Value}
use Rattle.sa_plan.specs.declared.plan.Plan.{Plan}
use Rattle.sa_meaning.specs.Data.{RunData}
use Rattle.sa_meaning.specs.Items.{RunItem, open_level, read_row, emit_row, items}
use Rattle.sa_meaning.specs.Output.{rows_from, kept, output}
use Rattle.sa_meaning.proofs.Lists.{take-next}

-- At first nothing is kept.
pub kept-zero : (plan : Plan) (tables : RunData) → kept plan tables 0 ≡ []
unfolding kept
kept-zero plan tables = refl

-- An item more gives its row, if any, after those of the items before it.
pub kept-next : (plan : Plan) (tables : RunData) (steps : ℕ) (item : RunItem) → slice_get (items plan tables) steps ≡ Some item
    → kept plan tables (steps + 1) ≡ kept plan tables steps ++ rows_from item
unfolding kept
kept-next plan tables steps item here =
    ap (flat_map rows_from) (take-next (items plan tables) steps item here)
    ∙ flat_map-append rows_from (take steps (items plan tables)) (item ∷ [])
    ∙ ap (λ rows. flat_map rows_from (take steps (items plan tables)) ++ rows) (append-nil (rows_from item))

-- Past the last item nothing more is kept.
pub kept-past : (plan : Plan) (tables : RunData) (steps more : ℕ) → length (items plan tables) ≤ steps → steps ≤ more
    → kept plan tables more ≡ kept plan tables steps
unfolding kept
kept-past plan tables steps more past later =
    ap (flat_map rows_from) (take_all more (items plan tables) (omega arith) ∙ sym (take_all steps (items plan tables) past))

-- All items give the output.
pub kept-all : (plan : Plan) (tables : RunData) (steps : ℕ) → length (items plan tables) ≤ steps → kept plan tables steps ≡ output plan tables
unfolding kept output
kept-all plan tables steps past = ap (flat_map rows_from) (take_all steps (items plan tables) past)

-- An item gives one row at most.
pub length-rows_from : (item : RunItem) → length (rows_from item) ≤ 1
length-rows_from (open_level level) = omega arith
length-rows_from (read_row level passed) = omega arith
length-rows_from (emit_row row) = omega arith

-- The rows that are kept after fewer items are the first of those that are kept after more.
pub kept-prefix : (plan : Plan) (tables : RunData) (steps more : ℕ) → steps ≤ more
    → (rows : List (List Value)) × (kept plan tables more ≡ kept plan tables steps ++ rows)
unfolding kept
kept-prefix plan tables steps more later =
    let made = take more (items plan tables) in
    let first = take-take steps more (items plan tables) later in (
      flat_map rows_from (drop steps made),
      ap (flat_map rows_from) (sym (take-append-drop steps made)) ∙ flat_map-append rows_from (take steps made) (drop steps made)
          ∙ ap (λ front. flat_map rows_from front ++ flat_map rows_from (drop steps made)) first,
    )

-- So what is kept never falls.
pub length-kept : (plan : Plan) (tables : RunData) (steps more : ℕ) → steps ≤ more → length (kept plan tables steps) ≤ length (kept plan tables more)
length-kept plan tables steps more later =
    let longer = kept-prefix plan tables steps more later in
    omega (arith, ap length longer.1, length-append (kept plan tables steps) longer.0)
