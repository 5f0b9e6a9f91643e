-- What a full scan of one table gives answers its query.
use Rattle.std.proofs.Common.{◌≡◌, ℕ, ◌+◌, Bool, true, false, cond, not, ◌||◌, if◌then◌else◌, List, [], ◌∷◌, ◌++◌, map, filter, length, drop, get_or, refl, ap, ap₂, sym, ◌∙◌, arith, IsSortedBy, is_lt}
use Rattle.std.proofs.lemmas.List.Sorted.{IsPermutation-refl}
use Rattle.std.specs.Cmp.{IsTotalOrder}
use Rattle.std.specs.List.{range_with_len, flat_map}
use Rattle.sa_value.specs.declared.value.Value.{Value}
use Rattle.sa_value.specs.Compare.{order_of}
use Rattle.sa_cond.specs.Choice.{Choice}
use Rattle.sa_cond.specs.Condition.{holds}
use Rattle.sa_simplify.specs.Simple.{simple}
use Rattle.sa_table.specs.Table.{Table, row_count}
use Rattle.sa_query.specs.declared.query.Query.{Query}
use Rattle.sa_query.specs.declared.query.TableUse.{TableUse}
use Rattle.sa_query.specs.Answers.{order_in, comes_before, cut, AnswersQuery}
use Rattle.sa_query.specs.Choices.{is_true, choices, kept_choices}
use Rattle.sa_query.specs.Groups.{groups}
use Rattle.sa_query.specs.Meaning.{ResultRow, is_empty, passes_having, sources, result_of, made_distinct, meaning}
use Rattle.sa_plan.specs.Chosen.{Chosen, choice_of}
use Rattle.sa_meaning.specs.Items.{RunItem, emit_row, row_items, passes, selected, items}
use Rattle.sa_meaning.specs.Output.{rows_from, output}
use Rattle.sa_prepare.specs.PlanFor.{conditions_of, the_table, plan_for, IsPlain}
use Rattle.sa_prepare.proofs.answers.Conditions.{simple_conditions}
use Rattle.sa_prepare.proofs.answers.Scanned.{chosen_row, choices_by_number}

-- a row that is read gives itself where it passed
read_rows : (passed : Bool) (row : List Value) (rest : List RunItem)
    → flat_map rows_from (row_items 0 passed (emit_row row ∷ []) ++ rest)
    ≡ (if passed then row ∷ flat_map rows_from rest else flat_map rows_from rest)
read_rows true row rest = refl
read_rows false row rest = refl

only_use : (uses : List TableUse) (default : TableUse) → length uses ≡ 1
    → uses ≡ get_or uses 0 default ∷ []
only_use [] default one = absurd (omega arith)
only_use (used ∷ []) default one = refl
only_use (used ∷ other ∷ uses) default one = absurd (omega arith)

module _ (tables : List Table) (query : Query) where
  abbrev used : TableUse
  used = the_table query

  abbrev chosen : ℕ → List Chosen
  chosen row = chosen_row used.table row

  abbrev choice_at : ℕ → Choice
  choice_at row = choice_of tables (chosen row)

  abbrev is_kept : Choice → Bool
  is_kept choice = is_true (holds choice query.filter)

  abbrev row_of : Choice → List Value
  row_of choice = (result_of query choice).row

  abbrev rows_of_choices : List Choice → List (List Value)
  rows_of_choices choices = map (λ (one : ResultRow). one.row) (map (result_of query) choices)

  -- whether the scan passes a row, the items of a row, and what the items of rows give

  abbrev is_passed : ℕ → Bool
  is_passed row = passes tables (conditions_of (simple query.filter)) (chosen row)

  abbrev items_at : ℕ → List RunItem
  items_at row =
      row_items 0 (is_passed row) (emit_row (selected tables query.select (chosen row)) ∷ [])

  abbrev given_by : List ℕ → List (List Value)
  given_by rows = flat_map rows_from (flat_map items_at rows)

  row_kept : (choice : Choice) (choices : List Choice) (rows : List (List Value)) (kept : Bool)
      → rows ≡ rows_of_choices choices
      → (if kept then row_of choice ∷ rows else rows)
      ≡ rows_of_choices (cond kept (choice ∷ choices) choices)
  row_kept choice choices rows true same = ap (λ rest. row_of choice ∷ rest) same
  row_kept choice choices rows false same = same

  rows_read : IsTotalOrder order_of → (rows : List ℕ)
      → given_by rows ≡ rows_of_choices (filter is_kept (map choice_at rows))
  unfolding passes selected
  rows_read total [] = refl
  rows_read total (row ∷ rows) =
      read_rows (is_passed row) (selected tables query.select (chosen row)) (flat_map items_at rows)
      ∙ ap (λ kept. if kept then row_of (choice_at row) ∷ given_by rows else given_by rows)
      (simple_conditions total (choice_at row) query.filter)
      ∙ row_kept (choice_at row) (filter is_kept (map choice_at rows)) (given_by rows)
      (is_kept (choice_at row)) (rows_read total rows)

  output_is : IsTotalOrder order_of → query.tables ≡ used ∷ []
      → output (plan_for tables query) tables ≡ rows_of_choices (kept_choices tables query)
  unfolding output items plan_for
  output_is total one =
      rows_read total (range_with_len 0 (row_count tables used.table))
      ∙ ap (λ all. rows_of_choices (filter is_kept all))
      (choices_by_number tables used ∙ ap (choices tables) (sym one))

  module _ (plain : IsPlain query) where
    sources_are : sources tables query ≡ kept_choices tables query
    sources_are =
        ap₂ (λ group aggregates. if not (is_empty group) || not (is_empty aggregates)
        then filter (passes_having query.having) (groups query (kept_choices tables query))
        else kept_choices tables query) plain.group plain.aggregates

    meaning_is : meaning query tables ≡ map (result_of query) (kept_choices tables query)
    unfolding meaning
    meaning_is =
        let results : List ResultRow = map (result_of query) (sources tables query) in
        ap (λ distinct. made_distinct distinct results) plain.distinct
        ∙ ap (map (result_of query)) sources_are

    in_any_order : (results : List ResultRow) → IsSortedBy (comes_before query) results
    in_any_order results k d least most =
        let before : ResultRow = get_or results k d in
        let behind : ResultRow = get_or results (k + 1) d in
        ap (λ keys. is_lt (order_in keys behind.order before.order)) plain.order

    uncut : (rows : List (List Value)) → cut query.limit (drop query.offset rows) ≡ rows
    uncut rows = ap₂ (λ limit offset. cut limit (drop offset rows)) plain.limit plain.offset

pub scan_answers : IsTotalOrder order_of → (query : Query) (tables : List Table) → IsPlain query
    → AnswersQuery query tables (output (plan_for tables query) tables)
scan_answers total query tables plain =
    let results : List ResultRow = meaning query tables in
    let rows : List ResultRow → List (List Value) = map (λ (one : ResultRow). one.row) in
    record {
      arranged = results;
      same = IsPermutation-refl results;
      in_order = in_any_order tables query plain results;
      rows_are =
          output_is tables query total (only_use query.tables _ plain.one)
          ∙ sym (ap rows (meaning_is tables query plain))
          ∙ sym (uncut tables query plain (rows results));
    }
