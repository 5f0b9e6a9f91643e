-- Where a run's steps have led it, item by item.
use Rattle.std.proofs.Common.{◌≡◌, ℕ, ◌+◌, ◌-◌, ◌<◌, ◌≤◌, ◌^◌, Some, List, [], ◌∷◌, ◌++◌, length, drop, slice_get, ◌↔◌, refl, sym, ap, subst, ◌∙◌, inl, inr, arith}
use Rattle.std.specs.List.{flat_map, range_with_len}
use Rattle.std.proofs.lemmas.List.{length-drop}
use Rattle.sa_count.specs.declared.counters.Counters.{Counters}
use Rattle.sa_value.specs.declared.value.Value.{Value}
use Rattle.sa_table.specs.Table.{row_count}
use Rattle.sa_plan.specs.declared.plan.Plan.{Plan}
use Rattle.sa_meaning.specs.Data.{RunData}
use Rattle.sa_meaning.specs.Items.{open_level, items}
use Rattle.sa_meaning.specs.Counts.{level_counters, sent_count}
use Rattle.sa_meaning.specs.Output.{rows_from, kept}
use Rattle.sa_meaning.specs.Progress.{EmitsAt, IsRunnable}
use Rattle.sa_meaning.proofs.Lists.{slice_get-left, drop-next, length-left}
use Rattle.sa_meaning.proofs.ItemsLemmas.{items-one_level}
use Rattle.sa_meaning.proofs.OutputLemmas.{kept-zero, kept-next}
use Rattle.sa_meaning.proofs.CountsLemmas.{counted, counters_of-next, counters_of-le, sent_count-kept}
use Rattle.sa_exec.specs.declared.level.LevelState.{LevelState}
use Rattle.sa_exec.specs.declared.level.Place.TheVariants.{Open, Read}
use Rattle.sa_exec.specs.Step.{most_rows}
use Rattle.sa_exec.specs.inner.Place.{only_level, one_row, items_left, next_item, place_after, state_after, IsEmit, IsFull, HasNext}
use Rattle.sa_exec.specs.inner.Ready.{HasRoom}
use Rattle.sa_exec.specs.inner.Sound.{IsAt}
use Rattle.sa_exec.proofs.OnlyLevel.{only_level-is, only_level-whole}
use Rattle.sa_exec.proofs.PlaceLemmas.{items_left-next, items_left-none, place-cases, counters_after-is, placed-next, emits-at, full-over, over-full}

whole : (tables : RunData) (plan : Plan)
    → open_level 0 ∷ flat_map (one_row tables plan.select (only_level plan)) (range_with_len 0 (row_count tables (only_level plan).table))
    ≡ items_left tables plan.select (only_level plan) Open
whole tables plan =
    let all : row_count tables (only_level plan).table - 0 ≡ row_count tables (only_level plan).table = omega arith in rw all refl

-- A run begins at its first item.
pub IsAt-start : (tables : RunData) (plan : Plan) → IsRunnable plan
    → IsAt tables plan 0 (record { count = row_count tables (only_level plan).table; place = Open; counters = record { loops = 0; rows = 0; passed = 0 } }) []
IsAt-start tables plan runnable = record {
  within = omega arith;
  left = items-one_level plan tables (only_level plan) (only_level-is plan runnable) (only_level-whole plan runnable) ∙ whole tables plan;
  placed = tt;
  count = refl;
  counters = refl;
  kept_is = sym (kept-zero plan tables);
  few = omega arith;
}

module _ (tables : RunData) (plan : Plan) (steps : ℕ) (state : LevelState) (rows : List (List Value)) (at : IsAt tables plan steps state rows) where
  -- Where all items are made, the level is done, and the other way round.
  done-finished : state.place ≡ Read state.count → steps ≡ length (items plan tables)
  done-finished done =
      let none = at.left ∙ ap (items_left tables plan.select (only_level plan)) (done ∙ ap Read at.count) ∙ items_left-none tables plan.select (only_level plan) in
      omega (arith, at.within, length-drop steps (items plan tables), ap length none)

  pub has_next : steps < length (items plan tables) → HasNext state.count state.place
  has_next unfinished =
      elim (place-cases state.count state.place at.placed) [ inl done ↦ absurd (omega (arith, done-finished done)) | inr next ↦ next ]

  -- Where an item is left, it is the next one.
  pub left-next : HasNext state.count state.place
      → drop steps (items plan tables) ≡ next_item tables plan state.place ∷ items_left tables plan.select (only_level plan) (place_after tables (only_level plan) state.place)
  left-next next =
      at.left ∙ items_left-next tables plan.select (only_level plan) state.place (subst (λ count. HasNext count state.place) at.count next)

  next-get : HasNext state.count state.place → slice_get (items plan tables) steps ≡ Some (next_item tables plan state.place)
  next-get next = slice_get-left (items plan tables) steps _ _ (left-next next)

  not-done : HasNext state.count state.place → steps < length (items plan tables)
  not-done next = length-left (items plan tables) steps _ _ (left-next next)

  finished-done : steps ≡ length (items plan tables) → state.place ≡ Read state.count
  finished-done finished =
      elim (place-cases state.count state.place at.placed) [ inl done ↦ done | inr next ↦ absurd (omega (arith, not-done next)) ]

  pub done-iff : (state.place ≡ Read state.count) ↔ (steps ≡ length (items plan tables))
  done-iff = (done-finished, finished-done)

  -- The rows after the next item.
  pub kept-after : HasNext state.count state.place → kept plan tables (steps + 1) ≡ rows ++ rows_from (next_item tables plan state.place)
  kept-after next =
      kept-next plan tables steps (next_item tables plan state.place) (next-get next)
      ∙ ap (λ front. front ++ rows_from (next_item tables plan state.place)) (sym at.kept_is)

  -- Once the next item is made, the run is one item further.
  pub IsAt-next : HasNext state.count state.place → length (rows ++ rows_from (next_item tables plan state.place)) ≤ most_rows
      → IsAt tables plan (steps + 1) (state_after tables (only_level plan) state) (rows ++ rows_from (next_item tables plan state.place))
  IsAt-next next few = record {
    within = omega (arith, not-done next);
    left = drop-next (items plan tables) steps _ _ (left-next next);
    placed = placed-next state.count tables (only_level plan) state.place next;
    count = at.count;
    counters =
        sym (
        counters_of-next (items plan tables) steps 0 (next_item tables plan state.place) (next-get next)
        ∙ ap (λ counters. counted 0 counters (next_item tables plan state.place)) (sym at.counters)
        ∙ counters_after-is tables plan.select (only_level plan) state.place state.counters
        );
    kept_is = sym (kept-after next);
    few = few;
  }

  -- An emit is an emit of the plan's run.
  pub EmitsAt-from : HasNext state.count state.place → IsEmit state.place → EmitsAt plan tables steps
  unfolding EmitsAt
  EmitsAt-from next emit = rw (next-get next) (emits-at tables plan.select (only_level plan) state.place emit)

  -- The next row is one too many exactly where it finds no room.
  pub full-iff : HasNext state.count state.place → IsFull state.place rows ↔ (most_rows < length (kept plan tables (steps + 1)))
  full-iff next =
      let after = ap length (kept-after next) in (
        λ full. omega (arith, after, full-over tables plan.select (only_level plan) state.place rows full),
        λ over. over-full tables plan.select (only_level plan) state.place rows at.few (omega (arith, after, over)),
      )

  -- What is counted fits in 63 bits.
  pub HasRoom-from : steps ≤ 2 ^ 40 → HasRoom state.counters
  HasRoom-from few =
      let le = counters_of-le (items plan tables) steps 0 in
      record {
        loops = omega (arith, le.0, ap (λ (counters : Counters). counters.loops) at.counters);
        rows = omega (arith, le.1, ap (λ (counters : Counters). counters.rows) at.counters);
        passed = omega (arith, le.2, ap (λ (counters : Counters). counters.passed) at.counters);
      }

  -- The report of a run of one level.
  pub counters-is : IsRunnable plan → level_counters plan tables steps ≡ state.counters ∷ []
  unfolding level_counters
  counters-is runnable = rw (runnable.one) (ap (λ counters. counters ∷ []) (sym at.counters))

  pub sent-is : sent_count plan tables steps ≡ length rows
  sent-is = sent_count-kept plan tables steps ∙ ap length (sym at.kept_is)
