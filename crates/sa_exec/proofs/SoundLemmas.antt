-- A sound run at its next item.
use Rattle.std.proofs.Common.{◌≡◌, ◌≢◌, ◌+◌, ◌<◌, ◌≤◌, List, ◌++◌, length, ◌↔◌, ap, inl, inr, arith}
use Rattle.std.proofs.lemmas.Bool.{cases_lt}
use Rattle.sa_value.specs.declared.value.Value.{Value}
use Rattle.sa_meaning.specs.Items.{items}
use Rattle.sa_meaning.specs.Output.{rows_from, kept}
use Rattle.sa_exec.specs.declared.level.LevelState.{LevelState}
use Rattle.sa_exec.specs.declared.run.Run.TheInside.{Inside}
use Rattle.sa_exec.specs.Step.{most_rows, IsTooMany, MayLackMemory}
use Rattle.sa_exec.specs.inner.Place.{only_level, next_item, state_after, IsEmit, IsFull, HasNext}
use Rattle.sa_exec.specs.inner.Ready.{IsReady}
use Rattle.sa_exec.specs.inner.Sound.{progress_of, IsSound}
use Rattle.sa_exec.proofs.IsAtLemmas.{has_next, kept-after, IsAt-next, EmitsAt-from, full-iff, HasRoom-from}

module _ (run : Inside) (sound : IsSound run) (unfinished : run.steps < length (items run.plan run.tables)) where
  next : HasNext run.level.count run.level.place
  next = has_next run.tables run.plan run.steps run.level run.rows sound.at unfinished

  -- The next item can be made.
  pub IsReady-from : IsReady run.tables run.plan run.level
  IsReady-from = record {
    sound = sound.sound;
    lawful = sound.lawful;
    runnable = sound.runnable;
    count = sound.at.count;
    next = next;
    room = HasRoom-from run.tables run.plan run.steps run.level run.rows sound.at (omega (arith, sound.limited, sound.row_limit));
  }

  full : IsFull run.level.place run.rows ↔ (most_rows < length (kept run.plan run.tables (run.steps + 1)))
  full = full-iff run.tables run.plan run.steps run.level run.rows sound.at next

  fits : (IsFull run.level.place run.rows → ⊥) → length (kept run.plan run.tables (run.steps + 1)) ≤ most_rows
  fits not_full =
      elim (cases_lt most_rows (length (kept run.plan run.tables (run.steps + 1)))) [ inl over ↦ absurd (not_full (full.1 over)) | inr few ↦ few ]

  -- Once it is made, the run is sound again.
  pub IsSound-next : run.steps ≢ run.row_limit → run.since_looked < run.quantum → (IsFull run.level.place run.rows → ⊥)
      → (level : LevelState) (rows : List (List Value)) → level ≡ state_after run.tables (only_level run.plan) run.level
      → rows ≡ run.rows ++ rows_from (next_item run.tables run.plan run.level.place)
      → IsSound (record run { steps = run.steps + 1; since_looked = run.since_looked + 1; level = level; rows = rows })
  IsSound-next below looked not_full level rows level_is rows_is =
      let after = kept-after run.tables run.plan run.steps run.level run.rows sound.at next in
      let few = fits not_full in
      record {
        sound = sound.sound;
        lawful = sound.lawful;
        runnable = sound.runnable;
        quantum = sound.quantum;
        row_limit = sound.row_limit;
        limited = omega (arith, sound.limited);
        looked = omega arith;
        at = rw (level_is, rows_is) (IsAt-next run.tables run.plan run.steps run.level run.rows sound.at next (omega (arith, ap length after)));
      }

  -- The item would give one row too many exactly where it finds no room.
  pub IsTooMany-iff : run.steps ≢ run.row_limit → IsFull run.level.place run.rows ↔ IsTooMany (progress_of run)
  IsTooMany-iff below = (λ is_full. (omega (arith, sound.limited), full.0 is_full), λ too_many. full.1 too_many.1)

  -- An emit that finds room may lack memory.
  pub MayLackMemory-from : run.steps ≢ run.row_limit → IsEmit run.level.place → (IsFull run.level.place run.rows → ⊥) → MayLackMemory (progress_of run)
  MayLackMemory-from below emit not_full = record {
    below_limit = omega (arith, sound.limited);
    few = fits not_full;
    emits = EmitsAt-from run.tables run.plan run.steps run.level run.rows sound.at next emit;
  }
