-- The items of a plan of one level by ALL: its table is opened, and then each row is read, and emitted where it passed.
use Rattle.std.proofs.Common.{◌≡◌, [], ◌∷◌, refl}
use Rattle.std.specs.List.{flat_map, range_with_len}
use Rattle.sa_table.specs.Table.{row_count}
use Rattle.sa_plan.specs.declared.access.Access.TheVariants.{All}
use Rattle.sa_plan.specs.declared.plan.Level.{Level}
use Rattle.sa_plan.specs.declared.plan.Plan.{Plan}
use Rattle.sa_meaning.specs.Data.{RunData}
use Rattle.sa_meaning.specs.Items.{open_level, emit_row, passes, selected, with_row, row_items, items}

pub items-one_level : (plan : Plan) (tables : RunData) (level : Level) → plan.levels ≡ level ∷ [] → level.access ≡ All
    → items plan tables ≡ open_level 0 ∷ flat_map
    (λ row. row_items 0
    (passes tables level.conditions (with_row level [] row))
    (emit_row (selected tables plan.select (with_row level [] row)) ∷ []))
    (range_with_len 0 (row_count tables level.table))
unfolding items
items-one_level plan tables level one whole = rw (one, whole) refl
