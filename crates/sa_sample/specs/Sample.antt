-- What the columns and the slots of the sample hold, and their kinds.
use Rattle.std.specs.Prelude.{ℕ, pos, negsuc, ◌==◌, ◌||◌, codes, if◌then◌else◌}
use Rattle.sa_value.specs.declared.value.Value.{Value}
use Rattle.sa_value.specs.declared.value.Value.TheVariants.{Null, Int, Big, Text}
use Rattle.sa_cond.specs.declared.cells.CellKind.{CellKind}
use Rattle.sa_cond.specs.declared.cells.CellKind.TheVariants as cells
use Rattle.sa_cond.specs.Choice.{Choice}
use Rattle.sa_cond.specs.Interval.{CellKinds}

abbrev pub cell_at : ℕ → ℕ → Value
cell_at table column =
    if table == 0 then
    (if column == 0 then Int (pos 2) else (if column == 1 then Int (pos 3) else Int (pos 7)))
    else (if column == 0 then Null else (if column == 1 then Text (codes "pear") else Null))

-- 2^70
abbrev pub slot_at : Value
slot_at = Big (pos 1180591620717411303424)

-- an INT
abbrev pub int_kind : CellKind
int_kind = cells.Number (negsuc 2147483647) (pos 2147483647)

-- a BIGINT
abbrev pub bigint_kind : CellKind
bigint_kind = cells.Number (negsuc 9223372036854775807) (pos 9223372036854775807)

abbrev pub column_kind_at : ℕ → ℕ → CellKind
column_kind_at table column =
    if table == 0 then (if column == 0 || column == 1 then int_kind else bigint_kind)
    else (if column == 0 then int_kind else cells.Text)

abbrev pub slot_kind_at : CellKind
slot_kind_at = cells.Sum

-- the row, and the kinds of its columns
abbrev pub sample : Choice
sample = record { cell = cell_at; slot = λ number. slot_at }

abbrev pub sample_kinds : CellKinds
sample_kinds = record { column = column_kind_at; slot = λ number. slot_kind_at }
