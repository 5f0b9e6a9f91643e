-- What a run has counted after so many items.
-- Source of the names: MariaDB Knowledge Base, "ANALYZE FORMAT=JSON".
use Rattle.std.specs.Prelude.{ℕ, ◌==◌, ◌&&◌, Bool, true, false, List, map, length, take, count_by}
use Rattle.std.specs.List.{range_with_len}
use Rattle.sa_count.specs.declared.counters.Counters.{Counters}
use Rattle.sa_count.specs.declared.report.Report.{Report}
use Rattle.sa_plan.specs.declared.plan.Plan.{Plan}
use Rattle.sa_meaning.specs.Data.{RunData}
use Rattle.sa_meaning.specs.Items.{RunItem, open_level, read_row, emit_row, items}

-- the item opens this level
abbrev pub is_open : ℕ → RunItem → Bool
is_open level (open_level other) = other == level
is_open level (read_row other passed) = false
is_open level (emit_row row) = false

-- the item reads a row of this level
abbrev pub is_read : ℕ → RunItem → Bool
is_read level (open_level other) = false
is_read level (read_row other passed) = other == level
is_read level (emit_row row) = false

-- the item reads a row of this level that passed
abbrev pub is_pass : ℕ → RunItem → Bool
is_pass level (open_level other) = false
is_pass level (read_row other passed) = other == level && passed
is_pass level (emit_row row) = false

-- the item emits a row
abbrev pub is_emit : RunItem → Bool
is_emit (open_level level) = false
is_emit (read_row level passed) = false
is_emit (emit_row row) = true

-- how often a level was opened, and how many of its rows were read and passed
abbrev pub counters_of : List RunItem → ℕ → Counters
counters_of made level = record {
  loops = count_by (is_open level) made;
  rows = count_by (is_read level) made;
  passed = count_by (is_pass level) made;
}

-- the counters of a plan's levels after so many items, in their order
unfoldable pub level_counters : Plan → RunData → ℕ → List Counters
level_counters plan tables steps =
    map (counters_of (take steps (items plan tables))) (range_with_len 0 (length plan.levels))

-- how many rows were given out after so many items
unfoldable pub sent_count : Plan → RunData → ℕ → ℕ
sent_count plan tables steps = count_by is_emit (take steps (items plan tables))

-- The report of a run of this statement after so many items.
abbrev pub counts : ℕ → Plan → RunData → ℕ → Report
counts statement plan tables steps = record {
  statement = statement;
  steps = steps;
  sent = sent_count plan tables steps;
  tables = record { items = level_counters plan tables steps };
}
