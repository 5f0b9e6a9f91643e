-- How the desk's own session serves the requests that wait.
use Rattle.std.specs.Prelude.{◌≡◌, ℕ, Bool, false, List, [], ◌∷◌}
use Rattle.sa_count.specs.declared.report.Report.{Report}
use Rattle.sa_meaning.specs.Progress.{Progress}
use Rattle.sa_meaning.specs.Counts.{counts}
use Rattle.sa_desk.specs.declared.entry.Entry.{Entry}
use Rattle.sa_desk.specs.declared.entry.Event.TheVariants.{Served}
use Rattle.sa_desk.specs.declared.request.Request.{Request}
use Rattle.sa_desk.specs.declared.stamp.Stamp.{Stamp}
use Rattle.sa_desk.specs.State.{Phase, unplanned, planned, serving, queue_of}
use Rattle.sa_desk.specs.Contents.{Contents, phase, entry_by, later}

-- what the run has counted
abbrev pub report_of : Progress → Report
report_of run = counts run.statement run.plan run.data_read run.steps

-- one entry for each request, oldest first, all with the same report
abbrev pub served_with : Contents → Report → Stamp → List Request → List Entry
served_with desk report stamp [] = []
served_with desk report stamp (request ∷ rest) =
    entry_by desk stamp (Served request.asker request.request report)
    ∷ served_with desk report (later 1 stamp) rest

-- the whole queue is served with the run's report
abbrev pub served_entries : Contents → Stamp → Progress → List Entry
served_entries desk stamp run = served_with desk (report_of run) stamp (queue_of (phase desk))

-- The run is of the statement that is on, of its plan and over its tables.
abbrev pub IsRunOf : Phase → Progress → Type 0
IsRunOf (planned statement execution) run =
    (run.statement ≡ statement.number) × (run.plan ≡ execution.plan)
    × (run.data_read ≡ execution.tables)
IsRunOf phase run = ⊥

-- the turn in which the statement that is on began
abbrev pub begin_turn : Phase → ℕ
begin_turn (unplanned statement) = statement.turn
begin_turn (planned statement execution) = statement.turn
begin_turn (serving statement execution steps turn) = statement.turn
begin_turn phase = 0

-- whether a kill stands for the statement that is on
abbrev pub is_killed : Phase → Bool
is_killed (unplanned statement) = statement.killed
is_killed (planned statement execution) = statement.killed
is_killed (serving statement execution steps turn) = statement.killed
is_killed phase = false
