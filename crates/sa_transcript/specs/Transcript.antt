-- What is printed for journals: a line for each entry, session by session, each row behind the line
-- of its End, and a last line.
use Rattle.std.specs.Prelude.{◌≡◌, ℕ, true, ⊤, All, List, [], ◌∷◌, ◌++◌, length, codes, None, Some}
use Rattle.std.specs.List.{flat_map}
use Rattle.serde_json.specs.Data.{Data, boolean, object, put, no_members}
use Rattle.serde_json.specs.Written.{compact_text}
use Rattle.sa_value.specs.declared.value.Value.{Value}
use Rattle.sa_count.specs.declared.report.Report.{Report}
use Rattle.sa_table.specs.Table.{Table}
use Rattle.sa_plan.specs.declared.names.TableNames.{TableNames}
use Rattle.sa_plan.specs.declared.plan.Plan.{Plan}
use Rattle.sa_plan.specs.Lawful.{IsLawful}
use Rattle.sa_plan.specs.Names.{names_of}
use Rattle.sa_explain.specs.Values.{values_data}
use Rattle.sa_desk.specs.declared.entry.Entry.{Entry}
use Rattle.sa_desk.specs.declared.entry.Event.{Event}
use Rattle.sa_desk.specs.declared.entry.Event.TheVariants.{End}
use Rattle.sa_desk.specs.declared.outcome.Outcome.{Outcome}
use Rattle.sa_desk.specs.declared.outcome.Outcome.TheVariants as outcome
use Rattle.sa_transcript.specs.Line.{entry_data}
use Rattle.sa_transcript.specs.Outcome.{plan_begun}

-- a value without blanks, and the line's end
unfoldable pub line_of : Data → List ℕ
line_of value = compact_text value ++ 10 ∷ []

abbrev pub row_line : List Value → List ℕ
row_line row = line_of (object (put (codes "row") (values_data row) no_members))

-- the rows that a statement's End tells
abbrev pub rows_in : Event → List (List Value)
rows_in (End statement (outcome.Rows columns rows) steps) = rows
rows_in event = []

abbrev pub entry_lines : List TableNames → List (List Entry) → Entry → List ℕ
entry_lines names journals entry =
    line_of (entry_data names journals entry) ++ flat_map row_line (rows_in entry.event)

-- nothing follows
abbrev pub done_line : List ℕ
done_line = line_of (object (put (codes "done") (boolean true) no_members))

-- The whole text of these journals.
unfoldable pub transcript : List TableNames → List (List Entry) → List ℕ
transcript names journals = flat_map (flat_map (entry_lines names journals)) journals ++ done_line

-- A run of the plan over these tables was reported so: the plan is lawful, and each of its levels
-- has its counters.
pub record IsReportOf (tables : List Table) (plan : Plan) (report : Report) : Type 0 where
  pub lawful : IsLawful tables plan
  pub counted : length report.tables.items ≡ length plan.levels

-- An outcome can be told: its plans are lawful for these tables, and a plan that was shown is
-- there. No trace has a document yet.
abbrev pub CanTellOutcome : List Table → List (List Entry) → Outcome → Type 0
CanTellOutcome tables journals (outcome.PlanShown plan) = IsLawful tables plan
CanTellOutcome tables journals (outcome.Analyzed plan report) = IsReportOf tables plan report
CanTellOutcome tables journals (outcome.Shown kind desk begin report) =
    (plan : Plan) × (plan_begun journals desk begin ≡ Some plan) × IsReportOf tables plan report
CanTellOutcome tables journals (outcome.Trace document) = document ≡ None
CanTellOutcome tables journals result = ⊤

abbrev pub CanTellEvent : List Table → List (List Entry) → Event → Type 0
CanTellEvent tables journals (End statement result steps) = CanTellOutcome tables journals result
CanTellEvent tables journals event = ⊤

-- The journals can be told with the names of some tables.
pub record CanTell (names : List TableNames) (journals : List (List Entry)) : Type 0 where
  pub tables : List Table
  pub names_are : names ≡ names_of tables
  pub events : All
      (λ (journal : List Entry). All
      (λ (entry : Entry). CanTellEvent tables journals entry.event) journal) journals
