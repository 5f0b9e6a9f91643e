-- What parts of journals need, so that they can be told with the names of some tables.
use Rattle.std.specs.Prelude.{◌≡◌, List, All, Option, Some, None, ⊤, length}
use Rattle.sa_count.specs.declared.report.Report.{Report}
use Rattle.sa_table.specs.Table.{Table}
use Rattle.sa_plan.specs.declared.names.TableNames.{TableNames}
use Rattle.sa_plan.specs.declared.plan.Plan.{Plan}
use Rattle.sa_plan.specs.Names.{names_of}
use Rattle.sa_explain.specs.Document.{AreNamesFor}
use Rattle.sa_desk.specs.declared.entry.Entry.{Entry}
use Rattle.sa_desk.specs.declared.entry.Event.{Event}
use Rattle.sa_desk.specs.declared.outcome.Outcome.{Outcome}
use Rattle.sa_transcript.specs.Transcript.{CanTellEvent, CanTellOutcome}

pub record OutcomeIsTold (names : List TableNames) (journals : List (List Entry))
    (result : Outcome) : Type 0 where
  pub tables : List Table
  pub names_are : names ≡ names_of tables
  pub outcome : CanTellOutcome tables journals result

pub record EventIsTold (names : List TableNames) (journals : List (List Entry))
    (happened : Event) : Type 0 where
  pub tables : List Table
  pub names_are : names ≡ names_of tables
  pub event : CanTellEvent tables journals happened

pub record JournalIsTold (names : List TableNames) (journals : List (List Entry))
    (journal : List Entry) : Type 0 where
  pub tables : List Table
  pub names_are : names ≡ names_of tables
  pub events : All (λ (entry : Entry). CanTellEvent tables journals entry.event) journal

-- A plan that a session looked into has these names, and each of its levels has its counters.
pub record ShownIsToldOf (names : List TableNames) (plan : Plan) (report : Report) : Type 0 where
  pub named : AreNamesFor plan names
  pub counted : length report.tables.items ≡ length plan.levels

abbrev pub ShownIsTold : List TableNames → Option Plan → Report → Type 0
ShownIsTold names None report = ⊤
ShownIsTold names (Some plan) report = ShownIsToldOf names plan report
