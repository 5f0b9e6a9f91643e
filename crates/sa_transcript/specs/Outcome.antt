-- How the outcome of a statement is told in the line of its End.
use Rattle.std.specs.Prelude.{ℕ, ◌==◌, ◌&&◌, ◌-◌, List, [], map, codes, filter, length, slice_get, slice_index_or, Option, None, Some, option_and_then}
use Rattle.serde_json.specs.Data.{Data, null, string, array, object, Members, put, no_members}
use Rattle.serde_json.specs.Read.{read}
use Rattle.serde_json.specs.View.{items_of}
use Rattle.sa_ast.specs.declared.kind.AskKind.{AskKind}
use Rattle.sa_ast.specs.declared.kind.AskKind.TheVariants.{Explain, Analyze}
use Rattle.sa_count.specs.declared.report.Report.{Report}
use Rattle.sa_query.specs.declared.refusal.Refusal.{Refusal}
use Rattle.sa_query.specs.declared.refusal.Refusal.TheVariants as refusal
use Rattle.sa_plan.specs.declared.names.TableNames.{TableNames}
use Rattle.sa_plan.specs.declared.plan.Plan.{Plan}
use Rattle.sa_explain.specs.Document.{document}
use Rattle.sa_explain.specs.Number.{count}
use Rattle.sa_desk.specs.declared.entry.Entry.{Entry}
use Rattle.sa_desk.specs.declared.entry.Event.{Event}
use Rattle.sa_desk.specs.declared.entry.Event.TheVariants.{Begin}
use Rattle.sa_desk.specs.declared.outcome.Outcome.{Outcome}
use Rattle.sa_desk.specs.declared.outcome.Outcome.TheVariants as outcome
use Rattle.sa_transcript.specs.Names.{lex_name, resolve_name}

abbrev pub data_or_null : Option Data → Data
data_or_null None = null
data_or_null (Some document) = document

-- the data of a text that is a document of JSON, else null
abbrev pub trace_data : Option (List ℕ) → Data
trace_data text = data_or_null (option_and_then read text)

-- the plan of a Begin
abbrev pub plan_in : Event → Option Plan
plan_in (Begin statement text version plan tables) = plan
plan_in event = None

-- the plan of the Begin that a desk's own session made with this number
abbrev pub plan_begun : List (List Entry) → (desk begin : ℕ) → Option Plan
plan_begun journals desk begin =
    option_and_then (λ (entry : Entry). plan_in entry.event)
    (slice_get
    (filter (λ (entry : Entry). (entry.actor == desk) && (entry.seq == begin))
    (slice_index_or journals (desk - 1) [])) 0)

-- what a report shows by a kind of request
abbrev pub shown_report : AskKind → Report → Option Report
shown_report Explain report = None
shown_report Analyze report = Some report

-- The document of a plan, if there is one.
abbrev pub shown_data : List TableNames → Option Plan → Option Report → Data
shown_data names None report = null
shown_data names (Some plan) report = document names plan report

-- an outcome of this kind, with these members besides
abbrev pub of_kind : List ℕ → Members → Members
of_kind kind members = put (codes "kind") (string kind) members

-- An outcome that refuses, with its reason and these members besides.
abbrev pub because : List ℕ → Members → Members
because why members = of_kind (codes "refused") (put (codes "why") (string why) members)

-- a reason that has a place in the statement's text
abbrev pub because_at : List ℕ → (place : ℕ) → Members
because_at why place = because why (put (codes "place") (count place) no_members)

abbrev pub refusal_members : Refusal → Members
refusal_members (refusal.Lex kind place) = because_at (lex_name kind) place
refusal_members (refusal.Syntax place) = because_at (codes "Syntax") place
refusal_members (refusal.NotSupported place) = because_at (codes "NotSupported") place
refusal_members (refusal.TooDeep place) = because_at (codes "TooDeep") place
refusal_members (refusal.Resolve fault place) = because_at (resolve_name fault) place
refusal_members refusal.OutOfMemory = because (codes "OutOfMemory") no_members

abbrev pub outcome_members : List TableNames → List (List Entry) → Outcome → Members
outcome_members names journals (outcome.Rows columns rows) =
    of_kind (codes "rows")
    (put (codes "columns") (array (items_of (map string columns)))
    (put (codes "count") (count (length rows)) no_members))
outcome_members names journals (outcome.PlanShown plan) =
    of_kind (codes "plan") (put (codes "document") (document names plan None) no_members)
outcome_members names journals (outcome.Analyzed plan report) =
    of_kind (codes "analyzed") (put (codes "document") (document names plan (Some report)) no_members)
outcome_members names journals (outcome.Shown kind desk begin report) =
    of_kind (codes "shown")
    (put (codes "document")
    (shown_data names (plan_begun journals desk begin) (shown_report kind report)) no_members)
outcome_members names journals (outcome.Trace text) =
    of_kind (codes "trace") (put (codes "document") (trace_data text) no_members)
outcome_members names journals outcome.Set = of_kind (codes "set") no_members
outcome_members names journals outcome.KillSent = of_kind (codes "kill_sent") no_members
outcome_members names journals (outcome.Waited steps) =
    of_kind (codes "waited") (put (codes "steps") (count steps) no_members)
outcome_members names journals (outcome.Refused why) = refusal_members why
outcome_members names journals outcome.NoSuchThread = because (codes "NoSuchThread") no_members
outcome_members names journals outcome.NotExplainable = because (codes "NotExplainable") no_members
outcome_members names journals (outcome.TimedOut turns) =
    because (codes "TimedOut") (put (codes "turns") (count turns) no_members)
outcome_members names journals (outcome.WaitSpent steps turns) =
    because (codes "WaitSpent")
    (put (codes "steps") (count steps) (put (codes "turns") (count turns) no_members))
outcome_members names journals outcome.RowLimit = because (codes "RowLimit") no_members
outcome_members names journals outcome.TooManyRows = because (codes "TooManyRows") no_members
outcome_members names journals outcome.Interrupted = because (codes "Interrupted") no_members
outcome_members names journals outcome.OutOfMemory = because (codes "OutOfMemory") no_members

abbrev pub outcome_data : List TableNames → List (List Entry) → Outcome → Data
outcome_data names journals result = object (outcome_members names journals result)
