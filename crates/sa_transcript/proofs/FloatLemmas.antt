-- No line has a float.
use Rattle.std.proofs.Common.{◌≡◌, ℕ, false, List, map, length, codes, Option, Some, None, refl}
use Rattle.serde_json.specs.Data.{Data, boolean, string, array, object, Members, no_members, put}
use Rattle.serde_json.specs.View.{items_of}
use Rattle.serde_json.specs.Written.{has_float}
use Rattle.sa_value.specs.declared.value.Value.{Value}
use Rattle.sa_count.specs.declared.counters.Counters.{Counters}
use Rattle.sa_count.specs.declared.report.Report.{Report}
use Rattle.sa_query.specs.declared.refusal.Refusal.{Refusal}
use Rattle.sa_query.specs.declared.refusal.Refusal.TheVariants as refusal
use Rattle.sa_plan.specs.declared.names.TableNames.{TableNames}
use Rattle.sa_plan.specs.declared.plan.Plan.{Plan}
use Rattle.sa_explain.specs.Document.{document}
use Rattle.sa_explain.specs.Number.{count}
use Rattle.sa_explain.specs.Values.{values_data}
use Rattle.sa_explain.proofs.Exact.{Exact, exact-put, exact-items, values_are_exact, document_is_exact}
use Rattle.sa_script.specs.Fault.{Fault}
use Rattle.sa_desk.specs.declared.entry.Entry.{Entry}
use Rattle.sa_desk.specs.declared.entry.Event.{Event}
use Rattle.sa_desk.specs.declared.entry.Event.TheVariants.{Begin, Queued, Refused, Served, Taken, Spent, Withdrawn, KillSent, Waited, WaitSpent, End, Gone, Close}
use Rattle.sa_desk.specs.declared.outcome.Outcome.{Outcome}
use Rattle.sa_desk.specs.declared.outcome.Outcome.TheVariants as outcome
use Rattle.sa_transcript.specs.Names.{lex_name, resolve_name, ask_name, kill_name, why_name}
use Rattle.sa_transcript.specs.Outcome.{trace_data, plan_begun, shown_report, shown_data, refusal_members, outcome_data}
use Rattle.sa_transcript.specs.Line.{has_plan, counters_data, report_data, event_name, with_event, entry_data}
use Rattle.sa_transcript.specs.FaultLine.{kind_name, with_row, fault_data}
use Rattle.sa_transcript.specs.inner.Told.{OutcomeIsTold, EventIsTold}

-- members, and that none of them has a float
abbrev Sure : Type 0
Sure = (members : Members) × Exact members

abbrev none : Sure
none = (no_members, refl)

abbrev and_member : List ℕ → (value : Data) → has_float value ≡ false → Sure → Sure
and_member key value is sure = (put key value sure.0, exact-put key value sure.0 is sure.1)

abbrev and_count : List ℕ → ℕ → Sure → Sure
and_count key n sure = and_member key (count n) refl sure

abbrev and_text : List ℕ → List ℕ → Sure → Sure
and_text key text sure = and_member key (string text) refl sure

pub row_is_exact : (row : List Value) → has_float (object (put (codes "row") (values_data row) no_members)) ≡ false
row_is_exact row = exact-put (codes "row") (values_data row) no_members (values_are_exact row) refl

exact-counters : (counters : Counters) → has_float (counters_data counters) ≡ false
exact-counters counters = (and_count (codes "loops") counters.loops (and_count (codes "passed") counters.passed (and_count (codes "rows") counters.rows none))).1

exact-report : (report : Report) → has_float (report_data report) ≡ false
exact-report report =
    (and_count (codes "sent") report.sent
    (and_count (codes "statement") report.statement
    (and_count (codes "steps") report.steps
    (and_member (codes "tables") (array (items_of (map counters_data report.tables.items))) (exact-items counters_data exact-counters report.tables.items)
    none)))).1

exact-trace : (text : Option (List ℕ)) → text ≡ None → has_float (trace_data text) ≡ false
exact-trace None is = refl
exact-trace (Some text) is = cc

exact-shown : (names : List TableNames) (plan : Option Plan) (report : Option Report) → has_float (shown_data names plan report) ≡ false
exact-shown names None report = refl
exact-shown names (Some plan) report = document_is_exact names plan report

abbrev of_kind : List ℕ → Sure → Sure
of_kind kind sure = and_text (codes "kind") kind sure

abbrev because : List ℕ → Sure → Sure
because why sure = of_kind (codes "refused") (and_text (codes "why") why sure)

abbrev because_at : List ℕ → ℕ → Sure
because_at why place = because why (and_count (codes "place") place none)

abbrev with_document : List ℕ → (document : Data) → has_float document ≡ false → Sure
with_document kind document is = of_kind kind (and_member (codes "document") document is none)

exact-refusal : (why : Refusal) → Exact (refusal_members why)
exact-refusal (refusal.Lex kind place) = (because_at (lex_name kind) place).1
exact-refusal (refusal.Syntax place) = (because_at (codes "Syntax") place).1
exact-refusal (refusal.NotSupported place) = (because_at (codes "NotSupported") place).1
exact-refusal (refusal.TooDeep place) = (because_at (codes "TooDeep") place).1
exact-refusal (refusal.Resolve fault place) = (because_at (resolve_name fault) place).1
exact-refusal refusal.OutOfMemory = (because (codes "OutOfMemory") none).1

outcome_is_exact : (names : List TableNames) (journals : List (List Entry)) (result : Outcome)
    → OutcomeIsTold names journals result → has_float (outcome_data names journals result) ≡ false
outcome_is_exact names journals (outcome.Rows columns rows) told =
    (of_kind (codes "rows")
    (and_member (codes "columns") (array (items_of (map string columns))) (exact-items string (λ text. refl) columns)
    (and_count (codes "count") (length rows) none))).1
outcome_is_exact names journals (outcome.PlanShown plan) told = (with_document (codes "plan") (document names plan None) (document_is_exact names plan None)).1
outcome_is_exact names journals (outcome.Analyzed plan report) told =
    (with_document (codes "analyzed") (document names plan (Some report)) (document_is_exact names plan (Some report))).1
outcome_is_exact names journals (outcome.Shown kind desk begin report) told =
    (with_document (codes "shown") (shown_data names (plan_begun journals desk begin) (shown_report kind report))
    (exact-shown names (plan_begun journals desk begin) (shown_report kind report))).1
outcome_is_exact names journals (outcome.Trace text) told = (with_document (codes "trace") (trace_data text) (exact-trace text told.outcome)).1
outcome_is_exact names journals outcome.Set told = (of_kind (codes "set") none).1
outcome_is_exact names journals outcome.KillSent told = (of_kind (codes "kill_sent") none).1
outcome_is_exact names journals (outcome.Waited steps) told = (of_kind (codes "waited") (and_count (codes "steps") steps none)).1
outcome_is_exact names journals (outcome.Refused why) told = exact-refusal why
outcome_is_exact names journals outcome.NoSuchThread told = (because (codes "NoSuchThread") none).1
outcome_is_exact names journals outcome.NotExplainable told = (because (codes "NotExplainable") none).1
outcome_is_exact names journals (outcome.TimedOut turns) told = (because (codes "TimedOut") (and_count (codes "turns") turns none)).1
outcome_is_exact names journals (outcome.WaitSpent steps turns) told =
    (because (codes "WaitSpent") (and_count (codes "steps") steps (and_count (codes "turns") turns none))).1
outcome_is_exact names journals outcome.RowLimit told = (because (codes "RowLimit") none).1
outcome_is_exact names journals outcome.TooManyRows told = (because (codes "TooManyRows") none).1
outcome_is_exact names journals outcome.Interrupted told = (because (codes "Interrupted") none).1
outcome_is_exact names journals outcome.OutOfMemory told = (because (codes "OutOfMemory") none).1

abbrev of_statement : ℕ → Sure → Sure
of_statement statement sure = and_count (codes "statement") statement sure

event_is_exact : (names : List TableNames) (journals : List (List Entry)) (happened : Event)
    → EventIsTold names journals happened → (sure : Sure) → Exact (with_event names journals happened sure.0)
event_is_exact names journals (Begin statement text version plan tables) told sure =
    (of_statement statement
    (and_member (codes "enabled") (boolean (has_plan plan)) refl (and_text (codes "text") text (and_count (codes "version") version sure)))).1
event_is_exact names journals (Queued statement kind at budget) told sure =
    (of_statement statement (and_count (codes "at") at (and_count (codes "budget") budget (and_text (codes "kind") (ask_name kind) sure)))).1
event_is_exact names journals (Refused statement why) told sure = (of_statement statement (and_text (codes "why") (why_name why) sure)).1
event_is_exact names journals (Served asker request report) told sure =
    (and_count (codes "asker") asker
    (and_member (codes "report") (report_data report) (exact-report report) (and_count (codes "request") request sure))).1
event_is_exact names journals (Taken statement) told sure = (of_statement statement sure).1
event_is_exact names journals (Spent statement turns) told sure = (of_statement statement (and_count (codes "turns") turns sure)).1
event_is_exact names journals (Withdrawn statement) told sure = (of_statement statement sure).1
event_is_exact names journals (KillSent statement kind) told sure = (of_statement statement (and_text (codes "kind") (kill_name kind) sure)).1
event_is_exact names journals (Waited statement steps) told sure = (of_statement statement (and_count (codes "steps") steps sure)).1
event_is_exact names journals (WaitSpent statement steps turns) told sure =
    (of_statement statement (and_count (codes "steps") steps (and_count (codes "turns") turns sure))).1
event_is_exact names journals (End statement result steps) told sure =
    (of_statement statement
    (and_member (codes "outcome") (outcome_data names journals result)
    (outcome_is_exact names journals result (record { tables = told.tables; names_are = told.names_are; outcome = told.event }))
    (and_count (codes "steps") steps sure))).1
event_is_exact names journals (Gone statement) told sure = (of_statement statement sure).1
event_is_exact names journals Close told sure = sure.1

pub entry_is_exact : (names : List TableNames) (journals : List (List Entry)) (entry : Entry)
    → EventIsTold names journals entry.event → has_float (entry_data names journals entry) ≡ false
entry_is_exact names journals entry told =
    event_is_exact names journals entry.event told
    (and_count (codes "actor") entry.actor
    (and_count (codes "desk") entry.desk
    (and_text (codes "event") (event_name entry.event)
    (and_count (codes "seq") entry.seq
    (and_count (codes "turn") entry.turn none)))))

exact-row : (line : Option ℕ) → (sure : Sure) → Exact (with_row line sure.0)
exact-row None sure = sure.1
exact-row (Some number) sure = (and_count (codes "line") number sure).1

pub fault_is_exact : (fault : Fault) → has_float (fault_data fault) ≡ false
fault_is_exact fault =
    let placed : Sure = and_count (codes "place") fault.place none in
    (and_text (codes "fault") (kind_name fault.kind) (with_row fault.line placed.0, exact-row fault.line placed)).1
