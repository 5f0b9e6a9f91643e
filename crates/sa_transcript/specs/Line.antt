-- The line of an entry of a journal.
use Rattle.std.specs.Prelude.{ℕ, List, map, codes, Option, None, Some, Bool, true, false}
use Rattle.serde_json.specs.Data.{Data, boolean, string, array, object, Members, put, no_members}
use Rattle.serde_json.specs.View.{items_of}
use Rattle.sa_count.specs.declared.counters.Counters.{Counters}
use Rattle.sa_count.specs.declared.report.Report.{Report}
use Rattle.sa_plan.specs.declared.names.TableNames.{TableNames}
use Rattle.sa_plan.specs.declared.plan.Plan.{Plan}
use Rattle.sa_explain.specs.Number.{count}
use Rattle.sa_desk.specs.declared.entry.Entry.{Entry}
use Rattle.sa_desk.specs.declared.entry.Event.{Event}
use Rattle.sa_desk.specs.declared.entry.Event.TheVariants.{Begin, Queued, Refused, Served, Taken, Spent, Withdrawn, KillSent, Waited, WaitSpent, End, Gone, Close}
use Rattle.sa_transcript.specs.Names.{ask_name, kill_name, why_name}
use Rattle.sa_transcript.specs.Outcome.{outcome_data}

abbrev pub has_plan : Option Plan → Bool
has_plan None = false
has_plan (Some plan) = true

abbrev pub counters_data : Counters → Data
counters_data counters = object
    (put (codes "loops") (count counters.loops)
    (put (codes "passed") (count counters.passed)
    (put (codes "rows") (count counters.rows)
    no_members)))

abbrev pub report_data : Report → Data
report_data report = object
    (put (codes "sent") (count report.sent)
    (put (codes "statement") (count report.statement)
    (put (codes "steps") (count report.steps)
    (put (codes "tables") (array (items_of (map counters_data report.tables.items)))
    no_members))))

abbrev pub event_name : Event → List ℕ
event_name (Begin statement text version plan tables) = codes "begin"
event_name (Queued statement kind at budget) = codes "queued"
event_name (Refused statement why) = codes "refused"
event_name (Served asker request report) = codes "served"
event_name (Taken statement) = codes "taken"
event_name (Spent statement turns) = codes "spent"
event_name (Withdrawn statement) = codes "withdrawn"
event_name (KillSent statement kind) = codes "kill_sent"
event_name (Waited statement steps) = codes "waited"
event_name (WaitSpent statement steps turns) = codes "wait_spent"
event_name (End statement result steps) = codes "end"
event_name (Gone statement) = codes "gone"
event_name Close = codes "close"

-- the members that tell of which statement an event is
abbrev pub of_statement : ℕ → Members → Members
of_statement statement members = put (codes "statement") (count statement) members

-- the members with what an event tells besides
abbrev pub with_event : List TableNames → List (List Entry) → Event → Members → Members
with_event names journals (Begin statement text version plan tables) members =
    of_statement statement
    (put (codes "enabled") (boolean (has_plan plan))
    (put (codes "text") (string text) (put (codes "version") (count version) members)))
with_event names journals (Queued statement kind at budget) members =
    of_statement statement
    (put (codes "at") (count at)
    (put (codes "budget") (count budget) (put (codes "kind") (string (ask_name kind)) members)))
with_event names journals (Refused statement why) members =
    of_statement statement (put (codes "why") (string (why_name why)) members)
with_event names journals (Served asker request report) members =
    put (codes "asker") (count asker)
    (put (codes "report") (report_data report) (put (codes "request") (count request) members))
with_event names journals (Taken statement) members = of_statement statement members
with_event names journals (Spent statement turns) members =
    of_statement statement (put (codes "turns") (count turns) members)
with_event names journals (Withdrawn statement) members = of_statement statement members
with_event names journals (KillSent statement kind) members =
    of_statement statement (put (codes "kind") (string (kill_name kind)) members)
with_event names journals (Waited statement steps) members =
    of_statement statement (put (codes "steps") (count steps) members)
with_event names journals (WaitSpent statement steps turns) members =
    of_statement statement
    (put (codes "steps") (count steps) (put (codes "turns") (count turns) members))
with_event names journals (End statement result steps) members =
    of_statement statement
    (put (codes "outcome") (outcome_data names journals result)
    (put (codes "steps") (count steps) members))
with_event names journals (Gone statement) members = of_statement statement members
with_event names journals Close members = members

-- what each line tells
abbrev pub entry_members : Entry → Members
entry_members entry =
    put (codes "actor") (count entry.actor)
    (put (codes "desk") (count entry.desk)
    (put (codes "event") (string (event_name entry.event))
    (put (codes "seq") (count entry.seq)
    (put (codes "turn") (count entry.turn)
    no_members))))

abbrev pub entry_data : List TableNames → List (List Entry) → Entry → Data
entry_data names journals entry = object (with_event names journals entry.event (entry_members entry))
