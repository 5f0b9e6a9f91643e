-- What the parts of a desk's calls do with its fields.
use Rattle.std.specs.Prelude.{ℕ, ◌≤◌, ◌==◌, count_by, Bool, true, false, List, [], ◌∷◌, ◌++◌, map, Option, Some, None, if◌then◌else◌}
use Rattle.sa_count.specs.declared.report.Report.{Report}
use Rattle.sa_desk.specs.declared.answer.Asked.{Asked}
use Rattle.sa_desk.specs.declared.answer.Asked.TheVariants.{Queued, NotExplainable, NoSuchThread}
use Rattle.sa_desk.specs.declared.phase.Phase.{Phase}
use Rattle.sa_desk.specs.declared.phase.Phase.TheVariants.{Idle, Unplanned, Planned, Closed}
use Rattle.sa_desk.specs.declared.phase.On.{On}
use Rattle.sa_desk.specs.declared.request.Request.{Request}
use Rattle.sa_desk.specs.declared.request.Reply.{Reply}
use Rattle.sa_desk.specs.declared.entry.Entry.{Entry}
use Rattle.sa_desk.specs.declared.entry.Event.{Event}
use Rattle.sa_desk.specs.declared.entry.Event.TheVariants.{Served}
use Rattle.sa_desk.specs.declared.answer.Looked.{Looked}
use Rattle.sa_desk.specs.declared.answer.Looked.TheVariants as answer
use Rattle.sa_desk.specs.call.Look.{open_answer}
use Rattle.sa_desk.specs.declared.stamp.Stamp.{Stamp}
use Rattle.sa_desk.specs.declared.desk.serving.Server.{Server}
use Rattle.sa_desk.specs.Contents.{later}

-- what a request is answered in this phase
abbrev pub answer_in : Phase → Asked
answer_in Idle = NotExplainable
answer_in (Unplanned on) = NotExplainable
answer_in (Planned on) = Queued
answer_in Closed = NoSuchThread

-- A request that is queued comes last.
abbrev pub put_last : Asked → Request → List Request → List Request
put_last Queued request queue = queue ++ request ∷ []
put_last NotExplainable request queue = queue
put_last NoSuchThread request queue = queue

-- a statement has begun, with a plan or without
abbrev pub begun_with : Bool → On → Phase
begun_with true on = Planned on
begun_with false on = Unplanned on

-- whether a kill stands for the statement that is on
abbrev pub kill_stands : Phase → Bool
kill_stands (Unplanned on) = on.killed
kill_stands (Planned on) = on.killed
kill_stands phase = false

-- the number of the Begin entry of the statement that is on
abbrev pub begin_in : Phase → ℕ
begin_in (Unplanned on) = on.begin
begin_in (Planned on) = on.begin
begin_in phase = 0

-- one answer for each request
abbrev pub answers_with : Report → ℕ → List Request → List Reply
answers_with report begin queue =
    map (λ request.
    record { asker = request.asker; request = request.request; report = report; begin = begin })
    queue

-- The session has one request here at most, and one answer.
abbrev pub AsksOnce : ℕ → List Request → Type 0
AsksOnce session queue = count_by (λ request. request.asker == session) queue ≤ 1

abbrev pub HasOneReply : ℕ → List Reply → Type 0
HasOneReply session replies = count_by (λ reply. reply.asker == session) replies ≤ 1

-- one entry for each request, numbered from the server's stamp on
abbrev pub served_from : ℕ → Stamp → Report → List Request → List Entry
served_from desk stamp report [] = []
served_from desk stamp report (request ∷ rest) =
    record {
      desk = desk;
      actor = stamp.actor;
      seq = stamp.seq;
      turn = stamp.turn;
      event = Served request.asker request.request report;
    }
    ∷ served_from desk (later 1 stamp) report rest

abbrev pub served_by_server : Server → Report → List Request → List Entry
served_by_server server report queue = served_from server.desk server.stamp report queue

-- With a last report all are served, and nobody without one.
abbrev pub served_last : Server → Option Report → List Request → List Entry
served_last server None queue = []
served_last server (Some report) queue = served_by_server server report queue

abbrev pub answers_last : Server → Option Report → List Request → List Reply
answers_last server None queue = []
answers_last server (Some report) queue = answers_with report server.begin queue

-- the steps of the last report
abbrev pub steps_in : Option Report → ℕ
steps_in None = 0
steps_in (Some report) = report.steps

-- The statement that is on, if one is, is killed.
abbrev pub killed_in : Phase → Phase
killed_in (Unplanned on) = Unplanned (record on { killed = true })
killed_in (Planned on) = Planned (record on { killed = true })
killed_in phase = phase

-- the desk is closed
abbrev pub is_over : Phase → Bool
is_over Closed = true
is_over phase = false

-- what a look is answered in this phase
abbrev pub answer_to_look : Phase → (at published looks turns : ℕ) → Looked
answer_to_look phase at published looks turns =
    if is_over phase then answer.NoSuchThread else open_answer at published looks turns

-- an event, if there is one
abbrev pub event_list : Option Event → List Event
event_list None = []
event_list (Some event) = event ∷ []
