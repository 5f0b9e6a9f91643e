-- What the end of a statement leaves.
use Rattle.std.proofs.Common.{◌≡◌, ℕ, ◌+◌, ◌<◌, ◌≤◌, ◌↔◌, Bool, true, false, List, [], ◌∷◌, ◌++◌, length, Option, Some, None, IfSome, option_map, if◌then◌else◌, All, refl, sym, subst, ap, ◌∙◌, append_assoc, append-nil, length-append, vec_len, vec_capacity, arith}
use Rattle.std.proofs.lemmas.Bool.{both_ways}
use Rattle.std.proofs.lemmas.List.Elements.{All-nil, All-push}
use Rattle.sa_count.specs.declared.report.Report.{Report}
use Rattle.sa_meaning.specs.Progress.{Progress}
use Rattle.sa_desk.specs.declared.desk.Desk.TheInside.{Inside}
use Rattle.sa_desk.specs.declared.desk.serving.Server.{Server}
use Rattle.sa_desk.specs.declared.entry.Entry.{Entry}
use Rattle.sa_desk.specs.declared.entry.Event.TheVariants as event
use Rattle.sa_desk.specs.declared.outcome.Finish.{Finish}
use Rattle.sa_desk.specs.declared.outcome.Finish.TheVariants.{Plain, Rows, Analyzed, Broken}
use Rattle.sa_desk.specs.declared.outcome.Outcome.{Outcome}
use Rattle.sa_desk.specs.declared.outcome.Outcome.TheVariants.{Interrupted}
use Rattle.sa_desk.specs.declared.outcome.StepStop.{StepStop}
use Rattle.sa_desk.specs.declared.outcome.StepStop.TheVariants.{RowLimit, TooManyRows, OutOfMemory, Killed}
use Rattle.sa_desk.specs.declared.phase.Phase.TheVariants.{Idle}
use Rattle.sa_desk.specs.declared.request.Request.{Request}
use Rattle.sa_desk.specs.declared.request.Reply.{Reply}
use Rattle.sa_desk.specs.declared.stamp.Stamp.{Stamp}
use Rattle.sa_desk.specs.State.{Terms, Statement, Execution, Phase, idle, unplanned, planned, serving, closed, State, IsPublished, IsLawful, queue_of, IsSettled}
use Rattle.sa_desk.specs.Comes.{Ends}
use Rattle.sa_desk.specs.After.{begin_of}
use Rattle.sa_desk.specs.Runs.{state_after, Runs}
use Rattle.sa_desk.specs.Contents.{Contents, state, phase, IsSound, IsCaller, IsOwner, HasRoom, entry_by, later}
use Rattle.sa_desk.specs.inner.Desk.{contents_of, held_phase, IsReady}
use Rattle.sa_desk.specs.inner.Parts.{answers_with, served_last, answers_last, steps_in, begin_in, kill_stands}
use Rattle.sa_desk.specs.Serving.{report_of, IsRunOf, is_killed}
use Rattle.sa_desk.specs.call.End.{stopped, run_of, outcome_of, Fits, steps_of, IsGivenRun, IsTimely, served_by, end_entry, end_entries, after_end, IsOn, MayEnd}
use Rattle.sa_desk.proofs.Append.{state_after-append, Runs-append}
use Rattle.sa_desk.proofs.Grown.{IsJournal, IsJournal-append, IsBy}
use Rattle.sa_desk.proofs.Keeps.{FieldsKeep, IsReady-next, AreCounts-ready}
use Rattle.sa_desk.proofs.Room.{entries_fit}
use Rattle.sa_desk.proofs.step.Serve.{Leads, all_served, all_served-queue, all_served-rising, all_served-fixed, run-leaves, served-by, served-same, length-served}

-- Where no kill stands, no outcome is Interrupted.
stopped-killed : (fault : StepStop) → stopped fault ≡ Interrupted → fault ≡ Killed
stopped-killed RowLimit same = cc
stopped-killed TooManyRows same = cc
stopped-killed OutOfMemory same = cc
stopped-killed Killed same = refl

outcome-killed : {R : Type 0} (progress : R → Progress) (killed : Bool) (finish : Finish R) → Fits progress killed finish → outcome_of progress finish ≡ Interrupted → killed ≡ true
outcome-killed progress killed (Plain given) fits same = fits same
outcome-killed progress killed (Rows names run) fits same = cc
outcome-killed progress killed (Analyzed plan run) fits same = cc
outcome-killed progress killed (Broken fault run) fits same = fits (stopped-killed fault same)

-- So the End is Interrupted exactly where a kill stands.
interrupted-killed : (killed standing : Bool) (given : Outcome) → (given ≡ Interrupted → killed ≡ true) → killed ≡ standing → ((if killed then Interrupted else given) ≡ Interrupted) ↔ (standing ≡ true)
interrupted-killed true standing given honest same = (λ _. sym same, λ _. refl)
interrupted-killed false standing given honest same = (λ interrupted. sym same ∙ honest interrupted, λ stands. absurd (both_ways false refl (same ∙ stands)))

-- What leads to a state leads on.
Leads-append : (terms : Terms) (before between later : State) (xs ys : List Entry) → Leads terms before xs between → Leads terms between ys later → Leads terms before (xs ++ ys) later
Leads-append terms before between later xs ys first second = record {
  runs = Runs-append terms before xs ys first.runs (subst (λ (now : State). Runs terms now ys) (sym first.leaves) second.runs);
  leaves = state_after-append terms before xs ys ∙ ap (λ (now : State). state_after terms now ys) first.leaves ∙ second.leaves;
}

-- The caller ends its statement of this number, with its run if it had one, and with this outcome unless a kill stands.
pub record EndsWith (desk : Contents) (stamp : Stamp) (number : ℕ) (run : Option Progress) (given : Outcome) : Type 0 where
  pub caller : IsCaller desk stamp
  pub own : IsOwner desk stamp
  pub on : IsOn number (phase desk)
  pub run_is : IsGivenRun (phase desk) run
  pub timely : IfSome run (IsTimely desk stamp)
  pub honest : given ≡ Interrupted → is_killed (phase desk) ≡ true
  pub room : HasRoom desk stamp.actor (end_entries desk stamp number run given)

-- So does whoever may end it, as the desk is seen from outside.
pub EndsWith-may : {R : Type 0} (progress : R → Progress) (old : Inside) (seen : Contents) (stamp : Stamp) (number : ℕ) (finish : Finish R) → contents_of old ≡ seen
    → MayEnd progress seen stamp number finish → EndsWith (contents_of old) stamp number (run_of progress finish) (outcome_of progress finish)
EndsWith-may progress old seen stamp number finish view given =
    let desk : Contents = contents_of old in
    let may : MayEnd progress desk stamp number finish = subst (λ (now : Contents). MayEnd progress now stamp number finish) (sym view) given in
    record {
      caller = may.caller;
      own = may.own;
      on = may.on;
      run_is = may.run;
      timely = may.timely;
      honest = outcome-killed progress (is_killed (phase desk)) finish may.fits;
      room = may.room;
    }

module _ (desk : Contents) (stamp : Stamp) (number : ℕ) (given : Outcome) where
  -- who serves, in the statement that is on
  abbrev pub server : Server
  server = record { desk = desk.terms.desk; stamp = stamp; begin = begin_of (phase desk) }

  -- the state that it leaves
  abbrev pub ended : Option Progress → State
  ended run = record { phase = idle; doomed = (state desk).doomed; replies = (state desk).replies ++ answers_last server (option_map report_of run) (queue_of (phase desk)) }

  abbrev entry : Option Progress → Entry
  entry run = end_entry desk stamp number run given

  ends : (run : Option Progress) (statement : Statement) → IsOwner desk stamp → number ≡ statement.number → (given ≡ Interrupted → is_killed (phase desk) ≡ true) → is_killed (phase desk) ≡ statement.killed
      → Ends desk.terms statement (entry run) number ((if is_killed (phase desk) then Interrupted else given) ≡ Interrupted)
  ends run statement own on honest same = record { own = own; on = on; killed = interrupted-killed (is_killed (phase desk)) statement.killed given honest same }

  -- Without a run there is the End alone.
  end-unplanned : (statement : Statement) → phase desk ≡ unplanned statement → IsOwner desk stamp → number ≡ statement.number → (given ≡ Interrupted → is_killed (phase desk) ≡ true)
      → Leads desk.terms (state desk) (end_entries desk stamp number None given) (ended None)
  end-unplanned statement phase_is own on honest =
      let now : State = record { phase = unplanned statement; doomed = (state desk).doomed; replies = (state desk).replies } in
      let same : now ≡ state desk = ap (λ (it : Phase). record { phase = it; doomed = (state desk).doomed; replies = (state desk).replies }) (sym phase_is) in
      let here : Leads desk.terms now (entry None ∷ []) (ended None) = record {
        runs = ((ends None statement own on honest (ap is_killed phase_is), refl), tt);
        leaves = ap (λ (replies : List Reply). record { phase = idle; doomed = (state desk).doomed; replies = replies }) (sym (append-nil (state desk).replies));
      } in
      subst (λ (before : State). Leads desk.terms before (entry None ∷ []) (ended None)) same here

  -- With a run, whoever waits is served first.
  end-planned : (run : Progress) (statement : Statement) (execution : Execution) → phase desk ≡ planned statement execution → IsSound desk → IsOwner desk stamp → IsRunOf (planned statement execution) run → IsTimely desk stamp run
      → number ≡ statement.number → (given ≡ Interrupted → is_killed (phase desk) ≡ true) → Leads desk.terms (state desk) (end_entries desk stamp number (Some run) given) (ended (Some run))
  end-planned run statement execution phase_is sound own is timely on honest =
      let lawful : IsPublished desk.terms.quantum execution desk.published = subst (λ (now : Phase). IsLawful desk.terms.quantum now desk.published) phase_is sound.lawful in
      let free : execution.owed ≡ None = subst IsSettled phase_is sound.run.settled in
      let between : State = record {
        phase = planned statement (all_served desk.terms.quantum execution (report_of run) desk.published stamp.turn execution.queue);
        doomed = (state desk).doomed;
        replies = (state desk).replies ++ answers_with (report_of run) statement.begin execution.queue;
      } in
      let last : Leads desk.terms between (entry (Some run) ∷ []) (ended (Some run)) = record {
        runs = (
          (
            ends (Some run) statement own on honest (ap is_killed phase_is),
            record {
              served = all_served-queue desk.terms.quantum execution (report_of run) desk.published stamp.turn execution.queue;
              rising = all_served-rising desk.terms.quantum execution (report_of run) desk.published stamp.turn execution.queue (omega (arith, lawful.rising, timely.least));
              fixed = all_served-fixed desk.terms.quantum execution (report_of run) desk.published stamp.turn execution.queue free;
            },
          ),
          tt,
        );
        leaves = ap (λ (it : Phase). record { phase = idle; doomed = (state desk).doomed; replies = (state desk).replies ++ answers_with (report_of run) (begin_of it) (queue_of it) }) (sym phase_is);
      } in
      Leads-append desk.terms (state desk) between (ended (Some run)) (served_by desk stamp (Some run)) (entry (Some run) ∷ [])
      (run-leaves desk stamp run statement execution phase_is sound own is timely) last

  end-leads : (now : Phase) (run : Option Progress) → phase desk ≡ now → IsSound desk → IsOwner desk stamp → IsOn number now → IsGivenRun now run → IfSome run (IsTimely desk stamp)
      → (given ≡ Interrupted → is_killed (phase desk) ≡ true) → Leads desk.terms (state desk) (end_entries desk stamp number run given) (ended run)
  end-leads (unplanned statement) None phase_is sound own on is timely honest = end-unplanned statement phase_is own on honest
  end-leads (planned statement execution) (Some run) phase_is sound own on is timely honest = end-planned run statement execution phase_is sound own is timely on honest
  end-leads (unplanned statement) (Some run) phase_is sound own on is timely honest = absurd is
  end-leads (planned statement execution) None phase_is sound own on is timely honest = absurd is
  end-leads idle run phase_is sound own on is timely honest = absurd on
  end-leads (serving statement execution steps turn) run phase_is sound own on is timely honest = absurd on
  end-leads closed run phase_is sound own on is timely honest = absurd on

  -- All its entries are the caller's.
  served_by-caller : (run : Option Progress) → All (IsBy desk stamp) (served_by desk stamp run)
  served_by-caller None = All-nil (IsBy desk stamp)
  served_by-caller (Some run) = served-by desk (report_of run) stamp stamp (queue_of (phase desk)) refl

  end-by : (run : Option Progress) → All (IsBy desk stamp) (end_entries desk stamp number run given)
  end-by run =
      let here : IsBy desk stamp (entry run) = record { desk_is = refl; actor_is = refl } in
      All-push (IsBy desk stamp) (served_by desk stamp run) (entry run) (served_by-caller run) here

  -- What the parts put into the journal are these entries.
  served_last-same : (run : Option Progress) (begin : ℕ) (queue : List Request) → queue ≡ queue_of (phase desk)
      → served_last (record { desk = desk.terms.desk; stamp = stamp; begin = begin }) (option_map report_of run) queue ≡ served_by desk stamp run
  served_last-same None begin queue same = refl
  served_last-same (Some run) begin queue same = served-same desk (report_of run) stamp queue same

  -- One for each request, since nobody waits without a run.
  length-served_by : (now : Phase) (run : Option Progress) → phase desk ≡ now → IsOn number now → IsGivenRun now run → length (served_by desk stamp run) ≡ length (queue_of (phase desk))
  length-served_by now (Some run) phase_is on is = length-served desk (report_of run) stamp (queue_of (phase desk))
  length-served_by (unplanned statement) None phase_is on is = sym (ap (λ (it : Phase). length (queue_of it)) phase_is)
  length-served_by (planned statement execution) None phase_is on is = absurd is
  length-served_by idle None phase_is on is = absurd on
  length-served_by (serving statement execution steps turn) None phase_is on is = absurd on
  length-served_by closed None phase_is on is = absurd on

steps_in-same : (run : Option Progress) → steps_in (option_map report_of run) ≡ steps_of run
steps_in-same None = refl
steps_in-same (Some run) = refl

-- What a desk keeps of a phase tells the number of the Begin entry, and whether a kill stands.
begin_in-held_phase : (now : Phase) → begin_in (held_phase now) ≡ begin_of now
begin_in-held_phase idle = refl
begin_in-held_phase (unplanned statement) = refl
begin_in-held_phase (planned statement execution) = refl
begin_in-held_phase (serving statement execution steps turn) = refl
begin_in-held_phase closed = refl

kill_stands-held_phase : (now : Phase) → kill_stands (held_phase now) ≡ is_killed now
kill_stands-held_phase idle = refl
kill_stands-held_phase (unplanned statement) = refl
kill_stands-held_phase (planned statement execution) = refl
kill_stands-held_phase (serving statement execution steps turn) = refl
kill_stands-held_phase closed = refl

pub kill_stands-ready : (desk : Inside) → IsReady desk → kill_stands desk.phase ≡ is_killed (phase (contents_of desk))
kill_stands-ready desk ready = ap kill_stands ready.phase_is ∙ kill_stands-held_phase (phase (contents_of desk))

module _ (old : Inside) (stamp : Stamp) (number : ℕ) (run : Option Progress) (given : Outcome) (ready : IsReady old) (may : EndsWith (contents_of old) stamp number run given) where
  abbrev desk : Contents
  desk = contents_of old

  abbrev entries : List Entry
  entries = end_entries desk stamp number run given

  -- who serves, by the fields
  abbrev serves : Server
  serves = record { desk = old.number; stamp = stamp; begin = begin_in old.phase }

  leads : Leads desk.terms (state desk) entries (ended desk stamp number given run)
  leads = end-leads desk stamp number given (phase desk) run refl ready.sound may.own may.on may.run_is may.timely may.honest

  -- The journal is one that a desk can hold.
  end-journal : IsJournal desk.terms old.shares.items (old.journal.items ++ entries)
  end-journal = IsJournal-append desk stamp entries ready.sound may.caller (end-by desk stamp number given run) leads.runs may.room

  length-served_queue : length (served_by desk stamp run) ≡ length old.queue.items
  length-served_queue = length-served_by desk stamp number given (phase desk) run refl may.on may.run_is ∙ sym (ap length ready.queue)

  -- It has room for an entry for each request, and for the End.
  pub end-fits : vec_len old.journal + length old.queue.items + 1 ≤ vec_capacity old.journal
  end-fits = omega (arith, entries_fit old entries ready end-journal, length-append (served_by desk stamp run) (end_entry desk stamp number run given ∷ []), length-served_queue)

  -- what the served ones leave in the journal
  abbrev Served : Inside → Type 0
  Served first = first.journal.items ≡ old.journal.items ++ served_last serves (option_map report_of run) old.queue.items

  -- These are what the parts leave, given the same requests, report and Begin entry.
  pub served-given : {begin : ℕ} {last : Option Report} {queue : List Request} (first : Inside) → begin ≡ begin_in old.phase → last ≡ option_map report_of run → queue ≡ old.queue.items
      → first.journal.items ≡ old.journal.items ++ served_last (record { desk = old.number; stamp = stamp; begin = begin }) last queue → Served first
  served-given {begin = begin} {last = last} {queue = queue} first begin_is last_is queue_is served =
      served ∙ ap (λ (number : ℕ). old.journal.items ++ served_last (record { desk = old.number; stamp = stamp; begin = number }) last queue) begin_is
      ∙ ap (λ (report : Option Report). old.journal.items ++ served_last serves report queue) last_is
      ∙ ap (λ (waiting : List Request). old.journal.items ++ served_last serves (option_map report_of run) waiting) queue_is

  -- what they leave in the answers
  abbrev Answered : Inside → Type 0
  Answered first = first.replies.items ≡ old.replies.items ++ answers_last serves (option_map report_of run) old.queue.items

  pub answered-given : {begin : ℕ} {last : Option Report} {queue : List Request} (first : Inside) → begin ≡ begin_in old.phase → last ≡ option_map report_of run → queue ≡ old.queue.items
      → first.replies.items ≡ old.replies.items ++ answers_last (record { desk = old.number; stamp = stamp; begin = begin }) last queue → Answered first
  answered-given {begin = begin} {last = last} {queue = queue} first begin_is last_is queue_is answered =
      answered ∙ ap (λ (number : ℕ). old.replies.items ++ answers_last (record { desk = old.number; stamp = stamp; begin = number }) last queue) begin_is
      ∙ ap (λ (report : Option Report). old.replies.items ++ answers_last serves report queue) last_is
      ∙ ap (λ (waiting : List Request). old.replies.items ++ answers_last serves (option_map report_of run) waiting) queue_is

  served-grown : (first : Inside) → Served first → first.journal.items ≡ old.journal.items ++ served_by desk stamp run
  served-grown first served = served ∙ ap (λ (more : List Entry). old.journal.items ++ more) (served_last-same desk stamp number given run (begin_in old.phase) old.queue.items ready.queue)

  -- After them there is still room for the End.
  pub push-fits : (first : Inside) → Served first → vec_capacity first.journal ≡ vec_capacity old.journal → vec_len first.journal < vec_capacity first.journal
  push-fits first served capacity =
      let grown : length first.journal.items ≡ length (old.journal.items ++ served_by desk stamp run) = ap length (served-grown first served) in
      omega (arith, end-fits, grown, length-append old.journal.items (served_by desk stamp run), length-served_queue, first.journal.ok.0, old.journal.ok.0, capacity)

  -- With the End the journal has all entries.
  pub end-grown : (first new : Inside) (last : Stamp) (outcome : Outcome) (steps : ℕ) → Served first → new.journal.items ≡ first.journal.items ++ entry_by desk last (event.End number outcome steps) ∷ []
      → last ≡ later (length old.queue.items) stamp → outcome ≡ (if is_killed (phase desk) then Interrupted else given) → steps ≡ steps_in (option_map report_of run)
      → new.journal.items ≡ old.journal.items ++ entries
  end-grown first new last outcome steps served pushed last_is outcome_is steps_is =
      let count : last ≡ later (length (served_by desk stamp run)) stamp = last_is ∙ ap (λ (count : ℕ). later count stamp) (sym length-served_queue) in
      let same : entry_by desk last (event.End number outcome steps) ≡ end_entry desk stamp number run given =
      ap (λ (at : Stamp). entry_by desk at (event.End number outcome steps)) count
      ∙ ap (λ (how : Outcome). entry_by desk (later (length (served_by desk stamp run)) stamp) (event.End number how steps)) outcome_is
      ∙ ap (λ (made : ℕ). entry_by desk (later (length (served_by desk stamp run)) stamp) (event.End number (if is_killed (phase desk) then Interrupted else given) made)) (steps_is ∙ steps_in-same run) in
      pushed ∙ ap (λ (it : Entry). first.journal.items ++ it ∷ []) same
      ∙ ap (λ (it : List Entry). it ++ end_entry desk stamp number run given ∷ []) (served-grown first served)
      ∙ append_assoc old.journal.items (served_by desk stamp run) (end_entry desk stamp number run given ∷ [])

  -- The desk is ready again.
  pub end-ready : (new : Inside) → new.journal.items ≡ old.journal.items ++ entries → vec_capacity new.journal ≡ vec_capacity old.journal → new.queue.items ≡ []
      → Answered new
      → let fields : Inside = record old { journal = new.journal; phase = Idle; published = 0; queue = new.queue; replies = new.replies } in IsReady fields
  end-ready new journal capacity queue replies =
      let fields : Inside = record old { journal = new.journal; phase = Idle; published = 0; queue = new.queue; replies = new.replies } in
      let begin : begin_in old.phase ≡ begin_of (phase desk) = ap begin_in ready.phase_is ∙ begin_in-held_phase (phase desk) in
      let answers : new.replies.items ≡ (ended desk stamp number given run).replies =
      replies
      ∙ ap (λ (answered : List Reply). answered ++ answers_last serves (option_map report_of run) old.queue.items) ready.replies
      ∙ ap (λ (by : ℕ). (state desk).replies ++ answers_last (record { desk = old.number; stamp = stamp; begin = by }) (option_map report_of run) old.queue.items) begin
      ∙ ap (λ (waiting : List Request). (state desk).replies ++ answers_last (server desk stamp number given) (option_map report_of run) waiting) ready.queue in
      let kept : FieldsKeep fields (ended desk stamp number given run) = record {
        settled = tt;
        lawful = refl;
        phase_is = refl;
        doomed_is = ready.doomed;
        queue_is = queue;
        replies_is = answers;
      } in
      IsReady-next old fields entries ready journal capacity end-journal (subst (FieldsKeep fields) (sym leads.leaves) kept)
      (AreCounts-ready old ready)

  -- It holds the entries, and publishes nothing.
  pub end-contents : (new : Inside) → new.journal.items ≡ old.journal.items ++ entries
      → let fields : Inside = record old { journal = new.journal; phase = Idle; published = 0; queue = new.queue; replies = new.replies } in contents_of fields ≡ after_end desk stamp number run given
  end-contents new journal = rw journal refl
