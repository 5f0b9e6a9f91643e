-- What a point leaves.
use Rattle.std.proofs.Common.{◌≡◌, ℕ, ◌+◌, ◌/◌, ◌<◌, ◌≤◌, inr, List, [], ◌++◌, length, None, refl, sym, subst, ap, ◌∙◌, vec_len, vec_capacity, arith}
use Rattle.std.proofs.Math.Nat.{add-div_right}
use Rattle.sa_plan.specs.declared.plan.Plan.{Plan}
use Rattle.sa_meaning.specs.Data.{RunData}
use Rattle.sa_meaning.specs.Items.{items}
use Rattle.sa_meaning.specs.Progress.{Progress}
use Rattle.sa_desk.specs.declared.desk.Desk.TheInside.{Inside}
use Rattle.sa_desk.specs.declared.entry.Entry.{Entry}
use Rattle.sa_desk.specs.declared.stamp.Stamp.{Stamp}
use Rattle.sa_desk.specs.State.{Statement, Execution, Phase, planned, State, IsPublished, IsLawful, queue_of, IsSettled}
use Rattle.sa_desk.specs.Contents.{Contents, state, phase}
use Rattle.sa_desk.specs.inner.Desk.{contents_of, held_phase, IsReady}
use Rattle.sa_desk.specs.inner.Parts.{answers_with, served_from, begin_in}
use Rattle.sa_desk.specs.Serving.{report_of, served_entries, IsRunOf, begin_turn}
use Rattle.sa_desk.specs.call.End.{IsTimely}
use Rattle.sa_desk.specs.call.Point.{MayPoint, after_point}
use Rattle.sa_desk.proofs.Grown.{IsJournal, IsJournal-append}
use Rattle.sa_desk.proofs.Keeps.{Keeps, FieldsKeep, IsReady-next, AreCounts-ready}
use Rattle.sa_desk.proofs.Room.{entries_fit}
use Rattle.sa_desk.proofs.step.Serve.{Leads, all_served, all_served-queue, all_served-plan, all_served-tables, all_served-rising, all_served-whole, run-leaves, served-by, served-same, length-served, on_planned}

-- A point comes in time: a whole quantum after what is published.
pub point-timely : (desk : Contents) (stamp : Stamp) (run : Progress) → 1 ≤ desk.terms.quantum → MayPoint desk stamp run → IsTimely desk stamp run
point-timely desk stamp run quantum may =
    let next : (desk.published + desk.terms.quantum) / desk.terms.quantum ≡ desk.published / desk.terms.quantum + 1 = add-div_right desk.published (omega arith) in
    let turn : stamp.turn ≡ begin_turn (phase desk) + (desk.published + desk.terms.quantum) / desk.terms.quantum =
    subst (λ (steps : ℕ). stamp.turn ≡ begin_turn (phase desk) + steps / desk.terms.quantum) may.steps may.turn in
    record {
      least = omega (arith, may.steps);
      most = omega (arith, may.steps);
      turn = omega (arith, turn, next);
    }

-- Equal plans over equal tables have as many items.
length-items : (plan other : Plan) (tables others : RunData) → plan ≡ other → tables ≡ others → length (items plan tables) ≡ length (items other others)
length-items plan other tables others plans same =
    ap (λ (now : Plan). length (items now tables)) plans ∙ ap (λ (now : RunData). length (items other now)) same

-- The number is lawful, one turn further, and nobody waits any more.
next_published : (quantum at : ℕ) (statement : Statement) (execution : Execution) (turn : ℕ) (run : Progress) → IsRunOf (planned statement execution) run
    → IsPublished quantum execution at → run.steps ≡ at + quantum → run.steps < length (items run.plan run.data_read)
    → IsPublished quantum (all_served quantum execution (report_of run) at turn execution.queue) run.steps
next_published quantum at statement execution turn run is published whole within =
    let served : Execution = all_served quantum execution (report_of run) at turn execution.queue in
    let plans : run.plan ≡ served.plan = is.1 ∙ sym (all_served-plan quantum execution (report_of run) at turn execution.queue) in
    let tables : run.data_read ≡ served.tables = is.2 ∙ sym (all_served-tables quantum execution (report_of run) at turn execution.queue) in
    record {
      whole_turns = (published.whole_turns.0 + 1, omega (arith, whole, published.whole_turns.1));
      unfinished = inr (subst (λ (most : ℕ). run.steps < most) (length-items run.plan served.plan run.data_read served.tables plans tables) within);
      rising = all_served-rising quantum execution (report_of run) at turn execution.queue (omega (arith, published.rising, whole));
      fixed = λ some. absurd (some (all_served-queue quantum execution (report_of run) at turn execution.queue));
    }

module _ (old : Inside) (stamp : Stamp) (run : Progress) (ready : IsReady old) (may : MayPoint (contents_of old) stamp run) where
  abbrev desk : Contents
  desk = contents_of old

  abbrev entries : List Entry
  entries = served_entries desk stamp run

  -- the state that it leaves
  abbrev later : Statement → Execution → State
  later statement execution = record {
    phase = planned statement (all_served old.quantum execution (report_of run) old.published stamp.turn execution.queue);
    doomed = (state desk).doomed;
    replies = (state desk).replies ++ answers_with (report_of run) statement.begin execution.queue;
  }

  leads : (statement : Statement) (execution : Execution) → phase desk ≡ planned statement execution → IsRunOf (planned statement execution) run → Leads desk.terms (state desk) entries (later statement execution)
  leads statement execution on is = run-leaves desk stamp run statement execution on ready.sound may.own is (point-timely desk stamp run ready.sound.quantum may)

  -- The fields keep it.
  keeps : (statement : Statement) (execution : Execution) → phase desk ≡ planned statement execution → IsRunOf (planned statement execution) run → run.steps ≤ length (items run.plan run.data_read)
      → Keeps old.quantum old.phase old.doomed run.steps [] (old.replies.items ++ answers_with (report_of run) (begin_in old.phase) old.queue.items) (later statement execution)
  keeps statement execution on is within =
      let lawful : IsPublished old.quantum execution old.published = subst (λ (now : Phase). IsLawful old.quantum now old.published) on ready.sound.lawful in
      let free : execution.owed ≡ None = subst IsSettled on ready.sound.run.settled in
      let held : old.phase ≡ held_phase (planned statement execution) = ready.phase_is ∙ ap held_phase on in
      let queue : old.queue.items ≡ execution.queue = ready.queue ∙ ap queue_of on in
      record {
        settled = all_served-whole old.quantum execution (report_of run) old.published stamp.turn execution.queue may.steps ∙ free;
        lawful = next_published old.quantum old.published statement execution stamp.turn run is lawful may.steps (omega (arith, within, may.unfinished));
        phase_is = held;
        doomed_is = ready.doomed;
        queue_is = sym (all_served-queue old.quantum execution (report_of run) old.published stamp.turn execution.queue);
        replies_is = rw (ready.replies, queue, ap begin_in held) refl;
      }

  -- So the journal is one that a desk can hold.
  pub point-journal : IsJournal desk.terms old.shares.items (old.journal.items ++ entries)
  point-journal =
      let there = on_planned (phase desk) run may.on in
      IsJournal-append desk stamp entries ready.sound may.caller (served-by desk (report_of run) stamp stamp (queue_of (phase desk)) refl) (leads there.0 there.1 there.2 there.3).runs may.room

  -- It has room for the entries.
  pub point-fits : vec_len old.journal + length old.queue.items ≤ vec_capacity old.journal
  point-fits = omega (arith, entries_fit old entries ready point-journal, length-served desk (report_of run) stamp (queue_of (phase desk)), ap length ready.queue)

  -- The desk is ready again.
  pub point-ready : (new : Inside) → run.steps ≤ length (items run.plan run.data_read)
      → new.journal.items ≡ old.journal.items ++ served_from old.number stamp (report_of run) old.queue.items → vec_capacity new.journal ≡ vec_capacity old.journal
      → new.published ≡ run.steps → new.queue.items ≡ [] → new.replies.items ≡ old.replies.items ++ answers_with (report_of run) (begin_in old.phase) old.queue.items
      → let fields : Inside = record old { journal = new.journal; published = new.published; queue = new.queue; replies = new.replies } in IsReady fields
  point-ready new within journal capacity published queue replies =
      let there = on_planned (phase desk) run may.on in
      let fields : Inside = record old { journal = new.journal; published = new.published; queue = new.queue; replies = new.replies } in
      let kept : FieldsKeep fields (later there.0 there.1) = rw (published, queue, replies) (keeps there.0 there.1 there.2 there.3 within) in
      IsReady-next old fields entries ready (journal ∙ ap (λ (more : List Entry). old.journal.items ++ more) (served-same desk (report_of run) stamp old.queue.items ready.queue)) capacity point-journal
      (subst (FieldsKeep fields) (sym (leads there.0 there.1 there.2 there.3).leaves) kept)
      (AreCounts-ready old ready)

  -- It holds the entries, and the run's number.
  pub point-contents : (new : Inside) → new.journal.items ≡ old.journal.items ++ served_from old.number stamp (report_of run) old.queue.items → new.published ≡ run.steps
      → let fields : Inside = record old { journal = new.journal; published = new.published; queue = new.queue; replies = new.replies } in contents_of fields ≡ after_point desk stamp run
  point-contents new journal published =
      let grown : new.journal.items ≡ old.journal.items ++ entries = journal ∙ ap (λ (more : List Entry). old.journal.items ++ more) (served-same desk (report_of run) stamp old.queue.items ready.queue) in
      rw (grown, published) refl
