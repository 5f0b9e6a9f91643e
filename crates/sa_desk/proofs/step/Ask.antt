-- What a request leaves.
use Rattle.std.proofs.Common.{◌≡◌, ℕ, ◌-◌, ◌<◌, Bool, List, ◌++◌, length, slice_set, refl, ◌∙◌, vec_capacity, arith}
use Rattle.std.proofs.lemmas.List.{length-set}
use Rattle.sa_ast.specs.declared.kind.AskKind.{AskKind}
use Rattle.sa_desk.specs.declared.desk.Desk.TheInside.{Inside}
use Rattle.sa_desk.specs.declared.entry.Entry.{Entry}
use Rattle.sa_desk.specs.declared.phase.Phase as held
use Rattle.sa_desk.specs.declared.request.Request.{Request}
use Rattle.sa_desk.specs.declared.request.Reply.{Reply}
use Rattle.sa_desk.specs.declared.stamp.Stamp.{Stamp}
use Rattle.sa_desk.specs.State.{Phase, idle, unplanned, planned, serving, closed, State, HasNone}
use Rattle.sa_desk.specs.Comes.{Comes}
use Rattle.sa_desk.specs.After.{after}
use Rattle.sa_desk.specs.Contents.{Contents, state, entry_by}
use Rattle.sa_desk.specs.inner.Desk.{contents_of, held_phase, IsReady}
use Rattle.sa_desk.specs.inner.Parts.{answer_in, put_last}
use Rattle.sa_desk.specs.call.Ask.{ask_answer, ask_event, ask_entries, MayAsk}
use Rattle.sa_desk.proofs.Counted.{unspent-reset}
use Rattle.sa_desk.proofs.Grown.{IsJournal, IsJournal-push}
use Rattle.sa_desk.proofs.Keeps.{Keeps, FieldsKeep-ready, IsReady-next}

-- the entry that a request makes
abbrev entry_of : Contents → Stamp → State → ℕ → AskKind → ℕ → ℕ → Entry
entry_of desk stamp state number kind at budget = entry_by desk stamp (ask_event (ask_answer state.phase) number kind at budget)

-- It may come.
pub ask-comes : (desk : Contents) (stamp : Stamp) (now : Phase) (doomed : Bool) (replies : List Reply) (number : ℕ) (kind : AskKind) (at budget : ℕ) (phase : held.Phase) (held_doomed : Bool) (queue : List Request) (held_replies : List Reply)
    → let state : State = record { phase = now; doomed = doomed; replies = replies } in
    Keeps desk.terms.quantum phase held_doomed at queue held_replies state → HasNone stamp.actor now replies → budget ≡ desk.terms.turns
    → Comes desk.terms state (entry_of desk stamp state number kind at budget)
ask-comes desk stamp idle doomed replies number kind at budget phase held_doomed queue held_replies keeps none budget_is = tt
ask-comes desk stamp (unplanned statement) doomed replies number kind at budget phase held_doomed queue held_replies keeps none budget_is = tt
ask-comes desk stamp (planned statement execution) doomed replies number kind at budget phase held_doomed queue held_replies keeps none budget_is =
    (none, keeps.lawful, budget_is)
ask-comes desk stamp (serving statement execution steps turn) doomed replies number kind at budget phase held_doomed queue held_replies keeps none budget_is =
    absurd keeps.settled
ask-comes desk stamp closed doomed replies number kind at budget phase held_doomed queue held_replies keeps none budget_is = tt

-- The fields keep what it leaves.
pub ask-keeps : (desk : Contents) (stamp : Stamp) (now : Phase) (doomed : Bool) (replies : List Reply) (number : ℕ) (kind : AskKind) (at budget : ℕ) (phase : held.Phase) (held_doomed : Bool) (queue : List Request) (held_replies : List Reply)
    → let state : State = record { phase = now; doomed = doomed; replies = replies } in
    Keeps desk.terms.quantum phase held_doomed at queue held_replies state
    → Keeps desk.terms.quantum phase held_doomed at (put_last (answer_in phase) (record { asker = stamp.actor; request = number; at = at }) queue) held_replies (after desk.terms state (entry_of desk stamp state number kind at budget))
ask-keeps desk stamp idle doomed replies number kind at budget phase held_doomed queue held_replies keeps =
    record { settled = keeps.settled; lawful = keeps.lawful; phase_is = keeps.phase_is; doomed_is = keeps.doomed_is; queue_is = rw keeps.phase_is keeps.queue_is; replies_is = keeps.replies_is }
ask-keeps desk stamp (unplanned statement) doomed replies number kind at budget phase held_doomed queue held_replies keeps =
    record { settled = keeps.settled; lawful = keeps.lawful; phase_is = keeps.phase_is; doomed_is = keeps.doomed_is; queue_is = rw keeps.phase_is keeps.queue_is; replies_is = keeps.replies_is }
ask-keeps desk stamp (planned statement execution) doomed replies number kind at budget phase held_doomed queue held_replies keeps =
    record {
      settled = keeps.settled;
      lawful = record {
        whole_turns = keeps.lawful.whole_turns;
        unfinished = keeps.lawful.unfinished;
        rising = omega arith;
        fixed = λ some. refl;
      };
      phase_is = keeps.phase_is;
      doomed_is = keeps.doomed_is;
      queue_is = rw (keeps.phase_is, keeps.queue_is) refl;
      replies_is = keeps.replies_is;
    }
ask-keeps desk stamp (serving statement execution steps turn) doomed replies number kind at budget phase held_doomed queue held_replies keeps = absurd keeps.settled
ask-keeps desk stamp closed doomed replies number kind at budget phase held_doomed queue held_replies keeps =
    record { settled = keeps.settled; lawful = keeps.lawful; phase_is = keeps.phase_is; doomed_is = keeps.doomed_is; queue_is = rw keeps.phase_is keeps.queue_is; replies_is = keeps.replies_is }

-- So the journal is one that a desk can hold.
pub ask-journal : (desk : Inside) (stamp : Stamp) (number : ℕ) (kind : AskKind) (budget : ℕ) → IsReady desk → MayAsk (contents_of desk) stamp number kind budget
    → IsJournal (contents_of desk).terms desk.shares.items (desk.journal.items ++ ask_entries (contents_of desk) stamp number kind budget)
ask-journal desk stamp number kind budget ready may =
    let now = state (contents_of desk) in
    let comes =
    ask-comes (contents_of desk) stamp now.phase now.doomed now.replies number kind desk.published budget desk.phase desk.doomed desk.queue.items desk.replies.items (FieldsKeep-ready desk ready) may.none may.budget_is in
    IsJournal-push (contents_of desk) stamp (ask_event (ask_answer now.phase) number kind desk.published budget) ready.sound may.caller comes may.room

-- The desk is ready again.
pub ask-ready : (old new : Inside) (stamp : Stamp) (number : ℕ) (kind : AskKind) (budget : ℕ) → IsReady old → MayAsk (contents_of old) stamp number kind budget
    → new.journal.items ≡ old.journal.items ++ ask_entries (contents_of old) stamp number kind budget → vec_capacity new.journal ≡ vec_capacity old.journal
    → new.queue.items ≡ put_last (answer_in old.phase) (record { asker = stamp.actor; request = number; at = old.published }) old.queue.items
    → new.polls.items ≡ slice_set old.polls.items (stamp.actor - 1) 0
    → let fields : Inside = record old { journal = new.journal; queue = new.queue; polls = new.polls } in IsReady fields
ask-ready old new stamp number kind budget ready may journal capacity queue polls =
    let now = state (contents_of old) in
    let keeps =
    ask-keeps (contents_of old) stamp now.phase now.doomed now.replies number kind old.published budget old.phase old.doomed old.queue.items old.replies.items (FieldsKeep-ready old ready) in
    let within : stamp.actor - 1 < length old.polls.items = omega (arith, may.caller.least, may.caller.most, ready.sound.polls) in
    let fields : Inside = record old { journal = new.journal; queue = new.queue; polls = new.polls } in
    IsReady-next old fields (ask_entries (contents_of old) stamp number kind budget) ready journal capacity (ask-journal old stamp number kind budget ready may)
    (rw queue keeps)
    (record {
      polls_are = rw polls (length-set old.polls.items (stamp.actor - 1) 0 ∙ ready.sound.polls);
      unspent = rw polls (unspent-reset old.turns (stamp.actor - 1) old.polls.items within ready.sound.unspent);
      waits_are = ready.sound.waits;
      patient = ready.sound.patient;
    })

-- What the desk keeps of a phase tells how a request is answered.
pub answer_in-held_phase : (now : Phase) → answer_in (held_phase now) ≡ ask_answer now
answer_in-held_phase idle = refl
answer_in-held_phase (unplanned statement) = refl
answer_in-held_phase (planned statement execution) = refl
answer_in-held_phase (serving statement execution steps turn) = refl
answer_in-held_phase closed = refl
