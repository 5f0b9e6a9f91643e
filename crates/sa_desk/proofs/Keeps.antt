-- What a desk's fields keep of the state that its journal leaves.
use Rattle.std.proofs.Common.{◌≡◌, ℕ, ◌<◌, Bool, List, [], ◌∷◌, ◌++◌, length, Option, All, sym, subst, ap, ◌∙◌, vec_capacity}
use Rattle.sa_desk.specs.declared.desk.Desk.TheInside.{Inside}
use Rattle.sa_desk.specs.declared.entry.Entry.{Entry}
use Rattle.sa_desk.specs.declared.phase.Phase as held
use Rattle.sa_desk.specs.declared.request.Request.{Request}
use Rattle.sa_desk.specs.declared.request.Reply.{Reply}
use Rattle.sa_desk.specs.declared.request.OpenWait.{OpenWait}
use Rattle.sa_desk.specs.declared.stamp.Stamp.{Stamp}
use Rattle.sa_desk.specs.declared.entry.Event.{Event}
use Rattle.sa_desk.specs.State.{idle, State, queue_of, IsLawful, IsSettled}
use Rattle.sa_desk.specs.Runs.{state_of, state_after}
use Rattle.sa_desk.specs.Comes.{Comes}
use Rattle.sa_desk.specs.After.{after}
use Rattle.sa_desk.specs.Contents.{Contents, state, IsCaller, HasRoom, entry_by, IsPatient}
use Rattle.sa_desk.specs.inner.Desk.{contents_of, held_phase, IsReady}
use Rattle.sa_desk.proofs.Append.{state_of-append}
use Rattle.sa_desk.proofs.Grown.{IsJournal, IsJournal-push}

-- These fields keep the state, and this number is lawful in it.
pub record Keeps (quantum : ℕ) (phase : held.Phase) (doomed : Bool) (published : ℕ) (queue : List Request) (replies : List Reply) (state : State) : Type 0 where
  pub settled : IsSettled state.phase
  pub lawful : IsLawful quantum state.phase published
  pub phase_is : phase ≡ held_phase state.phase
  pub doomed_is : doomed ≡ state.doomed
  pub queue_is : queue ≡ queue_of state.phase
  pub replies_is : replies ≡ state.replies

-- the fields of a desk keep the state
abbrev pub FieldsKeep : Inside → State → Type 0
FieldsKeep desk state = Keeps desk.quantum desk.phase desk.doomed desk.published desk.queue.items desk.replies.items state

-- A ready desk keeps the state of its journal.
pub FieldsKeep-ready : (desk : Inside) → IsReady desk → FieldsKeep desk (state (contents_of desk))
FieldsKeep-ready desk ready = record {
  settled = ready.sound.run.settled;
  lawful = ready.sound.lawful;
  phase_is = ready.phase_is;
  doomed_is = ready.doomed;
  queue_is = ready.queue;
  replies_is = ready.replies;
}

-- Each session has its polls here, fewer than a request lasts, and its wait.
pub record AreCounts (turns sessions : ℕ) (polls : List ℕ) (waits : List (Option OpenWait)) : Type 0 where
  pub polls_are : length polls ≡ sessions
  pub unspent : All (λ count. count < turns) polls
  pub waits_are : length waits ≡ sessions
  pub patient : All (IsPatient turns) waits

-- as in a ready desk
pub AreCounts-ready : (desk : Inside) → IsReady desk → AreCounts desk.turns (length desk.shares.items) desk.polls.items desk.waits.items
AreCounts-ready desk ready = record { polls_are = ready.sound.polls; unspent = ready.sound.unspent; waits_are = ready.sound.waits; patient = ready.sound.patient }

-- The fields after a call: the terms and the shares stay.
abbrev pub next_to : Inside → Inside → Inside
next_to old new = record new { number = old.number; quantum = old.quantum; turns = old.turns; shares = old.shares }

-- A desk is ready again where its journal has grown by entries and its fields keep what they leave.
pub IsReady-next : (old new : Inside) (entries : List Entry) → IsReady old
    → new.journal.items ≡ old.journal.items ++ entries → vec_capacity new.journal ≡ vec_capacity old.journal
    → IsJournal (contents_of old).terms old.shares.items (old.journal.items ++ entries)
    → FieldsKeep (next_to old new) (state_after (contents_of old).terms (state (contents_of old)) entries)
    → AreCounts old.turns (length old.shares.items) new.polls.items new.waits.items → IsReady (next_to old new)
IsReady-next old new entries ready journal capacity grown keeps counts =
    let after : state (contents_of (next_to old new)) ≡ state_after (contents_of old).terms (state (contents_of old)) entries =
    ap (state_of (contents_of old).terms) journal ∙ state_of-append (contents_of old).terms old.journal.items entries in
    let kept : FieldsKeep (next_to old new) (state (contents_of (next_to old new))) = subst (FieldsKeep (next_to old new)) (sym after) keeps in
    record {
      sound = record {
        quantum = ready.sound.quantum;
        sessions = ready.sound.sessions;
        few = ready.sound.few;
        run = record { runs = rw journal grown.run; settled = kept.settled };
        entries = rw journal grown.entries;
        lawful = kept.lawful;
        charges = rw journal grown.charges;
        polls = counts.polls_are;
        unspent = counts.unspent;
        waits = counts.waits_are;
        patient = counts.patient;
      };
      phase_is = kept.phase_is;
      doomed = kept.doomed_is;
      queue = kept.queue_is;
      replies = kept.replies_is;
      room = rw capacity ready.room;
    }

-- as after one entry of the caller
pub IsReady-push : (old new : Inside) (stamp : Stamp) (event : Event) → IsReady old
    → IsCaller (contents_of old) stamp → Comes (contents_of old).terms (state (contents_of old)) (entry_by (contents_of old) stamp event) → HasRoom (contents_of old) stamp.actor (entry_by (contents_of old) stamp event ∷ [])
    → new.journal.items ≡ old.journal.items ++ entry_by (contents_of old) stamp event ∷ [] → vec_capacity new.journal ≡ vec_capacity old.journal
    → FieldsKeep (next_to old new) (after (contents_of old).terms (state (contents_of old)) (entry_by (contents_of old) stamp event))
    → AreCounts old.turns (length old.shares.items) new.polls.items new.waits.items → IsReady (next_to old new)
IsReady-push old new stamp event ready caller comes room journal capacity keeps counts =
    let grown = IsJournal-push (contents_of old) stamp event ready.sound caller comes room in
    IsReady-next old new (entry_by (contents_of old) stamp event ∷ []) ready journal capacity grown keeps counts

-- What holds of the state with an idle phase holds of a state that is idle.
pub at_idle : (P : State → Type 0) (state : State) → state.phase ≡ idle → P (record state { phase = idle }) → P state
at_idle P state free holds = subst (λ phase. P (record state { phase = phase })) (sym free) holds

pub when_idle : (P : State → Type 0) (state : State) → state.phase ≡ idle → P state → P (record state { phase = idle })
when_idle P state free holds = subst (λ phase. P (record state { phase = phase })) free holds

-- the contents with another journal
abbrev pub with_journal : Contents → List Entry → Contents
with_journal desk journal = record desk { journal = journal }
