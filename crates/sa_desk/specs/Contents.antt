-- What a desk holds.
use Rattle.std.specs.Prelude.{◌≡◌, ℕ, ◌+◌, ◌-◌, ◌<◌, ◌≤◌, ◌^◌, sum, List, ◌++◌, length, slice_index, Option, IfSome, All}
use Rattle.sa_desk.specs.declared.entry.Entry.{Entry}
use Rattle.sa_desk.specs.declared.entry.Event.{Event}
use Rattle.sa_desk.specs.declared.request.OpenWait.{OpenWait}
use Rattle.sa_desk.specs.declared.stamp.Stamp.{Stamp}
use Rattle.sa_desk.specs.State.{Terms, Phase, State, IsLawful}
use Rattle.sa_desk.specs.Runs.{state_of, IsDeskRun, IsEntryOf}
use Rattle.sa_desk.specs.Charge.{charge}

-- A desk has its terms and each session's share of its journal. All else that it says of its
-- session follows from the journal, but for the number of steps that it publishes and what each
-- session has counted here.
pub record Contents : Type 0 where
  pub terms : Terms
  pub shares : List ℕ
  pub journal : List Entry
  -- the steps that the desk's own session has published of the statement that is on
  pub published : ℕ
  -- for each session, how often its last request here was polled without an answer
  pub polls : List ℕ
  -- for each session, its open wait here
  pub waits : List (Option OpenWait)

-- what the journal leaves
abbrev pub state : Contents → State
state desk = state_of desk.terms desk.journal

abbrev pub phase : Contents → Phase
phase desk = (state desk).phase

-- no session's entries cost more than its share
abbrev pub IsWithinShares : List ℕ → List Entry → Type 0
IsWithinShares shares journal = (session : ℕ) → session < length shares
    → charge (session + 1) journal ≤ slice_index shares session

-- An open wait has looked less often than it lasts.
abbrev pub IsPatient : ℕ → Option OpenWait → Type 0
IsPatient turns wait = IfSome wait (λ wait. wait.looks < turns)

-- What is true of every desk.
pub record IsSound (desk : Contents) : Type 0 where
  -- a turn has a step at least, at most 16 sessions have a share, and the shares are small
  pub quantum : 1 ≤ desk.terms.quantum
  pub sessions : length desk.shares ≤ 16
  pub few : sum desk.shares ≤ 2 ^ 20
  -- the journal is a run of the machine
  pub run : IsDeskRun desk.terms desk.journal
  pub entries : All (IsEntryOf desk.terms.desk (length desk.shares)) desk.journal
  pub lawful : IsLawful desk.terms.quantum (phase desk) desk.published
  pub charges : IsWithinShares desk.shares desk.journal
  pub polls : length desk.polls ≡ length desk.shares
  pub unspent : All (λ count. count < desk.terms.turns) desk.polls
  pub waits : length desk.waits ≡ length desk.shares
  pub patient : All (IsPatient desk.terms.turns) desk.waits

-- Who may call a desk: one of its sessions.
pub record IsCaller (desk : Contents) (stamp : Stamp) : Type 0 where
  pub least : 1 ≤ stamp.actor
  pub most : stamp.actor ≤ length desk.shares

-- Numbers are left for the entries of one call.
abbrev pub HasNumbers : Stamp → Type 0
HasNumbers stamp = stamp.seq + 18 ≤ 2 ^ 32

-- With these entries the actor stays within its share.
abbrev pub HasRoom : Contents → ℕ → List Entry → Type 0
HasRoom desk actor entries =
    charge actor (desk.journal ++ entries) ≤ slice_index desk.shares (actor - 1)

-- The caller is the desk's own session.
abbrev pub IsOwner : Contents → Stamp → Type 0
IsOwner desk stamp = stamp.actor ≡ desk.terms.desk

-- an entry of the caller
abbrev pub entry_by : Contents → Stamp → Event → Entry
entry_by desk stamp event =
    record {
      desk = desk.terms.desk;
      actor = stamp.actor;
      seq = stamp.seq;
      turn = stamp.turn;
      event = event;
    }

-- the stamp of the entries after so many
abbrev pub later : ℕ → Stamp → Stamp
later count stamp = record stamp { seq = stamp.seq + count }

-- the desk with more entries at the end of its journal
abbrev pub with_entries : List Entry → Contents → Contents
with_entries entries desk = record desk { journal = desk.journal ++ entries }
