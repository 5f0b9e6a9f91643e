-- A journal that a desk can hold, and how it grows by the entries of a call.
use Rattle.std.proofs.Common.{◌≡◌, ◌≢◌, ℕ, ◌+◌, ◌-◌, ◌<◌, ◌≤◌, false, inl, inr, List, [], ◌∷◌, ◌++◌, length, slice_index, eqb, All, refl, sym, arith}
use Rattle.std.proofs.lemmas.Grind.{common_steps}
use Rattle.std.proofs.lemmas.Bool.{ne_eqb}
use Rattle.std.proofs.lemmas.Bool.Decides.{eqb_tells}
use Rattle.std.proofs.lemmas.List.Elements.{All-append, All-head, All-tail, All-weaker, All-cons, All-nil}
use Rattle.sa_desk.specs.declared.entry.Entry.{Entry}
use Rattle.sa_desk.specs.declared.entry.Event.{Event}
use Rattle.sa_desk.specs.declared.stamp.Stamp.{Stamp}
use Rattle.sa_desk.specs.State.{Terms, start}
use Rattle.sa_desk.specs.Comes.{Comes}
use Rattle.sa_desk.specs.Runs.{Runs, IsEntryOf}
use Rattle.sa_desk.specs.Charge.{charge}
use Rattle.sa_desk.specs.Contents.{Contents, state, IsSound, IsCaller, IsWithinShares, HasRoom, entry_by}
use Rattle.sa_desk.proofs.Append.{IsDeskRun-append, charge-append}

-- It is a run of the machine, its entries are of this desk and its sessions, and no session is past its share.
pub record IsJournal (terms : Terms) (shares : List ℕ) (journal : List Entry) : Type 0 where
  pub run : Runs terms start journal
  pub entries : All (IsEntryOf terms.desk (length shares)) journal
  pub charges : IsWithinShares shares journal

-- the journal of a sound desk
pub IsJournal-sound : (desk : Contents) → IsSound desk → IsJournal desk.terms desk.shares desk.journal
IsJournal-sound desk sound = record { run = sound.run.runs; entries = sound.entries; charges = sound.charges }

-- The entry is the caller's, on this desk.
pub record IsBy (desk : Contents) (stamp : Stamp) (entry : Entry) : Type 0 where
  pub desk_is : entry.desk ≡ desk.terms.desk
  pub actor_is : entry.actor ≡ stamp.actor

-- The entries of one actor cost nobody else anything.
pub charge-others : (actor other : ℕ) (entries : List Entry) → All (λ entry. entry.actor ≡ actor) entries → actor ≢ other → charge other entries ≡ 0
charge-others actor other [] all apart = refl
charge-others actor other (entry ∷ rest) all apart =
    let here : entry.actor ≡ actor = All-head (λ entry. entry.actor ≡ actor) entry rest all in
    let others : eqb entry.actor other ≡ false = ne_eqb entry.actor other (λ same. apart (rw (sym here) same)) in
    let more = charge-others actor other rest (All-tail (λ entry. entry.actor ≡ actor) entry rest all) apart in
    grind (arith, common_steps)

-- Within its share a caller leaves the other sessions within theirs.
IsWithinShares-append : (desk : Contents) (stamp : Stamp) (entries : List Entry) → IsSound desk → All (IsBy desk stamp) entries → HasRoom desk stamp.actor entries
    → (session : ℕ) → session < length desk.shares → charge (session + 1) (desk.journal ++ entries) ≤ slice_index desk.shares session
IsWithinShares-append desk stamp entries sound all room session within =
    let old = sound.charges session within in
    elim (eqb_tells stamp.actor (session + 1)) [
      | inl same ↦
          let index : stamp.actor - 1 ≡ session = omega (arith, same.1) in
          rw (sym same.1, sym index) room
      | inr apart ↦
          let none = charge-others stamp.actor (session + 1) entries (All-weaker (IsBy desk stamp) (λ entry. entry.actor ≡ stamp.actor) (λ entry by. by.actor_is) entries all) apart.1 in
          omega (arith, charge-append (session + 1) desk.journal entries, none, old)
    ]

-- An entry of a caller is one of a session.
IsEntryOf-by : (desk : Contents) (stamp : Stamp) → IsCaller desk stamp → (entry : Entry) → IsBy desk stamp entry → IsEntryOf desk.terms.desk (length desk.shares) entry
IsEntryOf-by desk stamp caller entry by = record {
  desk_is = by.desk_is;
  least = rw by.actor_is caller.least;
  most = rw by.actor_is caller.most;
}

-- The entries of a call come after those that are there.
pub IsJournal-append : (desk : Contents) (stamp : Stamp) (entries : List Entry) → IsSound desk → IsCaller desk stamp → All (IsBy desk stamp) entries → Runs desk.terms (state desk) entries → HasRoom desk stamp.actor entries
    → IsJournal desk.terms desk.shares (desk.journal ++ entries)
IsJournal-append desk stamp entries sound caller all runs room = record {
  run = IsDeskRun-append desk.terms desk.journal entries sound.run.runs runs;
  entries =
      All-append (IsEntryOf desk.terms.desk (length desk.shares)) desk.journal entries sound.entries
      (All-weaker (IsBy desk stamp) (IsEntryOf desk.terms.desk (length desk.shares)) (IsEntryOf-by desk stamp caller) entries all);
  charges = IsWithinShares-append desk stamp entries sound all room;
}

-- one entry of the caller
pub IsJournal-push : (desk : Contents) (stamp : Stamp) (event : Event) → IsSound desk → IsCaller desk stamp → Comes desk.terms (state desk) (entry_by desk stamp event) → HasRoom desk stamp.actor (entry_by desk stamp event ∷ [])
    → IsJournal desk.terms desk.shares (desk.journal ++ entry_by desk stamp event ∷ [])
IsJournal-push desk stamp event sound caller comes room =
    let by : IsBy desk stamp (entry_by desk stamp event) = record { desk_is = refl; actor_is = refl } in
    IsJournal-append desk stamp (entry_by desk stamp event ∷ []) sound caller (All-cons (IsBy desk stamp) (entry_by desk stamp event) [] by (All-nil (IsBy desk stamp))) (comes, tt) room
