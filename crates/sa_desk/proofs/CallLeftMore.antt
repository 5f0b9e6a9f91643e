-- What the calls of an observer leave at a desk.
use Rattle.std.proofs.Common.{◌≡◌, ◌≢◌, ℕ, ◌-◌, ◌≤◌, List, [], slice_set, Option, refl, ap, arith, append-nil, get_or-set_other, map, None, sym}
use Rattle.sa_ast.specs.declared.kind.KillKind.{KillKind}
use Rattle.sa_desk.specs.declared.answer.Looked.{Looked}
use Rattle.sa_desk.specs.declared.answer.Looked.TheVariants.{NoSuchThread, Reached, Spent, NotYet}
use Rattle.sa_desk.specs.declared.entry.Entry.{Entry}
use Rattle.sa_desk.specs.declared.request.OpenWait.{OpenWait}
use Rattle.sa_desk.specs.declared.stamp.Stamp.{Stamp}
use Rattle.sa_desk.specs.Contents.{Contents, IsSound, IsCaller, entry_by, with_entries}
use Rattle.sa_desk.specs.World.{Quiet, quiet_of, Leaves}
use Rattle.sa_desk.specs.call.Kill.{kill_entries, after_kill}
use Rattle.sa_desk.specs.call.Look.{looked, look_events, looks_before, wait_after, look_entries, after_look}
use Rattle.sa_desk.specs.call.Withdraw.{withdraw_entries, after_withdraw}
use Rattle.sa_desk.proofs.CallLeft.{AreStamped, AreStamped-none, AreStamped-one, Leaves-stamped}

-- a look
AreStamped-looked : (desk : Contents) (stamp : Stamp) (answer : Looked) (number : ℕ) → AreStamped desk stamp (map (entry_by desk stamp) (look_events answer number))
AreStamped-looked desk stamp NoSuchThread number = AreStamped-one desk stamp _
AreStamped-looked desk stamp (Reached steps) number = AreStamped-one desk stamp _
AreStamped-looked desk stamp (Spent steps turns) number = AreStamped-one desk stamp _
AreStamped-looked desk stamp NotYet number = AreStamped-none desk stamp

-- A session's wait at a desk is no other session's.
quiet-waits : (desk : Contents) (entries : List Entry) (session other : ℕ) (wait : Option OpenWait) → 1 ≤ session → 1 ≤ other → other ≢ session
    → let next : Contents = record (with_entries entries desk) { waits = slice_set desk.waits (session - 1) wait } in quiet_of next other ≡ quiet_of desk other
quiet-waits desk entries session other wait least from apart =
    let same = get_or-set_other desk.waits (session - 1) (other - 1) wait None (λ is. apart (omega arith)) in
    ap (λ wait. let quiet : Quiet = record (quiet_of desk other) { wait = wait } in quiet) same

module _ (desk : Contents) (stamp : Stamp) where
  pub look_own-left : IsSound desk → Leaves desk desk stamp.actor stamp.seq []
  look_own-left sound = Leaves-stamped desk stamp [] desk sound refl refl (sym (append-nil desk.journal)) (AreStamped-none desk stamp) (λ other least apart. refl)

  pub withdraw-left : (number : ℕ) → IsSound (after_withdraw desk stamp number) → Leaves desk (after_withdraw desk stamp number) stamp.actor stamp.seq (withdraw_entries desk stamp number)
  withdraw-left number sound = Leaves-stamped desk stamp _ _ sound refl refl refl (AreStamped-one desk stamp _) (λ other least apart. refl)

  pub kill-left : (number : ℕ) (kind : KillKind) → IsSound (after_kill desk stamp number kind) → Leaves desk (after_kill desk stamp number kind) stamp.actor stamp.seq (kill_entries desk stamp number kind)
  kill-left number kind sound = Leaves-stamped desk stamp _ _ sound refl refl refl (AreStamped-one desk stamp _) (λ other least apart. refl)

  pub look-left : IsCaller desk stamp → (number at : ℕ) → IsSound (after_look desk stamp number at) → Leaves desk (after_look desk stamp number at) stamp.actor stamp.seq (look_entries desk stamp number at)
  look-left caller number at sound =
      let answer = looked desk stamp number at in
      Leaves-stamped desk stamp _ _ sound refl refl refl (AreStamped-looked desk stamp answer number)
      (λ other least apart. quiet-waits desk (look_entries desk stamp number at) stamp.actor other (wait_after answer number at (looks_before desk stamp number at)) caller.least least apart)
