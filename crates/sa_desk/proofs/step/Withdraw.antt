-- What a withdrawal leaves.
use Rattle.std.proofs.Common.{◌≡◌, ℕ, Bool, List, [], ◌∷◌, ◌++◌, Some, None, ap, subst, vec_capacity}
use Rattle.sa_desk.specs.declared.desk.Desk.TheInside.{Inside}
use Rattle.sa_desk.specs.declared.answer.Withdrawn.TheVariants as answer
use Rattle.sa_desk.specs.declared.entry.Event.TheVariants.{Taken, Withdrawn}
use Rattle.sa_desk.specs.declared.request.Reply.{Reply}
use Rattle.sa_desk.specs.declared.stamp.Stamp.{Stamp}
use Rattle.sa_desk.specs.State.{Phase, idle, unplanned, planned, serving, closed, queue_of, IsSettled}
use Rattle.sa_desk.specs.Comes.{Comes, IsQueued}
use Rattle.sa_desk.specs.After.{without}
use Rattle.sa_desk.specs.Contents.{Contents, state, phase, IsCaller, HasRoom, entry_by}
use Rattle.sa_desk.specs.inner.Desk.{contents_of, IsReady}
use Rattle.sa_desk.specs.call.Poll.{reply_to}
use Rattle.sa_desk.specs.call.Withdraw.{withdraw_answer, withdraw_event, withdrawn, withdraw_entries}
use Rattle.sa_desk.proofs.Keeps.{FieldsKeep-ready, AreCounts-ready, IsReady-push}
use Rattle.sa_desk.proofs.step.Poll.{none-queued, out-keeps}

-- What a withdrawal answers, by whether the request was served.
pub withdrawn-taken : (desk : Contents) (stamp : Stamp) (number : ℕ) (reply : Reply) → reply_to stamp.actor (state desk).replies ≡ Some reply → withdrawn desk stamp number ≡ answer.Taken
withdrawn-taken desk stamp number reply found = ap withdraw_answer found

pub withdrawn-removed : (desk : Contents) (stamp : Stamp) (number : ℕ) → reply_to stamp.actor (state desk).replies ≡ None → withdrawn desk stamp number ≡ answer.Removed
withdrawn-removed desk stamp number none = ap withdraw_answer none

-- So it has room for its entry.
pub taken-room : (desk : Contents) (stamp : Stamp) (number : ℕ) → withdrawn desk stamp number ≡ answer.Taken → HasRoom desk stamp.actor (withdraw_entries desk stamp number) → HasRoom desk stamp.actor (entry_by desk stamp (Taken number) ∷ [])
taken-room desk stamp number taken room = subst (λ answer. HasRoom desk stamp.actor (entry_by desk stamp (withdraw_event answer number) ∷ [])) taken room

pub removed-room : (desk : Contents) (stamp : Stamp) (number : ℕ) → withdrawn desk stamp number ≡ answer.Removed → HasRoom desk stamp.actor (withdraw_entries desk stamp number) → HasRoom desk stamp.actor (entry_by desk stamp (Withdrawn number) ∷ [])
removed-room desk stamp number removed room = subst (λ answer. HasRoom desk stamp.actor (entry_by desk stamp (withdraw_event answer number) ∷ [])) removed room

-- Only where a plan is on does a request wait, and it may be taken out.
pub removed-comes : (desk : Contents) (stamp : Stamp) (now : Phase) (doomed : Bool) (replies : List Reply) (number : ℕ) → IsSettled now → IsQueued stamp.actor number (queue_of now)
    → Comes desk.terms (record { phase = now; doomed = doomed; replies = replies }) (entry_by desk stamp (Withdrawn number))
removed-comes desk stamp idle doomed replies number settled queued = none-queued stamp.actor number queued
removed-comes desk stamp (unplanned statement) doomed replies number settled queued = none-queued stamp.actor number queued
removed-comes desk stamp (planned statement execution) doomed replies number settled queued = queued
removed-comes desk stamp (serving statement execution steps turn) doomed replies number settled queued = absurd settled
removed-comes desk stamp closed doomed replies number settled queued = none-queued stamp.actor number queued

-- The desk is ready again.
pub removed-ready : (old new : Inside) (stamp : Stamp) (number : ℕ) → IsReady old → IsCaller (contents_of old) stamp
    → IsQueued stamp.actor number (queue_of (phase (contents_of old))) → HasRoom (contents_of old) stamp.actor (entry_by (contents_of old) stamp (Withdrawn number) ∷ [])
    → new.journal.items ≡ old.journal.items ++ entry_by (contents_of old) stamp (Withdrawn number) ∷ [] → vec_capacity new.journal ≡ vec_capacity old.journal
    → new.queue.items ≡ without stamp.actor old.queue.items
    → let fields : Inside = record old { journal = new.journal; queue = new.queue } in IsReady fields
removed-ready old new stamp number ready caller queued room journal capacity queue =
    let now = state (contents_of old) in
    let fields : Inside = record old { journal = new.journal; queue = new.queue } in
    let comes = removed-comes (contents_of old) stamp now.phase now.doomed now.replies number ready.sound.run.settled queued in
    let keeps = out-keeps old.quantum stamp.actor now.phase now.doomed now.replies number old.published old.phase old.doomed old.queue.items old.replies.items queued (FieldsKeep-ready old ready) in
    IsReady-push old fields stamp (Withdrawn number) ready caller comes room journal capacity (rw queue keeps) (AreCounts-ready old ready)
