-- What the end of a session leaves.
use Rattle.std.proofs.Common.{◌≡◌, ℕ, Bool, List, [], ◌∷◌, ◌++◌, refl, vec_capacity}
use Rattle.sa_desk.specs.declared.desk.Desk.TheInside.{Inside}
use Rattle.sa_desk.specs.declared.entry.Event.TheVariants.{Close}
use Rattle.sa_desk.specs.declared.stamp.Stamp.{Stamp}
use Rattle.sa_desk.specs.Comes.{Comes}
use Rattle.sa_desk.specs.Contents.{Contents, state, entry_by}
use Rattle.sa_desk.specs.inner.Desk.{contents_of, IsReady}
use Rattle.sa_desk.specs.call.Close.{MayClose}
use Rattle.sa_desk.specs.declared.phase.Phase.TheVariants.{Closed}
use Rattle.sa_desk.specs.declared.phase.Phase as held
use Rattle.sa_desk.specs.declared.request.Request.{Request}
use Rattle.sa_desk.specs.declared.request.Reply.{Reply}
use Rattle.sa_desk.specs.State.{idle, closed}
use Rattle.sa_desk.proofs.Keeps.{Keeps, FieldsKeep, FieldsKeep-ready, AreCounts-ready, IsReady-push, at_idle, when_idle}

-- The fields keep that it is over.
pub close-keeps : (quantum : ℕ) (doomed : Bool) (replies : List Reply) (phase : held.Phase) (held_doomed : Bool) (published : ℕ) (queue : List Request) (held_replies : List Reply)
    → Keeps quantum phase held_doomed published queue held_replies (record { phase = idle; doomed = doomed; replies = replies })
    → Keeps quantum Closed held_doomed published queue held_replies (record { phase = closed; doomed = doomed; replies = replies })
close-keeps quantum doomed replies phase held_doomed published queue held_replies keeps =
    record { settled = tt; lawful = keeps.lawful; phase_is = refl; doomed_is = keeps.doomed_is; queue_is = keeps.queue_is; replies_is = keeps.replies_is }

-- The entry may come.
pub close-comes : (desk : Contents) (stamp : Stamp) → MayClose desk stamp → Comes desk.terms (state desk) (entry_by desk stamp Close)
close-comes desk stamp may = at_idle (λ state. Comes desk.terms state (entry_by desk stamp Close)) (state desk) may.free may.own

-- The desk is ready again.
pub close-ready : (old new : Inside) (stamp : Stamp) → IsReady old → MayClose (contents_of old) stamp
    → new.journal.items ≡ old.journal.items ++ entry_by (contents_of old) stamp Close ∷ [] → vec_capacity new.journal ≡ vec_capacity old.journal
    → let fields : Inside = record old { journal = new.journal; phase = Closed } in IsReady fields
close-ready old new stamp ready may journal capacity =
    let now = state (contents_of old) in
    let fields : Inside = record old { journal = new.journal; phase = Closed } in
    let keeps = when_idle (FieldsKeep old) now may.free (FieldsKeep-ready old ready) in
    IsReady-push old fields stamp Close ready may.caller (close-comes (contents_of old) stamp may) may.room journal capacity
    (close-keeps old.quantum now.doomed now.replies old.phase old.doomed old.published old.queue.items old.replies.items keeps)
    (AreCounts-ready old ready)
