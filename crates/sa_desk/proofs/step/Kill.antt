-- What a kill leaves.
use Rattle.std.proofs.Common.{◌≡◌, ℕ, Bool, true, false, ◌||◌, List, [], ◌∷◌, ◌++◌, refl, sym, ap, ◌∙◌, vec_capacity}
use Rattle.sa_ast.specs.declared.kind.KillKind.{KillKind}
use Rattle.sa_desk.specs.declared.desk.Desk.TheInside.{Inside}
use Rattle.sa_desk.specs.declared.entry.Event.TheVariants.{Refused, KillSent}
use Rattle.sa_desk.specs.declared.entry.RefusedWhy.TheVariants.{NoSuchThread}
use Rattle.sa_desk.specs.declared.answer.Killed.TheVariants as answer
use Rattle.sa_desk.specs.declared.phase.Phase as held
use Rattle.sa_desk.specs.declared.request.Request.{Request}
use Rattle.sa_desk.specs.declared.request.Reply.{Reply}
use Rattle.sa_desk.specs.declared.stamp.Stamp.{Stamp}
use Rattle.sa_desk.specs.State.{Phase, idle, unplanned, planned, serving, closed, IsSettled}
use Rattle.sa_desk.specs.Comes.{Comes}
use Rattle.sa_desk.specs.After.{after, dooms}
use Rattle.sa_desk.specs.Contents.{Contents, state, phase, entry_by}
use Rattle.sa_desk.specs.inner.Desk.{contents_of, held_phase, IsReady}
use Rattle.sa_desk.specs.inner.Parts.{is_over, killed_in}
use Rattle.sa_desk.specs.call.Kill.{kill_answer, kill_event, MayKill}
use Rattle.sa_desk.proofs.Grown.{IsJournal, IsJournal-push}
use Rattle.sa_desk.proofs.Keeps.{Keeps, FieldsKeep-ready, AreCounts-ready, IsReady-push}

-- What the desk keeps of a phase tells whether it is over.
pub answer-over : (now : Phase) → is_over (held_phase now) ≡ true → kill_answer now ≡ answer.NoSuchThread
answer-over idle over = cc
answer-over (unplanned statement) over = cc
answer-over (planned statement execution) over = cc
answer-over (serving statement execution steps turn) over = cc
answer-over closed over = refl

pub answer-on : (now : Phase) → is_over (held_phase now) ≡ false → kill_answer now ≡ answer.Ok
answer-on idle on = refl
answer-on (unplanned statement) on = refl
answer-on (planned statement execution) on = refl
answer-on (serving statement execution steps turn) on = refl
answer-on closed on = cc

-- Its entry may come.
pub kill-comes : (desk : Contents) (stamp : Stamp) (now : Phase) (doomed : Bool) (replies : List Reply) (number : ℕ) (kind : KillKind) → IsSettled now
    → Comes desk.terms (record { phase = now; doomed = doomed; replies = replies }) (entry_by desk stamp (kill_event (kill_answer now) number kind))
kill-comes desk stamp idle doomed replies number kind settled = tt
kill-comes desk stamp (unplanned statement) doomed replies number kind settled = tt
kill-comes desk stamp (planned statement execution) doomed replies number kind settled = tt
kill-comes desk stamp (serving statement execution steps turn) doomed replies number kind settled = absurd settled
kill-comes desk stamp closed doomed replies number kind settled = tt

-- So the journal is one that a desk can hold.
pub kill-journal : (desk : Inside) (stamp : Stamp) (number : ℕ) (kind : KillKind) → IsReady desk → MayKill (contents_of desk) stamp number kind
    → IsJournal (contents_of desk).terms desk.shares.items (desk.journal.items ++ entry_by (contents_of desk) stamp (kill_event (kill_answer (phase (contents_of desk))) number kind) ∷ [])
kill-journal desk stamp number kind ready may =
    let now = state (contents_of desk) in
    IsJournal-push (contents_of desk) stamp (kill_event (kill_answer now.phase) number kind) ready.sound may.caller
    (kill-comes (contents_of desk) stamp now.phase now.doomed now.replies number kind ready.sound.run.settled) may.room

-- The fields keep what a refused kill leaves, which is nothing, and what one that stands leaves.
over-keeps : (desk : Contents) (stamp : Stamp) (now : Phase) (doomed : Bool) (replies : List Reply) (number published : ℕ) (kind : KillKind) (phase : held.Phase) (held_doomed : Bool) (queue : List Request) (held_replies : List Reply)
    → kill_answer now ≡ answer.NoSuchThread
    → Keeps desk.terms.quantum phase held_doomed published queue held_replies (record { phase = now; doomed = doomed; replies = replies })
    → Keeps desk.terms.quantum phase held_doomed published queue held_replies (after desk.terms (record { phase = now; doomed = doomed; replies = replies }) (entry_by desk stamp (kill_event (kill_answer now) number kind)))
over-keeps desk stamp closed doomed replies number published kind phase held_doomed queue held_replies over keeps = keeps
over-keeps desk stamp idle doomed replies number published kind phase held_doomed queue held_replies over keeps = cc
over-keeps desk stamp (unplanned statement) doomed replies number published kind phase held_doomed queue held_replies over keeps = cc
over-keeps desk stamp (planned statement execution) doomed replies number published kind phase held_doomed queue held_replies over keeps = cc
over-keeps desk stamp (serving statement execution steps turn) doomed replies number published kind phase held_doomed queue held_replies over keeps = cc

stands-keeps : (desk : Contents) (stamp : Stamp) (now : Phase) (doomed : Bool) (replies : List Reply) (number published : ℕ) (kind : KillKind) (phase : held.Phase) (held_doomed : Bool) (queue : List Request) (held_replies : List Reply)
    → kill_answer now ≡ answer.Ok
    → Keeps desk.terms.quantum phase held_doomed published queue held_replies (record { phase = now; doomed = doomed; replies = replies })
    → Keeps desk.terms.quantum (killed_in phase) (held_doomed || dooms kind) published queue held_replies (after desk.terms (record { phase = now; doomed = doomed; replies = replies }) (entry_by desk stamp (kill_event (kill_answer now) number kind)))
stands-keeps desk stamp closed doomed replies number published kind phase held_doomed queue held_replies on keeps = cc
stands-keeps desk stamp idle doomed replies number published kind phase held_doomed queue held_replies on keeps =
    record { settled = keeps.settled; lawful = keeps.lawful; phase_is = ap killed_in keeps.phase_is; doomed_is = ap (λ doomed. doomed || dooms kind) keeps.doomed_is; queue_is = keeps.queue_is; replies_is = keeps.replies_is }
stands-keeps desk stamp (unplanned statement) doomed replies number published kind phase held_doomed queue held_replies on keeps =
    record { settled = keeps.settled; lawful = keeps.lawful; phase_is = ap killed_in keeps.phase_is; doomed_is = ap (λ doomed. doomed || dooms kind) keeps.doomed_is; queue_is = keeps.queue_is; replies_is = keeps.replies_is }
stands-keeps desk stamp (planned statement execution) doomed replies number published kind phase held_doomed queue held_replies on keeps =
    record { settled = keeps.settled; lawful = keeps.lawful; phase_is = ap killed_in keeps.phase_is; doomed_is = ap (λ doomed. doomed || dooms kind) keeps.doomed_is; queue_is = keeps.queue_is; replies_is = keeps.replies_is }
stands-keeps desk stamp (serving statement execution steps turn) doomed replies number published kind phase held_doomed queue held_replies on keeps = absurd keeps.settled

-- The desk is ready again after a kill that is refused.
pub over-ready : (old new : Inside) (stamp : Stamp) (number : ℕ) (kind : KillKind) → IsReady old → MayKill (contents_of old) stamp number kind
    → kill_answer (phase (contents_of old)) ≡ answer.NoSuchThread
    → new.journal.items ≡ old.journal.items ++ entry_by (contents_of old) stamp (Refused number NoSuchThread) ∷ [] → vec_capacity new.journal ≡ vec_capacity old.journal
    → let fields : Inside = record old { journal = new.journal } in IsReady fields
over-ready old new stamp number kind ready may over journal capacity =
    let now = state (contents_of old) in
    let fields : Inside = record old { journal = new.journal } in
    let comes = kill-comes (contents_of old) stamp now.phase now.doomed now.replies number kind ready.sound.run.settled in
    let keeps = over-keeps (contents_of old) stamp now.phase now.doomed now.replies number old.published kind old.phase old.doomed old.queue.items old.replies.items over (FieldsKeep-ready old ready) in
    IsReady-push old fields stamp (kill_event (kill_answer now.phase) number kind) ready may.caller comes may.room
    (journal ∙ ap (λ answer. old.journal.items ++ entry_by (contents_of old) stamp (kill_event answer number kind) ∷ []) (sym over)) capacity keeps (AreCounts-ready old ready)

-- and after one that stands
pub stands-ready : (old new : Inside) (stamp : Stamp) (number : ℕ) (kind : KillKind) → IsReady old → MayKill (contents_of old) stamp number kind
    → kill_answer (phase (contents_of old)) ≡ answer.Ok
    → new.journal.items ≡ old.journal.items ++ entry_by (contents_of old) stamp (KillSent number kind) ∷ [] → vec_capacity new.journal ≡ vec_capacity old.journal
    → new.phase ≡ killed_in old.phase → new.doomed ≡ (old.doomed || dooms kind)
    → let fields : Inside = record old { journal = new.journal; phase = new.phase; doomed = new.doomed } in IsReady fields
stands-ready old new stamp number kind ready may on journal capacity phase_is doomed_is =
    let now = state (contents_of old) in
    let fields : Inside = record old { journal = new.journal; phase = new.phase; doomed = new.doomed } in
    let comes = kill-comes (contents_of old) stamp now.phase now.doomed now.replies number kind ready.sound.run.settled in
    let keeps = stands-keeps (contents_of old) stamp now.phase now.doomed now.replies number old.published kind old.phase old.doomed old.queue.items old.replies.items on (FieldsKeep-ready old ready) in
    IsReady-push old fields stamp (kill_event (kill_answer now.phase) number kind) ready may.caller comes may.room
    (journal ∙ ap (λ answer. old.journal.items ++ entry_by (contents_of old) stamp (kill_event answer number kind) ∷ []) (sym on)) capacity (rw (phase_is, doomed_is) keeps) (AreCounts-ready old ready)
