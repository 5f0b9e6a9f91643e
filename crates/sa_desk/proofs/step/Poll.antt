-- What a poll leaves.
use Rattle.std.proofs.Common.{◌≡◌, ◌≢◌, ℕ, ◌+◌, ◌-◌, ◌<◌, Bool, List, [], ◌∷◌, ◌++◌, Some, None, slice_index, slice_set, map, inl, inr, refl, subst, ap, ◌∙◌, vec_capacity, arith}
use Rattle.std.proofs.lemmas.Bool.Decides.{eqb_tells}
use Rattle.std.proofs.lemmas.List.{length-set}
use Rattle.std.proofs.lemmas.List.Elements.{All-set}
use Rattle.sa_desk.specs.declared.desk.Desk.TheInside.{Inside}
use Rattle.sa_desk.specs.declared.entry.Event.TheVariants.{Taken, Spent}
use Rattle.sa_desk.specs.declared.phase.Phase as held
use Rattle.sa_desk.specs.declared.request.Request.{Request}
use Rattle.sa_desk.specs.declared.request.Reply.{Reply}
use Rattle.sa_desk.specs.declared.stamp.Stamp.{Stamp}
use Rattle.sa_desk.specs.State.{Phase, idle, unplanned, planned, serving, closed, queue_of, IsSettled}
use Rattle.sa_desk.specs.Comes.{Comes, IsQueued, IsServed}
use Rattle.sa_desk.specs.After.{without, untaken, taken_out}
use Rattle.sa_desk.specs.Contents.{Contents, state, phase, IsCaller, HasRoom, entry_by}
use Rattle.sa_desk.specs.declared.answer.Polled.TheVariants as answer
use Rattle.sa_desk.specs.inner.Desk.{contents_of, IsReady}
use Rattle.sa_desk.specs.call.Poll.{reply_to, poll_answer, poll_events, polled, poll_entries}
use Rattle.sa_desk.proofs.Keeps.{Keeps, FieldsKeep-ready, AreCounts-ready, IsReady-push}

-- An answer that is there may be taken where nobody is half served.
pub taken-comes : (desk : Contents) (stamp : Stamp) (now : Phase) (doomed : Bool) (replies : List Reply) (number : ℕ) → IsSettled now → IsServed stamp.actor number replies
    → Comes desk.terms (record { phase = now; doomed = doomed; replies = replies }) (entry_by desk stamp (Taken number))
taken-comes desk stamp idle doomed replies number settled served = served
taken-comes desk stamp (unplanned statement) doomed replies number settled served = served
taken-comes desk stamp (planned statement execution) doomed replies number settled served = served
taken-comes desk stamp (serving statement execution steps turn) doomed replies number settled served = absurd settled
taken-comes desk stamp closed doomed replies number settled served = served

-- It is then gone.
pub taken-ready : (old new : Inside) (stamp : Stamp) (number : ℕ) → IsReady old → IsCaller (contents_of old) stamp
    → Comes (contents_of old).terms (state (contents_of old)) (entry_by (contents_of old) stamp (Taken number)) → HasRoom (contents_of old) stamp.actor (entry_by (contents_of old) stamp (Taken number) ∷ [])
    → new.journal.items ≡ old.journal.items ++ entry_by (contents_of old) stamp (Taken number) ∷ [] → vec_capacity new.journal ≡ vec_capacity old.journal
    → new.replies.items ≡ untaken stamp.actor old.replies.items
    → let fields : Inside = record old { journal = new.journal; replies = new.replies } in IsReady fields
taken-ready old new stamp number ready caller comes room journal capacity replies =
    let fields : Inside = record old { journal = new.journal; replies = new.replies } in
    let kept = FieldsKeep-ready old ready in
    IsReady-push old fields stamp (Taken number) ready caller comes room journal capacity
    (record { settled = kept.settled; lawful = kept.lawful; phase_is = kept.phase_is; doomed_is = kept.doomed_is; queue_is = kept.queue_is; replies_is = replies ∙ ap (untaken stamp.actor) kept.replies_is })
    (AreCounts-ready old ready)

-- A poll without an answer is counted.
pub counted-ready : (old new : Inside) (session count : ℕ) → IsReady old → count < old.turns → new.polls.items ≡ slice_set old.polls.items session count
    → let fields : Inside = record old { polls = new.polls } in IsReady fields
counted-ready old new session count ready below polls =
    record {
      sound = record {
        quantum = ready.sound.quantum;
        sessions = ready.sound.sessions;
        few = ready.sound.few;
        run = ready.sound.run;
        entries = ready.sound.entries;
        lawful = ready.sound.lawful;
        charges = ready.sound.charges;
        polls = rw polls (length-set old.polls.items session count ∙ ready.sound.polls);
        unspent = rw polls (All-set (λ count. count < old.turns) old.polls.items session count below ready.sound.unspent);
        waits = ready.sound.waits;
        patient = ready.sound.patient;
      };
      phase_is = ready.phase_is;
      doomed = ready.doomed;
      queue = ready.queue;
      replies = ready.replies;
      room = ready.room;
    }

-- Nobody waits in an empty queue.
pub none-queued : {P : Type 0} (actor number : ℕ) → IsQueued actor number [] → P
none-queued actor number queued = absurd (omega (arith, queued.2))

-- Only where a plan is on does a request wait, and its last poll takes it out.
pub spent-comes : (desk : Contents) (stamp : Stamp) (now : Phase) (doomed : Bool) (replies : List Reply) (number : ℕ) → IsSettled now → IsQueued stamp.actor number (queue_of now)
    → Comes desk.terms (record { phase = now; doomed = doomed; replies = replies }) (entry_by desk stamp (Spent number desk.terms.turns))
spent-comes desk stamp idle doomed replies number settled queued = none-queued stamp.actor number queued
spent-comes desk stamp (unplanned statement) doomed replies number settled queued = none-queued stamp.actor number queued
spent-comes desk stamp (planned statement execution) doomed replies number settled queued = (queued, refl)
spent-comes desk stamp (serving statement execution steps turn) doomed replies number settled queued = absurd settled
spent-comes desk stamp closed doomed replies number settled queued = none-queued stamp.actor number queued

-- Whoever is left waits as before.
without-some : (actor : ℕ) (queue : List Request) → without actor queue ≢ [] → queue ≢ []
without-some actor queue some none = some (rw none refl)

-- The fields keep that the actor's request is taken out.
pub out-keeps : (quantum actor : ℕ) (now : Phase) (doomed : Bool) (replies : List Reply) (number published : ℕ) (phase : held.Phase) (held_doomed : Bool) (queue : List Request) (held_replies : List Reply)
    → IsQueued actor number (queue_of now)
    → Keeps quantum phase held_doomed published queue held_replies (record { phase = now; doomed = doomed; replies = replies })
    → Keeps quantum phase held_doomed published (without actor queue) held_replies (record { phase = taken_out now actor; doomed = doomed; replies = replies })
out-keeps quantum actor idle doomed replies number published phase held_doomed queue held_replies queued keeps = none-queued actor number queued
out-keeps quantum actor (unplanned statement) doomed replies number published phase held_doomed queue held_replies queued keeps = none-queued actor number queued
out-keeps quantum actor (planned statement execution) doomed replies number published phase held_doomed queue held_replies queued keeps =
    record {
      settled = keeps.settled;
      lawful = record {
        whole_turns = keeps.lawful.whole_turns;
        unfinished = keeps.lawful.unfinished;
        rising = keeps.lawful.rising;
        fixed = λ some. keeps.lawful.fixed (without-some actor execution.queue some);
      };
      phase_is = keeps.phase_is;
      doomed_is = keeps.doomed_is;
      queue_is = ap (without actor) keeps.queue_is;
      replies_is = keeps.replies_is;
    }
out-keeps quantum actor (serving statement execution steps turn) doomed replies number published phase held_doomed queue held_replies queued keeps = absurd keeps.settled
out-keeps quantum actor closed doomed replies number published phase held_doomed queue held_replies queued keeps = none-queued actor number queued

-- The desk is ready again.
pub spent-ready : (old new : Inside) (stamp : Stamp) (number : ℕ) → IsReady old → IsCaller (contents_of old) stamp
    → IsQueued stamp.actor number (queue_of (phase (contents_of old))) → HasRoom (contents_of old) stamp.actor (entry_by (contents_of old) stamp (Spent number old.turns) ∷ [])
    → new.journal.items ≡ old.journal.items ++ entry_by (contents_of old) stamp (Spent number old.turns) ∷ [] → vec_capacity new.journal ≡ vec_capacity old.journal
    → new.queue.items ≡ without stamp.actor old.queue.items
    → let fields : Inside = record old { journal = new.journal; queue = new.queue } in IsReady fields
spent-ready old new stamp number ready caller queued room journal capacity queue =
    let now = state (contents_of old) in
    let fields : Inside = record old { journal = new.journal; queue = new.queue } in
    let comes = spent-comes (contents_of old) stamp now.phase now.doomed now.replies number ready.sound.run.settled queued in
    let keeps = out-keeps old.quantum stamp.actor now.phase now.doomed now.replies number old.published old.phase old.doomed old.queue.items old.replies.items queued (FieldsKeep-ready old ready) in
    IsReady-push old fields stamp (Spent number old.turns) ready caller comes room journal capacity (rw queue keeps) (AreCounts-ready old ready)

-- What a poll answers, and the entry that it makes.
pub polled-taken : (desk : Contents) (stamp : Stamp) (number : ℕ) (reply : Reply) → reply_to stamp.actor (state desk).replies ≡ Some reply
    → HasRoom desk stamp.actor (poll_entries desk stamp number) → HasRoom desk stamp.actor (entry_by desk stamp (Taken number) ∷ [])
polled-taken desk stamp number reply found room =
    let entries : poll_entries desk stamp number ≡ entry_by desk stamp (Taken number) ∷ [] = rw found refl in
    subst (HasRoom desk stamp.actor) entries room

-- The last poll of the budget is spent, and one before it isn't.
last_poll : (polls turns : ℕ) → polls + 1 ≡ turns → poll_answer None polls turns ≡ answer.Spent turns
last_poll polls turns last = elim (eqb_tells (polls + 1) turns) [ inl same ↦ rw same.0 refl | inr apart ↦ absurd (apart.1 last) ]

early_poll : (polls turns : ℕ) → polls + 1 < turns → poll_answer None polls turns ≡ answer.NotYet
early_poll polls turns early = elim (eqb_tells (polls + 1) turns) [ inl same ↦ absurd (omega (arith, same.1)) | inr apart ↦ rw apart.0 refl ]

pub polled-spent : (desk : Contents) (stamp : Stamp) (number : ℕ) → reply_to stamp.actor (state desk).replies ≡ None → slice_index desk.polls (stamp.actor - 1) + 1 ≡ desk.terms.turns
    → polled desk stamp number ≡ answer.Spent desk.terms.turns
polled-spent desk stamp number none last =
    ap (λ reply. poll_answer reply (slice_index desk.polls (stamp.actor - 1)) desk.terms.turns) none ∙ last_poll (slice_index desk.polls (stamp.actor - 1)) desk.terms.turns last

pub spent-entries : (desk : Contents) (stamp : Stamp) (number : ℕ) → polled desk stamp number ≡ answer.Spent desk.terms.turns → poll_entries desk stamp number ≡ entry_by desk stamp (Spent number desk.terms.turns) ∷ []
spent-entries desk stamp number spent = ap (λ answer. map (entry_by desk stamp) (poll_events answer number)) spent

pub polled-not_yet : (desk : Contents) (stamp : Stamp) (number : ℕ) → reply_to stamp.actor (state desk).replies ≡ None → slice_index desk.polls (stamp.actor - 1) + 1 < desk.terms.turns
    → polled desk stamp number ≡ answer.NotYet
polled-not_yet desk stamp number none early =
    ap (λ reply. poll_answer reply (slice_index desk.polls (stamp.actor - 1)) desk.terms.turns) none ∙ early_poll (slice_index desk.polls (stamp.actor - 1)) desk.terms.turns early
