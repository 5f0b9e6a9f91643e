-- What the begin of a statement leaves.
use Rattle.std.proofs.Common.{◌≡◌, ℕ, ◌↔◌, Bool, true, false, List, [], ◌∷◌, ◌++◌, Option, Some, None, IsSome, is_some, inl, refl, sym, ◌∙◌, vec_capacity, arith}
use Rattle.sa_desk.specs.declared.desk.Desk.TheInside.{Inside}
use Rattle.sa_desk.specs.declared.entry.Event.{Event}
use Rattle.sa_desk.specs.declared.entry.Event.TheVariants.{Gone}
use Rattle.sa_desk.specs.declared.stamp.Stamp.{Stamp}
use Rattle.sa_plan.specs.declared.plan.Plan.{Plan}
use Rattle.sa_meaning.specs.Data.{RunData}
use Rattle.sa_desk.specs.declared.phase.Phase as held
use Rattle.sa_desk.specs.declared.request.Request.{Request}
use Rattle.sa_desk.specs.declared.request.Reply.{Reply}
use Rattle.sa_desk.specs.State.{Statement, idle}
use Rattle.sa_desk.specs.Comes.{Comes}
use Rattle.sa_desk.specs.After.{begun, after}
use Rattle.sa_desk.specs.Contents.{state, phase, IsCaller, IsOwner, HasRoom, entry_by}
use Rattle.sa_desk.specs.inner.Desk.{contents_of, kept_of, IsReady}
use Rattle.sa_desk.specs.inner.Parts.{begun_with}
use Rattle.sa_desk.proofs.Keeps.{Keeps, FieldsKeep, FieldsKeep-ready, AreCounts-ready, IsReady-push, at_idle, when_idle}

-- The fields keep the phase of a statement that has just begun.
pub begin-keeps : (quantum : ℕ) (statement : Statement) (plan : Option Plan) (tables : Option RunData) (doomed : Bool) (replies : List Reply) (phase : held.Phase) (held_doomed : Bool) (published : ℕ) (queue : List Request) (held_replies : List Reply)
    → (IsSome plan ↔ IsSome tables)
    → Keeps quantum phase held_doomed published queue held_replies (record { phase = idle; doomed = doomed; replies = replies })
    → Keeps quantum (begun_with (is_some plan) (kept_of statement)) held_doomed published queue held_replies (record { phase = begun statement plan tables; doomed = doomed; replies = replies })
begin-keeps quantum statement None None doomed replies phase held_doomed published queue held_replies given keeps =
    record { settled = tt; lawful = keeps.lawful; phase_is = refl; doomed_is = keeps.doomed_is; queue_is = keeps.queue_is; replies_is = keeps.replies_is }
begin-keeps quantum statement (Some plan) (Some tables) doomed replies phase held_doomed published queue held_replies given keeps =
    record {
      settled = refl;
      lawful = record { whole_turns = (0, rw keeps.lawful (omega arith)); unfinished = inl keeps.lawful; rising = omega arith; fixed = λ some. keeps.lawful };
      phase_is = refl;
      doomed_is = keeps.doomed_is;
      queue_is = keeps.queue_is;
      replies_is = keeps.replies_is;
    }
begin-keeps quantum statement None (Some tables) doomed replies phase held_doomed published queue held_replies given keeps = let none = given.1 refl in cc
begin-keeps quantum statement (Some plan) None doomed replies phase held_doomed published queue held_replies given keeps = let none = given.0 refl in cc

-- The desk is ready again after a Gone.
pub gone-ready : (old new : Inside) (stamp : Stamp) (number : ℕ) → IsReady old
    → IsCaller (contents_of old) stamp → IsOwner (contents_of old) stamp → phase (contents_of old) ≡ idle → old.doomed ≡ true
    → HasRoom (contents_of old) stamp.actor (entry_by (contents_of old) stamp (Gone number) ∷ [])
    → new.journal.items ≡ old.journal.items ++ entry_by (contents_of old) stamp (Gone number) ∷ [] → vec_capacity new.journal ≡ vec_capacity old.journal
    → let fields : Inside = record old { journal = new.journal } in IsReady fields
gone-ready old new stamp number ready caller own free doomed room journal capacity =
    let now = state (contents_of old) in
    let fields : Inside = record old { journal = new.journal } in
    let stands : now.doomed ≡ true = sym ready.doomed ∙ doomed in
    let comes = at_idle (λ state. Comes (contents_of old).terms state (entry_by (contents_of old) stamp (Gone number))) now free (own, stands) in
    IsReady-push old fields stamp (Gone number) ready caller comes room journal capacity (FieldsKeep-ready old ready) (AreCounts-ready old ready)

-- The desk is ready again after a Begin.
pub begin-ready : (old new : Inside) (stamp : Stamp) (event : Event) (number : ℕ) (plan : Option Plan) (tables : Option RunData) → IsReady old
    → IsCaller (contents_of old) stamp → phase (contents_of old) ≡ idle → (IsSome plan ↔ IsSome tables)
    → Comes (contents_of old).terms (state (contents_of old)) (entry_by (contents_of old) stamp event)
    → HasRoom (contents_of old) stamp.actor (entry_by (contents_of old) stamp event ∷ [])
    → new.journal.items ≡ old.journal.items ++ entry_by (contents_of old) stamp event ∷ [] → vec_capacity new.journal ≡ vec_capacity old.journal
    → new.phase ≡ begun_with (is_some plan) (record { statement = number; begin = stamp.seq; killed = false })
    → after (contents_of old).terms (state (contents_of old)) (entry_by (contents_of old) stamp event)
    ≡ record (state (contents_of old)) { phase = begun (record { number = number; begin = stamp.seq; turn = stamp.turn; killed = false }) plan tables }
    → let fields : Inside = record old { journal = new.journal; phase = new.phase } in IsReady fields
begin-ready old new stamp event number plan tables ready caller free given comes room journal capacity phase_is leaves =
    let now = state (contents_of old) in
    let fields : Inside = record old { journal = new.journal; phase = new.phase } in
    let statement : Statement = record { number = number; begin = stamp.seq; turn = stamp.turn; killed = false } in
    let keeps = when_idle (FieldsKeep old) now free (FieldsKeep-ready old ready) in
    IsReady-push old fields stamp event ready caller comes room journal capacity
    (rw (leaves, phase_is) (begin-keeps old.quantum statement plan tables now.doomed now.replies old.phase old.doomed old.published old.queue.items old.replies.items given keeps))
    (AreCounts-ready old ready)
