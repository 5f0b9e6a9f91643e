-- What a look leaves.
use Rattle.std.proofs.Common.{◌≡◌, ℕ, ◌+◌, ◌-◌, ◌<◌, ◌==◌, ◌&&◌, Bool, true, false, nat_lt, List, [], ◌∷◌, ◌++◌, length, map, slice_index_or, slice_set, Option, Some, None, All, if◌then◌else◌, inl, inr, refl, ◌∙◌, vec_capacity, arith}
use Rattle.std.proofs.lemmas.Bool.Decides.{eqb_tells}
use Rattle.std.proofs.lemmas.List.{length-set}
use Rattle.std.proofs.lemmas.List.Elements.{All-nil, All-cons, All-set, All-get_or}
use Rattle.sa_desk.specs.declared.desk.Desk.TheInside.{Inside}
use Rattle.sa_desk.specs.declared.answer.Looked.{Looked}
use Rattle.sa_desk.specs.declared.answer.Looked.TheVariants.{Reached, Spent, NotYet}
use Rattle.sa_desk.specs.declared.entry.Entry.{Entry}
use Rattle.sa_desk.specs.declared.entry.Event.{Event}
use Rattle.sa_desk.specs.declared.phase.Phase as held
use Rattle.sa_desk.specs.declared.request.Request.{Request}
use Rattle.sa_desk.specs.declared.request.Reply.{Reply}
use Rattle.sa_desk.specs.declared.request.OpenWait.{OpenWait}
use Rattle.sa_desk.specs.declared.stamp.Stamp.{Stamp}
use Rattle.sa_desk.specs.State.{Phase, idle, unplanned, planned, serving, closed, State, IsSettled, IsLawful}
use Rattle.sa_desk.specs.Runs.{Runs, state_after}
use Rattle.sa_desk.specs.Contents.{Contents, state, phase, IsCaller, IsPatient, IsSound, entry_by}
use Rattle.sa_desk.specs.inner.Desk.{contents_of, held_phase, IsReady}
use Rattle.sa_desk.specs.inner.Parts.{answer_to_look}
use Rattle.sa_desk.specs.call.Look.{looks_of, look_answer, look_events, wait_after, looks_before, looked, look_entries, MayLook}
use Rattle.sa_desk.proofs.Grown.{IsBy, IsJournal, IsJournal-append}
use Rattle.sa_desk.proofs.Keeps.{Keeps, FieldsKeep-ready, IsReady-next}

-- A look at a session that isn't done finds its steps reached, or its turns over, or goes on.
open_cases : (P : Looked → Type 0) (published turns : ℕ) (below last : Bool) → P (Reached published) → P (Spent published turns) → P NotYet
    → P (if below then (if last then Spent published turns else NotYet) else Reached published)
open_cases P published turns true true reached spent not_yet = spent
open_cases P published turns true false reached spent not_yet = not_yet
open_cases P published turns false last reached spent not_yet = reached

-- the caller's entries of these events
abbrev made : Contents → Stamp → List Event → List Entry
made desk stamp events = map (entry_by desk stamp) events

made-by : (desk : Contents) (stamp : Stamp) (events : List Event) → All (IsBy desk stamp) (made desk stamp events)
made-by desk stamp [] = All-nil (IsBy desk stamp)
made-by desk stamp (event ∷ rest) =
    All-cons (IsBy desk stamp) (entry_by desk stamp event) (made desk stamp rest) (record { desk_is = refl; actor_is = refl }) (made-by desk stamp rest)

module _ (desk : Contents) (stamp : Stamp) (number at published looks turns : ℕ) (doomed : Bool) (replies : List Reply) where
  abbrev there : Phase → State
  there now = record { phase = now; doomed = doomed; replies = replies }

  -- The entry of an answer may come.
  abbrev RunsAs : Phase → Looked → Type 0
  RunsAs now looked = Runs desk.terms (there now) (made desk stamp (look_events looked number))

  pub look-runs : (now : Phase) → IsSettled now → IsLawful desk.terms.quantum now published → RunsAs now (look_answer now at published looks turns)
  look-runs idle settled lawful = open_cases (RunsAs idle) published turns (nat_lt published at) (looks + 1 == turns) (lawful, tt) (lawful, tt) tt
  look-runs (unplanned statement) settled lawful = open_cases (RunsAs (unplanned statement)) published turns (nat_lt published at) (looks + 1 == turns) (lawful, tt) (lawful, tt) tt
  look-runs (planned statement execution) settled lawful =
      open_cases (RunsAs (planned statement execution)) published turns (nat_lt published at) (looks + 1 == turns) (lawful, tt) (lawful, tt) tt
  look-runs (serving statement execution steps turn) settled lawful = absurd settled
  look-runs closed settled lawful = (tt, tt)

  module _ (phase : held.Phase) (held_doomed : Bool) (queue : List Request) (held_replies : List Reply) where
    abbrev Kept : State → Type 0
    Kept state = Keeps desk.terms.quantum phase held_doomed published queue held_replies state

    -- The fields keep what it leaves.
    abbrev KeepsAs : Phase → Looked → Type 0
    KeepsAs now looked = Kept (state_after desk.terms (there now) (made desk stamp (look_events looked number)))

    pub look-keeps : (now : Phase) → Kept (there now) → KeepsAs now (look_answer now at published looks turns)
    look-keeps idle keeps = open_cases (KeepsAs idle) published turns (nat_lt published at) (looks + 1 == turns) keeps keeps keeps
    look-keeps (unplanned statement) keeps = open_cases (KeepsAs (unplanned statement)) published turns (nat_lt published at) (looks + 1 == turns) keeps keeps keeps
    look-keeps (planned statement execution) keeps =
        let shown : Kept (there (planned statement (record execution { shown = published }))) =
        record {
          settled = keeps.settled;
          lawful = record { whole_turns = keeps.lawful.whole_turns; unfinished = keeps.lawful.unfinished; rising = omega arith; fixed = λ some. refl };
          phase_is = keeps.phase_is;
          doomed_is = keeps.doomed_is;
          queue_is = keeps.queue_is;
          replies_is = keeps.replies_is;
        } in
        open_cases (KeepsAs (planned statement execution)) published turns (nat_lt published at) (looks + 1 == turns) shown shown keeps
    look-keeps (serving statement execution steps turn) keeps = absurd keeps.settled
    look-keeps closed keeps = keeps

-- One more look than so few is still less, or just as many.
less_one : (looks turns : ℕ) → looks < turns → (looks + 1 ≡ turns → ⊥) → looks + 1 < turns
less_one looks turns less apart = omega (arith, less, apart)

-- A wait that goes on has looked less often than it lasts.
patient_open : (number at published looks turns : ℕ) (below : Bool) → looks < turns
    → IsPatient turns (wait_after (if below then (if looks + 1 == turns then Spent published turns else NotYet) else Reached published) number at looks)
patient_open number at published looks turns false less = tt
patient_open number at published looks turns true less =
    elim (eqb_tells (looks + 1) turns) [
      | inl same ↦ rw same.0 tt
      | inr apart ↦ rw apart.0 (less_one looks turns less apart.1)
    ]

wait-patient : (number at published looks turns : ℕ) (now : Phase) → looks < turns → IsPatient turns (wait_after (look_answer now at published looks turns) number at looks)
wait-patient number at published looks turns idle less = patient_open number at published looks turns (nat_lt published at) less
wait-patient number at published looks turns (unplanned statement) less = patient_open number at published looks turns (nat_lt published at) less
wait-patient number at published looks turns (planned statement execution) less = patient_open number at published looks turns (nat_lt published at) less
wait-patient number at published looks turns (serving statement execution steps turn) less = patient_open number at published looks turns (nat_lt published at) less
wait-patient number at published looks turns closed less = tt

less_if : (same : Bool) (looks turns : ℕ) → 0 < turns → looks < turns → (if same then looks else 0) < turns
less_if true looks turns some less = less
less_if false looks turns some less = some

looks-less-of : (wait : Option OpenWait) (number at turns : ℕ) → 0 < turns → IsPatient turns wait → looks_of wait number at < turns
looks-less-of None number at turns some patient = some
looks-less-of (Some wait) number at turns some patient = less_if (wait.statement == number && wait.at == at) wait.looks turns some patient

-- So the journal is one that a desk can hold.
pub look-journal : (desk : Inside) (stamp : Stamp) (number at budget : ℕ) → IsReady desk → MayLook (contents_of desk) stamp number at budget
    → IsJournal (contents_of desk).terms desk.shares.items (desk.journal.items ++ look_entries (contents_of desk) stamp number at)
look-journal desk stamp number at budget ready may =
    let now = state (contents_of desk) in
    let runs = look-runs (contents_of desk) stamp number at desk.published (looks_before (contents_of desk) stamp number at) desk.turns now.doomed now.replies now.phase ready.sound.run.settled ready.sound.lawful in
    IsJournal-append (contents_of desk) stamp (look_entries (contents_of desk) stamp number at) ready.sound may.caller (made-by (contents_of desk) stamp (look_events (looked (contents_of desk) stamp number at) number)) runs may.room

-- An open wait has looks left, and so has one that begins.
pub looks-less : (desk : Contents) (stamp : Stamp) (number at : ℕ) → IsSound desk → IsCaller desk stamp → looks_before desk stamp number at < desk.terms.turns
looks-less desk stamp number at sound caller =
    let polls : stamp.actor - 1 < length desk.polls = omega (arith, caller.least, caller.most, sound.polls) in
    let some = All-get_or (λ count. count < desk.terms.turns) desk.polls (stamp.actor - 1) 0 polls sound.unspent in
    let waits : stamp.actor - 1 < length desk.waits = omega (arith, caller.least, caller.most, sound.waits) in
    looks-less-of (slice_index_or desk.waits (stamp.actor - 1) None) number at desk.terms.turns (omega (arith, some)) (All-get_or (IsPatient desk.terms.turns) desk.waits (stamp.actor - 1) None waits sound.patient)

-- The desk is ready again, with these entries or without any.
pub look-ready : (old new : Inside) (stamp : Stamp) (number at budget : ℕ) → IsReady old → MayLook (contents_of old) stamp number at budget
    → new.journal.items ≡ old.journal.items ++ look_entries (contents_of old) stamp number at → vec_capacity new.journal ≡ vec_capacity old.journal
    → new.waits.items ≡ slice_set old.waits.items (stamp.actor - 1) (wait_after (looked (contents_of old) stamp number at) number at (looks_before (contents_of old) stamp number at))
    → let fields : Inside = record old { journal = new.journal; waits = new.waits } in IsReady fields
look-ready old new stamp number at budget ready may journal capacity waits =
    let desk = contents_of old in
    let now = state desk in
    let looks = looks_before desk stamp number at in
    let fields : Inside = record old { journal = new.journal; waits = new.waits } in
    let keeps = look-keeps desk stamp number at old.published looks old.turns now.doomed now.replies old.phase old.doomed old.queue.items old.replies.items now.phase (FieldsKeep-ready old ready) in
    let patient = wait-patient number at old.published looks old.turns now.phase (looks-less desk stamp number at ready.sound may.caller) in
    IsReady-next old fields (look_entries desk stamp number at) ready journal capacity (look-journal old stamp number at budget ready may) keeps
    (record {
      polls_are = ready.sound.polls;
      unspent = ready.sound.unspent;
      waits_are = rw waits (length-set old.waits.items (stamp.actor - 1) (wait_after (looked desk stamp number at) number at looks) ∙ ready.sound.waits);
      patient = rw waits (All-set (IsPatient old.turns) old.waits.items (stamp.actor - 1) (wait_after (looked desk stamp number at) number at looks) patient ready.sound.patient);
    })

-- What the desk keeps of a phase tells how a look is answered.
pub answer_to_look-held_phase : (now : Phase) (at published looks turns : ℕ) → answer_to_look (held_phase now) at published looks turns ≡ look_answer now at published looks turns
answer_to_look-held_phase idle at published looks turns = refl
answer_to_look-held_phase (unplanned statement) at published looks turns = refl
answer_to_look-held_phase (planned statement execution) at published looks turns = refl
answer_to_look-held_phase (serving statement execution steps turn) at published looks turns = refl
answer_to_look-held_phase closed at published looks turns = refl

-- so the desk answers as it has to
pub answer_to_look-ready : (desk : Inside) (stamp : Stamp) (number at budget looks : ℕ) → IsReady desk → MayLook (contents_of desk) stamp number at budget → looks ≡ looks_before (contents_of desk) stamp number at
    → answer_to_look desk.phase at desk.published looks budget ≡ looked (contents_of desk) stamp number at
answer_to_look-ready desk stamp number at budget looks ready may same =
    rw (same, may.budget_is, ready.phase_is) (answer_to_look-held_phase (phase (contents_of desk)) at desk.published (looks_before (contents_of desk) stamp number at) desk.turns)
