-- Which requests a call leaves unanswered, and which answers it takes: those that it ends itself.
use Rattle.std.proofs.Common.{◌≡◌, ℕ, List}
use Rattle.sa_desk.specs.declared.entry.Entry.{Entry}
use Rattle.sa_desk.specs.declared.entry.Event.{Event}
use Rattle.sa_desk.specs.declared.entry.Event.TheVariants as event
use Rattle.sa_desk.specs.declared.stamp.Stamp.{Stamp}
use Rattle.sa_desk.specs.State.{State, Phase, idle, unplanned, planned, serving, closed, queue_of}
use Rattle.sa_desk.specs.Comes.{ComesIn, IsQueued, IsServed}
use Rattle.sa_desk.specs.Runs.{Runs}
use Rattle.sa_desk.specs.Contents.{Contents, phase, state}
use Rattle.sa_desk.specs.program.Turn.{made}
use Rattle.sa_worker.specs.View.{View, Stage, call_at}
use Rattle.sa_step.specs.Schedule.{AreEach, IsUnseen, IsLeft, LeavesUnseen, IsFirst, IsPrompt, TakesFirst}
use Rattle.sa_step.proofs.Ends.{MayEndRequest, EndsNoRequest, made_so}

-- What is spent or withdrawn was in the queue, and what is taken was served.
module _ (desk : Contents) (state : State) (entry : Entry) (number : ℕ) where
  spent_queued : (turns : ℕ) (found : Phase) → ComesIn desk.terms state entry found (event.Spent number turns) → IsQueued entry.actor number (queue_of found)
  spent_queued turns (planned statement execution) comes = comes.0
  spent_queued turns idle comes = absurd comes
  spent_queued turns (unplanned statement) comes = absurd comes
  spent_queued turns (serving statement execution steps turn) comes = absurd comes
  spent_queued turns closed comes = absurd comes

  withdrawn_queued : (found : Phase) → ComesIn desk.terms state entry found (event.Withdrawn number) → IsQueued entry.actor number (queue_of found)
  withdrawn_queued (planned statement execution) comes = comes
  withdrawn_queued idle comes = absurd comes
  withdrawn_queued (unplanned statement) comes = absurd comes
  withdrawn_queued (serving statement execution steps turn) comes = absurd comes
  withdrawn_queued closed comes = absurd comes

  taken_served : (found : Phase) → ComesIn desk.terms state entry found (event.Taken number) → IsServed entry.actor number state.replies
  taken_served (serving statement execution steps turn) comes = absurd comes
  taken_served idle comes = comes
  taken_served (unplanned statement) comes = comes
  taken_served (planned statement execution) comes = comes
  taken_served closed comes = comes

module _ (slot : (session turn : ℕ) → ℕ) (desk : Contents) (stamp : Stamp) where
  abbrev RunsOn : List Entry → Type 0
  RunsOn entries = Runs desk.terms (state desk) entries

  module _ (unseen : (entry : Entry) (number : ℕ) → entry.actor ≡ stamp.actor → entry.turn ≡ stamp.turn → IsQueued entry.actor number (queue_of (phase desk)) → IsUnseen slot desk.terms desk.journal entry number) where
    other_left : (before : List Entry) (entry : Entry) (event : Event) → EndsNoRequest event → IsLeft slot desk.terms before entry event
    other_left before entry (event.Spent number turns) none = absurd none
    other_left before entry (event.Withdrawn number) none = absurd none
    other_left before entry event none = tt

    ends_left : (entry : Entry) → entry.actor ≡ stamp.actor → entry.turn ≡ stamp.turn → (event : Event) → ComesIn desk.terms (state desk) entry (phase desk) event → IsLeft slot desk.terms desk.journal entry event
    ends_left entry actor turn (event.Spent number turns) comes = unseen entry number actor turn (spent_queued desk (state desk) entry number turns (phase desk) comes)
    ends_left entry actor turn (event.Withdrawn number) comes = unseen entry number actor turn (withdrawn_queued desk (state desk) entry number (phase desk) comes)
    ends_left entry actor turn event comes = tt

    pub made_left : (view : View) (stage : Stage) → RunsOn (made desk stamp view.number (call_at view stage)) → AreEach (LeavesUnseen slot desk.terms) desk.journal (made desk stamp view.number (call_at view stage))
    made_left view stage runs = made_so (IsLeft slot desk.terms) other_left desk stamp view stage (λ may entry actor turn comes. ends_left entry actor turn entry.event comes) runs

  other_prompt : (before : List Entry) (entry : Entry) (event : Event) → EndsNoRequest event → IsPrompt slot before entry event
  other_prompt before entry (event.Taken number) none = absurd none
  other_prompt before entry event none = tt

  module _ (first : (entry : Entry) (number : ℕ) → entry.actor ≡ stamp.actor → entry.turn ≡ stamp.turn → IsServed entry.actor number (state desk).replies → IsFirst slot desk.journal entry number) where
    ends_prompt : (entry : Entry) → entry.actor ≡ stamp.actor → entry.turn ≡ stamp.turn → (event : Event) → ComesIn desk.terms (state desk) entry (phase desk) event → IsPrompt slot desk.journal entry event
    ends_prompt entry actor turn (event.Taken number) comes = first entry number actor turn (taken_served desk (state desk) entry number (phase desk) comes)
    ends_prompt entry actor turn event comes = tt

  pub made_first : (view : View) (stage : Stage)
      → (MayEndRequest stage → (entry : Entry) (number : ℕ) → entry.actor ≡ stamp.actor → entry.turn ≡ stamp.turn → IsServed entry.actor number (state desk).replies → IsFirst slot desk.journal entry number)
      → RunsOn (made desk stamp view.number (call_at view stage)) → AreEach (TakesFirst slot) desk.journal (made desk stamp view.number (call_at view stage))
  made_first view stage first runs = made_so (IsPrompt slot) other_prompt desk stamp view stage (λ may entry actor turn comes. ends_prompt (first may) entry actor turn entry.event comes) runs
