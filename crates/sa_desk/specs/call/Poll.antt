-- An asker looks whether its request was answered.
use Rattle.std.specs.Prelude.{ℕ, ◌+◌, ◌-◌, ◌==◌, ◌⊎◌, List, [], ◌∷◌, slice_index, slice_set, Option, Some, None, map, find, if◌then◌else◌}
use Rattle.sa_desk.specs.declared.entry.Entry.{Entry}
use Rattle.sa_desk.specs.declared.entry.Event.{Event}
use Rattle.sa_desk.specs.declared.entry.Event.TheVariants as event
use Rattle.sa_desk.specs.declared.answer.Polled.{Polled}
use Rattle.sa_desk.specs.declared.answer.Polled.TheVariants.{Taken, Spent, NotYet}
use Rattle.sa_desk.specs.declared.request.Reply.{Reply}
use Rattle.sa_desk.specs.declared.stamp.Stamp.{Stamp}
use Rattle.sa_desk.specs.State.{queue_of}
use Rattle.sa_desk.specs.Comes.{IsQueued, IsServed}
use Rattle.sa_desk.specs.Contents.{Contents, state, phase, IsCaller, HasRoom, entry_by, with_entries}

-- the answer to the actor's request, if it was served
abbrev pub reply_to : ℕ → List Reply → Option Reply
reply_to actor replies = find (λ reply. reply.asker == actor) replies

-- An answer is taken. Without one the poll counts, and the last one of the budget takes the request
-- out.
abbrev pub poll_answer : Option Reply → (polls turns : ℕ) → Polled
poll_answer (Some reply) polls turns = Taken reply.report reply.begin
poll_answer None polls turns = if polls + 1 == turns then Spent turns else NotYet

abbrev pub poll_events : Polled → ℕ → List Event
poll_events (Taken report begin) number = event.Taken number ∷ []
poll_events (Spent turns) number = event.Spent number turns ∷ []
poll_events NotYet number = []

-- An unanswered poll that isn't the last is counted.
abbrev pub count_poll : Polled → (session : ℕ) → List ℕ → List ℕ
count_poll NotYet session polls = slice_set polls session (slice_index polls session + 1)
count_poll answer session polls = polls

module _ (desk : Contents) (stamp : Stamp) (number : ℕ) where
  abbrev pub polled : Polled
  polled = poll_answer (reply_to stamp.actor (state desk).replies)
      (slice_index desk.polls (stamp.actor - 1)) desk.terms.turns

  abbrev pub poll_entries : List Entry
  poll_entries = map (entry_by desk stamp) (poll_events polled number)

  abbrev pub after_poll : Contents
  after_poll = record
      (with_entries poll_entries desk) { polls = count_poll polled (stamp.actor - 1) desk.polls }

-- The caller's request of this number is here, waiting or served.
pub record MayPoll (desk : Contents) (stamp : Stamp) (number : ℕ) : Type 0 where
  pub caller : IsCaller desk stamp
  pub there : IsQueued stamp.actor number (queue_of (phase desk))
      ⊎ IsServed stamp.actor number (state desk).replies
  pub room : HasRoom desk stamp.actor (poll_entries desk stamp number)
