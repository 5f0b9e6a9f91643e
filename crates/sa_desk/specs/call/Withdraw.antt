-- An asker takes its request back.
use Rattle.std.specs.Prelude.{ℕ, ◌⊎◌, List, [], ◌∷◌, Option, Some, None}
use Rattle.sa_desk.specs.declared.entry.Entry.{Entry}
use Rattle.sa_desk.specs.declared.entry.Event.{Event}
use Rattle.sa_desk.specs.declared.entry.Event.TheVariants as event
use Rattle.sa_desk.specs.declared.answer.Withdrawn.{Withdrawn}
use Rattle.sa_desk.specs.declared.answer.Withdrawn.TheVariants.{Taken, Removed}
use Rattle.sa_desk.specs.declared.request.Reply.{Reply}
use Rattle.sa_desk.specs.declared.stamp.Stamp.{Stamp}
use Rattle.sa_desk.specs.State.{queue_of}
use Rattle.sa_desk.specs.Comes.{IsQueued, IsServed}
use Rattle.sa_desk.specs.Contents.{Contents, state, phase, IsCaller, HasRoom, entry_by, with_entries}
use Rattle.sa_desk.specs.call.Poll.{reply_to}

-- An answer that is there is taken. Else the request is taken out of the queue.
abbrev pub withdraw_answer : Option Reply → Withdrawn
withdraw_answer (Some reply) = Taken
withdraw_answer None = Removed

abbrev pub withdraw_event : Withdrawn → ℕ → Event
withdraw_event Taken number = event.Taken number
withdraw_event Removed number = event.Withdrawn number

module _ (desk : Contents) (stamp : Stamp) (number : ℕ) where
  abbrev pub withdrawn : Withdrawn
  withdrawn = withdraw_answer (reply_to stamp.actor (state desk).replies)

  abbrev pub withdraw_entries : List Entry
  withdraw_entries = entry_by desk stamp (withdraw_event withdrawn number) ∷ []

  abbrev pub after_withdraw : Contents
  after_withdraw = with_entries withdraw_entries desk

-- The caller's request of this number is here, waiting or served.
pub record MayWithdraw (desk : Contents) (stamp : Stamp) (number : ℕ) : Type 0 where
  pub caller : IsCaller desk stamp
  pub there : IsQueued stamp.actor number (queue_of (phase desk))
      ⊎ IsServed stamp.actor number (state desk).replies
  pub room : HasRoom desk stamp.actor (withdraw_entries desk stamp number)
