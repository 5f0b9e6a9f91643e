-- A session asks for the plan or the counters of the statement that is on.
use Rattle.std.specs.Prelude.{◌≡◌, ℕ, ◌-◌, List, [], ◌∷◌, slice_set}
use Rattle.sa_ast.specs.declared.kind.AskKind.{AskKind}
use Rattle.sa_desk.specs.declared.entry.Entry.{Entry}
use Rattle.sa_desk.specs.declared.entry.Event.{Event}
use Rattle.sa_desk.specs.declared.entry.Event.TheVariants as event
use Rattle.sa_desk.specs.declared.entry.RefusedWhy.TheVariants as why
use Rattle.sa_desk.specs.declared.answer.Asked.{Asked}
use Rattle.sa_desk.specs.declared.answer.Asked.TheVariants.{Queued, NotExplainable, NoSuchThread}
use Rattle.sa_desk.specs.declared.stamp.Stamp.{Stamp}
use Rattle.sa_desk.specs.State.{Phase, idle, unplanned, planned, serving, closed, HasNone}
use Rattle.sa_desk.specs.Contents.{Contents, state, phase, IsCaller, HasRoom, entry_by, with_entries}

-- The request is queued where a plan is on, and refused elsewhere.
abbrev pub ask_answer : Phase → Asked
ask_answer idle = NotExplainable
ask_answer (unplanned statement) = NotExplainable
ask_answer (planned statement execution) = Queued
ask_answer (serving statement execution steps turn) = Queued
ask_answer closed = NoSuchThread

abbrev pub ask_event : Asked → ℕ → AskKind → ℕ → ℕ → Event
ask_event Queued number kind at budget = event.Queued number kind at budget
ask_event NotExplainable number kind at budget = event.Refused number why.NotExplainable
ask_event NoSuchThread number kind at budget = event.Refused number why.NoSuchThread

module _ (desk : Contents) (stamp : Stamp) (number : ℕ) (kind : AskKind) (budget : ℕ) where
  -- the one entry; a request is queued at the number that is published
  abbrev pub ask_entries : List Entry
  ask_entries = entry_by desk stamp
      (ask_event (ask_answer (phase desk)) number kind desk.published budget) ∷ []

  -- The caller's polls are counted from here on.
  abbrev pub after_ask : Contents
  after_ask =
      record (with_entries ask_entries desk) { polls = slice_set desk.polls (stamp.actor - 1) 0 }

-- The caller has no request here, and its budget is the desk's.
pub record MayAsk (desk : Contents) (stamp : Stamp) (number : ℕ) (kind : AskKind)
    (budget : ℕ) : Type 0 where
  pub caller : IsCaller desk stamp
  pub none : HasNone stamp.actor (phase desk) (state desk).replies
  pub budget_is : budget ≡ desk.terms.turns
  pub room : HasRoom desk stamp.actor (ask_entries desk stamp number kind budget)
