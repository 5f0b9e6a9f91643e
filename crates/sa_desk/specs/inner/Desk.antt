-- What a desk's fields say of its contents.
use Rattle.std.specs.Prelude.{◌≡◌, ◌≤◌, sum}
use Rattle.std.specs.Vec.{vec_capacity}
use Rattle.sa_desk.specs.declared.desk.Desk.TheInside.{Inside}
use Rattle.sa_desk.specs.declared.phase.Phase as held
use Rattle.sa_desk.specs.declared.phase.Phase.TheVariants.{Idle, Unplanned, Planned, Closed}
use Rattle.sa_desk.specs.declared.phase.On.{On}
use Rattle.sa_desk.specs.State.{Statement, Phase, idle, unplanned, planned, serving, closed, queue_of}
use Rattle.sa_desk.specs.Contents.{Contents, IsSound, state, phase}

-- the contents that the fields stand for
abbrev pub contents_of : Inside → Contents
contents_of desk = record {
  terms = record { desk = desk.number; quantum = desk.quantum; turns = desk.turns };
  shares = desk.shares.items;
  journal = desk.journal.items;
  published = desk.published;
  polls = desk.polls.items;
  waits = desk.waits.items;
}

-- what a desk keeps of a statement
abbrev pub kept_of : Statement → On
kept_of statement =
    record { statement = statement.number; begin = statement.begin; killed = statement.killed }

-- what a desk keeps of a phase
abbrev pub held_phase : Phase → held.Phase
held_phase idle = Idle
held_phase (unplanned statement) = Unplanned (kept_of statement)
held_phase (planned statement execution) = Planned (kept_of statement)
held_phase (serving statement execution steps turn) = Planned (kept_of statement)
held_phase closed = Closed

-- The contents are sound, the other fields keep what the journal leaves, and the journal has room
-- for all shares.
pub record IsReady (desk : Inside) : Type 0 where
  pub sound : IsSound (contents_of desk)
  pub phase_is : desk.phase ≡ held_phase (phase (contents_of desk))
  pub doomed : desk.doomed ≡ (state (contents_of desk)).doomed
  pub queue : desk.queue.items ≡ queue_of (phase (contents_of desk))
  pub replies : desk.replies.items ≡ (state (contents_of desk)).replies
  pub room : sum desk.shares.items ≤ vec_capacity desk.journal
