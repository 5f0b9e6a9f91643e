-- What whoever calls a number of desks knows of them.
use Rattle.std.specs.Prelude.{◌≡◌, ◌≢◌, ℕ, ◌+◌, ◌-◌, ◌≤◌, ◌==◌, Bool, true, List, [], ◌++◌, length, map, filter, Option, None, All, slice_index, slice_index_or, if◌then◌else◌}
use Rattle.std.specs.List.{range_with_len}
use Rattle.sa_desk.specs.declared.entry.Entry.{Entry}
use Rattle.sa_desk.specs.declared.request.OpenWait.{OpenWait}
use Rattle.sa_desk.specs.declared.stamp.Caller.{Caller}
use Rattle.sa_desk.specs.declared.stamp.Stamp.{Stamp}
use Rattle.sa_desk.specs.State.{Terms}
use Rattle.sa_desk.specs.Contents.{Contents, IsSound}

-- What only one session's calls change at a desk, and no entry need show.
pub record Quiet : Type 0 where
  -- the steps that are published, on its own desk
  pub published : ℕ
  -- how often its last request there was polled without an answer
  pub polls : ℕ
  -- its open wait there
  pub wait : Option OpenWait

-- what a desk counts for a session
abbrev pub quiet_of : Contents → ℕ → Quiet
quiet_of desk session = record {
  published = if session == desk.terms.desk then desk.published else 0;
  polls = slice_index desk.polls (session - 1);
  wait = slice_index_or desk.waits (session - 1) None;
}

-- What one call of a session leaves of a desk: the desk as before, but for these entries at the end
-- of its journal, which are the session's and numbered from this number on, and for what the
-- session has counted.
pub record Leaves (before left : Contents) (session number : ℕ) (entries : List Entry) : Type 0 where
  pub sound : IsSound left
  pub terms : left.terms ≡ before.terms
  pub shares : left.shares ≡ before.shares
  pub grown : left.journal ≡ before.journal ++ entries
  pub standing : All (λ entry. entry.desk ≡ before.terms.desk) entries
  pub own : All (λ entry. entry.actor ≡ session) entries
  pub numbered : map (λ entry. entry.seq) entries ≡ range_with_len number (length entries)
  pub quiet : (other : ℕ) → 1 ≤ other → other ≢ session → quiet_of left other ≡ quiet_of before other

-- nothing is counted
abbrev pub no_quiet : Quiet
no_quiet = record { published = 0; polls = 0; wait = None }

-- Desks are named by their numbers, and so are sessions.
pub record World : Type 0 where
  -- whether the desk may be called for the session
  pub may_call : (desk session : ℕ) → Bool
  -- what a desk holds that may be called
  pub contents : (desk : ℕ) → Contents
  -- the entries that a session has made, on any desk, in their order
  pub mine : (session : ℕ) → List Entry
  -- what a session has seen of a desk's journal, and what it has counted there
  pub seen : (session desk : ℕ) → List Entry
  pub quiet : (session desk : ℕ) → Quiet
  -- each desk's terms and shares
  pub terms : (desk : ℕ) → Terms
  pub shares : (desk : ℕ) → List ℕ

-- the entries that a session has made
abbrev pub made_by : ℕ → List Entry → List Entry
made_by session entries = filter (λ entry. entry.actor == session) entries

-- the entries that stand on a desk
abbrev pub standing_on : ℕ → List Entry → List Entry
standing_on desk entries = filter (λ entry. entry.desk == desk) entries

-- the stamp of a session's next entry
abbrev pub next_stamp : World → Caller → Stamp
next_stamp world me =
    record { actor = me.actor; seq = length (world.mine me.actor) + 1; turn = me.turn }

-- A session finds a desk as it may be: sound, with its terms and shares, with what the session has
-- seen there and then entries of others alone, with the session's entries those that it made there,
-- and with what the session has counted there.
pub record Meets (world : World) (desk session : ℕ) : Type 0 where
  pub sound : IsSound (world.contents desk)
  pub number : (world.contents desk).terms.desk ≡ desk
  pub terms : (world.contents desk).terms ≡ world.terms desk
  pub shares : (world.contents desk).shares ≡ world.shares desk
  pub others : List Entry
  pub grown : (world.contents desk).journal ≡ world.seen session desk ++ others
  pub of_others : All (λ entry. entry.actor ≢ session) others
  pub own : made_by session (world.contents desk).journal ≡ standing_on desk (world.mine session)
  pub counted : quiet_of (world.contents desk) session ≡ world.quiet session desk

-- Nobody has called yet: each session meets each desk that may be called for it, and has made, seen
-- and counted nothing.
pub record IsFirst (world : World) : Type 0 where
  pub met : (desk session : ℕ) → world.may_call desk session ≡ true → Meets world desk session
  pub mine : (session : ℕ) → world.mine session ≡ []
  pub seen : (session desk : ℕ) → world.seen session desk ≡ []
  pub quiet : (session desk : ℕ) → world.quiet session desk ≡ no_quiet

-- A list begins with another.
abbrev pub Begins : List Entry → List Entry → Type 0
Begins first whole = (rest : List Entry) × (whole ≡ first ++ rest)

-- One call of a session at a desk has led from one world to the next. It has made these entries and
-- left this at the desk.
pub record IsCall (before later : World) (desk session : ℕ) (entries : List Entry)
    (left : Contents) : Type 0 where
  pub met : Meets before desk session
  pub leaves : Leaves (before.contents desk) left session (length (before.mine session) + 1) entries
  -- the session has now seen what it left
  pub seen_is : later.seen session desk ≡ left.journal
  pub counted_is : later.quiet session desk ≡ quiet_of left session
  pub mine_is : later.mine session ≡ before.mine session ++ entries
  -- whatever was seen is still seen
  pub seen_more : (other at : ℕ) → Begins (before.seen other at) (later.seen other at)
  -- what is others', or is elsewhere, stays
  pub others_mine : (other : ℕ) → other ≢ session → later.mine other ≡ before.mine other
  pub others_quiet : (other at : ℕ) → other ≢ session → later.quiet other at ≡ before.quiet other at
  pub quiet_elsewhere : (at : ℕ) → at ≢ desk → later.quiet session at ≡ before.quiet session at
  pub same_terms : (at : ℕ) → later.terms at ≡ before.terms at
  pub same_shares : (at : ℕ) → later.shares at ≡ before.shares at
  -- where the desk may still be called it holds what was left there, and any other desk holds what
  -- it held
  pub left_is : (other : ℕ) → later.may_call desk other ≡ true → later.contents desk ≡ left
  pub elsewhere_is : (at other : ℕ) → at ≢ desk → later.may_call at other ≡ true
      → later.contents at ≡ before.contents at
  -- each session still meets each desk that may be called for it
  pub still : (at other : ℕ) → later.may_call at other ≡ true → Meets later at other
