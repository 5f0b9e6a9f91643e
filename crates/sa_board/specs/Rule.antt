-- The rule of a board's table, true between any two steps; cited by the table and by its law.
use Rattle.std.specs.Prelude.{◌≡◌, ◌≢◌, ℕ, ◌+◌, ◌<◌, ◌≤◌, List, [], ◌∷◌, length, map, slice_index, Option, Some, All}
use Rattle.std.specs.List.{range_with_len}
use mathlib.Core.Option.{some}
use mathlib.Core.Option as maybe
use lib.ListN.{get_elem?}
use Rattle.atomic_table.specs.Table.{State}
use Rattle.sa_desk.specs.declared.entry.Entry.{Entry}
use Rattle.sa_desk.specs.Contents.{Contents, IsSound}
use Rattle.sa_desk.specs.World.{quiet_of, no_quiet, made_by, standing_on, Begins}
use Rattle.sa_board.specs.declared.view.Known.{Known}
use Rattle.sa_board.specs.declared.view.View.{View}
use Rattle.sa_board.specs.View.{desk_in, holders, standing, is_given}

-- The desk with number d stands at the index d - 1. Its turn word is the word at this index, and
-- its length word the one as many words later as there are desks. Its slot is the slot at this
-- index. A desk is at home where no seat has taken it out of its slot.
abbrev pub Table : Type 0
Table = State (Option Contents) View

-- what the table has of one desk
pub record Lock : Type 0 where
  pub turn : ℕ
  pub count : ℕ
  pub slot : maybe.Option (maybe.Option (Option Contents))
  -- how many seats hold the desk
  pub holders : ℕ

abbrev pub lock_at : ℕ → Table → ℕ → Lock
lock_at desks table index = record {
  turn = slice_index table.words index;
  count = slice_index table.words (desks + index);
  slot = get_elem? table.homes index;
  holders = holders index table.views;
}

-- The desk at an index holds this now, and held that at first.
pub record IsLock (first now : Contents) (index : ℕ) (lock : Lock) : Type 0 where
  -- 1: at most one seat holds it, and one does exactly where the turn word is 1
  pub held : lock.holders ≡ lock.turn
  pub once : lock.turn ≤ 1
  -- 2: what it holds is in its slot where nobody holds it
  pub home : lock.turn ≡ 0 → lock.slot ≡ some (some (Some now))
  -- 3: its journal is the desk's history, and as long as the length word says
  pub counted : lock.count ≡ length now.journal
  -- 10: no session has entries past its share
  pub sound : IsSound now
  -- 11: it has its number, and the terms and the shares that it had at first
  pub number : now.terms.desk ≡ index + 1
  pub terms : now.terms ≡ first.terms
  pub shares : now.shares ≡ first.shares

-- A session that has made these entries has met this at a desk, which holds that now.
pub record Fits (session desk : ℕ) (mine : List Entry) (met now : Contents) : Type 0 where
  -- 4: the history begins with what the session has seen
  pub begins : Begins met.journal now.journal
  -- 5: and has no further entry of the session
  pub same_own : made_by session met.journal ≡ made_by session now.journal
  -- 6: the desk counts for the session what it counted then
  pub quiet : quiet_of met session ≡ quiet_of now session
  -- 7: the session's entries there are those of its own that stand on this desk
  pub own : made_by session met.journal ≡ standing_on desk mine
  -- 11: number, terms and shares are the same
  pub terms : met.terms ≡ now.terms
  pub shares : met.shares ≡ now.shares

-- The entry stands on one of so many desks.
pub record StandsThere (desks : ℕ) (entry : Entry) : Type 0 where
  pub least : 1 ≤ entry.desk
  pub most : entry.desk ≤ desks

-- What is known of a session, where the desks hold this now.
pub record IsKnown (now : List Contents) (one : Known) : Type 0 where
  pub wide : length one.met ≡ length now
  pub fits : (index : ℕ) → index < length now
      → Fits one.session (index + 1) one.mine (desk_in one.met index) (desk_in now index)
  -- 7: its entries are numbered 1, 2 and so on, and each stands on one of the desks
  pub numbered : map (λ entry. entry.seq) one.mine ≡ range_with_len 1 (length one.mine)
  pub there : All (StandsThere (length now)) one.mine

-- 2: the seat that holds a desk stands for one session, which has met what the desk holds.
pub record IsHolder (now : Contents) (index : ℕ) (known : List Known) : Type 0 where
  pub one : Known
  pub alone : known ≡ one ∷ []
  pub met : desk_in one.met index ≡ now

-- The seat's view is true. One seat, the giver, gives sessions their numbers.
pub record IsSeat (now : List Contents) (giver made seat : ℕ) (view : View) : Type 0 where
  pub known : All (IsKnown now) view.known
  pub holder : (index : ℕ) → index < length now → view.out ≡ index + 1
      → IsHolder (desk_in now index) index view.known
  pub gives : seat ≡ giver → view.made ≡ made
  pub others : seat ≢ giver → view.made ≡ 0

-- The session has left no trace at a desk.
pub record IsUnborn (session : ℕ) (now : Contents) : Type 0 where
  pub none : made_by session now.journal ≡ []
  pub quiet : quiet_of now session ≡ no_quiet

-- The rule, for a board that was founded with these desks.
pub record IsKept (founded : List Contents) (table : Table) : Type 0 where
  -- what each desk holds
  pub now : List Contents
  -- how many numbers were given to sessions, and which seat gives them
  pub made : ℕ
  pub giver : ℕ
  pub desks : length now ≡ length founded
  pub few : length founded ≤ 16
  pub slots : length table.homes ≡ length founded
  pub words : length table.words ≡ length founded + length founded
  pub given : made ≤ length founded
  pub locks : (index : ℕ) → index < length founded
      → IsLock (desk_in founded index) (desk_in now index) index
      (lock_at (length founded) table index)
  pub seats : (seat : ℕ) (view : View) → get_elem? table.views seat ≡ some view
      → IsSeat now giver made seat view
  -- 8: each number that was given is that of one session, which one seat stands for
  pub once : (session : ℕ) → standing session table.views ≡ is_given made session
  -- 9: a number that wasn't given has left no trace
  pub unborn : (session index : ℕ) → made < session → index < length founded
      → IsUnborn session (desk_in now index)
