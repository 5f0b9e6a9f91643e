-- The rule of a board in eleven sentences; cited by the law that each table of a board meets them.
use Rattle.std.specs.Prelude.{◌≡◌, ◌↔◌, ℕ, ◌+◌, ◌<◌, ◌≤◌, List, length, map, sum, slice_index, Some, All}
use Rattle.std.specs.List.{range_with_len}
use mathlib.Core.Option.{some}
use lib.ListN.{get_elem?}
use Rattle.sa_desk.specs.Contents.{Contents, IsWithinShares}
use Rattle.sa_desk.specs.World.{quiet_of, made_by, standing_on, Begins}
use Rattle.sa_board.specs.declared.view.Known.{Known}
use Rattle.sa_board.specs.declared.view.View.{View}
use Rattle.sa_board.specs.View.{desk_in, holders, standing}
use Rattle.sa_board.specs.Rule.{Table, IsHolder, IsUnborn}

-- It is true of each session, running or ended.
abbrev pub EachSession : Table → (Known → Type 0) → Type 0
EachSession table P =
    (seat : ℕ) (view : View) → get_elem? table.views seat ≡ some view → All P view.known

-- It is true of each session and each desk, at the desk's index.
abbrev pub EachMeeting : List Contents → Table → (Known → ℕ → Type 0) → Type 0
EachMeeting founded table P =
    EachSession table (λ one. (index : ℕ) → index < length founded → P one index)

-- The desk keeps its number, and the terms and shares with which it was founded.
pub record SameTerms (first desk : Contents) (index : ℕ) : Type 0 where
  pub number : desk.terms.desk ≡ index + 1
  pub terms : desk.terms ≡ first.terms
  pub shares : desk.shares ≡ first.shares

pub record Sentences (founded : List Contents) (table : Table) : Type 0 where
  -- what each desk holds, and how many numbers were given
  pub now : List Contents
  pub made : ℕ
  -- At most one seat holds a desk. One seat holds it exactly where its turn word is 1.
  pub one_holder : (index : ℕ) → index < length founded → holders index table.views ≤ 1
  pub turn_word : (index : ℕ) → index < length founded
      → (holders index table.views ≡ 1) ↔ (slice_index table.words index ≡ 1)
  -- What a desk holds is in its slot where nobody holds the desk. Where a seat holds it, it is what
  -- the session of that seat has met.
  pub in_slot : (index : ℕ) → index < length founded → holders index table.views ≡ 0
      → get_elem? table.homes index ≡ some (some (Some (desk_in now index)))
  pub at_holder : (seat index : ℕ) (view : View) → index < length founded
      → get_elem? table.views seat ≡ some view → view.out ≡ index + 1
      → IsHolder (desk_in now index) index view.known
  -- The journal of this is the desk's history. Its length is the length word.
  pub length_word : (index : ℕ) → index < length founded
      → slice_index table.words (length founded + index) ≡ length (desk_in now index).journal
  -- The journal that a session has met is a beginning of the history.
  pub begins : EachMeeting founded table (λ one index.
      Begins (desk_in one.met index).journal (desk_in now index).journal)
  -- It has the same entries of this session as the history.
  pub same_own : EachMeeting founded table (λ one index.
      made_by one.session (desk_in one.met index).journal
      ≡ made_by one.session (desk_in now index).journal)
  -- What it has met counts for the session what the desk counts.
  pub same_quiet : EachMeeting founded table (λ one index.
      quiet_of (desk_in one.met index) one.session ≡ quiet_of (desk_in now index) one.session)
  -- Its entries there are those of its own that stand on this desk, in their order. Its own are
  -- numbered 1, 2 and so on.
  pub own : EachMeeting founded table (λ one index.
      made_by one.session (desk_in one.met index).journal ≡ standing_on (index + 1) one.mine)
  pub numbered : EachSession table (λ one.
      map (λ entry. entry.seq) one.mine ≡ range_with_len 1 (length one.mine))
  -- Each number that was given is that of one session, which one seat stands for.
  pub given : (session : ℕ) → 1 ≤ session → session ≤ made → standing session table.views ≡ 1
  -- A number above those has no entry in a history, and nothing is counted for it.
  pub unborn : (session index : ℕ) → made < session → index < length founded
      → IsUnborn session (desk_in now index)
  -- In each history an actor's charge is at most its share. So none is longer than all shares.
  pub charges : (index : ℕ) → index < length founded
      → IsWithinShares (desk_in now index).shares (desk_in now index).journal
  pub short : (index : ℕ) → index < length founded
      → length (desk_in now index).journal ≤ sum (desk_in now index).shares
  -- What a desk holds, and what each session has met there, has the number and the terms with which
  -- the board was founded.
  pub same_terms : (index : ℕ) → index < length founded
      → SameTerms (desk_in founded index) (desk_in now index) index
  pub met_terms : EachMeeting founded table (λ one index.
      SameTerms (desk_in founded index) (desk_in one.met index) index)
