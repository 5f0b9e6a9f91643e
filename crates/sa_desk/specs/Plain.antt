-- Desks that are called on one thread.
use Rattle.std.specs.Prelude.{◌≡◌, ℕ, ◌+◌, ◌-◌, ◌≤◌, ◌==◌, ◌&&◌, Bool, List, length, filter, map, slice_index, slice_index_or, nat_lt, if◌then◌else◌}
use Rattle.std.specs.List.{flat_map, range_with_len, sum_by}
use Rattle.sa_desk.specs.declared.entry.Entry.{Entry}
use Rattle.sa_desk.specs.New.{no_desk}
use Rattle.sa_desk.specs.Contents.{Contents, IsSound}
use Rattle.sa_desk.specs.World.{World, Quiet, no_quiet, quiet_of, made_by, standing_on}

-- What each desk holds, and how many entries each session has made.
pub record Plain : Type 0 where
  pub desks : List Contents
  pub made : List ℕ

-- all entries, desk by desk
abbrev pub all_entries : List Contents → List Entry
all_entries desks = flat_map (λ desk. desk.journal) desks

-- The entry is the session's, with this number.
abbrev pub is_numbered : ℕ → ℕ → Entry → Bool
is_numbered session number entry = entry.actor == session && entry.seq == number

-- a session's entries on all desks, in the order of their numbers
abbrev pub entries_of : Plain → ℕ → List Entry
entries_of plain session =
    flat_map (λ number. filter (is_numbered session number) (all_entries plain.desks))
    (range_with_len 1 (slice_index plain.made (session - 1)))

-- the desk with this number
abbrev pub desk_at : Plain → ℕ → Contents
desk_at plain desk = slice_index_or plain.desks (desk - 1) no_desk

-- a number from 1 to that of the desks
abbrev pub is_there : Plain → ℕ → Bool
is_there plain number = nat_lt 0 number && nat_lt number (length plain.desks + 1)

-- The desk and the session are both there.
abbrev pub are_there : Plain → (desk session : ℕ) → Bool
are_there plain desk session = is_there plain desk && is_there plain session

-- what a session has counted at a desk: nothing where either isn't there
abbrev pub quiet_at : Plain → (session desk : ℕ) → Quiet
quiet_at plain session desk =
    if are_there plain desk session then quiet_of (desk_at plain desk) session else no_quiet

-- All desks may be called for all sessions, and each session has seen all there is.
abbrev pub world_of : Plain → World
world_of plain = record {
  may_call = are_there plain;
  contents = desk_at plain;
  mine = entries_of plain;
  seen = λ session desk. (desk_at plain desk).journal;
  quiet = quiet_at plain;
  terms = λ desk. (desk_at plain desk).terms;
  shares = λ desk. (desk_at plain desk).shares;
}

-- As many desks are there.
abbrev pub SameDesks : Plain → Plain → Type 0
SameDesks before later = length later.desks ≡ length before.desks

-- A session's entries on a desk are those of its own that stand there, and they are numbered 1, 2
-- and so on.
pub record AreOwn (plain : Plain) (session : ℕ) : Type 0 where
  pub own : (desk : ℕ) → 1 ≤ desk → desk ≤ length plain.desks
      → made_by session (desk_at plain desk).journal ≡ standing_on desk (entries_of plain session)
  pub numbered : map (λ entry. entry.seq) (entries_of plain session)
      ≡ range_with_len 1 (slice_index plain.made (session - 1))
  -- it has made no more entries than there are
  pub within : slice_index plain.made (session - 1) ≤ sum_by (λ desk. length desk.journal) plain.desks

-- The desks are sound and numbered 1, 2 and so on, and each session has a share on each.
pub record IsPlain (plain : Plain) : Type 0 where
  pub few : length plain.desks ≤ 16
  pub sessions : length plain.made ≡ length plain.desks
  pub sound : (desk : ℕ) → 1 ≤ desk → desk ≤ length plain.desks → IsSound (desk_at plain desk)
  pub numbers : (desk : ℕ) → 1 ≤ desk → desk ≤ length plain.desks
      → (desk_at plain desk).terms.desk ≡ desk
  pub shares : (desk : ℕ) → 1 ≤ desk → desk ≤ length plain.desks
      → length (desk_at plain desk).shares ≡ length plain.desks
  pub entries : (session : ℕ) → 1 ≤ session → session ≤ length plain.desks → AreOwn plain session
