-- What each kind of step on a board's table asks, leaves and tells; cited by the table's plays.
use Rattle.std.specs.Prelude.{◌≡◌, ◌≢◌, ℕ, ◌+◌, ◌-◌, ◌<◌, ◌≤◌, ◌*◌, ◌^◌, List, [], ◌∷◌, ◌++◌, map, drop, length, slice_set, max, Some, None, Option, All}
use mathlib.Core.Option.{some}
use lib.ListN.{get_elem?}
use Rattle.atomic_table.specs.Table.{Me, Step, rest}
use Rattle.sa_desk.specs.declared.entry.Entry.{Entry}
use Rattle.sa_desk.specs.Contents.{Contents, IsSound}
use Rattle.sa_desk.specs.World.{Leaves}
use Rattle.sa_board.specs.declared.view.Known.{Known}
use Rattle.sa_board.specs.declared.view.View.{View}
use Rattle.sa_board.specs.View.{desk_in, newcomer}
use Rattle.sa_board.specs.Rule.{Fits, IsKnown}

-- a seat's view, and the slots that it has taken
abbrev pub Sitter : Type 0
Sitter = Me (Option Contents) View

-- what a step tells, of its word, the seat before, the number found and the seat after
abbrev pub Told : Type 1
Told = Step (Option Contents) → Sitter → ℕ → Sitter → Type 0

-- The seat stands for one session and holds no desk.
pub record IsIdle (me : Sitter) : Type 0 where
  pub away : me.1 ≡ []
  pub out : me.0.out ≡ 0
  pub one : Known
  pub alone : me.0.known ≡ one ∷ []

-- 1: the turn word was 0. The seat holds the desk, and its session has met what was in the slot.
abbrev pub meets : ℕ → Contents → Known → Known
meets index found one = record one { met = slice_set one.met index found }

abbrev pub took : ℕ → Contents → View → View
took index found view = record view { known = map (meets index found) view.known; out = index + 1 }

pub record Took (index : ℕ) (before after : Sitter) : Type 0 where
  pub found : Contents
  pub after_is : after ≡ (took index found before.0, (index, Some found) ∷ [])
  pub one : Known
  pub alone : before.0.known ≡ one ∷ []
  pub there : index < length one.met
  pub fits : Fits one.session (index + 1) one.mine (desk_in one.met index) found
  pub sound : IsSound found
  pub number : found.terms.desk ≡ index + 1
  -- so that numbers are left for the entries of a call
  pub few : length one.mine ≤ 16 * 2 ^ 20

-- 2: the turn word was 1, and nothing changes
abbrev pub taken : Told
taken step before found after =
    (found ≡ 0 → Took step.word before after) × (found ≢ 0 → after ≡ before)

-- The seat has one slot, with a desk in it.
abbrev pub HasDesk : ℕ → Sitter → Type 0
HasDesk index me = (found : Contents) × (me.1 ≡ (index, Some found) ∷ [])

-- 4: the session has met what its call has left of the desk, and has made the new entries
abbrev pub adds : ℕ → Contents → Known → Known
adds index left one = record {
  session = one.session;
  met = slice_set one.met index left;
  mine = one.mine ++ drop (length (desk_in one.met index).journal) left.journal;
}

abbrev pub raised : ℕ → Contents → View → View
raised index left view = record view { known = map (adds index left) view.known }

-- The seat holds the desk, which is out of its slot, and its session's call has left this, with so
-- many new entries.
pub record Raises (index : ℕ) (me : Sitter) (left : Contents) (count : ℕ) : Type 0 where
  pub out : me.0.out ≡ index + 1
  pub away : me.1 ≡ (index, None) ∷ []
  pub one : Known
  pub alone : me.0.known ≡ one ∷ []
  pub entries : List Entry
  pub leaves : Leaves (desk_in one.met index) left one.session (length one.mine + 1) entries
  pub counted : count ≡ length entries

-- the length word of a desk stands as many words after its turn word as there are slots
abbrev pub lifted : Contents → Told
lifted left step before found after =
    after ≡ (raised (step.word - step.slots) left before.0, before.1)

-- 6: the seat holds no desk, and the slot has what its session had met last
abbrev pub released : View → View
released view = record view { out = 0 }

abbrev pub given_back : Told
given_back step before found after = after ≡ (released before.0, rest before.1)

-- What the seat's session had met last is home, and the turn word is still 1.
pub record Returns (index : ℕ) (me : Sitter) : Type 0 where
  pub out : me.0.out ≡ index + 1
  pub one : Known
  pub alone : me.0.known ≡ one ∷ []
  pub back : me.1 ≡ (index, Some (desk_in one.met index)) ∷ []

-- 7: one more number is given, to a session of which a new seat knows what the first seat's session
-- had met
abbrev pub founder_left : View → View
founder_left view = record view { made = view.made + 1 }

abbrev pub founder_right : View → View
founder_right view = record {
  known = map (λ one. newcomer (view.made + 1) one.met) view.known;
  made = 0;
  out = 0;
}

-- The seat gives numbers and has one more to give, and its session has met the desks as they were
-- founded.
pub record IsFounder (founded : List Contents) (view : View) : Type 0 where
  pub alone : view.known ≡ newcomer 1 founded ∷ []
  pub out : view.out ≡ 0
  pub least : 1 ≤ view.made
  pub most : view.made < length founded

-- 8: one seat stands for the sessions of both, and the other for none
abbrev pub joined : View → View → View
joined view other = record view {
  known = view.known ++ other.known;
  made = max view.made other.made;
}

abbrev pub nobody : View
nobody = record { known = []; made = 0; out = 0 }

-- All sessions have ended in one seat, and the slots have this: each desk is at home, and each
-- session is known.
pub record IsEnded (founded : List Contents) (view : View)
    (homes : List (Option Contents)) : Type 0 where
  pub now : List Contents
  pub desks : length now ≡ length founded
  pub slots : length homes ≡ length founded
  pub home : (index : ℕ) → index < length founded
      → get_elem? homes index ≡ some (Some (desk_in now index))
  pub sound : (index : ℕ) → index < length founded → IsSound (desk_in now index)
  pub number : (index : ℕ) → index < length founded → (desk_in now index).terms.desk ≡ index + 1
  pub terms : (index : ℕ) → index < length founded
      → (desk_in now index).terms ≡ (desk_in founded index).terms
  pub shares : (index : ℕ) → index < length founded
      → (desk_in now index).shares ≡ (desk_in founded index).shares
  pub known : All (IsKnown now) view.known
