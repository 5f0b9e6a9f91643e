-- What a seat's view says of sessions and desks; cited by the board's rule and its steps.
use Rattle.std.specs.Prelude.{ℕ, ◌+◌, ◌==◌, ◌&&◌, nat_lt, Bool, List, [], ◌∷◌, sum_by, count_by, slice_index_or, if◌then◌else◌}
use Rattle.sa_desk.specs.Contents.{Contents}
use Rattle.sa_desk.specs.New.{no_desk}
use Rattle.sa_board.specs.declared.view.Known.{Known}
use Rattle.sa_board.specs.declared.view.View.{View}

-- the desk at an index, of a list of all desks
abbrev pub desk_in : List Contents → ℕ → Contents
desk_in desks index = slice_index_or desks index no_desk

-- a session that has made no entry yet, and has met these desks
abbrev pub newcomer : ℕ → List Contents → Known
newcomer session desks = record { session = session; met = desks; mine = [] }

-- the view of the first seat: session 1 has met the desks as they were founded
abbrev pub first_view : List Contents → View
first_view founded = record { known = newcomer 1 founded ∷ []; made = 1; out = 0 }

-- whether the seat holds the desk at an index
abbrev pub has_out : ℕ → View → Bool
has_out index view = view.out == index + 1

-- how many seats hold it
abbrev pub holders : ℕ → List View → ℕ
holders index views = count_by (has_out index) views

-- how often a seat stands for a session, and how often all seats together do
abbrev pub stands_for : ℕ → View → ℕ
stands_for session view = count_by (λ one. one.session == session) view.known

abbrev pub standing : ℕ → List View → ℕ
standing session views = sum_by (stands_for session) views

-- 1 where the number is from 1 to this many, and else 0
abbrev pub is_given : ℕ → ℕ → ℕ
is_given made session = if nat_lt 0 session && nat_lt session (made + 1) then 1 else 0
