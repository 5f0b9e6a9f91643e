-- The desks that the sessions of a script begin with; cited by the call that makes them.
use Rattle.std.specs.Prelude.{ℕ, ◌+◌, ◌-◌, ◌*◌, ◌==◌, Bool, List, [], length, map, slice_index_or, if◌then◌else◌}
use Rattle.std.specs.List.{range_with_len}
use Rattle.sa_desk.specs.Contents.{Contents}
use Rattle.sa_desk.specs.New.{new_desk}

-- the share of a session with so many statements, of its own desk or of another
abbrev pub share_of : (count : ℕ) → Bool → ℕ
share_of count own = if own then 5 * count + 1 else 3 * count

-- the share of this session of the desk of this number
abbrev pub share_in : List (List (List ℕ)) → (own session : ℕ) → ℕ
share_in texts own session = share_of (length (slice_index_or texts (session - 1) [])) (session == own)

-- each session's share of it
abbrev pub shares_for : List (List (List ℕ)) → (own : ℕ) → List ℕ
shares_for texts own = map (share_in texts own) (range_with_len 1 (length texts))

-- the new desk of this number
abbrev pub desk_in : List (List (List ℕ)) → (quantum turns own : ℕ) → Contents
desk_in texts quantum turns own = new_desk own quantum turns (shares_for texts own)

-- a new desk for each session
abbrev pub desks_of : List (List (List ℕ)) → (quantum turns : ℕ) → List Contents
desks_of texts quantum turns = map (desk_in texts quantum turns) (range_with_len 1 (length texts))
