-- What a session's pass to a board is; cited by the calls of the board.
use Rattle.std.specs.Prelude.{◌≡◌, ℕ, ◌+◌, ◌-◌, ◌*◌, ◌^◌, ◌≤◌, ◌==◌, ◌&&◌, not, nat_lt, Bool, false, List, [], ◌++◌, length, drop, slice_set, Option, Some, None, unwrap_or, if◌then◌else◌}
use Rattle.atomic_table.specs.Seated.{TableId}
use Rattle.sa_desk.specs.declared.entry.Entry.{Entry}
use Rattle.sa_desk.specs.Contents.{Contents, IsSound}
use Rattle.sa_desk.specs.New.{no_desk}
use Rattle.sa_desk.specs.World.{World, quiet_of, no_quiet, made_by, standing_on, Leaves, Begins}
use Rattle.sa_board.specs.declared.view.Known.{Known}
use Rattle.sa_board.specs.View.{desk_in}
use Rattle.sa_board.specs.Rule.{Fits}

pub record PassState : Type 0 where
  -- the board's table
  pub table : TableId
  pub session : ℕ
  -- what each desk held when the session last had it
  pub met : List Contents
  -- the entries that the session has made, on any desk, in their order
  pub mine : List Entry
  -- the number of the desk that it has out, or 0, what that holds now, and whether it was called
  pub out : ℕ
  pub desk : Option Contents
  pub called : Bool

-- what the seat of the pass knows of its session
abbrev pub known_of : PassState → Known
known_of pass = record { session = pass.session; met = pass.met; mine = pass.mine }

-- what the session has met at the desk with this number
abbrev pub met_at : PassState → ℕ → Contents
met_at pass desk = desk_in pass.met (desk - 1)

-- the desk that is out
abbrev pub out_desk : PassState → Contents
out_desk pass = unwrap_or pass.desk no_desk

-- the entries that the session has made there since it is out
abbrev pub new_entries : PassState → List Entry
new_entries pass = drop (length (met_at pass pass.out).journal) (out_desk pass).journal

-- what the session knows of a desk
abbrev pub known_desk : PassState → ℕ → Contents
known_desk pass desk = if desk == pass.out then out_desk pass else met_at pass desk

-- A desk is out, and wasn't called.
abbrev pub is_callable : PassState → Bool
is_callable pass = nat_lt 0 pass.out && not pass.called

-- The desk that is out may be called once, for the session of the pass alone. Whatever is not the
-- session's is not known.
abbrev pub world_of : PassState → World
world_of pass = record {
  may_call = λ desk session. desk == pass.out && session == pass.session && is_callable pass;
  contents = known_desk pass;
  mine = λ session. if session == pass.session then pass.mine ++ new_entries pass else [];
  seen = λ session desk. if session == pass.session then (known_desk pass desk).journal else [];
  quiet = λ session desk.
      if session == pass.session then quiet_of (known_desk pass desk) session else no_quiet;
  terms = λ desk. (known_desk pass desk).terms;
  shares = λ desk. (known_desk pass desk).shares;
}

-- What a session knows of the desks in one world is still so in the next, where it may have seen
-- more of one.
pub record KnowsStill (before later : World) : Type 0 where
  pub mine : (session : ℕ) → later.mine session ≡ before.mine session
  pub seen : (session desk : ℕ) → 1 ≤ desk → Begins (before.seen session desk) (later.seen session desk)
  pub quiet : (session desk : ℕ) → 1 ≤ desk → later.quiet session desk ≡ before.quiet session desk
  pub terms : (desk : ℕ) → 1 ≤ desk → later.terms desk ≡ before.terms desk
  pub shares : (desk : ℕ) → 1 ≤ desk → later.shares desk ≡ before.shares desk

-- A desk is out, as the session has met it, or as one call of the session has left it.
pub record IsOut (pass : PassState) : Type 0 where
  pub desk : pass.desk ≡ Some (out_desk pass)
  pub least : 1 ≤ pass.out
  pub most : pass.out ≤ length pass.met
  pub sound : IsSound (met_at pass pass.out)
  pub number : (met_at pass pass.out).terms.desk ≡ pass.out
  pub own : made_by pass.session (met_at pass pass.out).journal
      ≡ standing_on pass.out pass.mine
  pub leaves : Leaves (met_at pass pass.out) (out_desk pass) pass.session (length pass.mine + 1)
      (new_entries pass)
  pub uncalled : pass.called ≡ false → out_desk pass ≡ met_at pass pass.out
  -- numbers are left for the entries of a call
  pub few : length pass.mine ≤ 16 * 2 ^ 20

-- Only the desk that is out has changed, by a call.
abbrev pub SamePass : PassState → PassState → Type 0
SamePass before later = later ≡ record before { desk = later.desk; called = later.called }

-- The pass has taken the desk with this number out, of which the session had met a beginning.
pub record HasTaken (before later : PassState) (desk : ℕ) : Type 0 where
  pub found : Contents
  pub later_is : later ≡ record before {
    met = slice_set before.met (desk - 1) found;
    out = desk;
    desk = Some found;
    called = false;
  }
  pub fits : Fits before.session desk before.mine (met_at before desk) found

-- The desk that was out is at home, and the session has met what it left.
abbrev pub at_home : PassState → PassState
at_home pass = record pass {
  met = slice_set pass.met (pass.out - 1) (out_desk pass);
  mine = pass.mine ++ new_entries pass;
  out = 0;
  desk = None;
  called = false;
}
