-- What the fields of a pass say of it.
use Rattle.std.specs.Prelude.{◌≡◌, ◌≤◌, ℕ, zero, suc, ◌+◌, List, [], ◌∷◌, length, slice_index_or, Option, None}
use Rattle.sa_desk.specs.Contents.{Contents}
use Rattle.sa_board.specs.declared.view.Known.{Known}
use Rattle.sa_board.specs.declared.view.View.{View}
use Rattle.sa_board.specs.declared.pass.Pass.TheInside.{Inside}
use Rattle.sa_board.specs.Pass.{PassState, met_at, IsOut}

-- what stands for a session that isn't there
abbrev pub nobody_known : Known
nobody_known = record { session = 0; met = []; mine = [] }

-- the session that a seat stands for
abbrev pub one_of : View → Known
one_of view = slice_index_or view.known 0 nobody_known

-- what the fields stand for
abbrev pub state_of : Inside → PassState
state_of pass = record {
  table = pass.seat.table_id;
  session = pass.session;
  met = (one_of pass.seat.me.0).met;
  mine = (one_of pass.seat.me.0).mine;
  out = pass.out;
  desk = pass.desk;
  called = pass.called;
}

-- the slots that a seat has taken, where it has this desk out
abbrev pub away_with : ℕ → List (ℕ × Option Contents)
away_with zero = []
away_with (suc index) = (index, None) ∷ []

-- The seat stands for the session of the pass, and holds the desk that is out.
pub record IsPass (pass : Inside) : Type 0 where
  pub alone : pass.seat.me.0.known ≡ one_of pass.seat.me.0 ∷ []
  pub session : (one_of pass.seat.me.0).session ≡ pass.session
  pub next : pass.next ≡ length (one_of pass.seat.me.0).mine + 1
  pub out : pass.seat.me.0.out ≡ pass.out
  pub away : pass.seat.me.1 ≡ away_with pass.out
  pub none : pass.out ≡ 0 → pass.desk ≡ None
  pub found : 1 ≤ pass.out → pass.found ≡ length (met_at (state_of pass) pass.out).journal
  pub is_out : 1 ≤ pass.out → IsOut (state_of pass)
