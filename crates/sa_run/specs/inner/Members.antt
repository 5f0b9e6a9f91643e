-- What the threads that run a script's sessions are given, and what they leave.
use Rattle.std.specs.Prelude.{◌≡◌, ℕ, ◌-◌, ◌≤◌, List, [], length, map, slice_index_or, Some, false, IsTrue}
use Rattle.std.specs.List.{range_with_len}
use Rattle.sa_desk.specs.Legal.{Sessions}
use Rattle.sa_desk.specs.World.{IsFirst}
use Rattle.sa_desk.specs.program.Prepares.{Answers}
use Rattle.sa_board.specs.Board.{BoardState, new_pass}
use Rattle.sa_board.specs.Pass.{world_of}
use Rattle.sa_step.specs.Sessions.{MayStart, AreSound}
use Rattle.sa_step.specs.Starts.{desks_of}
use Rattle.sa_run.specs.declared.member.Member.{Member}
use Rattle.sa_run.specs.inner.Along.{HasEnded}

-- the member of this number, before it runs, on this board
abbrev pub member_in : BoardState → List (List (List ℕ)) → ℕ → Member
member_in board texts session = record {
  session = session;
  pass = new_pass board session;
  statements = Some (slice_index_or texts (session - 1) []);
  ended = false;
}

-- a member for each session
abbrev pub members_of : BoardState → List (List (List ℕ)) → List Member
members_of board texts = map (member_in board texts) (range_with_len 1 (length texts))

-- The session may begin: the board and its pass are new, and it has its statements.
pub record MayRun (gives : Answers) (script : Sessions) (board : BoardState)
    (member : Member) : Type 0 where
  pub start : MayStart script
  pub sound : AreSound gives script
  pub founded : board.founded ≡ desks_of script.texts script.quantum script.turns
  pub least : 1 ≤ member.session
  pub most : member.session ≤ length script.texts
  pub pass_is : member.pass ≡ new_pass board member.session
  pub first : IsFirst (world_of (new_pass board member.session))
  pub statements_are : member.statements
      ≡ Some (slice_index_or script.texts (member.session - 1) [])
  pub waits : member.ended ≡ false

-- The pass is of the same session. Where it has ended, the session has closed.
pub record HasRun (gives : Answers) (script : Sessions) (board : BoardState)
    (before after : Member) : Type 0 where
  pub session : after.pass.session ≡ before.pass.session
  pub ended : IsTrue after.ended → HasEnded gives script board after.pass
