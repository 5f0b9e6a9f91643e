-- The passes of a board, before the first turn of its sessions, and when all have ended.
use Rattle.std.proofs.Common.{◌≡◌, ℕ, ◌-◌, ◌≤◌, List, length, map, All, slice_index_or, sym, subst, ap, ◌∙◌, arith}
use Rattle.std.specs.List.{range_with_len}
use Rattle.std.proofs.lemmas.List.Elements.{All-weaker}
use Rattle.std.proofs.lemmas.List.FromFn.{get_or-map-range_with_len, length-map-range_with_len}
use Rattle.sa_desk.specs.Legal.{Sessions}
use Rattle.sa_desk.specs.World.{IsFirst}
use Rattle.sa_desk.specs.program.Prepares.{Answers}
use Rattle.sa_board.specs.Board.{BoardState, new_pass, new_passes, AreAll}
use Rattle.sa_board.specs.Pass.{PassState, world_of}
use Rattle.sa_step.specs.Starts.{desks_of}
use Rattle.sa_run.specs.inner.Along.{HasEnded}
use Rattle.sa_run.proofs.Begins.{founded_count}

-- In the world of each new pass nothing is made, seen or counted.
pub new_is_first : (script : Sessions) (board : BoardState) → board.founded ≡ desks_of script.texts script.quantum script.turns → (passes : List PassState) → passes ≡ new_passes board
    → All (λ (pass : PassState). IsFirst (world_of pass)) passes → (session : ℕ) → 1 ≤ session → session ≤ length script.texts → IsFirst (world_of (new_pass board session))
new_is_first script board founded passes are first session least most =
    let count = founded_count script board.founded founded in
    let many : length passes ≡ length board.founded = ap length are ∙ length-map-range_with_len (new_pass board) 1 (length board.founded) in
    let here : slice_index_or passes (session - 1) (new_pass board 0) ≡ new_pass board session =
    ap (λ (passes : List PassState). slice_index_or passes (session - 1) (new_pass board 0)) are
    ∙ get_or-map-range_with_len (new_pass board) 1 (length board.founded) (session - 1) session (new_pass board 0) (omega (arith, least, most, count)) (omega (arith, least)) in
    subst (λ (pass : PassState). IsFirst (world_of pass)) here (first (session - 1) (new_pass board 0) (omega (arith, least, most, count, many)))

-- Those that have all ended are all the passes of the board.
pub ended_are_all : (gives : Answers) (script : Sessions) (board : BoardState) (passes : List PassState) → length board.founded ≡ length script.texts
    → map (λ (pass : PassState). pass.session) passes ≡ range_with_len 1 (length script.texts) → All (HasEnded gives script board) passes → AreAll board passes
ended_are_all gives script board passes count sessions ended = record {
  sessions = sessions ∙ ap (range_with_len 1) (sym count);
  tables = All-weaker (HasEnded gives script board) (λ (pass : PassState). pass.table ≡ board.table) (λ pass is. is.along.table) passes ended;
  idle = All-weaker (HasEnded gives script board) (λ (pass : PassState). pass.out ≡ 0) (λ pass is. is.along.idle) passes ended;
}
