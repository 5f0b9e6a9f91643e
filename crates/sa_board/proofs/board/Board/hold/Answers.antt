use Rattle.std.proofs.Common.{◌≡◌, ℕ, true, ap, subst₂}
use Rattle.sa_desk.specs.World.{Meets}
use Rattle.sa_board.specs.Pass.{PassState, world_of}
use Rattle.sa_board.proofs.Calls.{Meets-out, may-out}
use Rattle.sa_board.proofs.board.Board.hold.Goals as goal

pub returns-clause-meets : goal.returns-clause-meets
returns-clause-meets g c =
    let taken = c.take_out.ensures.taken in
    let pass = c.take_out.new.self in
    subst₂ (λ (desk session : ℕ). Meets (world_of pass) desk session)
    (ap (λ (state : PassState). state.out) taken.later_is)
    (ap (λ (state : PassState). state.session) taken.later_is)
    (Meets-out pass c.take_out.ensures.out (ap (λ (state : PassState). state.called) taken.later_is))

pub returns-clause-allowed : goal.returns-clause-allowed
returns-clause-allowed g c =
    let taken = c.take_out.ensures.taken in
    let pass = c.take_out.new.self in
    subst₂ (λ (desk session : ℕ). (world_of pass).may_call desk session ≡ true)
    (ap (λ (state : PassState). state.out) taken.later_is)
    (ap (λ (state : PassState). state.session) taken.later_is)
    (may-out pass c.take_out.ensures.out.least (ap (λ (state : PassState). state.called) taken.later_is))
