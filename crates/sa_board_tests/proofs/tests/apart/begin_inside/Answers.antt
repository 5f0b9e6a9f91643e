use Rattle.std.proofs.Common.{subst, arith}
use Rattle.sa_desk.specs.World.{Meets}
use Rattle.sa_board.specs.Pass.{PassState, KnowsStill, world_of}
use Rattle.sa_board_tests.proofs.Newcomers.{begins}
use Rattle.sa_board_tests.proofs.tests.apart.begin_inside.Goals as goal

pub begin-requires-clause-begin : goal.begin-requires-clause-begin
begin-requires-clause-begin g c =
    let board = c.args.board.now in
    let session = c.args.session in
    let later = world_of c.hold-held.result.pass.now in
    let still = subst (λ (pass : PassState). KnowsStill (world_of pass) later) c.requires.pass c.hold-held.ensures.still in
    let met = subst (λ (pass : PassState). Meets later session pass.session) c.requires.pass c.hold-held.ensures.meets in
    begins board 2 2 1 1 c.requires.board session later still met c.requires.least c.requires.most (omega arith) 1 1 c.from_string.result
