use Rattle.std.proofs.Common.{sym, subst₂}
use Rattle.sa_board.specs.Pass.{PassState}
use Rattle.sa_worker.specs.View.{View}
use Rattle.sa_run.specs.inner.Along.{IsAlong}
use Rattle.sa_run.proofs.Begins.{session_begins}
use Rattle.sa_run.proofs.member.run_member.Goals as goal

pub run_session-requires : goal.run_session-requires
run_session-requires g c =
    let gives = g.P.Preparer.answers c.args.prepare.now in
    let script = c.args.script.now in
    let board = c.args.board.now in
    record {
      along = subst₂ (λ (pass : PassState) (view : View). IsAlong gives script board pass view) (sym c.requires.pass_is) (sym c.in-Ok.ensures)
          (session_begins gives script c.requires.start c.requires.sound board c.requires.founded c.args.member.now.session c.requires.least c.requires.most c.requires.first);
    }
