-- A session has come so far, also where it may have seen more of a desk.
use Rattle.std.proofs.Common.{List, sym, subst}
use Rattle.sa_desk.specs.declared.entry.Entry.{Entry}
use Rattle.sa_desk.specs.World.{World}
use Rattle.sa_desk.specs.program.Prepares.{Answers}
use Rattle.sa_board.specs.Pass.{KnowsStill}
use Rattle.sa_worker.specs.View.{View}
use Rattle.sa_worker.specs.Follows.{FollowsAt}
use Rattle.sa_worker.specs.Working.{IsWorking}
use Rattle.sa_run.proofs.Still.{Keeps-still}
use Rattle.sa_run.proofs.Growing.{Follows-more}

pub IsWorking-still : (gives : Answers) (world later : World) (view : View) → KnowsStill world later → IsWorking gives world view → IsWorking gives later view
IsWorking-still gives world later view still working =
    let session = view.given.session in
    record {
      keeps = Keeps-still world later view view.stage still working.keeps;
      answers = working.answers;
      follows =
          subst (λ (mine : List Entry). FollowsAt view view.stage (later.seen session) working.answers mine) (sym (still.mine session))
          (Follows-more view view.stage (world.seen session) working.answers (world.mine session) working.keeps.session working.follows (later.seen session) (λ desk is. still.seen session desk is.least));
      given = working.given;
    }
