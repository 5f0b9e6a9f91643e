use Rattle.sa_worker.proofs.Called.{begun_tied}
use Rattle.sa_worker.proofs.ending.begin.Goals as goal

pub returns-in-Ok-clause-tied : goal.returns-in-Ok-clause-tied
returns-in-Ok-clause-tied g c =
    rw c.go.ensures (begun_tied _ c.args.opening.made.course c.requires.texts c.requires.opening.made.tied c.first_stage.ensures)
