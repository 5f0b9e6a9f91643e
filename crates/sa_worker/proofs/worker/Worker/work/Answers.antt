use Rattle.sa_worker.proofs.Kept.{keeps_worked, follows_worked}
use Rattle.sa_worker.proofs.worker.Worker.work.Goals as goal

pub returns-clause-keeps : goal.returns-clause-keeps
returns-clause-keeps g c = keeps_worked _ _ _ _ c.self.view_is c.requires.sound c.work_on.ensures.works

pub returns-clause-follows : goal.returns-clause-follows
returns-clause-follows g c = follows_worked _ _ _ _ c.self.view_is c.work_on.ensures.works
