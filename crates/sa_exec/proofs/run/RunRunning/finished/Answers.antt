use Rattle.sa_exec.proofs.IsAtLemmas.{done-iff}
use Rattle.sa_exec.proofs.run.RunRunning.finished.Goals as goal

pub returns : goal.returns
returns c =
    let run = c.self.inside in
    let iff = done-iff run.tables run.plan run.steps run.level run.rows c.self.invariant.at in
    rw (← c.self.view_is) (λ done. iff.0 (c.is_done.ensures.0 done), λ finished. c.is_done.ensures.1 (iff.1 finished))
