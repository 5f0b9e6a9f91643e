use Rattle.std.proofs.Common.{◌∙◌, sym, subst, arith}
use Rattle.sa_meaning.specs.Progress.{IsFinished}
use Rattle.sa_meaning.proofs.OutputLemmas.{kept-all}
use Rattle.sa_exec.proofs.run.RunRunning.into_rows.Goals as goal

pub returns : goal.returns
returns c =
    let run = c.self.inside in
    let finished = subst IsFinished (sym c.self.view_is) c.requires in
    rw (← c.self.view_is) (c.self.invariant.at.kept_is ∙ kept-all run.plan run.tables run.steps (omega (arith, finished)))
