use Rattle.std.proofs.Common.{sym, ◌∙◌}
use Rattle.sa_worker.specs.inner.Fields.{view_of}
use Rattle.sa_worker.specs.declared.stage.Stage.TheVariants.{Prepares, Steps}
use Rattle.sa_worker.proofs.Worked.{works_at}
use Rattle.sa_worker.proofs.moves.work_on.Goals as goal

pub returns-in-Prepares-clause-works : goal.returns-in-Prepares-clause-works
returns-in-Prepares-clause-works g c =
    works_at (g.P.Preparer.answers c.args.prepare.now) c.args.session.now (view_of c.prepare_next.new.session) Prepares (sym c.in-Prepares.is ∙ c.replace.ensures.value) c.prepare_next.ensures.works

pub returns-in-Steps-clause-works : goal.returns-in-Steps-clause-works
returns-in-Steps-clause-works g c =
    works_at (g.P.Preparer.answers c.args.prepare.now) c.args.session.now (view_of c.advance.new.session) (Steps c.in-Steps.run' c.in-Steps.goal c.in-Steps.made) (sym c.in-Steps.is ∙ c.replace.ensures.value) c.advance.ensures.makes
