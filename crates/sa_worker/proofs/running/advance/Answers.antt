use Rattle.sa_worker.proofs.Worked.{makes_of}
use Rattle.sa_worker.proofs.running.advance.Goals as goal

pub returns-clause-makes : goal.returns-clause-makes
returns-clause-makes c =
    rw c.stage_after.ensures (makes_of _ c.args.run c.make_steps-pause.new.run c.args.goal c.args.made _ c.requires.holds.holds c.requires.goal c.make_steps-pause.ensures)
