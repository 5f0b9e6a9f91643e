use Rattle.sa_desk.proofs.laws.Shown.{plan_shown}
use Rattle.sa_desk.proofs.law.shown_plan_runs.Goals as goal

pub returns : goal.returns
returns c terms journal before rest entry run parts asker request report is = plan_shown terms journal before rest entry asker request report run parts is
