use Rattle.std.proofs.Common.{◌≡◌, List, [], ◌∷◌, ◌++◌, length, ap, ◌∙◌}
use Rattle.sa_count.specs.declared.counters.Counters.{Counters}
use Rattle.sa_count.specs.declared.report.Report.{Report}
use Rattle.sa_exec.proofs.IsAtLemmas.{counters-is, sent-is}
use Rattle.sa_exec.proofs.run.RunRunning.report.Goals as goal

pub returns-clause-counts : goal.returns-clause-counts
returns-clause-counts c =
    let run = c.self.inside in
    let counters = counters-is run.tables run.plan run.steps run.level run.rows c.self.invariant.at c.self.invariant.runnable in
    let sent = sent-is run.tables run.plan run.steps run.level run.rows c.self.invariant.at in
    let pushed : c.push.new.self.items ≡ run.level.counters ∷ [] =
    c.push.ensures.items ∙ ap (λ front. front ++ run.level.counters ∷ []) c.new-tables.ensures in
    let report : List Counters → Report = λ made.
    record { statement = run.statement; steps = run.steps; sent = length run.rows; tables = record { items = made } } in
    rw (← c.self.view_is, counters, sent, c.len.ensures) (ap report pushed)
