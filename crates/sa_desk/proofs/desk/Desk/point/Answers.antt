use Rattle.std.proofs.Common.{ℕ, ◌≡◌, List, ◌++◌, sym, subst, ap, ◌∙◌}
use Rattle.sa_count.specs.declared.report.Report.{Report}
use Rattle.sa_desk.specs.declared.desk.Desk.TheInside.{Inside}
use Rattle.sa_desk.specs.declared.request.Request.{Request}
use Rattle.sa_desk.specs.inner.Desk.{contents_of}
use Rattle.sa_desk.specs.inner.Parts.{answers_with, served_from, begin_in}
use Rattle.sa_desk.specs.Serving.{report_of}
use Rattle.sa_desk.specs.call.Point.{MayPoint, after_point}
use Rattle.sa_desk.proofs.Room.{answers_fit}
use Rattle.sa_desk.proofs.step.Point.{point-fits, point-ready, point-contents}
use Rattle.sa_desk.proofs.desk.Desk.point.Given as Given
use Rattle.sa_desk.proofs.desk.Desk.point.Goals as goal

pub serve-requires-clause-journal : goal.serve-requires-clause-journal
serve-requires-clause-journal g c =
    let run = g.R.Running.progress c.args.run.now in
    let may = subst (λ desk. MayPoint desk c.args.stamp run) (sym c.self.view_is) c.requires.point in
    rw c.deref.ensures.0 (point-fits c.self.inside c.args.stamp run c.self.invariant may)

pub serve-requires-clause-replies : goal.serve-requires-clause-replies
serve-requires-clause-replies g c = rw c.deref.ensures.0 (answers_fit c.self.inside c.self.invariant)

-- what the loop puts into the journal and into the answers, by the run's own report
journal-grown : (g : Given.Over) (c : goal.After-seen g) → c.serve.new.journal.items ≡ c.self.inside.journal.items ++ served_from c.self.inside.number c.args.stamp (report_of (g.R.Running.progress c.args.run.now)) c.self.inside.queue.items
journal-grown g c =
    c.serve.ensures.journal ∙ ap (λ (report : Report). c.self.inside.journal.items ++ served_from c.self.inside.number c.args.stamp report c.deref.result.now) c.report-report.ensures.counts
    ∙ ap (λ (queue : List Request). c.self.inside.journal.items ++ served_from c.self.inside.number c.args.stamp (report_of (g.R.Running.progress c.args.run.now)) queue) c.deref.ensures.0

replies-grown : (g : Given.Over) (c : goal.After-seen g) → c.serve.new.replies.items ≡ c.self.inside.replies.items ++ answers_with (report_of (g.R.Running.progress c.args.run.now)) (begin_in c.self.inside.phase) c.self.inside.queue.items
replies-grown g c =
    c.serve.ensures.replies ∙ ap (λ (report : Report). c.self.inside.replies.items ++ answers_with report c.begin_in.result c.deref.result.now) c.report-report.ensures.counts
    ∙ ap (λ (begin : ℕ). c.self.inside.replies.items ++ answers_with (report_of (g.R.Running.progress c.args.run.now)) begin c.deref.result.now) c.begin_in.ensures
    ∙ ap (λ (queue : List Request). c.self.inside.replies.items ++ answers_with (report_of (g.R.Running.progress c.args.run.now)) (begin_in c.self.inside.phase) queue) c.deref.ensures.0

steps-reported : (g : Given.Over) (c : goal.After-seen g) → c.report-report.result.steps ≡ (g.R.Running.progress c.args.run.now).steps
steps-reported g c = ap (λ (report : Report). report.steps) c.report-report.ensures.counts

pub invariant_of-self : goal.invariant_of-self
invariant_of-self g c =
    let run = g.R.Running.progress c.args.run.now in
    let may = subst (λ desk. MayPoint desk c.args.stamp run) (sym c.self.view_is) c.requires.point in
    point-ready c.self.inside c.args.stamp run c.self.invariant may
    (record c.self.inside { journal = c.serve.new.journal; published = c.report-report.result.steps; queue = c.clear.new.self; replies = c.serve.new.replies })
    c.report-report.ensures.within (journal-grown g c) c.serve.ensures.capacity (steps-reported g c) c.clear.ensures (replies-grown g c)

pub returns-clause-desk : goal.returns-clause-desk
returns-clause-desk g c =
    let run = g.R.Running.progress c.args.run.now in
    let may = subst (λ desk. MayPoint desk c.args.stamp run) (sym c.self.view_is) c.requires.point in
    let new : Inside = record c.self.inside { journal = c.serve.new.journal; published = c.report-report.result.steps; queue = c.clear.new.self; replies = c.serve.new.replies } in
    subst (λ desk. contents_of new ≡ after_point desk c.args.stamp run) c.self.view_is
    (point-contents c.self.inside c.args.stamp run c.self.invariant may new (journal-grown g c) (steps-reported g c))

pub returns-clause-sound : goal.returns-clause-sound
returns-clause-sound g c = (invariant_of-self g c).sound
