use Rattle.std.proofs.Common.{length, All, sym, subst, ap, ◌∙◌}
use Rattle.sa_desk.specs.Legal.{Sessions, IsLegal}
use Rattle.sa_step.specs.Remaining.{IsSession}
use Rattle.sa_step.specs.Schedule.{slots, InSchedule}
use Rattle.sa_step.specs.Course.{InCourse}
use Rattle.sa_step.specs.inner.Timely.{IsTimely, AreUnseen, AreUntaken, AreInCourse}
use Rattle.sa_step.proofs.Courses.{all_in_course}
use Rattle.sa_step.proofs.Ordering.{on_time_first, timely_ordered}
use Rattle.sa_step.proofs.Remaining.{all_legal}
use Rattle.sa_step.proofs.step.step_sessions.Goals as goal

pub take_schedule-requires-clause-there : goal.take_schedule-requires-clause-there
take_schedule-requires-clause-there g c =
    let count = c.in_ok-sessions.ensures.running.workers ∙ ap (λ (script : Sessions). length script.texts) c.in_ok-sessions.ensures.script in
    subst (λ count. All (IsSession count) c.args.schedule.now) (sym count) c.requires.schedule

pub returns : goal.returns
returns g c =
    let gives = g.P.Preparer.answers c.args.prepare.now in
    let all = c.take_rounds.new.sessions in
    let legal = all_legal gives all c.finish.ensures.plain c.take_rounds.ensures.running c.take_rounds.ensures.finished in
    let script = c.take_rounds.ensures.script ∙ c.take_schedule.ensures.script ∙ c.in_ok-sessions.ensures.script in
    let first = c.in_ok-sessions.sessions in
    let started = on_time_first gives first (c.in_ok-sessions.ensures.first) c.in_ok-sessions.ensures.empty c.in_ok-sessions.ensures.running c.args.schedule.now in
    let times = slots first.script c.args.schedule.now in
    let ends = c.take_rounds.ensures.timed times (c.take_schedule.ensures.timed times started) in
    let same = c.take_rounds.ensures.script ∙ c.take_schedule.ensures.script in
    let ordered = timely_ordered gives all c.take_rounds.ensures.running c.args.schedule.now ends.0
    (subst (λ script. IsTimely (slots script c.args.schedule.now) ends.0 all) (sym same) ends.1.timely)
    (subst (λ script. AreUnseen (slots script c.args.schedule.now) all) (sym same) ends.1.unseen)
    (subst (λ script. AreUntaken (slots script c.args.schedule.now) all) (sym same) ends.1.untaken) in
    let coursed = all_in_course gives all c.finish.ensures.plain c.take_rounds.ensures.running c.take_rounds.ensures.finished c.args.schedule.now ends.0
    (subst (λ script. AreInCourse gives (slots script c.args.schedule.now) ends.0 all) (sym same) ends.1.in_course) in
    record {
      legal = subst (λ script. IsLegal gives script c.finish.result) script (subst (IsLegal gives all.script) (sym c.finish.ensures.journals) legal);
      in_course = subst (λ script. InCourse gives script c.args.schedule.now c.finish.result) script (subst (InCourse gives all.script c.args.schedule.now) (sym c.finish.ensures.journals) coursed);
      in_schedule = subst (λ script. InSchedule script c.args.schedule.now c.finish.result) script (subst (InSchedule all.script c.args.schedule.now) (sym c.finish.ensures.journals) ordered);
    }
