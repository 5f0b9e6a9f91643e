use Rattle.std.proofs.Common.{◌≡◌, ℕ, Bool, ◌++◌, length, option_map, if◌then◌else◌, subst, ap, ◌∙◌, arith}
use Rattle.sa_desk.specs.declared.desk.Desk.TheInside.{Inside}
use Rattle.sa_desk.specs.declared.outcome.Outcome.TheVariants.{Interrupted}
use Rattle.sa_desk.specs.declared.phase.Phase.TheVariants.{Idle}
use Rattle.sa_desk.specs.Contents.{phase, later}
use Rattle.sa_desk.specs.inner.Desk.{contents_of}
use Rattle.sa_desk.specs.inner.Parts.{steps_in}
use Rattle.sa_desk.specs.Serving.{report_of, is_killed}
use Rattle.sa_desk.specs.call.End.{run_of, outcome_of, end_answer, end_entries, after_end}
use Rattle.sa_desk.proofs.Room.{answers_fit}
use Rattle.sa_desk.proofs.step.End.{EndsWith-may, kill_stands-ready, end-fits, served-given, answered-given, push-fits, end-grown, end-ready, end-contents}
use Rattle.sa_desk.proofs.desk.Desk.end.Given as Given
use Rattle.sa_desk.proofs.desk.Desk.end.Goals as goal

pub serve_last-requires-clause-journal : goal.serve_last-requires-clause-journal
serve_last-requires-clause-journal g c =
    let progress = g.R.Running.progress in
    let may = EndsWith-may progress c.self.inside c.args.self.now c.args.stamp c.args.statement c.args.finish c.self.view_is c.requires.end in
    let fits = end-fits c.self.inside c.args.stamp c.args.statement (run_of progress c.args.finish) (outcome_of progress c.args.finish) c.self.invariant may in
    rw c.deref.ensures.0 (omega (arith, fits))

pub serve_last-requires-clause-replies : goal.serve_last-requires-clause-replies
serve_last-requires-clause-replies g c = rw c.deref.ensures.0 (answers_fit c.self.inside c.self.invariant)

pub push_entry-requires : goal.push_entry-requires
push_entry-requires g c =
    let progress = g.R.Running.progress in
    let run = run_of progress c.args.finish in
    let given = outcome_of progress c.args.finish in
    let may = EndsWith-may progress c.self.inside c.args.self.now c.args.stamp c.args.statement c.args.finish c.self.view_is c.requires.end in
    let first : Inside = record c.self.inside { journal = c.serve_last.new.journal } in
    push-fits c.self.inside c.args.stamp c.args.statement run given c.self.invariant may first
    (served-given c.self.inside c.args.stamp c.args.statement run given c.self.invariant may first c.begin_in.ensures (c.as_ref.ensures.value ∙ c.last_report-last.ensures) c.deref.ensures.0 c.serve_last.ensures.journal)
    c.serve_last.ensures.capacity

-- with the End the journal has all entries
journal-grown : (g : Given.Over) (c : goal.After-ended g) → c.push_entry.new.journal.items ≡ c.self.inside.journal.items ++ end_entries (contents_of c.self.inside) c.args.stamp c.args.statement (run_of g.R.Running.progress c.args.finish) (outcome_of g.R.Running.progress c.args.finish)
journal-grown g c =
    let progress = g.R.Running.progress in
    let run = run_of progress c.args.finish in
    let given = outcome_of progress c.args.finish in
    let may = EndsWith-may progress c.self.inside c.args.self.now c.args.stamp c.args.statement c.args.finish c.self.view_is c.requires.end in
    let first : Inside = record c.self.inside { journal = c.serve_last.new.journal } in
    let new : Inside = record c.self.inside { journal = c.push_entry.new.journal } in
    let killed = c.kill_stands-killed.ensures ∙ kill_stands-ready c.self.inside c.self.invariant in
    let how : c.ended_with.result ≡ (if is_killed (phase (contents_of c.self.inside)) then Interrupted else given) = c.ended_with.ensures ∙ ap (λ (stands : Bool). if stands then Interrupted else given) killed in
    let count : c.later-stamp.result ≡ later (length c.self.inside.queue.items) c.args.stamp = c.later-stamp.ensures ∙ ap (λ (count : ℕ). later count c.args.stamp) c.len.ensures.value in
    let steps : c.last_steps.result ≡ steps_in (option_map report_of run) = c.last_steps.ensures ∙ ap steps_in (c.as_ref-2.ensures.value ∙ c.last_report-last.ensures) in
    end-grown c.self.inside c.args.stamp c.args.statement run given c.self.invariant may first new c.later-stamp.result c.ended_with.result c.last_steps.result
    (served-given c.self.inside c.args.stamp c.args.statement run given c.self.invariant may first c.begin_in.ensures (c.as_ref.ensures.value ∙ c.last_report-last.ensures) c.deref.ensures.0 c.serve_last.ensures.journal)
    c.push_entry.ensures.entry count how steps

pub invariant_of-self : goal.invariant_of-self
invariant_of-self g c =
    let progress = g.R.Running.progress in
    let run = run_of progress c.args.finish in
    let given = outcome_of progress c.args.finish in
    let may = EndsWith-may progress c.self.inside c.args.self.now c.args.stamp c.args.statement c.args.finish c.self.view_is c.requires.end in
    let new : Inside = record c.self.inside { journal = c.push_entry.new.journal; queue = c.clear.new.self; replies = c.serve_last.new.replies } in
    end-ready c.self.inside c.args.stamp c.args.statement run given c.self.invariant may new (journal-grown g c) (c.push_entry.ensures.capacity ∙ c.serve_last.ensures.capacity) c.clear.ensures
    (answered-given c.self.inside c.args.stamp c.args.statement run given c.self.invariant may new c.begin_in.ensures (c.as_ref.ensures.value ∙ c.last_report-last.ensures) c.deref.ensures.0 c.serve_last.ensures.replies)

pub returns-clause-answer : goal.returns-clause-answer
returns-clause-answer g c =
    let stands = kill_stands-ready c.self.inside c.self.invariant in
    c.ended.ensures ∙ ap end_answer (c.kill_stands-killed.ensures ∙ stands ∙ ap (λ desk. is_killed (phase desk)) c.self.view_is)

pub returns-clause-desk : goal.returns-clause-desk
returns-clause-desk g c =
    let progress = g.R.Running.progress in
    let run = run_of progress c.args.finish in
    let given = outcome_of progress c.args.finish in
    let may = EndsWith-may progress c.self.inside c.args.self.now c.args.stamp c.args.statement c.args.finish c.self.view_is c.requires.end in
    let new : Inside = record c.self.inside { journal = c.push_entry.new.journal; phase = Idle; published = 0; queue = c.clear.new.self; replies = c.serve_last.new.replies } in
    subst (λ desk. contents_of new ≡ after_end desk c.args.stamp c.args.statement run given) c.self.view_is
    (end-contents c.self.inside c.args.stamp c.args.statement run given c.self.invariant may new (journal-grown g c))

pub returns-clause-sound : goal.returns-clause-sound
returns-clause-sound g c = (invariant_of-self g c).sound
