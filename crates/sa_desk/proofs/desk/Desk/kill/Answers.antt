use Rattle.std.proofs.Common.{◌≡◌, sym, subst, ap, ◌∙◌}
use Rattle.sa_desk.specs.declared.answer.Killed.TheVariants as answer
use Rattle.sa_desk.specs.Contents.{phase}
use Rattle.sa_desk.specs.inner.Desk.{contents_of}
use Rattle.sa_desk.specs.inner.Parts.{is_over}
use Rattle.sa_desk.specs.call.Kill.{MayKill, kill_answer}
use Rattle.sa_desk.proofs.Room.{entry_fits}
use Rattle.sa_desk.proofs.step.Kill.{answer-over, answer-on, kill-journal, over-ready, stands-ready}
use Rattle.sa_desk.proofs.desk.Desk.kill.Goals as goal

-- where the session is done
pub push_entry-requires : goal.push_entry-requires
push_entry-requires c =
    let may = subst (λ desk. MayKill desk c.args.stamp c.args.statement c.args.kind) (sym c.self.view_is) c.requires in
    let desk = contents_of c.self.inside in
    entry_fits c.self.inside _ c.self.invariant (kill-journal c.self.inside c.args.stamp c.args.statement c.args.kind c.self.invariant may)

pub invariant_of-self : goal.invariant_of-self
invariant_of-self c =
    let may = subst (λ desk. MayKill desk c.args.stamp c.args.statement c.args.kind) (sym c.self.view_is) c.requires in
    let desk = contents_of c.self.inside in
    let over : kill_answer (phase desk) ≡ answer.NoSuchThread = answer-over (phase desk) (ap is_over (sym c.self.invariant.phase_is) ∙ sym c.is_over.ensures ∙ c.if-is_over.true) in
    over-ready c.self.inside (record c.self.inside { journal = c.push_entry.new.journal }) c.args.stamp c.args.statement c.args.kind c.self.invariant may over c.push_entry.ensures.entry c.push_entry.ensures.capacity

pub returns-then-is_over-clause-sound : goal.returns-then-is_over-clause-sound
returns-then-is_over-clause-sound c = (invariant_of-self c).sound

-- where it isn't
pub push_entry-requires-2 : goal.push_entry-requires-2
push_entry-requires-2 c =
    let may = subst (λ desk. MayKill desk c.args.stamp c.args.statement c.args.kind) (sym c.self.view_is) c.requires in
    let desk = contents_of c.self.inside in
    entry_fits c.self.inside _ c.self.invariant (kill-journal c.self.inside c.args.stamp c.args.statement c.args.kind c.self.invariant may)

pub invariant_of-self-2 : goal.invariant_of-self-2
invariant_of-self-2 c =
    let may = subst (λ desk. MayKill desk c.args.stamp c.args.statement c.args.kind) (sym c.self.view_is) c.requires in
    let desk = contents_of c.self.inside in
    let on : kill_answer (phase desk) ≡ answer.Ok = answer-on (phase desk) (ap is_over (sym c.self.invariant.phase_is) ∙ sym c.is_over.ensures ∙ c.if-is_over.false) in
    stands-ready c.self.inside (record c.self.inside { journal = c.push_entry-2.new.journal; phase = c.killed_in-self-inside.result; doomed = c.doomed_by-self-inside.result }) c.args.stamp c.args.statement c.args.kind c.self.invariant may on
    c.push_entry-2.ensures.entry c.push_entry-2.ensures.capacity c.killed_in-self-inside.ensures c.doomed_by-self-inside.ensures

pub returns-clause-sound : goal.returns-clause-sound
returns-clause-sound c = (invariant_of-self-2 c).sound
