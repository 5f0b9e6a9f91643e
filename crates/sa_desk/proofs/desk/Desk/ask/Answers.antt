use Rattle.std.proofs.Common.{◌≡◌, [], ◌∷◌, ◌++◌, sym, subst, ap, ◌∙◌, arith}
use Rattle.sa_desk.specs.Contents.{phase, entry_by}
use Rattle.sa_desk.specs.inner.Desk.{contents_of}
use Rattle.sa_desk.specs.inner.Parts.{answer_in}
use Rattle.sa_desk.specs.call.Ask.{MayAsk, ask_event, ask_answer}
use Rattle.sa_desk.proofs.Room.{entry_fits}
use Rattle.sa_desk.proofs.Seats.{request_fits}
use Rattle.sa_desk.proofs.step.Ask.{ask-journal, ask-ready, answer_in-held_phase}
use Rattle.sa_desk.proofs.desk.Desk.ask.Goals as goal

pub put_last-requires : goal.put_last-requires
put_last-requires c =
    let may = subst (λ desk. MayAsk desk c.args.stamp c.args.statement c.args.kind c.args.budget) (sym c.self.view_is) c.requires in
    let fits = request_fits (contents_of c.self.inside) c.args.stamp.actor c.self.invariant.sound (may.caller.least, may.caller.most) may.none in
    rw c.self.invariant.queue (omega (arith, fits, c.self.invariant.sound.sessions))

pub push_entry-requires : goal.push_entry-requires
push_entry-requires c =
    let may = subst (λ desk. MayAsk desk c.args.stamp c.args.statement c.args.kind c.args.budget) (sym c.self.view_is) c.requires in
    entry_fits c.self.inside _ c.self.invariant (ask-journal c.self.inside c.args.stamp c.args.statement c.args.kind c.args.budget c.self.invariant may)

pub invariant_of-self : goal.invariant_of-self
invariant_of-self c =
    let may = subst (λ desk. MayAsk desk c.args.stamp c.args.statement c.args.kind c.args.budget) (sym c.self.view_is) c.requires in
    let now = phase (contents_of c.self.inside) in
    let answer : c.answer_in-asked.result ≡ ask_answer now = c.answer_in-asked.ensures ∙ ap answer_in c.self.invariant.phase_is ∙ answer_in-held_phase now in
    let event = c.ask_event-event.ensures ∙ ap (λ asked. ask_event asked c.args.statement c.args.kind c.self.inside.published c.args.budget) answer in
    let journal = c.push_entry.ensures.entry ∙ ap (λ event. c.self.inside.journal.items ++ entry_by (contents_of c.self.inside) c.args.stamp event ∷ []) event in
    ask-ready c.self.inside (record c.self.inside { journal = c.push_entry.new.journal; queue = c.put_last.new.queue; polls = c.set_polls.new.polls }) c.args.stamp c.args.statement c.args.kind c.args.budget c.self.invariant may
    journal c.push_entry.ensures.capacity (rw (sym c.answer_in-asked.ensures) c.put_last.ensures) c.set_polls.ensures

pub returns-clause-sound : goal.returns-clause-sound
returns-clause-sound c = (invariant_of-self c).sound

pub returns-clause-answer : goal.returns-clause-answer
returns-clause-answer c =
    let now = phase (contents_of c.self.inside) in
    (c.answer_in-asked.ensures ∙ ap answer_in c.self.invariant.phase_is ∙ answer_in-held_phase now) ∙ ap (λ desk. ask_answer (phase desk)) c.self.view_is
