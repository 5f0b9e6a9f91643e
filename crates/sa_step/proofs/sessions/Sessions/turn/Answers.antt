use Rattle.std.proofs.Common.{ap, ◌∙◌, ◌-◌, length, arith, get_or-set_same}
use Rattle.sa_worker.specs.View.{View}
use Rattle.sa_step.specs.Sessions.{AllSessions}
use Rattle.sa_step.proofs.Driven.{nobody}
use Rattle.sa_step.proofs.Driving.{took, turned_later, keeps_later, allowed_later, met_later, running_later}
use Rattle.sa_step.proofs.sessions.Sessions.turn.Goals as goal

pub turn-requires-clause-keeps : goal.turn-requires-clause-keeps
turn-requires-clause-keeps g c =
    keeps_later (g.P.Preparer.answers c.args.prepare.now) _ c.args.self.now c.self.view_is c.requires.running c.args.session c.requires.least c.requires.most
    c.index_mut-worker.result.now c.work-desk.new.self c.index_mut-worker.ensures.value c.work-desk.ensures.works c.work-desk.ensures.keeps

pub turn-requires-clause-allowed : goal.turn-requires-clause-allowed
turn-requires-clause-allowed g c =
    allowed_later (g.P.Preparer.answers c.args.prepare.now) _ c.args.self.now c.self.view_is c.requires.running c.args.session c.requires.least c.requires.most
    c.index_mut-worker.result.now c.work-desk.new.self c.index_mut-worker.ensures.value c.work-desk.ensures.works c.work-desk.ensures.keeps c.len-desks.ensures.plain

pub turn-requires-clause-met : goal.turn-requires-clause-met
turn-requires-clause-met g c =
    met_later (g.P.Preparer.answers c.args.prepare.now) _ c.args.self.now c.self.view_is c.requires.running c.args.session c.requires.least c.requires.most
    c.index_mut-worker.result.now c.work-desk.new.self c.index_mut-worker.ensures.value c.work-desk.ensures.works c.work-desk.ensures.keeps c.len-desks.ensures.plain

pub returns-clause-running : goal.returns-clause-running
returns-clause-running g c =
    running_later (g.P.Preparer.answers c.args.prepare.now) _ c.args.self.now c.self.view_is c.requires.running c.args.session c.requires.least c.requires.most
    c.index_mut-worker.result.now c.work-desk.new.self c.index_mut-worker.ensures.value c.work-desk.ensures.works c.work-desk.ensures.keeps
    c.requires.undone c.turn.new.desks c.turn.new.self c.turn.ensures.same c.turn.ensures.call c.turn.ensures.next

pub returns-clause-turns : goal.returns-clause-turns
returns-clause-turns g c =
    let least = c.requires.least in
    let most = c.requires.most in
    let count = ap (λ (all : AllSessions). length all.views) c.self.view_is in
    ap (λ (view : View). view.turn) (get_or-set_same _ (c.args.session - 1) c.turn.new.self nobody (omega (arith, least, most, count)))
    ∙ turned_later (g.P.Preparer.answers c.args.prepare.now) _ c.args.self.now c.self.view_is c.requires.running c.args.session c.requires.least c.requires.most
    c.index_mut-worker.result.now c.work-desk.new.self c.index_mut-worker.ensures.value c.work-desk.ensures.works c.work-desk.ensures.keeps
    c.requires.undone c.turn.new.self _ _ c.turn.ensures.next

pub returns-clause-taken : goal.returns-clause-taken
returns-clause-taken g c =
    took (g.P.Preparer.answers c.args.prepare.now) _ c.args.self.now c.self.view_is c.requires.running c.args.session c.requires.least c.requires.most
    c.index_mut-worker.result.now c.work-desk.new.self c.index_mut-worker.ensures.value c.work-desk.ensures.works c.work-desk.ensures.keeps
    c.requires.undone c.len-desks.ensures.plain c.turn.new.desks c.turn.new.self c.turn.ensures.same c.turn.ensures.call c.turn.ensures.next
