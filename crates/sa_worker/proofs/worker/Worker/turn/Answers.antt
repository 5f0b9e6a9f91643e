use Rattle.sa_worker.proofs.Called.{next_called, may_call, keeps_called, follows_called}
use Rattle.sa_worker.proofs.worker.Worker.turn.Goals as goal

pub call-requires-clause-may : goal.call-requires-clause-may
call-requires-clause-may g c =
    may_call _ c.self.inside.session _ _ _ c.self.view_is c.replace-stage.ensures.value c.self.invariant c.requires.active c.requires.allowed c.requires.keeps c.requires.met

pub returns-clause-next : goal.returns-clause-next
returns-clause-next g c =
    next_called (g.D.Desks.world c.args.desks.now) c.self.inside.session c.call.new.session c.args.self.now c.replace-stage.result c.replace-stage.new.dest c.self.view_is c.replace-stage.ensures.value c.requires.active c.call.ensures.called.next

pub returns-clause-keeps : goal.returns-clause-keeps
returns-clause-keeps g c =
    keeps_called _ _ c.self.inside.session _ _ _ _ c.self.view_is c.replace-stage.ensures.value c.requires.active c.requires.keeps c.call.ensures.called

pub returns-clause-follows : goal.returns-clause-follows
returns-clause-follows g c =
    follows_called _ _ c.self.inside.session _ _ _ _ c.self.view_is c.replace-stage.ensures.value c.requires.active c.requires.keeps c.call.ensures.called
