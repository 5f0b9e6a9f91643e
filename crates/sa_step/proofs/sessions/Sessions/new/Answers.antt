use Rattle.std.proofs.Common.{◌∙◌, ap}
use Rattle.std.specs.Arc.{arc_value}
use Rattle.sa_desk.specs.Legal.{Sessions}
use Rattle.sa_desk.specs.Plain.{Plain}
use Rattle.sa_step.specs.Starts.{desks_of}
use Rattle.sa_step.proofs.Starting.{started, starts_empty}
use Rattle.sa_step.proofs.sessions.Sessions.new.Goals as goal

pub returns-clause-running : goal.returns-clause-running
returns-clause-running g c =
    let script : Sessions = record { tables = arc_value c.args.tables; texts = c.args.statements.items; quantum = c.args.quantum; turns = c.args.turns } in
    started (g.P.Preparer.answers c.args.prepare.now) script c.requires.start c.requires.sound c.in_ok-desks.desks
    (ap (λ (plain : Plain). plain.desks) c.in_ok-desks.ensures.desks ∙ c.in_ok-new_desks.ensures.desks ∙ ap (λ texts. desks_of texts c.args.quantum c.args.turns) c.deref.ensures.value) c.in_ok-desks.ensures.first
    c.new-2.result c.of-texts.result.value.items c.in_ok-workers.workers.items c.new-2.ensures (ap (λ statements. statements.items) c.of-texts.ensures) c.in_ok-workers.ensures

pub returns-clause-empty : goal.returns-clause-empty
returns-clause-empty g c =
    starts_empty c.args.statements.items c.args.quantum c.args.turns _
    (ap (λ (plain : Plain). plain.desks) c.in_ok-desks.ensures.desks ∙ c.in_ok-new_desks.ensures.desks ∙ ap (λ texts. desks_of texts c.args.quantum c.args.turns) c.deref.ensures.value)
