use Rattle.std.proofs.Common.{rules, ◌≤◌, length, sym, subst, subst₂}
use Rattle.sa_desk.specs.World.{Meets}
use Rattle.sa_board.specs.Pass.{PassState, world_of}
use Rattle.sa_run.specs.inner.Along.{IsAlong}
use Rattle.sa_run.proofs.Turned.{sound_along, desk_least, desk_most, keeps_held, own_ready, along_turned}
use Rattle.sa_run.proofs.turn.take_turn.Goals as goal

pub work-desk-requires-clause-sound : goal.work-desk-requires-clause-sound
work-desk-requires-clause-sound g c =
    sound_along (g.P.Preparer.answers c.args.prepare.now) c.args.script.now c.args.board.now c.args.pass.now c.args.worker.now c.requires.along

pub hold-held-requires-clause-least : goal.hold-held-requires-clause-least
hold-held-requires-clause-least g c =
    subst (λ desk. 1 ≤ desk) (sym c.work-desk.ensures.desk)
    (desk_least (g.P.Preparer.answers c.args.prepare.now) c.args.script.now c.args.board.now c.args.pass.now c.args.worker.now c.requires.along c.work-desk.new.self c.work-desk.ensures.works)

pub hold-held-requires-clause-most : goal.hold-held-requires-clause-most
hold-held-requires-clause-most g c =
    subst (λ desk. desk ≤ length c.args.board.now.founded) (sym c.work-desk.ensures.desk)
    (desk_most (g.P.Preparer.answers c.args.prepare.now) c.args.script.now c.args.board.now c.args.pass.now c.args.worker.now c.requires.along c.work-desk.new.self c.work-desk.ensures.works)

pub turn-turned-requires-clause-keeps : goal.turn-turned-requires-clause-keeps
turn-turned-requires-clause-keeps g c =
    keeps_held (g.P.Preparer.answers c.args.prepare.now) c.args.script.now c.args.board.now c.args.pass.now c.args.worker.now c.requires.along c.work-desk.new.self c.work-desk.ensures.works
    c.hold-held.result.pass.now c.hold-held.ensures.still

pub turn-turned-requires-clause-met : goal.turn-turned-requires-clause-met
turn-turned-requires-clause-met g c =
    let own = own_ready (g.P.Preparer.answers c.args.prepare.now) c.args.script.now c.args.board.now c.args.pass.now c.args.worker.now c.requires.along c.work-desk.new.self c.work-desk.ensures.works
    c.hold-held.result.pass.now c.hold-held.ensures.still in
    subst₂ (λ desk session. Meets (world_of c.hold-held.result.pass.now) desk session) c.work-desk.ensures.desk (sym own) c.hold-held.ensures.meets

pub returns-clause-along : goal.returns-clause-along
returns-clause-along g c =
    let gives = g.P.Preparer.answers c.args.prepare.now in
    subst (λ (pass : PassState). IsAlong gives c.args.script.now c.args.board.now pass c.turn-turned.new.self) (search rules)
    (along_turned gives c.args.script.now c.args.board.now c.args.pass.now c.args.worker.now c.requires.along c.work-desk.new.self c.work-desk.ensures.works
    c.hold-held.result.pass.now c.hold-held.ensures.still c.work-desk.result c.hold-held.ensures.taken c.turn-turned.new.desks.pass.now c.home.new.self.0 c.turn-turned.new.self
    (search rules) c.turn-turned.ensures.call c.turn-turned.ensures.next c.turn-turned.ensures.same.2 c.home.ensures.home c.home.ensures.still)
