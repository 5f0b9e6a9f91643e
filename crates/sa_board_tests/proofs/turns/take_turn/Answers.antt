use Rattle.std.proofs.Common.{rules, ◌≡◌, ℕ, sym, ap, subst, subst₂, ◌∙◌}
use Rattle.sa_desk.specs.World.{Meets}
use Rattle.sa_desk.specs.program.Course.{Given}
use Rattle.sa_board.specs.Pass.{PassState, world_of}
use Rattle.sa_worker.specs.View.{View}
use Rattle.sa_worker.proofs.working.Fixed.{given_works, given_next}
use Rattle.sa_board_tests.specs.Members.{IsMember}
use Rattle.sa_board_tests.proofs.Turned.{member_turned}
use Rattle.sa_board_tests.proofs.Still.{Keeps-still}
use Rattle.sa_board_tests.proofs.turns.take_turn.Goals as goal

pub turn-turned-requires-clause-keeps : goal.turn-turned-requires-clause-keeps
turn-turned-requires-clause-keeps g c =
    let ready = c.work-desk.new.self in
    let world = world_of c.args.pass.now in
    Keeps-still world (world_of c.hold-held.result.pass.now) ready ready.stage c.hold-held.ensures.still (c.work-desk.ensures.keeps world c.requires.member.keeps)

pub turn-turned-requires-clause-met : goal.turn-turned-requires-clause-met
turn-turned-requires-clause-met g c =
    let ready = c.work-desk.new.self in
    let given = given_works c.args.worker.now (g.P.Preparer.answers c.args.prepare.now) ready c.work-desk.ensures.works in
    subst₂ (λ (desk session : ℕ). Meets (world_of c.hold-held.result.pass.now) desk session) c.work-desk.ensures.desk
    (sym (ap (λ (given : Given). given.session) given ∙ c.requires.member.session)) c.hold-held.ensures.meets

pub returns-clause-member : goal.returns-clause-member
returns-clause-member g c =
    let gives = g.P.Preparer.answers c.args.prepare.now in
    let ready = c.work-desk.new.self in
    let next = c.turn-turned.new.self in
    let given = ap (λ (view : View). view.given) c.turn-turned.ensures.next ∙ given_next ready ready.stage _ _ ∙ given_works c.args.worker.now gives ready c.work-desk.ensures.works in
    subst (λ (pass : PassState). IsMember gives c.args.board.now pass next) (search rules)
    (member_turned gives c.args.board.now c.args.pass.now c.hold-held.result.pass.now c.turn-turned.new.desks.pass.now c.home.new.self.0 c.args.worker.now next c.work-desk.result c.requires.member c.hold-held.ensures.taken
    c.turn-turned.ensures.same.2 c.home.ensures.home c.home.ensures.still given c.turn-turned.ensures.keeps)
