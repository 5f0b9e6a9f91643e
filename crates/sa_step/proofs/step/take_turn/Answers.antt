use Rattle.std.proofs.Common.{◌≡◌, true}
use Rattle.sa_step.proofs.Remaining.{fewer_remain}
use Rattle.sa_step.proofs.step.take_turn.Goals as goal

pub returns-clause-some : goal.returns-clause-some
returns-clause-some g c taken =
    fewer_remain (g.P.Preparer.answers c.args.prepare.now) c.args.sessions.now c.turn-turned.new.self c.args.session c.requires.least c.requires.most c.requires.running
    c.turn-turned.ensures.running c.turn-turned.ensures.script
    (λ is. let told : c.is_done.result ≡ true = c.is_done.ensures.1 is in let other = c.if-is_done.false in cc)
    c.turn-turned.ensures.others c.turn-turned.ensures.turns
