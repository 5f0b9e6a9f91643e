use Rattle.std.proofs.Common.{refl}
use Rattle.sa_resolve.proofs.walk.Leaves.{looked-literal}
use Rattle.sa_resolve.proofs.look.literal.Goals as goal

pub returns : goal.returns
returns c = λ tables scope node is.
    looked-literal tables scope c.args.mentions.now
    (record c.args.mentions.now { literals = c.push.new.self }) c.value.result c.args.place
    refl refl c.in_ok-push.ensures.items node _ is c.value.ensures
