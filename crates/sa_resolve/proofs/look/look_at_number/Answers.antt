use mir.Syntax.{w128}
use Rattle.std.proofs.Common.{refl, ap, ◌∙◌}
use Rattle.std.proofs.lemmas.Int.{to_z-of_z}
use Rattle.sa_resolve.proofs.walk.Leaves.{looked-Number, number_gist}
use Rattle.sa_resolve.proofs.look.look_at_number.Goals as goal

pub returns : goal.returns
returns c = λ tables scope.
    looked-Number tables scope c.args.mentions.now (record c.args.mentions.now { literals = c.push.new.self })
    c.number.result c.args.place
    refl refl c.in_ok-push.ensures.items c.args.number
    (c.number.ensures ∙ ap (number_gist c.args.place) (to_z-of_z w128 c.args.number c.ranges.number))
