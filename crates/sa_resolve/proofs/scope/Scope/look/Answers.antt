use Rattle.std.proofs.Common.{refl}
use Rattle.sa_resolve.proofs.walk.Whole.{whole}
use Rattle.sa_resolve.proofs.scope.Scope.look.Goals as goal

pub returns : goal.returns
returns c = λ tables scope listed sees.
    whole c.new-mentions.result c.look_at.new.mentions _ _ (c.in_ok-facts.ensures tables scope listed sees)
    c.new-mentions.ensures.loose c.new-mentions.ensures.aggregates c.new-mentions.ensures.literals refl refl
    _ _ c.in_ok-append.ensures.items
