use Rattle.sa_resolve.proofs.walk.Aliases.{alias-answer}
use Rattle.sa_resolve.proofs.walk.Standing.{ok_as}
use Rattle.sa_resolve.proofs.build.Builder.alias.Goals as goal

pub returns-in-Answer : goal.returns-in-Answer
returns-in-Answer c = λ scope listed item alias at.
    ok_as c.item.result _ _
    (alias-answer scope listed c.args.alias.now item alias c.args.self.now.stage _ _ c.in-Answer.is at)
    c.item.ensures
