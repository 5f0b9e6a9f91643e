use Rattle.std.proofs.Common.{None, Some, ◌∙◌}
use Rattle.sa_resolve.proofs.names.Sights.{aliases-below}
use Rattle.sa_resolve.proofs.sight.Sight.source_named.Goals as goal

pub returns-in-None : goal.returns-in-None
returns-in-None c = λ tables from sight few. aliases-below tables from c.args.self.now sight c.args.count few c.args.alias.now None c.in-None.ensures.value

pub returns-in-Some : goal.returns-in-Some
returns-in-Some c =
    λ tables from sight few. c.below.ensures
    ∙ aliases-below tables from c.args.self.now sight c.args.count few c.args.alias.now (Some c.in-Some.number.now) c.in-Some.ensures.value
