use mir.Syntax.{w64}
use mir.Val.{SFits}
use Rattle.std.proofs.Common.{rules, sym, ap, ◌∙◌}
use Rattle.sa_cond.specs.Interval.{interval_of, kind_of_cell}
use Rattle.sa_cond.proofs.EndsLemmas.{of_small}
use Rattle.sa_cond.proofs.ends.Ends.of_cell.Goals as goal

pub returns-in-Number : goal.returns-in-Number
returns-in-Number c =
    let least : SFits w64 c.in-Number.least = search rules in
    let greatest : SFits w64 c.in-Number.greatest = search rules in
    of_small c.in-Number.least c.in-Number.greatest least greatest ∙ sym (ap (λ kind. interval_of (kind_of_cell kind)) c.in-Number.is)
