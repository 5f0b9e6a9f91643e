use mir.Syntax.{w64}
use mir.Val.{SFits}
use Rattle.std.proofs.Common.{rules, sym, ap, ◌∙◌}
use Rattle.sa_cond.specs.Interval.{interval_of, kind_of_literal}
use Rattle.sa_cond.proofs.EndsLemmas.{of_small}
use Rattle.sa_cond.proofs.ends.Ends.of_literal.Goals as goal

pub returns-in-Int : goal.returns-in-Int
returns-in-Int c =
    let fits : SFits w64 c.in-Int.number = search rules in
    of_small c.in-Int.number c.in-Int.number fits fits ∙ sym (ap (λ value. interval_of (kind_of_literal value)) c.in-Int.is)
