use Rattle.sa_simplify.specs.Simple.{simple}
use Rattle.sa_range.proofs.Lawful.{exactly_one}
use Rattle.sa_range.proofs.law.ranges_cover_once.Goals as goal

pub returns-clause-own : goal.returns-clause-own
returns-clause-own c = λ condition table columns choice told. exactly_one c.order_is_total.ensures condition table columns choice told

pub returns-clause-simplified : goal.returns-clause-simplified
returns-clause-simplified c = λ condition table columns choice told.
    exactly_one c.order_is_total.ensures (simple condition) table columns choice ((c.simple_is_true_alike.ensures choice condition).1 told)
