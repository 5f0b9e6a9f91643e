use Rattle.std.proofs.Common.{subst}
use Rattle.sa_query.specs.declared.refusal.ResolveKind.TheVariants.{UnknownColumn}
use Rattle.sa_resolve.specs.Reading.{faulty_name}
use Rattle.sa_resolve.specs.inner.Indexed.{IsMeant}
use Rattle.sa_resolve.proofs.names.Standing.{item_stands}
use Rattle.sa_resolve.proofs.scope.alias_meaning.Goals as goal

pub returns-in-One : goal.returns-in-One
returns-in-One c =
    λ tables scope listed sight place known meant. item_stands tables scope listed sight place c.in-One.alias (faulty_name UnknownColumn place) known
    (subst (λ found. IsMeant listed found known) c.in-One.is meant)
