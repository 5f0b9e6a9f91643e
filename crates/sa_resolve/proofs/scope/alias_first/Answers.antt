use Rattle.std.proofs.Common.{subst}
use Rattle.sa_query.specs.declared.refusal.ResolveKind.TheVariants.{UnknownColumn}
use Rattle.sa_resolve.specs.Expression.{by_column}
use Rattle.sa_resolve.specs.Reading.{faulty_name}
use Rattle.sa_resolve.specs.inner.Indexed.{found_in}
use Rattle.sa_resolve.specs.inner.Meanings.{Stands}
use Rattle.sa_resolve.proofs.names.Standing.{alias_counts}
use Rattle.sa_resolve.proofs.scope.alias_first.Goals as goal

pub returns-in_default : goal.returns-in_default
returns-in_default c =
    λ tables scope listed sight place known kind meant. subst (Stands tables scope listed sight place c.alias_meaning.result)
    (alias_counts tables scope listed place (faulty_name UnknownColumn place) (by_column tables scope place (found_in c.args.column)) c.args.alias known c.in_default.not-Nothing meant)
    (c.alias_meaning.ensures tables scope listed sight place known meant)
