use Rattle.std.proofs.Common.{subst}
use Rattle.sa_query.specs.declared.refusal.ResolveKind.TheVariants.{UnknownColumn}
use Rattle.sa_resolve.specs.Expression.{by_alias}
use Rattle.sa_resolve.specs.Reading.{faulty_name}
use Rattle.sa_resolve.specs.inner.Meanings.{Stands}
use Rattle.sa_resolve.proofs.names.Standing.{column_counts}
use Rattle.sa_resolve.proofs.scope.alias_last.Goals as goal

pub returns-in_default : goal.returns-in_default
returns-in_default c =
    λ tables scope listed sight place known kind meant. subst (Stands tables scope listed sight place c.column_meaning.result)
    (column_counts tables scope listed place (by_alias tables scope place (faulty_name UnknownColumn place) known) c.args.column c.in_default.not-Nothing)
    (c.column_meaning.ensures tables scope listed sight place kind)
