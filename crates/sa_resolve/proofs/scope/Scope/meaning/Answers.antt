use Rattle.std.proofs.Common.{ℕ, List, take, ap, ◌∙◌}
use Rattle.sa_resolve.specs.Sight.{qualified}
use Rattle.sa_resolve.specs.Tables.{sources_of}
use Rattle.sa_resolve.proofs.names.Standing.{qualified_stands}
use Rattle.sa_resolve.proofs.scope.Scope.meaning.Goals as goal

pub returns-in_ok-found-in-Some : goal.returns-in_ok-found-in-Some
returns-in_ok-found-in-Some c =
    λ tables scope listed place sees. qualified_stands tables scope listed c.args.self.now place sees c.args.table.now c.in-Some.alias c.args.name.now
    c.in_ok-found-in-Some.found c.column_meaning.result c.in-Some.is
    (λ tables from sight few. c.in_ok-found-in-Some.ensures tables from sight few
    ∙ ap (λ (alias : List ℕ). qualified tables (take c.args.self.now.count (sources_of tables from)) alias c.as_str-in-Some-2.result.now) c.as_str-in-Some.ensures
    ∙ ap (λ (name : List ℕ). qualified tables (take c.args.self.now.count (sources_of tables from)) c.in-Some.alias name) c.as_str-in-Some-2.ensures)
    (c.column_meaning.ensures tables scope listed c.args.self.now.sight.now place)
