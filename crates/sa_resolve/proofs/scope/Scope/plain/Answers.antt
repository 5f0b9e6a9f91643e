use Rattle.sa_resolve.proofs.names.Standing.{first_stands, last_stands, never_stands}
use Rattle.sa_resolve.proofs.scope.Scope.plain.Goals as goal

pub returns-in-Never : goal.returns-in-Never
returns-in-Never c =
    λ tables scope listed place sees. never_stands tables scope listed c.args.self.now place sees c.args.name.now c.plain-found.result c.column_meaning.result
    c.in-Never.is c.plain-found.ensures (c.column_meaning.ensures tables scope listed c.args.self.now.sight.now place)

pub returns-in-First : goal.returns-in-First
returns-in-First c =
    λ tables scope listed place sees. first_stands tables scope listed c.args.self.now place sees c.args.name.now c.plain-found.result c.in-First.aliases c.get.result c.alias_first.result
    c.in-First.is c.plain-found.ensures c.get.ensures (c.alias_first.ensures tables scope listed c.args.self.now.sight.now place)

pub returns-in-Last : goal.returns-in-Last
returns-in-Last c =
    λ tables scope listed place sees. last_stands tables scope listed c.args.self.now place sees c.args.name.now c.plain-found.result c.in-Last.aliases c.get-in-Last.result c.alias_last.result
    c.in-Last.is c.plain-found.ensures c.get-in-Last.ensures (c.alias_last.ensures tables scope listed c.args.self.now.sight.now place)
