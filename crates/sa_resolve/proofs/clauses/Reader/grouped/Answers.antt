use Rattle.sa_resolve.specs.Clauses.{items}
use Rattle.sa_resolve.specs.Selected.{aliases_of}
use Rattle.sa_resolve.proofs.names.Seeing.{Sees-last}
use Rattle.std.proofs.Common.{refl}
use Rattle.sa_resolve.proofs.clauses.Reader.grouped.Goals as goal

pub returns-clause-sees : goal.returns-clause-sees
returns-clause-sees c = λ tables tree slots knows.
    Sees-last tables tree.from (items tables tree slots) slots (aliases_of (items tables tree slots)) _ c.args.self.now.aliases
    knows.sight knows.count refl knows.aliases
