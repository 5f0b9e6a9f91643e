use Rattle.std.proofs.Common.{reverse}
use Rattle.sa_parser.proofs.Depths.{Nests-deeper}
use Rattle.sa_parser.proofs.depth.Levels.deepen.Goals as goal

pub invariant_of-self : goal.invariant_of-self
invariant_of-self c = Nests-deeper c.self.inside.depth (reverse c.self.inside.opened.items) c.self.invariant
