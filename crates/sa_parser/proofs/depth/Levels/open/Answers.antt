use Rattle.std.proofs.Common.{reverse, ap, arith, rules}
use Rattle.std.proofs.lemmas.List.{length-reverse}
use Rattle.sa_parser.specs.Depth.{Depth}
use Rattle.sa_parser.proofs.Depths.{length-Nests}
use Rattle.sa_parser.proofs.depth.Levels.open.Goals as goal

pub push-requires : goal.push-requires
push-requires c =
    let depth = ap (λ (seen : Depth). seen.depth) c.self.view_is in
    let most = length-Nests c.self.inside.depth (reverse c.self.inside.opened.items) c.self.invariant in
    let same = length-reverse c.self.inside.opened.items in
    (search rules, omega (arith, c.requires))
