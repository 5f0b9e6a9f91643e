use Rattle.std.proofs.Common.{◌≡◌, map, take}
use Rattle.sa_resolve.specs.declared.sight.Source.{Source as Item}
use Rattle.sa_resolve.specs.Resolved.{table_use}
use Rattle.sa_resolve.specs.inner.Names.{source_at}
use Rattle.sa_resolve.proofs.query.table_uses.Given as goal

abbrev pub invariant-loop-source : goal.invariant-loop-source
invariant-loop-source l = l.uses.items ≡ map (λ (item : Item). table_use (source_at item)) (take l.source-index l.sight.sources.items)
