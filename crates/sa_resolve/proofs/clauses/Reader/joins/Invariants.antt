use Rattle.std.proofs.Common.{◌≡◌, List, take}
use Rattle.std.specs.List.{enumerate_from, flat_map}
use Rattle.sa_table.specs.Table.{Table}
use Rattle.sa_resolve.specs.declared.scope.Seeks.TheVariants.{Never}
use Rattle.sa_resolve.specs.Tables.{on_reading}
use Rattle.sa_resolve.specs.inner.Knowing.{AreLooked}
use Rattle.sa_resolve.specs.inner.Names.{IsSight}
use Rattle.sa_resolve.proofs.clauses.Reader.joins.Given as goal

abbrev pub invariant-loop-number : goal.invariant-loop-number
invariant-loop-number l = (tables : List Table) → IsSight tables l.from l.self.rows.sight.now → l.self.rows.seeks ≡ Never
    → AreLooked l.joins.items (flat_map (λ numbered. on_reading tables l.from numbered.0 numbered.1.on) (take l.number (enumerate_from 0 l.from)))
