use Rattle.std.proofs.Common.{◌≡◌, List, map, take}
use Rattle.std.specs.List.{enumerate_from, flat_map}
use Rattle.sa_table.specs.Table.{Table}
use Rattle.sa_resolve.specs.declared.scope.Seeks.TheVariants.{Never}
use Rattle.sa_resolve.specs.Reading.{Reading}
use Rattle.sa_resolve.specs.Tables.{on_reading}
use Rattle.sa_resolve.specs.inner.Names.{IsSight}
use Rattle.sa_resolve.proofs.query.filter.Given as goal

abbrev pub invariant-loop-number : goal.invariant-loop-number
invariant-loop-number l = (tables : List Table) → IsSight tables l.from l.rows.sight.now → l.rows.seeks ≡ Never
    → l.conds.items ≡ map (λ (one : Reading). one.cond)
    (flat_map (λ numbered. on_reading tables l.from numbered.0 numbered.1.on) (take l.number (enumerate_from 0 l.from)))
