use Rattle.std.specs.Arc.{arc_value}
use Rattle.sa_index.specs.inner.Shelf.{AreFirstTables}
use Rattle.sa_index.proofs.shelf.Shelf.build.Given as goal

abbrev pub invariant-loop-table : goal.invariant-loop-table
invariant-loop-table g l =
    AreFirstTables (λ indexes. indexes.items) g.I.Index.indexed (arc_value l.tables) l.table l.indexes.items
