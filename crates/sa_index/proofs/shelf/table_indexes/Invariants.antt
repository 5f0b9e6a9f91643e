use Rattle.sa_index.specs.inner.Shelf.{AreFirstKeys}
use Rattle.sa_index.proofs.shelf.table_indexes.Given as goal

abbrev pub invariant-loop-key : goal.invariant-loop-key
invariant-loop-key g l = AreFirstKeys g.I.Index.indexed l.tables l.table l.key l.indexes.items
