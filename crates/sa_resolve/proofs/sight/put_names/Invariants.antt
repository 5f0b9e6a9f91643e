use Rattle.std.proofs.Common.{◌≡◌, ℕ, List, take}
use Rattle.std.specs.Str.{bytes_eq}
use Rattle.indexmap.specs.IndexMap.{get_by}
use Rattle.sa_resolve.specs.inner.Indexed.{column_of, with_columns}
use Rattle.sa_resolve.proofs.sight.put_names.Given as goal

-- The columns so far are found by their names.
abbrev pub invariant-loop-index : goal.invariant-loop-index
invariant-loop-index l = (name : List ℕ) → get_by (λ key. bytes_eq name key.now) l.names
    ≡ with_columns (get_by (λ key. bytes_eq name key.now) l.fn.names) (column_of l.table (take l.index l.defs) name)
