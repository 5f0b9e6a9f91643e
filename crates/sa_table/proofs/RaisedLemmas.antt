-- The columns of a table, with those of the primary key NOT NULL.
use Rattle.std.proofs.Common.{◌≡◌, ℕ, ◌+◌, ◌<◌, List, [], ◌∷◌, length, get_or, Bool, true, false, ◌||◌, map, refl, sym, ap, ◌∙◌, zero-add, arith}
use Rattle.std.proofs.lemmas.List.{same_lists, length-map, get_or-map}
use Rattle.std.proofs.lemmas.List.FromFn.{length-enumerate_from, get_or-enumerate_from}
use Rattle.std.specs.List.{enumerate_from}
use Rattle.sa_table.specs.declared.def.ColumnDef.{ColumnDef}
use Rattle.sa_table.specs.declared.def.KeyDef.{KeyDef}
use Rattle.sa_table.specs.Table.{raised_column, is_primary_part}

raised_at : (keys : List KeyDef) (columns : List ColumnDef) (k : ℕ) (d : ColumnDef) → k < length columns → get_or (map (raised_column keys) (enumerate_from 0 columns)) k d ≡ raised_column keys (k, get_or columns k d)
raised_at keys columns k d h =
    get_or-map (raised_column keys) (enumerate_from 0 columns) k (0, d) d (omega (arith, length-enumerate_from 0 columns))
    ∙ ap (raised_column keys) (get_or-enumerate_from 0 columns k (0, d) h ∙ ap (λ number. (number, get_or columns k d)) (zero-add k))

pub all_raised : (keys : List KeyDef) (raised columns : List ColumnDef) → length raised ≡ length columns → ((k : ℕ) (d : ColumnDef) → k < length columns → get_or raised k d ≡ raised_column keys (k, get_or columns k d)) → raised ≡ map (raised_column keys) (enumerate_from 0 columns)
all_raised keys raised columns long each =
    same_lists raised (map (raised_column keys) (enumerate_from 0 columns))
    (omega (arith, long, length-map (enumerate_from 0 columns) (raised_column keys), length-enumerate_from 0 columns))
    (λ k d h. each k d (omega arith) ∙ sym (raised_at keys columns k d (omega arith)))

or_twice : (a b : Bool) → ((a || b) || b) ≡ (a || b)
or_twice true b = refl
or_twice false true = refl
or_twice false false = refl

pub raised_again : (keys : List KeyDef) (number : ℕ) (columns : List ColumnDef) → map (raised_column keys) (enumerate_from number (map (raised_column keys) (enumerate_from number columns))) ≡ map (raised_column keys) (enumerate_from number columns)
raised_again keys number [] = refl
raised_again keys number (column ∷ columns) =
    ap (λ not_null. record column { not_null = not_null } ∷ map (raised_column keys) (enumerate_from (number + 1) (map (raised_column keys) (enumerate_from (number + 1) columns)))) (or_twice column.not_null (is_primary_part keys number))
    ∙ ap (λ (rest : List ColumnDef). raised_column keys (number, column) ∷ rest) (raised_again keys (number + 1) columns)
