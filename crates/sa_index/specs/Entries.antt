-- The entries of an index: the rows of its table, each once, by their keys and then by their numbers.
use Rattle.std.specs.Prelude.{ℕ, ◌+◌, List, [], ◌∷◌, take, Bool, if◌then◌else◌, count_by}
use Rattle.std.specs.List.{list_any, range_with_len}
use Rattle.std.specs.Ordering.{is_eq, is_gt, nat_cmp, ordering_then}
use Rattle.std.specs.declared.cmp.Ordering.{Ordering}
use Rattle.sa_table.specs.Table.{Table, row_count}
use Rattle.sa_key.specs.declared.cut.Cut.{Cut}
use Rattle.sa_key.specs.Order.{order_of_tuples, is_before}
use Rattle.sa_index.specs.Indexed.{Indexed, key_parts, tuple_of}

-- how two rows stand: by their tuples, and by their numbers where these are equal
abbrev pub order_of_rows : List Table → (table : ℕ) → (parts : List ℕ) → ℕ → ℕ → Ordering
order_of_rows tables table parts row other =
    ordering_then
    (order_of_tuples (tuple_of tables table parts row) (tuple_of tables table parts other))
    (nat_cmp row other)

-- a row among others that are in order: before the first of them that it isn't greater than
abbrev pub put : (ℕ → ℕ → Ordering) → ℕ → List ℕ → List ℕ
put order row [] = row ∷ []
put order row (first ∷ rest) =
    if is_gt (order row first) then first ∷ put order row rest else row ∷ first ∷ rest

-- numbers in order
abbrev pub arranged : (ℕ → ℕ → Ordering) → List ℕ → List ℕ
arranged order [] = []
arranged order (row ∷ rows) = put order row (arranged order rows)

abbrev pub rows_of : Indexed → List ℕ
rows_of index = range_with_len 0 (row_count index.tables index.table)

abbrev pub order_in : Indexed → ℕ → ℕ → Ordering
order_in index = order_of_rows index.tables index.table (key_parts index)

-- the rows in the order of the index, by position
abbrev pub entries_of : Indexed → List ℕ
entries_of index = arranged (order_in index) (rows_of index)

-- how many entries lie before a cut
abbrev pub count_before : Indexed → Cut → ℕ
count_before index cut =
    count_by (λ row. is_before (tuple_of index.tables index.table (key_parts index) row) cut)
    (entries_of index)

-- whether two rows have equal values in these columns, NULL being equal to NULL
abbrev pub is_alike : List Table → (table : ℕ) → (parts : List ℕ) → ℕ → ℕ → Bool
is_alike tables table parts row other =
    is_eq (order_of_tuples (tuple_of tables table parts row) (tuple_of tables table parts other))

-- how many members of a list are like none behind them
abbrev pub different : (ℕ → ℕ → Bool) → List ℕ → ℕ
different alike [] = 0
different alike (row ∷ rows) = (if list_any (alike row) rows then 0 else 1) + different alike rows

-- how many different values the rows have in the first so many parts of the key
abbrev pub distinct_prefixes : Indexed → (parts : ℕ) → ℕ
distinct_prefixes index parts =
    different (is_alike index.tables index.table (take parts (key_parts index))) (entries_of index)
