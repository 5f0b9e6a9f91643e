-- The rows that columns stand for, and what becomes of them when each column takes a value.
use Rattle.std.proofs.Common.{◌≡◌, ℕ, ◌+◌, ◌<◌, List, [], ◌∷◌, ◌++◌, length, get_or, map, sym, ap, subst, ◌∙◌, ◌≢◌, set, below_more, zero-add, arith}
use Rattle.std.proofs.lemmas.List.{same_lists, length-map, get_or-map, get_or_append_left, get_or_push, get_or-set_same, get_or-set_other}
use Rattle.std.proofs.lemmas.List.FromFn.{length-map-range_with_len, get_or-map-range_with_len, map-range_with_len_more}
use Rattle.std.proofs.lemmas.Slice.Zip.{length-zip, get_or-zip}
use Rattle.std.specs.List.{range_with_len, zip}
use Rattle.sa_value.specs.declared.value.Value.{Value}
use Rattle.sa_value.specs.declared.value.Value.TheVariants.{Null}
use Rattle.sa_table.specs.declared.column.Column.{Column}
use Rattle.sa_table.specs.Table.{value_in}
use Rattle.sa_table.specs.inner.Column.{values_in, held_in}
use Rattle.sa_table.specs.inner.Store.{row_in, held_row, TakesValue}

-- the rows of columns
abbrev pub rows_of : List Column → ℕ → List (List Value)
rows_of columns count = map (row_in columns) (range_with_len 0 count)

pub row_in_at : (columns : List Column) (row k : ℕ) (column : Column) → k < length columns → value_in (row_in columns row) k ≡ value_in (values_in (get_or columns k column)) row
row_in_at columns row k column h = get_or-map (λ (at : Column). value_in (values_in at) row) columns k column Null h

pub rows_of_at : (columns : List Column) (count row : ℕ) (d : List Value) → row < count → get_or (rows_of columns count) row d ≡ row_in columns row
rows_of_at columns count row d h = get_or-map-range_with_len (row_in columns) 0 count row row d h (zero-add row)

pub record TakeValues (old new : List Column) (row : List Value) (count : ℕ) : Type 0 where
  pub wide : length new ≡ length old
  pub values : length row ≡ length old
  pub filled : (k : ℕ) (column : Column) → k < length old → length (values_in (get_or old k column)) ≡ count
  pub each : (k : ℕ) (column : Column) → k < length old → values_in (get_or new k column) ≡ values_in (get_or old k column) ++ held_in (get_or old k column) (value_in row k) ∷ []

a_member : {A : Type 0} (xs : List A) (k : ℕ) → k < length xs → A
a_member [] k h = absurd (omega arith)
a_member (x ∷ xs) k h = x

earlier_at : (old new : List Column) (row : List Value) (count : ℕ) → TakeValues old new row count → (earlier k : ℕ) (column : Column) → earlier < count → k < length old → value_in (values_in (get_or new k column)) earlier ≡ value_in (values_in (get_or old k column)) earlier
earlier_at old new row count taken earlier k column before h =
    ap (λ values. value_in values earlier) (taken.each k column h)
    ∙ get_or_append_left (values_in (get_or old k column)) (held_in (get_or old k column) (value_in row k) ∷ []) Null earlier (omega (arith, taken.filled k column h))

earlier_row : (old new : List Column) (row : List Value) (count : ℕ) → TakeValues old new row count → (earlier : ℕ) → earlier < count → row_in new earlier ≡ row_in old earlier
earlier_row old new row count taken earlier before =
    same_lists (row_in new earlier) (row_in old earlier)
    (length-map new (λ at. value_in (values_in at) earlier) ∙ taken.wide ∙ sym (length-map old (λ at. value_in (values_in at) earlier)))
    (λ k d h.
    let there : k < length old = omega (arith, length-map new (λ at. value_in (values_in at) earlier), taken.wide) in
    let column : Column = a_member old k there in
    get_or-map (λ (at : Column). value_in (values_in at) earlier) new k column d (omega (arith, taken.wide))
    ∙ earlier_at old new row count taken earlier k column before there
    ∙ sym (get_or-map (λ (at : Column). value_in (values_in at) earlier) old k column d there))

last_at : (old new : List Column) (row : List Value) (count : ℕ) → TakeValues old new row count → (k : ℕ) (column : Column) → k < length old → value_in (values_in (get_or new k column)) count ≡ held_in (get_or old k column) (value_in row k)
last_at old new row count taken k column h =
    ap (λ values. value_in values count) (taken.each k column h)
    ∙ get_or_push (values_in (get_or old k column)) (held_in (get_or old k column) (value_in row k)) Null count (taken.filled k column h)

abbrev held : Column × Value → Value
held pair = held_in pair.0 pair.1

last_row : (old new : List Column) (row : List Value) (count : ℕ) → TakeValues old new row count → row_in new count ≡ held_row old row
last_row old new row count taken =
    same_lists (row_in new count) (held_row old row)
    (omega (arith, length-map new (λ at. value_in (values_in at) count), taken.wide, taken.values, length-map (zip old row) held, length-zip old row))
    (λ k d h.
    let there : k < length old = omega (arith, length-map new (λ at. value_in (values_in at) count), taken.wide) in
    let column : Column = a_member old k there in
    get_or-map (λ (at : Column). value_in (values_in at) count) new k column d (omega (arith, taken.wide))
    ∙ last_at old new row count taken k column there
    ∙ sym (get_or-map held (zip old row) k (column, Null) d (omega (arith, length-zip old row, taken.values))
    ∙ ap held (get_or-zip old row k (column, Null) there (omega (arith, taken.values)))))

earlier_rows : (old new : List Column) (row : List Value) (count : ℕ) → TakeValues old new row count → rows_of new count ≡ rows_of old count
earlier_rows old new row count taken =
    same_lists (rows_of new count) (rows_of old count)
    (length-map-range_with_len (row_in new) 0 count ∙ sym (length-map-range_with_len (row_in old) 0 count))
    (λ k d h.
    let before : k < count = omega (arith, length-map-range_with_len (row_in new) 0 count) in
    rows_of_at new count k d before ∙ earlier_row old new row count taken k before ∙ sym (rows_of_at old count k d before))

pub rows_pushed : (old new : List Column) (row : List Value) (count : ℕ) → TakeValues old new row count → rows_of new (count + 1) ≡ rows_of old count ++ held_row old row ∷ []
rows_pushed old new row count taken =
    map-range_with_len_more (row_in new) 0 count count (zero-add count)
    ∙ ap (λ rows. rows ++ row_in new count ∷ []) (earlier_rows old new row count taken)
    ∙ ap (λ last. rows_of old count ++ last ∷ []) (last_row old new row count taken)

-- One more column takes its value.
pub taken_more : (old now : List Column) (row : List Value) (i : ℕ) (added : Column) → i < length now → ((k : ℕ) (column : Column) → k < i → TakesValue (get_or old k column) (get_or now k column) (value_in row k)) → ((column : Column) → TakesValue (get_or old i column) added (value_in row i)) → (k : ℕ) (column : Column) → k < i + 1 → TakesValue (get_or old k column) (get_or (set now i added) k column) (value_in row k)
taken_more old now row i added there below here k column h =
    below_more (λ k. (column : Column) → TakesValue (get_or old k column) (get_or (set now i added) k column) (value_in row k)) i
    (λ k before column.
    let apart : k ≢ i = omega arith in
    subst (λ at. TakesValue (get_or old k column) at (value_in row k)) (sym (get_or-set_other now i k added column apart)) (below k column before))
    (λ column. subst (λ at. TakesValue (get_or old i column) at (value_in row i)) (sym (get_or-set_same now i added column there)) (here column))
    k h column
