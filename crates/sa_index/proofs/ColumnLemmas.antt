-- The numbers of a key's columns: what is kept of them, and what stands at a position.
use Rattle.std.proofs.Common.{◌≡◌, ℕ, ℤ, pos, ◌+◌, ◌<◌, ◌≤◌, zero, suc, List, [], ◌∷◌, length, map, take, drop, get_or, Bool, true, false, ◌||◌, cond, refl, sym, ap, ◌∙◌, arith}
use Rattle.std.proofs.lemmas.List.{drop_more, get_or_default, get_or-map, get_or-take, length-map, length-take-le}
use Rattle.std.specs.List.{list_any}
use Rattle.std.specs.Ordering.{is_ne, ordering_then}
use Rattle.std.specs.declared.cmp.Ordering.{Ordering}
use Rattle.std.specs.declared.cmp.Ordering.TheVariants.{Less, Equal, Greater}
use Rattle.sa_value.specs.declared.value.Value.{Value}
use Rattle.sa_value.specs.declared.value.Value.TheVariants.{Null, Int, Big, Text}
use Rattle.sa_value.specs.Compare.{order_of}
use Rattle.sa_key.specs.declared.cut.Cut.{Cut}
use Rattle.sa_key.specs.Order.{order_of_tuples}
use Rattle.sa_table.specs.Table.{Table, cell_at}
use Rattle.sa_table.specs.AddRow.{is_null}
use Rattle.sa_index.specs.Indexed.{tuple_of}
use Rattle.sa_index.specs.inner.Columns.{IsNumber, HoldsNumbers, number_in, marks_of, marked_value, marked, column_of, columns_of, tuple_in, is_before_in, IsParted, LiesBetween}

-- ---- a column

-- what stands at a position
pub marked_at : (numbers : List ℤ) (nulls : List Bool) (i : ℕ) → i < length numbers → get_or (marked numbers nulls) i Null ≡ marked_value (get_or nulls i false) (get_or numbers i (pos 0))
marked_at [] nulls i here = absurd (omega arith)
marked_at (number ∷ numbers) [] zero here = refl
marked_at (number ∷ numbers) [] (suc i) here = marked_at numbers [] i (omega arith)
marked_at (number ∷ numbers) (null ∷ nulls) zero here = refl
marked_at (number ∷ numbers) (null ∷ nulls) (suc i) here = marked_at numbers nulls i (omega arith)

-- nothing stands behind the last number
pub marked_past : (numbers : List ℤ) (nulls : List Bool) (i : ℕ) → length numbers ≤ i → get_or (marked numbers nulls) i Null ≡ Null
marked_past [] nulls i past = refl
marked_past (number ∷ numbers) nulls zero past = absurd (omega arith)
marked_past (number ∷ numbers) [] (suc i) past = marked_past numbers [] i (omega arith)
marked_past (number ∷ numbers) (null ∷ nulls) (suc i) past = marked_past numbers nulls i (omega arith)

kept : (value : Value) → IsNumber value → marked_value (is_null value) (number_in value) ≡ value
kept Null number = refl
kept (Int n) number = refl
kept (Big n) number = absurd number
kept (Text text) number = absurd number

kept_number : (value : Value) → IsNumber value → is_null value ≡ false → Int (number_in value) ≡ value
kept_number Null number null = cc
kept_number (Int n) number null = refl
kept_number (Big n) number null = absurd number
kept_number (Text text) number null = absurd number

-- numbers with a mark at each NULL are the values
marked_each : (value : ℕ → Value) → ((x : ℕ) → IsNumber (value x)) → (xs : List ℕ) → marked (map number_in (map value xs)) (map is_null (map value xs)) ≡ map value xs
marked_each value numbers [] = refl
marked_each value numbers (x ∷ xs) =
    ap (λ (first : Value). first ∷ marked (map number_in (map value xs)) (map is_null (map value xs))) (kept (value x) (numbers x))
    ∙ ap (λ (rest : List Value). value x ∷ rest) (marked_each value numbers xs)

first_false : (a b : Bool) → (a || b) ≡ false → a ≡ false
first_false true b none = cc
first_false false b none = refl

second_false : (a b : Bool) → (a || b) ≡ false → b ≡ false
second_false true b none = cc
second_false false b none = none

-- and so are numbers without marks, where none is NULL
marked_none : (value : ℕ → Value) → ((x : ℕ) → IsNumber (value x)) → (xs : List ℕ) → list_any is_null (map value xs) ≡ false → marked (map number_in (map value xs)) [] ≡ map value xs
marked_none value numbers [] none = refl
marked_none value numbers (x ∷ xs) none =
    let here : is_null (value x) ≡ false = first_false (is_null (value x)) (list_any is_null (map value xs)) none in
    let rest : list_any is_null (map value xs) ≡ false = second_false (is_null (value x)) (list_any is_null (map value xs)) none in
    ap (λ (first : Value). first ∷ marked (map number_in (map value xs)) []) (kept_number (value x) (numbers x) here)
    ∙ ap (λ (rest : List Value). value x ∷ rest) (marked_none value numbers xs rest)

-- what is kept of a column of numbers is the column
pub marked_column : (tables : List Table) (table part : ℕ) (rows : List ℕ) → HoldsNumbers tables table part
    → marked (map number_in (column_of tables table rows part)) (marks_of (column_of tables table rows part)) ≡ column_of tables table rows part
marked_column tables table part rows numbers =
    let value : ℕ → Value = λ row. cell_at tables table row part in
    elim (list_any is_null (map value rows)) as (λ b. list_any is_null (map value rows) ≡ b → marked (map number_in (map value rows)) (cond b (map is_null (map value rows)) []) ≡ map value rows) [
      | true ↦ λ some. marked_each value numbers.each rows
      | false ↦ λ none. marked_none value numbers.each rows none
    ] refl

-- whether one of the values from a position on is NULL: this one, or one of those behind
pub any-drop : (value : ℕ → Value) (rows : List ℕ) (i : ℕ) → i < length rows → list_any is_null (map value (drop i rows)) ≡ is_null (value (get_or rows i 0)) || list_any is_null (map value (drop (i + 1) rows))
any-drop value rows i here = ap (λ (rest : List ℕ). list_any is_null (map value rest)) (drop_more rows i 0 here)

-- how the value at a position stands to another
pub order_past : (column : List Value) (numbers : List ℤ) (nulls : List Bool) (position : ℕ) (value : Value) (order : Ordering) → marked numbers nulls ≡ column → length numbers ≤ position
    → order ≡ order_of Null value → order ≡ order_of (get_or column position Null) value
order_past column numbers nulls position value order is past stands =
    stands ∙ ap (λ (first : Value). order_of first value) (sym (marked_past numbers nulls position past) ∙ ap (λ (values : List Value). get_or values position Null) is)

pub order_marked : (column : List Value) (numbers : List ℤ) (nulls : List Bool) (position : ℕ) (value : Value) (order : Ordering) → marked numbers nulls ≡ column → position < length numbers
    → get_or nulls position false ≡ true → order ≡ order_of Null value → order ≡ order_of (get_or column position Null) value
order_marked column numbers nulls position value order is there null stands =
    let here : get_or (marked numbers nulls) position Null ≡ Null =
    marked_at numbers nulls position there ∙ ap (λ (b : Bool). marked_value b (get_or numbers position (pos 0))) null in
    stands ∙ ap (λ (first : Value). order_of first value) (sym here ∙ ap (λ (values : List Value). get_or values position Null) is)

pub order_unmarked : (column : List Value) (numbers : List ℤ) (nulls : List Bool) (position : ℕ) (value : Value) (order : Ordering) (number : ℤ) → marked numbers nulls ≡ column → position < length numbers
    → get_or nulls position false ≡ false → number ≡ get_or numbers position number → order ≡ order_of (Int number) value → order ≡ order_of (get_or column position Null) value
order_unmarked column numbers nulls position value order number is there null at stands =
    let here : get_or (marked numbers nulls) position Null ≡ Int number =
    marked_at numbers nulls position there ∙ ap (λ (b : Bool). marked_value b (get_or numbers position (pos 0))) null
    ∙ ap Int (get_or_default numbers position (pos 0) number there ∙ sym at) in
    stands ∙ ap (λ (first : Value). order_of first value) (sym here ∙ ap (λ (values : List Value). get_or values position Null) is)

-- ---- a tuple of columns

-- what columns have at a position is the tuple of the row there
pub tuple_at : (tables : List Table) (table : ℕ) (rows parts : List ℕ) (position d : ℕ) → position < length rows → tuple_in (columns_of tables table rows parts) position ≡ tuple_of tables table parts (get_or rows position d)
tuple_at tables table rows [] position d here = refl
tuple_at tables table rows (part ∷ parts) position d here =
    ap (λ (first : Value). first ∷ tuple_in (columns_of tables table rows parts) position) (get_or-map (λ row. cell_at tables table row part) rows position d Null here)
    ∙ ap (λ (rest : List Value). cell_at tables table (get_or rows position d) part ∷ rest) (tuple_at tables table rows parts position d here)

order_from : (columns : List (List Value)) (position : ℕ) (b : List Value) (i : ℕ) (column : List Value) (y : Value) → i < length b → length b ≤ length columns → column ≡ get_or columns i column → get_or b i Null ≡ y
    → order_of_tuples (drop i (take (length b) (tuple_in columns position))) (drop i b)
    ≡ ordering_then (order_of (get_or column position Null) y) (order_of_tuples (drop (i + 1) (take (length b) (tuple_in columns position))) (drop (i + 1) b))
order_from columns position b i column y here long at_column at_b =
    let tuple : List Value = tuple_in columns position in
    let wide : length tuple ≡ length columns = length-map columns (λ column. get_or column position Null) in
    let front : length (take (length b) tuple) ≡ length b = length-take-le (length b) tuple (omega arith) in
    let in_front : i < length (take (length b) tuple) = omega arith in
    let first : get_or (take (length b) tuple) i Null ≡ get_or column position Null =
    get_or-take (length b) tuple i Null here
    ∙ get_or-map (λ column. get_or column position Null) columns i column Null (omega arith)
    ∙ ap (λ (list : List Value). get_or list position Null) (sym at_column) in
    ap (λ (rest : List Value). order_of_tuples rest (drop i b)) (drop_more (take (length b) tuple) i Null in_front)
    ∙ ap (λ (rest : List Value). order_of_tuples (get_or (take (length b) tuple) i Null ∷ drop (i + 1) (take (length b) tuple)) rest) (drop_more b i Null here)
    ∙ ap (λ (value : Value). ordering_then (order_of value (get_or b i Null)) (order_of_tuples (drop (i + 1) (take (length b) tuple)) (drop (i + 1) b))) first
    ∙ ap (λ (value : Value). ordering_then (order_of (get_or column position Null) value) (order_of_tuples (drop (i + 1) (take (length b) tuple)) (drop (i + 1) b))) at_b

decides : (first rest : Ordering) → is_ne first ≡ true → first ≡ ordering_then first rest
decides Less rest differ = refl
decides Equal rest differ = cc
decides Greater rest differ = refl

passes_on : (first rest : Ordering) → is_ne first ≡ false → rest ≡ ordering_then first rest
passes_on Less rest same = cc
passes_on Equal rest same = refl
passes_on Greater rest same = cc

-- the first parts that differ decide
pub decided : (columns : List (List Value)) (position : ℕ) (b : List Value) (i : ℕ) (column : List Value) (y : Value) (order : Ordering) → i < length b → length b ≤ length columns → column ≡ get_or columns i column → get_or b i Null ≡ y
    → order ≡ order_of (get_or column position Null) y → is_ne order ≡ true
    → order ≡ order_of_tuples (drop i (take (length b) (tuple_in columns position))) (drop i b)
decided columns position b i column y order here long at_column at_b is differ =
    let rest : Ordering = order_of_tuples (drop (i + 1) (take (length b) (tuple_in columns position))) (drop (i + 1) b) in
    decides order rest differ ∙ ap (λ (first : Ordering). ordering_then first rest) is
    ∙ sym (order_from columns position b i column y here long at_column at_b)

-- parts that are equal leave it to those behind
pub passed_on : (columns : List (List Value)) (position : ℕ) (b : List Value) (i : ℕ) (column : List Value) (y : Value) (order : Ordering) → i < length b → length b ≤ length columns → column ≡ get_or columns i column → get_or b i Null ≡ y
    → order ≡ order_of (get_or column position Null) y → is_ne order ≡ false
    → order_of_tuples (drop (i + 1) (take (length b) (tuple_in columns position))) (drop (i + 1) b)
    ≡ order_of_tuples (drop i (take (length b) (tuple_in columns position))) (drop i b)
passed_on columns position b i column y order here long at_column at_b is same =
    let rest : Ordering = order_of_tuples (drop (i + 1) (take (length b) (tuple_in columns position))) (drop (i + 1) b) in
    passes_on order rest same ∙ ap (λ (first : Ordering). ordering_then first rest) is
    ∙ sym (order_from columns position b i column y here long at_column at_b)

-- ---- a search

-- a position that lies before the cut: so do all up to it
pub between-low : (columns : List (List Value)) (positions : ℕ) (cut : Cut) (low high middle : ℕ) → IsParted columns positions cut → LiesBetween columns positions cut low high
    → middle < high → is_before_in columns cut middle ≡ true → LiesBetween columns positions cut (middle + 1) high
between-low columns positions cut low high middle parted between below before = record {
  rise = omega arith;
  within = between.within;
  before = λ i there. parted.each i middle (omega arith) (omega (arith, between.within)) before;
  behind = between.behind;
}

not_true : (b : Bool) → (b ≡ true → ⊥) → b ≡ false
not_true true wrong = absurd (wrong refl)
not_true false wrong = refl

-- one that doesn't: neither does one behind it
pub between-high : (columns : List (List Value)) (positions : ℕ) (cut : Cut) (low high middle : ℕ) → IsParted columns positions cut → LiesBetween columns positions cut low high
    → low ≤ middle → middle < high → is_before_in columns cut middle ≡ false → LiesBetween columns positions cut low middle
between-high columns positions cut low high middle parted between above below behind = record {
  rise = above;
  within = omega (arith, between.within);
  before = between.before;
  behind = λ i from there. not_true (is_before_in columns cut i)
      (λ before. let wrong : true ≡ false = sym (parted.each middle i from there before) ∙ behind in (cc));
}
