-- What is known of a list of rows and counts that are an index's.
use Rattle.std.proofs.Common.{◌≡◌, ℕ, ◌+◌, ◌<◌, ◌≤◌, List, length, take, map, get_or, Some, sym, ap, subst, ◌∙◌, arith}
use Rattle.std.proofs.lemmas.List.FromFn.{length-range_with_len, length-map-range_with_len, get_or-map-range_with_len}
use Rattle.std.proofs.lemmas.List.Sorted.{length_permutation}
use Rattle.std.proofs.lemmas.Option.{slice_get-get_or}
use Rattle.std.specs.Cmp.{IsTotalOrder}
use Rattle.std.specs.List.{range_with_len, slice_get}
use Rattle.sa_value.specs.declared.value.Value.{Value}
use Rattle.sa_key.specs.Order.{order_of_tuples}
use Rattle.sa_table.specs.Table.{row_count}
use Rattle.sa_index.specs.Indexed.{Indexed, IsKeyOf, key_parts}
use Rattle.sa_index.specs.Entries.{order_of_rows, rows_of, order_in, entries_of, is_alike, different, distinct_prefixes}
use Rattle.sa_index.specs.Law.{IsInOrder}
use Rattle.sa_index.specs.inner.Built.{AreBuilt}
use Rattle.sa_index.specs.inner.Columns.{AreKept}
use Rattle.sa_index.proofs.ArrangedLemmas.{same-arranged, arranged_from_rise}
use Rattle.sa_index.proofs.RowLemmas.{rows-order}

pub length-entries_of : (index : Indexed) → length (entries_of index) ≡ row_count index.tables index.table
length-entries_of index =
    length_permutation (rows_of index) (entries_of index) (same-arranged (order_in index) (rows_of index))
    ∙ length-range_with_len 0 (row_count index.tables index.table)

pub length-rows : (index : Indexed) (rows counts : List ℕ) (columns : List (List Value)) → AreBuilt index rows counts columns → length rows ≡ row_count index.tables index.table
length-rows index rows counts columns built = ap length built.rows_are ∙ length-entries_of index

pub entry_at : (index : Indexed) (rows counts : List ℕ) (columns : List (List Value)) → AreBuilt index rows counts columns → (position row : ℕ) → position < length rows → row ≡ get_or rows position row → slice_get (entries_of index) position ≡ Some row
entry_at index rows counts columns built position row there is =
    ap (λ (entries : List ℕ). slice_get entries position) (sym built.rows_are)
    ∙ slice_get-get_or rows position row there ∙ ap Some (sym is)

pub length-counts : (index : Indexed) (rows counts : List ℕ) (columns : List (List Value)) → AreBuilt index rows counts columns → length counts ≡ length (key_parts index) + 1
length-counts index rows counts columns built =
    ap length built.counts_are ∙ length-map-range_with_len (distinct_prefixes index) 0 (length (key_parts index) + 1)

pub count_at : (index : Indexed) (rows counts : List ℕ) (columns : List (List Value)) → AreBuilt index rows counts columns → (parts d : ℕ) → parts ≤ length (key_parts index) → get_or counts parts d ≡ distinct_prefixes index parts
count_at index rows counts columns built parts d fits =
    ap (λ (list : List ℕ). get_or list parts d) built.counts_are
    ∙ get_or-map-range_with_len (distinct_prefixes index) 0 (length (key_parts index) + 1) parts parts d (omega arith) (omega arith)

-- rows in order, and their counts, are those of the index
pub built-in_order : IsTotalOrder order_of_tuples → (index : Indexed) (parts rows lent counts : List ℕ) (columns : List (List Value)) → parts ≡ key_parts index → lent ≡ rows
    → IsKeyOf index.tables index.table index.key → length rows ≤ 1000000
    → IsInOrder (order_of_rows index.tables index.table parts) (rows_of index) rows
    → counts ≡ map (λ count. different (is_alike index.tables index.table (take count parts)) lent) (range_with_len 0 (length parts + 1))
    → AreKept index.tables index.table parts lent columns
    → AreBuilt index rows counts columns
built-in_order total index parts rows lent counts columns parts_are lent_is there few ordered counted kept =
    let in_order : IsInOrder (order_in index) (rows_of index) rows =
    subst (λ (list : List ℕ). IsInOrder (order_of_rows index.tables index.table list) (rows_of index) rows) parts_are ordered in
    let rows_are : rows ≡ entries_of index =
    arranged_from_rise (rows-order total index.tables index.table (key_parts index)) (rows_of index) rows in_order.same in_order.rises in
    record {
      there = there;
      few = few;
      rise = in_order.rises;
      rows_are = rows_are;
      counts_are = counted
          ∙ ap (λ (list : List ℕ). map (λ count. different (is_alike index.tables index.table (take count list)) lent) (range_with_len 0 (length list + 1))) parts_are
          ∙ ap (λ (list : List ℕ). map (λ count. different (is_alike index.tables index.table (take count (key_parts index))) list) (range_with_len 0 (length (key_parts index) + 1))) (lent_is ∙ rows_are);
      kept = subst (λ (list : List ℕ). AreKept index.tables index.table list rows columns) parts_are
          (subst (λ (list : List ℕ). AreKept index.tables index.table parts list columns) lent_is kept);
    }
