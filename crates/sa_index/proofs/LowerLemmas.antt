-- How many rows lie before a cut, by the columns that are kept of them.
use Rattle.std.proofs.Common.{◌≡◌, ◌≢◌, ℕ, ◌<◌, List, length, get_or, count_by, sym, ap, ◌∙◌, arith}
use Rattle.std.specs.Cmp.{IsTotalOrder}
use Rattle.std.specs.declared.cmp.Ordering.TheVariants.{Greater}
use Rattle.sa_value.specs.declared.value.Value.{Value}
use Rattle.sa_key.specs.declared.cut.Cut.{Cut}
use Rattle.sa_key.specs.Order.{order_of_tuples, is_before, IsBefore}
use Rattle.sa_index.specs.Indexed.{Indexed, key_parts, tuple_of}
use Rattle.sa_index.specs.Entries.{count_before}
use Rattle.sa_index.specs.inner.Built.{AreBuilt}
use Rattle.sa_index.specs.inner.Columns.{columns_of, tuple_in, is_before_in, IsParted, LiesBetween}
use Rattle.sa_index.proofs.CountLemmas.{count-partition}
use Rattle.sa_index.proofs.RowLemmas.{parted}
use Rattle.sa_index.proofs.ColumnLemmas.{tuple_at}

-- what the columns have at a position lies before the cut where the row there does
before_at : (index : Indexed) (rows : List ℕ) (columns : List (List Value)) (cut : Cut) → columns ≡ columns_of index.tables index.table rows (key_parts index) → (position d : ℕ) → position < length rows
    → is_before_in columns cut position ≡ is_before (tuple_of index.tables index.table (key_parts index) (get_or rows position d)) cut
before_at index rows columns cut are position d there =
    ap (λ (tuple : List Value). is_before tuple cut)
    (ap (λ (list : List (List Value)). tuple_in list position) are ∙ tuple_at index.tables index.table rows (key_parts index) position d there)

pub columns-parted : IsTotalOrder order_of_tuples → ((a b : List Value) (c : Cut) → order_of_tuples a b ≢ Greater → IsBefore b c → IsBefore a c)
    → (index : Indexed) (rows counts : List ℕ) (columns : List (List Value)) → AreBuilt index rows counts columns → length columns ≡ length (key_parts index)
    → (positions : ℕ) (cut : Cut) → positions ≡ length rows → IsParted columns positions cut
columns-parted total down index rows counts columns built wide positions cut long =
    let at = before_at index rows columns cut (built.kept.are wide) in
    record {
      each = λ i j order there before. at i 0 (omega arith)
          ∙ parted total down index.tables index.table (key_parts index) rows cut built.rise i j 0 order (omega arith) (sym (at j 0 (omega arith)) ∙ before);
    }

abbrev count_rows : Indexed → Cut → List ℕ → ℕ
count_rows index cut rows = count_by (λ row. is_before (tuple_of index.tables index.table (key_parts index) row) cut) rows

pub columns-counted : (index : Indexed) (rows counts : List ℕ) (columns : List (List Value)) → AreBuilt index rows counts columns → length columns ≡ length (key_parts index)
    → (positions count : ℕ) (cut : Cut) → positions ≡ length rows → LiesBetween columns positions cut count count → count ≡ count_before index cut
columns-counted index rows counts columns built wide positions count cut long between =
    let at = before_at index rows columns cut (built.kept.are wide) in
    count-partition (λ row. is_before (tuple_of index.tables index.table (key_parts index) row) cut) rows count (omega (arith, between.within)) (
      (λ i d low below. sym (at i d (omega (arith, between.within))) ∙ between.before i below),
      (λ i d low below. sym (at i d below) ∙ between.behind i low (omega arith)),
    )
    ∙ ap (λ (list : List ℕ). count_rows index cut list) built.rows_are
