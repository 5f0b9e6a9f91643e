-- The order of rows: a total one, in which rows also stand by the first parts of their tuples.
use Rattle.std.proofs.Common.{◌≡◌, ◌≢◌, ℕ, zero, suc, List, [], ◌∷◌, map, take, get_or, Bool, true, false, ⊎_elim, refl, sym, ap, ◌∙◌, subst, arith, AllPairs, IsSortedBy}
use Rattle.std.proofs.lemmas.Bool.{cases_eq}
use Rattle.std.proofs.lemmas.Bool.Decides.{nat_tests}
use Rattle.std.proofs.lemmas.Cmp.{then_total, on_total, nat_cmp_total}
use Rattle.std.proofs.lemmas.Fn.{always_returns_same}
use Rattle.std.proofs.lemmas.List.Sorted.{ranks_by}
use Rattle.std.specs.Cmp.{IsTotalOrder, IsStrictWeakOrder}
use Rattle.std.specs.Fn.{Called, ComparesAs}
use Rattle.std.specs.List.Sorted.{IsPartitionedBy}
use Rattle.std.specs.Ordering.{is_lt, is_gt, nat_cmp, ordering_then, ordering_reverse}
use Rattle.std.specs.declared.cmp.Ordering.{Ordering}
use Rattle.std.specs.declared.cmp.Ordering.TheVariants.{Less, Equal, Greater}
use denote.Param.Members.{Mut}
use denote.Ref.{Bor}
use Rattle.sa_value.specs.declared.value.Value.{Value}
use Rattle.sa_value.specs.Compare.{order_of}
use Rattle.sa_key.specs.declared.cut.Cut.{Cut}
use Rattle.sa_key.specs.Order.{order_of_tuples, is_before, IsBefore}
use Rattle.sa_table.specs.Table.{Table, value_in, row_at}
use Rattle.sa_index.specs.Indexed.{tuple_of}
use Rattle.sa_index.specs.Entries.{order_of_rows, is_alike, different}
use Rattle.sa_index.specs.inner.Built.{Rise, ends}
use Rattle.sa_index.proofs.ArrangedLemmas.{Orders}
use Rattle.sa_index.proofs.AlikeLemmas.{different-ends}

second_equal : (first second : Ordering) → ordering_then first second ≡ Equal → second ≡ Equal
second_equal Less second equal = cc
second_equal Equal second equal = equal
second_equal Greater second equal = cc

same_number : (x y : ℕ) → nat_cmp x y ≡ Equal → x ≡ y
same_number x y equal = grind (arith, nat_tests)

pub rows-order : IsTotalOrder order_of_tuples → (tables : List Table) (table : ℕ) (parts : List ℕ) → Orders (order_of_rows tables table parts)
rows-order total tables table parts = record {
  total = then_total (on_total (tuple_of tables table parts) total) nat_cmp_total;
  exact = λ x y equal. same_number x y (second_equal (order_of_tuples (tuple_of tables table parts x) (tuple_of tables table parts y)) (nat_cmp x y) equal);
}

-- what a sort of numbers ensures, where each call of its closure answers by the order
pub sorted_from_calls : {order : ℕ → ℕ → Ordering} → IsTotalOrder order → {F : Type 0} {g : Mut F (Bor ℕ × (Bor ℕ × Unit {0})) Ordering} {f : F} (xs : List ℕ)
    → ((lt : ℕ → ℕ → Bool) → IsStrictWeakOrder lt → ComparesAs g lt f → IsSortedBy lt xs)
    → ((a : Bor ℕ × (Bor ℕ × Unit {0})) (r : Ordering) (f' : F) → Called g f a r f' → (r ≡ order a.0.now a.1.0.now) × (f' ≡ f))
    → IsSortedBy (λ x y. is_lt (order x y)) xs
sorted_from_calls {order} total {g = g} {f = f} xs sorted calls =
    sorted (λ x y. is_lt (order x y)) (ranks_by total (λ (x : ℕ). x))
    (always_returns_same g (λ a r. is_lt r ≡ is_lt (order a.0.now a.1.0.now)) f (λ a r f' k. (ap is_lt (calls a r f' k).0, (calls a r f' k).1)))

not_behind : (back second : Ordering) → is_lt (ordering_then back second) ≡ false → is_gt (ordering_reverse back) ≡ false
not_behind Less second late = cc
not_behind Equal second late = refl
not_behind Greater second late = refl

-- the tuple of an earlier entry isn't greater than that of a later one
pub tuples-rise : IsTotalOrder order_of_tuples → (tables : List Table) (table : ℕ) (parts rows : List ℕ) → Rise (order_of_rows tables table parts) rows → AllPairs (λ row later. is_gt (order_of_tuples (tuple_of tables table parts row) (tuple_of tables table parts later)) ≡ false) rows
tuples-rise total tables table parts rows rise i j d before there =
    let row : ℕ = get_or rows i d in
    let later : ℕ = get_or rows j d in
    ap is_gt (total.antisymm (tuple_of tables table parts row) (tuple_of tables table parts later))
    ∙ not_behind (order_of_tuples (tuple_of tables table parts later) (tuple_of tables table parts row)) (nat_cmp later row) (rise i j d before there)

first_parts : (count : ℕ) (parts : List ℕ) (row other : List Value) → is_gt (order_of_tuples (map (value_in row) parts) (map (value_in other) parts)) ≡ false → is_gt (order_of_tuples (map (value_in row) (take count parts)) (map (value_in other) (take count parts))) ≡ false
first_parts zero parts row other fits = refl
first_parts (suc count) [] row other fits = refl
first_parts (suc count) (part ∷ parts) row other fits =
    elim (order_of (value_in row part) (value_in other part)) as (λ first.
    is_gt (ordering_then first (order_of_tuples (map (value_in row) parts) (map (value_in other) parts))) ≡ false
    → is_gt (ordering_then first (order_of_tuples (map (value_in row) (take count parts)) (map (value_in other) (take count parts)))) ≡ false) [
      | Less ↦ λ _. refl
      | Equal ↦ λ rest. first_parts count parts row other rest
      | Greater ↦ λ behind. behind
    ] fits

-- and so are those of their first parts
pub prefixes-rise : IsTotalOrder order_of_tuples → (tables : List Table) (table : ℕ) (parts rows : List ℕ) (count : ℕ) → Rise (order_of_rows tables table parts) rows → AllPairs (λ row later. is_gt (order_of_tuples (tuple_of tables table (take count parts) row) (tuple_of tables table (take count parts) later)) ≡ false) rows
prefixes-rise total tables table parts rows count rise i j d before there =
    first_parts count parts (row_at tables table (get_or rows i d)) (row_at tables table (get_or rows j d))
    (tuples-rise total tables table parts rows rise i j d before there)

not_greater : (order : Ordering) → is_gt order ≡ false → order ≢ Greater
not_greater Less fits = λ is. cc
not_greater Equal fits = λ is. cc
not_greater Greater fits = cc

-- the entries before a cut stand in front
pub parted : IsTotalOrder order_of_tuples → ((a b : List Value) (c : Cut) → order_of_tuples a b ≢ Greater → IsBefore b c → IsBefore a c)
    → (tables : List Table) (table : ℕ) (parts rows : List ℕ) (cut : Cut) → Rise (order_of_rows tables table parts) rows → IsPartitionedBy (λ row. is_before (tuple_of tables table parts row) cut) rows
parted total down tables table parts rows cut rise i j d order there before =
    ⊎_elim
    (λ (same : i ≡ j). subst (λ k. is_before (tuple_of tables table parts (get_or rows k d)) cut ≡ true) (sym same) before)
    (λ (differ : i ≢ j). down (tuple_of tables table parts (get_or rows i d)) (tuple_of tables table parts (get_or rows j d)) cut
    (not_greater _ (tuples-rise total tables table parts rows rise i j d (omega arith) there)) before)
    (cases_eq i j)

-- where rows are in order, those of one prefix stand side by side
pub prefixes-ends : IsTotalOrder order_of_tuples → (tables : List Table) (table : ℕ) (parts rows : List ℕ) (count : ℕ) → Rise (order_of_rows tables table parts) rows → ends (is_alike tables table (take count parts)) rows ≡ different (is_alike tables table (take count parts)) rows
prefixes-ends total tables table parts rows count rise =
    different-ends (λ row other. order_of_tuples (tuple_of tables table (take count parts) row) (tuple_of tables table (take count parts) other))
    (on_total (tuple_of tables table (take count parts)) total) rows (prefixes-rise total tables table parts rows count rise)
