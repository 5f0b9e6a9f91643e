-- Each access that is offered gives each row with which the filter is TRUE.
use Rattle.std.proofs.Common.{◌≡◌, ℕ, ◌<◌, ◌&&◌, ◌||◌, zero, suc, Bool, true, false, cond, List, [], ◌∷◌, length, get_or, map, Option, Some, None, refl, sym, ap, ap₂, ◌∙◌, subst, arith}
use Rattle.std.specs.Cmp.{IsTotalOrder}
use Rattle.std.specs.List.{Contains, filter, list_any, range_with_len}
use Rattle.std.proofs.Math.Path.{fun_ext}
use Rattle.std.proofs.lemmas.List.FromFn.{get_or-range_with_len, length-range_with_len}
use Rattle.std.proofs.lemmas.List.Sorted.{Contains-permutation}
use Rattle.sa_value.specs.declared.truth.CompareOp.TheVariants.{Eq}
use Rattle.sa_value.specs.declared.truth.Truth.{Truth}
use Rattle.sa_value.specs.declared.truth.Truth.TheVariants.{True}
use Rattle.sa_value.specs.declared.value.Value.{Value}
use Rattle.sa_value.specs.Compare.{order_of, truth_of}
use Rattle.sa_key.specs.Range.{is_tuple_in}
use Rattle.sa_cond.specs.Choice.{Choice}
use Rattle.sa_cond.specs.Condition.{holds}
use Rattle.sa_cond.specs.declared.cond.Cond.{Cond}
use Rattle.sa_simplify.specs.Flatten.{conjuncts_of}
use Rattle.sa_interval.specs.declared.list.RangeList.{RangeList}
use Rattle.sa_range.specs.RangeList.{range_list}
use Rattle.sa_query.specs.Choices.{is_true}
use Rattle.sa_table.specs.Table.{row_at, row_count, value_in}
use Rattle.sa_index.specs.Entries.{entries_of, order_in, rows_of}
use Rattle.sa_index.specs.Indexed.{Indexed}
use Rattle.sa_index.specs.Law.{IsInOrder}
use Rattle.sa_plan.specs.Scan.{have_values, is_in_ranges, meets, rows_by_key, scan, sought}
use Rattle.sa_plan.specs.declared.access.Access.{Access}
use Rattle.sa_plan.specs.declared.access.Access.TheVariants as accesses
use Rattle.sa_plan.specs.declared.access.RefPart.{RefPart}
use Rattle.sa_access.specs.Asked.{Asked, asked_table}
use Rattle.sa_access.specs.Least.{DropsNone, HasRow}
use Rattle.sa_access.specs.Offered.{IsOffered, IsSought, key_at}
use Rattle.sa_access.specs.Sought.{cons_some, first_sought, sought_of, sought_parts}
use Rattle.sa_access.proofs.Conjuncts.{conjuncts_told}
use Rattle.sa_access.proofs.Equalities.{first_told}

contains_kept : (p : ℕ → Bool) (x : ℕ) (xs : List ℕ) (k : ℕ) → k < length xs → get_or xs k x ≡ x → p x ≡ true → Contains (filter p xs) x
contains_kept p x [] k there is passes = absurd (omega arith)
contains_kept p x (y ∷ ys) zero there is passes =
    let first : p y ≡ true = ap p is ∙ passes in
    subst (λ (test : Bool). Contains (cond test (y ∷ filter p ys) (filter p ys)) x) (sym first) (0, omega arith, is)
contains_kept p x (y ∷ ys) (suc k) there is passes =
    let rest : Contains (filter p ys) x = contains_kept p x ys k (omega arith) is passes in
    elim (p y) as (λ test. Contains (cond test (y ∷ filter p ys) (filter p ys)) x) [
      | true ↦ (suc rest.0, omega (arith, rest.1), rest.2)
      | false ↦ rest
    ]

kept : (p : ℕ → Bool) (x : ℕ) (xs : List ℕ) → Contains xs x → p x ≡ true → Contains (filter p xs) x
kept p x xs among passes = contains_kept p x xs among.0 among.1 among.2 passes

some_kept : {A : Type 0} (p : A → Bool) (xs : List A) → length (filter p xs) ≡ 1 → list_any p xs ≡ true
some_kept p [] one = absurd (omega arith)
some_kept p (x ∷ xs) one =
    elim (p x) as (λ test. length (cond test (x ∷ filter p xs) (filter p xs)) ≡ 1 → (test || list_any p xs) ≡ true) [
      | true ↦ λ _. refl
      | false ↦ λ rest. some_kept p xs rest
    ] one

-- Each row on which a condition is TRUE lies in one range of its list.
abbrev pub CoversOnce : Type 0
CoversOnce = (c : Cond) (table : ℕ) (columns : List ℕ) (choice : Choice) →
    holds choice c ≡ True →
    length (filter (λ range. is_tuple_in range (map (choice.cell table) columns)) (range_list c table columns).ranges) ≡ 1

-- The entries of each index are its rows in order.
abbrev pub OrdersRows : Type 0
OrdersRows = (index : Indexed) → IsInOrder (order_in index) (rows_of index) (entries_of index)

module _ (total : IsTotalOrder order_of) (once : CoversOnce) (orders : OrdersRows) (asked : Asked)
    (choice : Choice) (row : ℕ) (there : row < row_count asked.tables (asked_table asked))
    (has_row : HasRow asked choice row) (told : holds choice asked.query.filter ≡ True) where
  among_all : Contains (range_with_len 0 (row_count asked.tables (asked_table asked))) row
  among_all = (
    row,
    omega (arith, length-range_with_len 0 (row_count asked.tables (asked_table asked))),
    get_or-range_with_len 0 (row_count asked.tables (asked_table asked)) row row there ∙ omega arith,
  )

  among_entries : (key : ℕ) → Contains (rows_by_key asked.tables (asked_table asked) key) row
  among_entries key =
      let index : Indexed = record { tables = asked.tables; table = asked_table asked; key = key } in
      Contains-permutation (rows_of index) (entries_of index) row (orders index).same among_all

  values_met : (numbers : List ℕ)
      → have_values (map (value_in (row_at asked.tables (asked_table asked) row)) numbers) (map (sought choice.cell) (sought_parts asked numbers)) ≡ true
  values_met [] = refl
  values_met (number ∷ numbers) = at (values_met numbers) (first_sought asked.earlier asked.position number (conjuncts_of asked.query.filter)) refl
    where
      at : have_values (map (value_in (row_at asked.tables (asked_table asked) row)) numbers) (map (sought choice.cell) (sought_parts asked numbers)) ≡ true
          → (found : Option RefPart) → first_sought asked.earlier asked.position number (conjuncts_of asked.query.filter) ≡ found
          → have_values (map (value_in (row_at asked.tables (asked_table asked) row)) (number ∷ numbers)) (map (sought choice.cell) (cons_some found (sought_parts asked numbers))) ≡ true
      at behind None is = refl
      at behind (Some part) is =
          let cell : truth_of Eq (choice.cell asked.position number) (sought choice.cell part) ≡ True =
          first_told total choice asked.earlier asked.position number (conjuncts_of asked.query.filter) part (conjuncts_told choice asked.query.filter told) is in
          ap₂ (λ (truth : Truth) (rest : Bool). is_true truth && rest)
          (ap (λ (value : Value). truth_of Eq value (sought choice.cell part)) (sym (has_row number)) ∙ cell) behind

  meets_all : (key : ℕ) → meets asked.tables (asked_table asked) key (sought_of asked key) choice.cell row ≡ true
  meets_all key = values_met (key_at asked key).parts

  in_range : (key : ℕ) → is_in_ranges asked.tables (asked_table asked) key (range_list asked.query.filter asked.position (key_at asked key).parts).ranges row ≡ true
  in_range key =
      subst (λ (cell : ℕ → Value). list_any (λ range. is_tuple_in range (map cell (key_at asked key).parts)) (range_list asked.query.filter asked.position (key_at asked key).parts).ranges ≡ true)
      (fun_ext has_row)
      (some_kept (λ range. is_tuple_in range (map (choice.cell asked.position) (key_at asked key).parts)) (range_list asked.query.filter asked.position (key_at asked key).parts).ranges
      (once asked.query.filter asked.position (key_at asked key).parts choice told))

  sought_kept : (key : ℕ) (from : List RefPart) → IsSought asked key from
      → Contains (filter (meets asked.tables (asked_table asked) key from choice.cell) (rows_by_key asked.tables (asked_table asked) key)) row
  sought_kept key from is =
      kept (meets asked.tables (asked_table asked) key from choice.cell) row (rows_by_key asked.tables (asked_table asked) key) (among_entries key)
      (ap (λ (parts : List RefPart). meets asked.tables (asked_table asked) key parts choice.cell row) is.from_is ∙ meets_all key)

  keeps : (access : Access) → IsOffered asked access → Contains (scan access asked.tables (asked_table asked) choice.cell) row
  keeps accesses.All offered = among_all
  keeps (accesses.Index key) offered = among_entries key
  keeps (accesses.Range key list) offered =
      kept (is_in_ranges asked.tables (asked_table asked) key list.ranges) row (rows_by_key asked.tables (asked_table asked) key) (among_entries key)
      (ap (λ (one : RangeList). is_in_ranges asked.tables (asked_table asked) key one.ranges row) offered.1 ∙ in_range key)
  keeps (accesses.Ref key from) offered = sought_kept key from offered.0
  keeps (accesses.EqRef key from) offered = sought_kept key from offered.0
  keeps (accesses.Const key from) offered = sought_kept key from offered.0

-- an access that is offered drops no row
pub drops_none : IsTotalOrder order_of → CoversOnce → OrdersRows → (asked : Asked) (access : Access) → IsOffered asked access → DropsNone asked access
drops_none total once orders asked access offered choice row there has_row told =
    keeps total once orders asked choice row there has_row told access offered
