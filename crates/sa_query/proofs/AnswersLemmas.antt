-- Lists in order, and that the rows of an answer are.
use Rattle.std.proofs.Common.{◌≡◌, ℕ, zero, suc, ◌+◌, ◌<◌, Bool, true, false, not, ◌&&◌, List, [], ◌∷◌, map, take, drop, length, get_or, Option, Some, None, All, IsPermutation, IsSortedBy, is_lt, refl, sym, ap, ap₂, ◌∙◌, subst, arith, zero-le, length-take, length-drop, get_or-take, get_or-drop, add_assoc}
use Rattle.std.specs.List.{AllByRecursion}
use Rattle.std.proofs.lemmas.List.{length-map, get_or-map}
use Rattle.std.proofs.lemmas.List.Elements.{All-get_or, All-from_recursion}
use Rattle.std.proofs.lemmas.List.Sorted.{All-permutation}
use Rattle.sa_value.specs.declared.value.Value.{Value}
use Rattle.sa_table.specs.Table.{Table}
use Rattle.sa_query.specs.declared.query.Query.{Query}
use Rattle.sa_query.specs.Answers.{order_in, comes_before, cut, AnswersQuery}
use Rattle.sa_query.specs.Meaning.{ResultRow, meaning}

-- whether no member comes before the one in front of it
abbrev pub rises : {A : Type 0} → (A → A → Bool) → List A → Bool
rises before [] = true
rises before (one ∷ []) = true
rises before (one ∷ other ∷ others) = not (before other one) && rises before (other ∷ others)

first_of_both : (a b : Bool) → (not a && b) ≡ true → a ≡ false
first_of_both true b is = absurd (cc)
first_of_both false b is = refl

second_of_both : (a b : Bool) → (not a && b) ≡ true → b ≡ true
second_of_both true b is = absurd (cc)
second_of_both false b is = is

module _ {A : Type 0} (before : A → A → Bool) where
  in_order : (list : List A) → rises before list ≡ true → IsSortedBy before list
  in_order [] is k d least most = absurd (omega arith)
  in_order (one ∷ []) is k d least most = absurd (omega arith)
  in_order (one ∷ other ∷ others) is zero d least most = first_of_both (before other one) _ is
  in_order (one ∷ other ∷ others) is (suc k) d least most =
      let next : suc (k + 1) ≡ suc k + 1 = omega arith in
      subst (λ index. before (get_or (one ∷ other ∷ others) index d) (get_or (other ∷ others) k d) ≡ false) next
      (in_order (other ∷ others) (second_of_both (before other one) _ is) k d zero-le (omega arith))

  dropped : (count : ℕ) (list : List A) → IsSortedBy before list → IsSortedBy before (drop count list)
  dropped count list order k d least most =
      ap₂ before
      (get_or-drop count list (k + 1) d ∙ ap (λ index. get_or list index d) (sym (add_assoc count k 1)))
      (get_or-drop count list k d)
      ∙ order (count + k) d zero-le (omega (arith, length-drop count list))

  taken : (count : ℕ) (list : List A) → IsSortedBy before list → IsSortedBy before (take count list)
  taken count list order k d least most =
      ap₂ before
      (get_or-take count list (k + 1) d (omega (arith, length-take count list)))
      (get_or-take count list k d (omega (arith, length-take count list)))
      ∙ order k d zero-le (omega (arith, length-take count list))

module _ (query : Query) (key : List Value → List Value) where
  -- whether the first row has to stand before the second one, where the key gives the ORDER BY values of a row
  abbrev row_before : List Value → List Value → Bool
  row_before one other = is_lt (order_in query.order (key one) (key other))

  abbrev HasKey : ResultRow → Type 0
  HasKey result = result.order ≡ key result.row

  rows_of_ordered : (arranged : List ResultRow) → All HasKey arranged → IsSortedBy (comes_before query) arranged
      → IsSortedBy row_before (map (λ (one : ResultRow). one.row) arranged)
  rows_of_ordered arranged keyed order k d least most =
      let default : ResultRow = record { row = d; order = key d } in
      let within : k + 1 < length arranged =
      subst (λ n. k + 1 < n) (length-map arranged (λ (one : ResultRow). one.row)) most in
      let at : (index : ℕ) → index < length arranged
      → key (get_or (map (λ (one : ResultRow). one.row) arranged) index d) ≡ (get_or arranged index default).order =
      λ index below. ap key (get_or-map (λ (one : ResultRow). one.row) arranged index default d below)
      ∙ sym (All-get_or HasKey arranged index default below keyed) in
      ap₂ (λ one other. is_lt (order_in query.order one other)) (at (k + 1) within) (at k (omega (arith, within)))
      ∙ order k default zero-le within

  cut_ordered : (limit : Option ℕ) (rows : List (List Value)) → IsSortedBy row_before rows
      → IsSortedBy row_before (cut limit rows)
  cut_ordered None rows order = order
  cut_ordered (Some limit) rows order = taken row_before limit rows order

  -- Where the key gives the ORDER BY values of a query's rows, each answer's rows are in order by it.
  pub answer_in_order : (tables : List Table) (results : List ResultRow) (rows : List (List Value))
      → meaning query tables ≡ results → AllByRecursion HasKey results → AnswersQuery query tables rows
      → IsSortedBy row_before rows
  answer_in_order tables results rows is keyed answers =
      let all_keyed : All HasKey (meaning query tables) =
      subst (All HasKey) (sym is) (All-from_recursion HasKey results keyed) in
      subst (IsSortedBy row_before) (sym answers.rows_are)
      (cut_ordered query.limit _
      (dropped row_before query.offset _
      (rows_of_ordered answers.arranged (All-permutation HasKey _ _ answers.same all_keyed) answers.in_order)))

-- Rows answer a query where its results can be arranged so.
pub arranged_answer : (query : Query) (tables : List Table) (rows : List (List Value)) (results arranged : List ResultRow)
    → meaning query tables ≡ results → IsPermutation results arranged
    → rises (comes_before query) arranged ≡ true
    → rows ≡ cut query.limit (drop query.offset (map (λ (one : ResultRow). one.row) arranged))
    → AnswersQuery query tables rows
arranged_answer query tables rows results arranged is same rise rows_are = record {
  arranged = arranged;
  same = subst (λ results. IsPermutation results arranged) (sym is) same;
  in_order = in_order (comes_before query) arranged rise;
  rows_are = rows_are;
}
