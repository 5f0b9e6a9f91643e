-- No cut of a list of ranges is longer than the key.
use Rattle.std.proofs.Common.{ℕ, ◌+◌, ◌≤◌, true, false, cond, List, [], ◌∷◌, ◌++◌, length, take, map, flat_map, Option, Some, None, All, arith, length-append, length-take}
use Rattle.std.specs.List.{AllByRecursion}
use Rattle.std.specs.Ordering.{is_eq}
use Rattle.std.proofs.lemmas.List.Elements.{All-from_recursion}
use Rattle.sa_value.specs.declared.value.Value.{Value}
use Rattle.sa_key.specs.declared.range.KeyRange.{KeyRange}
use Rattle.sa_key.specs.Range.{canonical_range, order_of_cuts}
use Rattle.sa_key.proofs.RangeLemmas.{canonical_cut-length}
use Rattle.sa_cond.specs.declared.cond.Cond.{Cond}
use Rattle.sa_plan.specs.Lawful.{IsShort}
use Rattle.sa_range.specs.declared.line.Piece.{Piece}
use Rattle.sa_range.specs.declared.line.Piece.TheVariants.{Point, Gap}
use Rattle.sa_range.specs.RangeList.{continued, gap_end, joined, kept_pieces, parts_of, range_list, range_of, sequences, united}

module _ {A : Type 0} (P : A → Type 0) where
  all_append : (xs ys : List A) → AllByRecursion P xs → AllByRecursion P ys → AllByRecursion P (xs ++ ys)
  all_append [] ys one other = other
  all_append (x ∷ xs) ys one other = (one.0, all_append xs ys one.1 other)

  all_flat_map : {B : Type 0} (f : B → List A) → ((x : B) → AllByRecursion P (f x)) → (xs : List B) → AllByRecursion P (flat_map f xs)
  all_flat_map f each [] = tt
  all_flat_map f each (x ∷ xs) = all_append (f x) (flat_map f xs) (each x) (all_flat_map f each xs)

  all_map : {B : Type 0} (f : B → A) (Q : B → Type 0) → ((x : B) → Q x → P (f x)) → (xs : List B) → AllByRecursion Q xs → AllByRecursion P (map f xs)
  all_map f Q each [] all = tt
  all_map f Q each (x ∷ xs) all = (each x all.0, all_map f Q each xs all.1)

abbrev IsUpto : ℕ → List Piece → Type 0
IsUpto most pieces = length pieces ≤ most

module _ (condition : Cond) (table : ℕ) where
  sequences_short : (chosen : List (ℕ × Piece)) (columns : List ℕ) → AllByRecursion (IsUpto (length columns)) (sequences condition table chosen columns)
  sequences_short chosen [] = (omega arith, tt)
  sequences_short chosen (column ∷ columns) =
      all_flat_map (IsUpto (length (column ∷ columns))) (continued follow) (short (λ value. sequences_short (chosen ++ (column, Point value) ∷ []) columns)) (kept_pieces condition table chosen column)
    where
      follow : Value → List (List Piece)
      follow value = sequences condition table (chosen ++ (column, Point value) ∷ []) columns

      short : ((value : Value) → AllByRecursion (IsUpto (length columns)) (follow value)) → (piece : Piece)
          → AllByRecursion (IsUpto (length (column ∷ columns))) (continued follow piece)
      short behind (Gap lower upper) = (omega arith, tt)
      short behind (Point value) =
          all_map (IsUpto (length (column ∷ columns))) (λ (others : List Piece). Point value ∷ others) (IsUpto (length columns))
          (λ others few. omega (arith, few)) (follow value) (behind value)

gap_end-short : (points : List Value) (upper : Option Value) → length (gap_end points upper).tuple ≤ length points + 1
gap_end-short points None = omega arith
gap_end-short points (Some value) = omega (arith, length-append points (value ∷ []))

range_of-short : (points : List Value) (pieces : List Piece) → IsShort (length points + length pieces) (range_of points pieces)
range_of-short points [] = (omega arith, omega arith)
range_of-short points (Point value ∷ pieces) =
    let rest : IsShort (length (points ++ value ∷ []) + length pieces) (range_of (points ++ value ∷ []) pieces) = range_of-short (points ++ value ∷ []) pieces in
    (omega (arith, rest.0, length-append points (value ∷ [])), omega (arith, rest.1, length-append points (value ∷ [])))
range_of-short points (Gap lower upper ∷ pieces) = (omega (arith, length-append points (lower ∷ [])), omega (arith, gap_end-short points upper))

shorter : (few most : ℕ) (range : KeyRange) → few ≤ most → IsShort few range → IsShort most range
shorter few most range fits short = (omega (arith, short.0), omega (arith, short.1))

canonical-short : (most : ℕ) (range : KeyRange) → IsShort most range → IsShort most (canonical_range range)
canonical-short most range short = (omega (arith, short.0, canonical_cut-length range.from), omega (arith, short.1, canonical_cut-length range.to))

joined-short : (most : ℕ) (range : KeyRange) (ranges : List KeyRange) → IsShort most range → AllByRecursion (IsShort most) ranges → AllByRecursion (IsShort most) (joined range ranges)
joined-short most range [] short all = (short, tt)
joined-short most range (next ∷ others) short all =
    elim (is_eq (order_of_cuts range.to next.from))
    as (λ test. AllByRecursion (IsShort most) (cond test (record { from = range.from; to = next.to } ∷ others) (range ∷ next ∷ others))) [
      | true ↦ ((short.0, all.0.1), all.1)
      | false ↦ (short, all)
    ]

united-short : (most : ℕ) (ranges : List KeyRange) → AllByRecursion (IsShort most) ranges → AllByRecursion (IsShort most) (united ranges)
united-short most [] all = tt
united-short most (range ∷ ranges) all = joined-short most range (united ranges) all.0 (united-short most ranges all.1)

-- the ranges of a key over these columns have no cut with more values
pub ranges_short : (condition : Cond) (table : ℕ) (columns : List ℕ) → All (IsShort (length columns)) (range_list condition table columns).ranges
unfolding range_list
ranges_short condition table columns =
    let served : List ℕ = take (parts_of condition table columns) columns in
    let few : length served ≤ length columns = omega (arith, length-take (parts_of condition table columns) columns) in
    let walks : List (List Piece) = sequences condition table [] served in
    let spans : List KeyRange = map (λ pieces. canonical_range (range_of [] pieces)) walks in
    let short : AllByRecursion (IsShort (length columns)) spans =
    all_map (IsShort (length columns)) (λ (pieces : List Piece). canonical_range (range_of [] pieces)) (IsUpto (length served))
    (λ pieces upto. canonical-short (length columns) (range_of [] pieces)
    (shorter (length pieces) (length columns) (range_of [] pieces) (omega arith) (shorter (0 + length pieces) (length pieces) (range_of [] pieces) (omega arith) (range_of-short [] pieces))))
    walks (sequences_short condition table [] served) in
    All-from_recursion (IsShort (length columns)) (united spans) (united-short (length columns) spans short)
