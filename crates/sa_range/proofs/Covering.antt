-- The key tuple of a row on which the condition is TRUE lies in the range of one of the sequences.
use Rattle.std.proofs.Common.{◌≡◌, ℕ, Bool, true, false, not, ◌&&◌, ◌||◌, ◌==◌, cond, List, [], ◌∷◌, ◌++◌, length, take, map, flat_map, Some, None, refl, ap, ap₂, ◌∙◌, subst, inl, inr, ◌⊎◌}
use Rattle.std.specs.List.{filter, list_any}
use Rattle.std.specs.Ordering.{ordering_then, ordering_reverse}
use Rattle.std.specs.declared.cmp.Ordering.{Ordering}
use Rattle.std.specs.declared.cmp.Ordering.TheVariants.{Less, Equal, Greater}
use Rattle.std.proofs.lemmas.Bool.{eqb-true}
use Rattle.std.proofs.lemmas.List.{map-append}
use Rattle.std.proofs.lemmas.List.Folds.{list_any-append}
use Rattle.sa_value.specs.declared.truth.Truth.TheVariants.{True}
use Rattle.sa_value.specs.declared.value.Value.{Value}
use Rattle.sa_value.specs.Compare.{order_of}
use Rattle.sa_key.specs.declared.cut.Cut.{Cut}
use Rattle.sa_key.specs.declared.cut.Side.TheVariants.{Below, Above}
use Rattle.sa_key.specs.declared.range.KeyRange.{KeyRange}
use Rattle.sa_key.specs.Order.{order_of_tuples, is_before, is_before_side}
use Rattle.sa_key.specs.Range.{is_tuple_in}
use Rattle.sa_cond.specs.declared.cond.Cond.{Cond}
use Rattle.sa_cond.specs.Choice.{Choice}
use Rattle.sa_cond.specs.Condition.{holds}
use Rattle.sa_range.specs.declared.line.Piece.{Piece}
use Rattle.sa_range.specs.declared.line.Piece.TheVariants.{Point, Gap}
use Rattle.sa_range.specs.Line.{constants, pieces_of}
use Rattle.sa_range.specs.Atom.{is_true, literals_of, piece_at, truth_on}
use Rattle.sa_range.specs.RangeList.{continued, sequences, range_of}
use Rattle.sa_range.proofs.Agreeing.{Fits, Suits, stays_true}
use Rattle.sa_range.proofs.Rising.{IsTotal, behind, behind_cut, spans-Point, constants_ascend}
use Rattle.sa_range.proofs.Standing.{Stands, find, all_among}

-- A value in front that is equal to the tuple's changes nothing.
before_behind : (cell value : Value) (tuple : List Value) (cut : Cut) → order_of cell value ≡ Equal → is_before (cell ∷ tuple) (behind_cut value cut) ≡ is_before tuple cut
before_behind cell value tuple cut same = ap (λ (order : Ordering). is_before_side (ordering_then order (order_of_tuples (take_part tuple cut) cut.tuple)) cut.side) same
  where
    take_part : List Value → Cut → List Value
    take_part tuple cut = take (length cut.tuple) tuple

tuple_behind : (cell value : Value) (tuple : List Value) (range : KeyRange) → order_of cell value ≡ Equal → is_tuple_in (behind value range) (cell ∷ tuple) ≡ is_tuple_in range tuple
tuple_behind cell value tuple range same =
    ap₂ (λ (from to : Bool). not from && to) (before_behind cell value tuple range.from same) (before_behind cell value tuple range.to same)

abbrev pub covered : List Value → List KeyRange → Bool
covered tuple ranges = list_any (λ range. is_tuple_in range tuple) ranges

covered_behind : (cell value : Value) (tuple : List Value) (ranges : List KeyRange) → order_of cell value ≡ Equal → covered (cell ∷ tuple) (map (behind value) ranges) ≡ covered tuple ranges
covered_behind cell value tuple [] same = refl
covered_behind cell value tuple (range ∷ ranges) same =
    ap₂ (λ (first rest : Bool). first || rest) (tuple_behind cell value tuple range same) (covered_behind cell value tuple ranges same)

any_kept : (tuple : List Value) (follow : Value → List (List Piece)) (keep : Piece → Bool) (pieces : List Piece)
    → covered tuple (map (range_of []) (flat_map (continued follow) (filter keep pieces))) ≡ list_any (λ piece. keep piece && covered tuple (map (range_of []) (continued follow piece))) pieces
any_kept tuple follow keep [] = refl
any_kept tuple follow keep (piece ∷ pieces) =
    elim (keep piece) as (λ kept. covered tuple (map (range_of []) (flat_map (continued follow) (cond kept (piece ∷ filter keep pieces) (filter keep pieces))))
    ≡ ((kept && covered tuple (map (range_of []) (continued follow piece))) || list_any (λ piece. keep piece && covered tuple (map (range_of []) (continued follow piece))) pieces)) [
      | true ↦
          ap (covered tuple) (map-append (range_of []) (continued follow piece) (flat_map (continued follow) (filter keep pieces)))
          ∙ list_any-append (λ (range : KeyRange). is_tuple_in range tuple) (map (range_of []) (continued follow piece)) (map (range_of []) (flat_map (continued follow) (filter keep pieces)))
          ∙ ap (λ rest. covered tuple (map (range_of []) (continued follow piece)) || rest) (any_kept tuple follow keep pieces)
      | false ↦ any_kept tuple follow keep pieces
    ]

both_true : (a b : Bool) → a ≡ true → b ≡ true → (a && b) ≡ true
both_true a b first second = ap₂ (λ (x y : Bool). x && y) first second

-- One more column on a piece.
at_append : (column : ℕ) (chosen : List (ℕ × Piece)) (last : ℕ) (piece found : Piece) → piece_at column (chosen ++ (last, piece) ∷ []) ≡ Some found
    → (piece_at column chosen ≡ Some found) ⊎ ((last ≡ column) × (piece ≡ found))
at_append column [] last piece found is = at_last (last == column) refl is
  where
    at_last : (test : Bool) → (last == column) ≡ test → cond test (Some piece) None ≡ Some found → (piece_at column [] ≡ Some found) ⊎ ((last ≡ column) × (piece ≡ found))
    at_last true same is = inr (eqb-true last column same, cc)
    at_last false same is = cc
at_append column (first ∷ chosen) last piece found is =
    elim (first.0 == column) as (λ test. cond test (Some first.1) (piece_at column (chosen ++ (last, piece) ∷ [])) ≡ Some found
    → (cond test (Some first.1) (piece_at column chosen) ≡ Some found) ⊎ ((last ≡ column) × (piece ≡ found))) [
      | true ↦ λ here. inl here
      | false ↦ λ later. at_append column chosen last piece found later
    ] is

module _ (total : IsTotal) (choice : Choice) (condition : Cond) (table : ℕ) (told : holds choice condition ≡ True) where
  abbrev cell : ℕ → Value
  cell column = choice.cell table column

  fits_more : (chosen : List (ℕ × Piece)) (last : ℕ) (piece : Piece) → Fits choice table chosen condition → Suits (cell last) piece (literals_of table last condition)
      → Fits choice table (chosen ++ (last, piece) ∷ []) condition
  fits_more chosen last piece fits suits column found is = by_place (at_append column chosen last piece found is)
    where
      by_place : (piece_at column chosen ≡ Some found) ⊎ ((last ≡ column) × (piece ≡ found)) → Suits (cell column) found (literals_of table column condition)
      by_place (inl before) = fits column found before
      by_place (inr here) =
          subst (λ number. Suits (cell number) found (literals_of table number condition)) here.0
          (subst (λ one. Suits (cell last) one (literals_of table last condition)) here.1 suits)

  pub covers : (chosen : List (ℕ × Piece)) (columns : List ℕ) (rest : List Value) → Fits choice table chosen condition
      → covered (map cell columns ++ rest) (map (range_of []) (sequences condition table chosen columns)) ≡ true
  covers chosen [] rest fits = refl
  covers chosen (column ∷ columns) rest fits =
      any_kept tuple follow keep (pieces_of (constants literals))
      ∙ find total (cell column) literals (λ piece. keep piece && covered tuple (map (range_of []) (continued follow piece)))
      (found (λ value suits. covers (chosen ++ (column, Point value) ∷ []) columns rest (fits_more chosen column (Point value) fits suits))) (constants literals) (constants_ascend total literals) (all_among total (cell column) literals)
    where
      tuple : List Value
      tuple = cell column ∷ map cell columns ++ rest

      literals : List Value
      literals = literals_of table column condition

      follow : Value → List (List Piece)
      follow value = sequences condition table (chosen ++ (column, Point value) ∷ []) columns

      keep : Piece → Bool
      keep piece = is_true (truth_on table (chosen ++ (column, piece) ∷ []) condition)

      kept : (piece : Piece) → Suits (cell column) piece literals → keep piece ≡ true
      kept piece suits = ap is_true (stays_true choice table (chosen ++ (column, piece) ∷ []) condition (fits_more chosen column piece fits suits) told)

      above : (lower : Value) → order_of lower (cell column) ≡ Less → order_of (cell column) lower ≡ Greater
      above lower less = total.antisymm (cell column) lower ∙ ap ordering_reverse less

      goes_on : ((value : Value) → Suits (cell column) (Point value) literals → covered (map cell columns ++ rest) (map (range_of []) (follow value)) ≡ true)
          → (piece : Piece) → Stands (cell column) piece → Suits (cell column) piece literals → covered tuple (map (range_of []) (continued follow piece)) ≡ true
      goes_on more (Point value) stands suits =
          ap (covered tuple) (spans-Point value (follow value))
          ∙ covered_behind (cell column) value (map cell columns ++ rest) (map (range_of []) (follow value)) stands
          ∙ more value suits
      goes_on more (Gap lower None) stands suits = ap (λ (order : Ordering). (not (is_before_side (ordering_then order Equal) Above) && true) || false) (above lower stands)
      goes_on more (Gap lower (Some upper)) stands suits =
          ap₂ (λ (order other : Ordering). (not (is_before_side (ordering_then order Equal) Above) && is_before_side (ordering_then other Equal) Below) || false) (above lower stands.0) stands.1

      found : ((value : Value) → Suits (cell column) (Point value) literals → covered (map cell columns ++ rest) (map (range_of []) (follow value)) ≡ true)
          → (piece : Piece) → Stands (cell column) piece → Suits (cell column) piece literals → (keep piece && covered tuple (map (range_of []) (continued follow piece))) ≡ true
      found more piece stands suits = both_true (keep piece) (covered tuple (map (range_of []) (continued follow piece))) (kept piece suits) (goes_on more piece stands suits)
