-- The ranges of a key that a condition leaves.
use Rattle.std.specs.Prelude.{ℕ, nat_le, List, [], ◌∷◌, ◌++◌, map, length, take, Option, Some, None, if◌then◌else◌}
use Rattle.std.specs.List.{filter, flat_map}
use Rattle.std.specs.Ordering.{is_eq}
use Rattle.sa_value.specs.declared.value.Value.{Value}
use Rattle.sa_key.specs.declared.cut.Cut.{Cut}
use Rattle.sa_key.specs.declared.cut.Side.TheVariants.{Below, Above}
use Rattle.sa_key.specs.declared.range.KeyRange.{KeyRange}
use Rattle.sa_key.specs.Range.{canonical_range, order_of_cuts}
use Rattle.sa_interval.specs.declared.list.RangeList.{RangeList}
use Rattle.sa_cond.specs.declared.cond.Cond.{Cond}
use Rattle.sa_range.specs.declared.line.Piece.{Piece}
use Rattle.sa_range.specs.declared.line.Piece.TheVariants.{Point, Gap}
use Rattle.sa_range.specs.Line.{constants, pieces_of}
use Rattle.sa_range.specs.Atom.{is_true, literals_of, truth_on}

-- the sequences that begin with a piece, where these follow its point
abbrev pub continued : (behind : Value → List (List Piece)) → Piece → List (List Piece)
continued behind (Gap lower upper) = (Gap lower upper ∷ []) ∷ []
continued behind (Point value) = map (λ others. Point value ∷ others) (behind value)

module _ (condition : Cond) (table : ℕ) where
  -- the pieces of a column's line on which the condition is TRUE, behind the pieces chosen before
  abbrev pub kept_pieces : (chosen : List (ℕ × Piece)) → (column : ℕ) → List Piece
  kept_pieces chosen column =
      filter (λ piece. is_true (truth_on table (chosen ++ (column, piece) ∷ []) condition))
      (pieces_of (constants (literals_of table column condition)))

  -- Sequences of kept pieces, one for each part. Behind a gap nothing follows.
  abbrev pub sequences : (chosen : List (ℕ × Piece)) → (columns : List ℕ) → List (List Piece)
  sequences chosen [] = [] ∷ []
  sequences chosen (column ∷ columns) =
      flat_map (continued (λ value. sequences (chosen ++ (column, Point value) ∷ []) columns))
      (kept_pieces chosen column)

  -- how many parts serve: as long as there are no more than 1,024 sequences
  abbrev pub parts_from : (before columns : List ℕ) → ℕ
  parts_from before [] = length before
  parts_from before (column ∷ columns) =
      if nat_le (length (sequences [] (before ++ column ∷ []))) 1024
      then parts_from (before ++ column ∷ []) columns
      else length before

  abbrev pub parts_of : (columns : List ℕ) → ℕ
  parts_of columns = parts_from [] columns

-- the cut at the end of a gap behind these points
abbrev pub gap_end : List Value → Option Value → Cut
gap_end points None = record { tuple = points; side = Above }
gap_end points (Some value) = record { tuple = points ++ value ∷ []; side = Below }

-- the range of a sequence behind these points
abbrev pub range_of : (points : List Value) → List Piece → KeyRange
range_of points [] = record {
  from = record { tuple = points; side = Below };
  to = record { tuple = points; side = Above };
}
range_of points (Point value ∷ pieces) = range_of (points ++ value ∷ []) pieces
range_of points (Gap lower upper ∷ pieces) = record {
  from = record { tuple = points ++ lower ∷ []; side = Above };
  to = gap_end points upper;
}

-- Two neighbours are united where the first ends at the cut where the second begins.
abbrev pub joined : KeyRange → List KeyRange → List KeyRange
joined range [] = range ∷ []
joined range (next ∷ others) =
    if is_eq (order_of_cuts range.to next.from)
    then record { from = range.from; to = next.to } ∷ others
    else range ∷ next ∷ others

abbrev pub united : List KeyRange → List KeyRange
united [] = []
united (range ∷ ranges) = joined range (united ranges)

-- The list of a condition for a key of a table over these columns.
unfoldable pub range_list : (condition : Cond) (table : ℕ) (columns : List ℕ) → RangeList
range_list condition table columns = record {
  parts = parts_of condition table columns;
  ranges = united (map (λ pieces. canonical_range (range_of [] pieces))
      (sequences condition table [] (take (parts_of condition table columns) columns)));
}
