-- How sequences of kept pieces go on at the next part.
use Rattle.std.specs.Prelude.{ℕ, nat_le, Bool, true, false, List, [], ◌∷◌, ◌++◌, length, Option, Some, None, if◌then◌else◌}
use Rattle.std.specs.List.{flat_map}
use Rattle.sa_cond.specs.declared.cond.Cond.{Cond}
use Rattle.sa_range.specs.declared.line.Piece.{Piece}
use Rattle.sa_range.specs.declared.line.Piece.TheVariants.{Point, Gap}
use Rattle.sa_range.specs.Atom.{is_true, truth_on}
use Rattle.sa_range.specs.inner.Placed.{placed}

-- whether a sequence ends in a gap
abbrev pub is_ended : List Piece → Bool
is_ended [] = false
is_ended (Point value ∷ pieces) = is_ended pieces
is_ended (Gap lower upper ∷ pieces) = true

module _ (condition : Cond) (table : ℕ) (columns : List ℕ) (column : ℕ) where
  -- whether a piece of the column is kept behind the points of a sequence
  unfoldable pub keeps : List Piece → Piece → Bool
  keeps walk piece =
      is_true (truth_on table (placed columns walk ++ (column, piece) ∷ []) condition)

  -- the sequence with a piece at its end, if that is kept
  abbrev pub with_piece : List Piece → Piece → List (List Piece)
  with_piece walk piece = if keeps walk piece then (walk ++ piece ∷ []) ∷ [] else []

  -- the sequences that begin with a sequence, over one part more
  abbrev pub longer_of : (line : List Piece) → List Piece → List (List Piece)
  longer_of line walk = if is_ended walk then walk ∷ [] else flat_map (with_piece walk) line

-- sequences, where there are no more than 1,024
abbrev pub at_most : List (List Piece) → Option (List (List Piece))
at_most walks = if nat_le (length walks) 1024 then Some walks else None
