-- The pieces that are chosen, as the code holds them.
use Rattle.std.specs.Prelude.{ℕ, List, [], ◌∷◌, ◌++◌}
use Rattle.sa_range.specs.declared.chosen.Chosen.{Chosen}
use Rattle.sa_range.specs.declared.line.Piece.{Piece}

-- columns with the pieces on which they stand, as long as there are both
abbrev pub placed : List ℕ → List Piece → List (ℕ × Piece)
placed [] pieces = []
placed (column ∷ columns) [] = []
placed (column ∷ columns) (piece ∷ pieces) = (column, piece) ∷ placed columns pieces

abbrev pub chosen_at : Chosen → List (ℕ × Piece)
chosen_at chosen =
    placed chosen.columns.now chosen.points.now ++ (chosen.column, chosen.piece.now) ∷ []
