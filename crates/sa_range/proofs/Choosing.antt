-- The piece on which a column stands, as a loop looks for it.
use Rattle.std.proofs.Common.{◌≡◌, ◌≢◌, ℕ, ◌+◌, ◌<◌, ◌≤◌, Bool, false, cond, List, [], ◌∷◌, ◌++◌, length, drop, get_or, Option, Some, None, refl, sym, ap, ap₂, ◌∙◌, inl, inr}
use Rattle.std.specs.Prelude.{◌==◌}
use Rattle.std.proofs.lemmas.Bool.{eq-eqb}
use Rattle.std.proofs.lemmas.Bool.Decides.{eqb_tells}
use Rattle.std.proofs.lemmas.List.{drop_more, drop_all}
use Rattle.sa_range.specs.declared.line.Piece.{Piece}
use Rattle.sa_range.specs.Atom.{piece_at}
use Rattle.sa_range.specs.inner.Placed.{placed}

placed-nil : (columns : List ℕ) → placed columns [] ≡ []
placed-nil [] = refl
placed-nil (column ∷ columns) = refl

different : (a b : ℕ) → a ≢ b → (a == b) ≡ false
different a b other =
    elim (eqb_tells a b) as (λ told. (a == b) ≡ false) [
      | inl same ↦ absurd (other same.1)
      | inr apart ↦ apart.0
    ]

-- the piece of the last column
pub at_last : (column last : ℕ) (piece : Piece) → last ≡ column → Some piece ≡ piece_at column ((last, piece) ∷ [])
at_last column last piece same = ap (λ (test : Bool). cond test (Some piece) None) (sym (eq-eqb last column same))

pub not_last : (column last : ℕ) (piece : Piece) → last ≢ column → None ≡ piece_at column ((last, piece) ∷ [])
not_last column last piece other = ap (λ (test : Bool). cond test (Some piece) None) (sym (different last column other))

module _ (columns : List ℕ) (points : List Piece) (last : List (ℕ × Piece)) (column i : ℕ) where
  abbrev from : ℕ → Option Piece
  from place = piece_at column (placed (drop place columns) (drop place points) ++ last)

  pub at_further : (d : ℕ) (e : Piece) → i < length columns → i < length points → get_or columns i d ≢ column → from (i + 1) ≡ from i
  at_further d e here there other =
      sym (ap₂ (λ (rest : List ℕ) (others : List Piece). piece_at column (placed rest others ++ last)) (drop_more columns i d here) (drop_more points i e there)
      ∙ ap (λ (test : Bool). cond test (Some (get_or points i e)) (from (i + 1))) (different (get_or columns i d) column other))

  pub past_columns : length columns ≤ i → from i ≡ piece_at column last
  past_columns past = ap (λ (rest : List ℕ). piece_at column (placed rest (drop i points) ++ last)) (drop_all i columns past)

  pub past_points : length points ≤ i → from i ≡ piece_at column last
  past_points past =
      ap (λ (others : List Piece). piece_at column (placed (drop i columns) others ++ last)) (drop_all i points past)
      ∙ ap (λ (front : List (ℕ × Piece)). piece_at column (front ++ last)) (placed-nil (drop i columns))
