-- Lists of ranges that rise, are disjoint and never touch, and which cuts lie in them.
use Rattle.std.specs.Prelude.{◌≡◌, ◌≢◌, Bool, List, All, AllPairs}
use Rattle.std.specs.List.{list_any}
use Rattle.std.specs.declared.cmp.Ordering.TheVariants.{Less, Greater}
use Rattle.sa_key.specs.declared.cut.Cut.{Cut}
use Rattle.sa_key.specs.declared.range.KeyRange.{KeyRange}
use Rattle.sa_key.specs.Range.{IsCanonicalCut, canonical_cut, is_cut_in, order_of_cuts}

-- A range that is in canonical form, and not empty.
pub record IsCanonicalRange (range : KeyRange) : Type 0 where
  pub from : IsCanonicalCut range.from
  pub to : IsCanonicalCut range.to
  pub rises : order_of_cuts range.from range.to ≡ Less

-- Each of them ends before the next begins.
pub record AreCanonical (ranges : List KeyRange) : Type 0 where
  pub each : All IsCanonicalRange ranges
  pub apart : AllPairs (λ earlier later. order_of_cuts earlier.to later.from ≡ Less) ranges

-- A range whose cuts may stand in any form. It may be empty.
abbrev pub IsPiece : KeyRange → Type 0
IsPiece piece = order_of_cuts (canonical_cut piece.from) (canonical_cut piece.to) ≢ Greater

-- Pieces that rise and are disjoint. Two may touch, where one ends at the cut where the next begins.
pub record ArePieces (pieces : List KeyRange) : Type 0 where
  pub each : All IsPiece pieces
  pub disjoint : AllPairs (λ earlier later.
      order_of_cuts (canonical_cut earlier.to) (canonical_cut later.from) ≢ Greater) pieces

-- whether a canonical cut lies in one of these ranges
abbrev pub lies_in : List KeyRange → Cut → Bool
lies_in ranges cut = list_any (λ range. is_cut_in range cut) ranges

-- The canonical list in which exactly these canonical cuts lie.
pub record IsListOf (holds : Cut → Bool) (ranges : List KeyRange) : Type 0 where
  pub canonical : AreCanonical ranges
  pub exact : (cut : Cut) → IsCanonicalCut cut → lies_in ranges cut ≡ holds cut
