-- The canonical list of the pieces so far.
use Rattle.std.proofs.Common.{◌≡◌, ◌≢◌, Bool, true, false, ◌||◌, List, [], ◌∷◌, ◌++◌, refl, sym, ◌∙◌, ap, ap₂, append_assoc, append-nil}
use Rattle.std.proofs.lemmas.List.Elements.{All-nil, All-head, All-tail, All-weaker}
use Rattle.std.specs.declared.cmp.Ordering.TheVariants.{Greater}
use Rattle.sa_key.specs.declared.cut.Cut.{Cut}
use Rattle.sa_key.specs.declared.range.KeyRange.{KeyRange}
use Rattle.sa_key.specs.Range.{IsCanonicalCut, canonical_cut, canonical_range, is_cut_in, order_of_cuts}
use Rattle.sa_key.proofs.RangeLemmas.{canonical_cut-again, not_greater}
use Rattle.sa_interval.specs.Canonical.{AreCanonical, ArePieces, IsListOf, IsPiece, lies_in}
use Rattle.sa_interval.specs.inner.Growing.{BeginBy, IsUpto, IsWith}
use Rattle.sa_interval.proofs.CutLemmas.{IsTotal, upto_then, within}
use Rattle.sa_interval.proofs.PutLemmas.{canonical_nil, lies_push, pairs_first, pairs_tail}

-- No range of the list begins behind the next piece.
abbrev pub BeginByPiece : List KeyRange → List KeyRange → Type 0
BeginByPiece [] list = Unit {0}
BeginByPiece (piece ∷ rest) list = BeginBy (canonical_cut piece.from) list

pub record Gathering (given list seen rest : List KeyRange) : Type 0 where
  pub canonical : AreCanonical list
  pub pieces : ArePieces rest
  pub exact : (cut : Cut) → IsCanonicalCut cut → lies_in list cut ≡ lies_in seen cut
  pub begin : BeginByPiece rest list
  pub all : seen ++ rest ≡ given

begin_first : (rest : List KeyRange) → BeginByPiece rest []
begin_first [] = tt
begin_first (piece ∷ rest) = All-nil (λ (range : KeyRange). IsUpto range.from (canonical_cut piece.from))

pub gathering_begins : (pieces : List KeyRange) → ArePieces pieces → Gathering pieces [] [] pieces
gathering_begins pieces are = record {
  canonical = canonical_nil;
  pieces = are;
  exact = λ cut form. refl;
  begin = begin_first pieces;
  all = refl;
}

same_cuts : (piece : KeyRange) (cut : Cut) → is_cut_in (canonical_range piece) cut ≡ is_cut_in piece cut
same_cuts piece cut = ap₂ (λ from to. within from to cut) (canonical_cut-again piece.from) (canonical_cut-again piece.to)

pieces_tail : (piece : KeyRange) (rest : List KeyRange) → ArePieces (piece ∷ rest) → ArePieces rest
pieces_tail piece rest are = record {
  each = All-tail IsPiece piece rest are.each;
  disjoint = pairs_tail (λ earlier next. order_of_cuts (canonical_cut earlier.to) (canonical_cut next.from) ≢ Greater) piece rest are.disjoint;
}

next_begin : IsTotal → (piece : KeyRange) (rest list : List KeyRange) → ArePieces (piece ∷ rest) → BeginBy (canonical_cut piece.from) list → BeginByPiece rest list
next_begin total piece [] list are begin = tt
next_begin total piece (next ∷ rest) list are begin =
    let inside : IsUpto (canonical_cut piece.from) (canonical_cut piece.to) = not_greater (order_of_cuts (canonical_cut piece.from) (canonical_cut piece.to)) (All-head IsPiece piece (next ∷ rest) are.each) in
    let behind : IsUpto (canonical_cut piece.to) (canonical_cut next.from) = not_greater (order_of_cuts (canonical_cut piece.to) (canonical_cut next.from))
    (All-head (λ (other : KeyRange). order_of_cuts (canonical_cut piece.to) (canonical_cut other.from) ≢ Greater) next rest
    (pairs_first (λ earlier other. order_of_cuts (canonical_cut earlier.to) (canonical_cut other.from) ≢ Greater) piece (next ∷ rest) are.disjoint)) in
    let upto : IsUpto (canonical_cut piece.from) (canonical_cut next.from) = upto_then total (canonical_cut piece.from) (canonical_cut piece.to) (canonical_cut next.from) inside behind in
    All-weaker (λ (range : KeyRange). IsUpto range.from (canonical_cut piece.from)) (λ (range : KeyRange). IsUpto range.from (canonical_cut next.from))
    (λ range first. upto_then total range.from (canonical_cut piece.from) (canonical_cut next.from) first upto) list begin

-- a piece is put
pub gathered : IsTotal → (given list new seen : List KeyRange) (piece : KeyRange) (rest : List KeyRange) → Gathering given list seen (piece ∷ rest) → IsWith list (canonical_range piece) new → Gathering given new (seen ++ piece ∷ []) rest
gathered total given list new seen piece rest g made = record {
  canonical = made.canonical;
  pieces = pieces_tail piece rest g.pieces;
  exact = λ cut form.
      made.exact cut form
      ∙ ap₂ (λ before last. before || last) (g.exact cut form) (same_cuts piece cut)
      ∙ sym (lies_push seen piece cut);
  begin = next_begin total piece rest new g.pieces made.begin;
  all = append_assoc seen (piece ∷ []) rest ∙ g.all;
}

pub gathering_ends : (given list seen : List KeyRange) → Gathering given list seen [] → IsListOf (lies_in given) list
gathering_ends given list seen g =
    let same : seen ≡ given = sym (append-nil seen) ∙ g.all in
    record {
      canonical = g.canonical;
      exact = λ cut form. g.exact cut form ∙ ap (λ pieces. lies_in pieces cut) same;
    }
