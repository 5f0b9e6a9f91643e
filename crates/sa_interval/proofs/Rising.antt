-- Pieces that rise, one after another.
use Rattle.std.proofs.Common.{◌≡◌, ◌≢◌, ℕ, ◌+◌, ◌<◌, false, List, [], ◌∷◌, ◌++◌, length, take, get_or, sym, ◌∙◌, ap, subst, ⊎_elim, arith}
use Rattle.std.proofs.lemmas.Bool.{cases_lt}
use Rattle.std.proofs.lemmas.List.{get_or-take, get_or_default, length-take-le, take_more}
use Rattle.std.proofs.lemmas.List.Elements.{All-more}
use Rattle.std.proofs.lemmas.List.Quantifiers.{all_pairs_push}
use Rattle.std.specs.List.{AllPairs}
use Rattle.std.specs.Ordering.{is_gt}
use Rattle.std.specs.declared.cmp.Ordering.{Ordering}
use Rattle.std.specs.declared.cmp.Ordering.TheVariants.{Less, Equal, Greater}
use Rattle.sa_key.specs.declared.range.KeyRange.{KeyRange}
use Rattle.sa_key.specs.Range.{canonical_cut, order_of_cuts}
use Rattle.sa_key.proofs.RangeLemmas.{not_greater}
use Rattle.sa_interval.specs.Canonical.{ArePieces, IsPiece}
use Rattle.sa_interval.proofs.CutLemmas.{IsTotal, upto_then}

isnt_greater : (order : Ordering) → is_gt order ≡ false → order ≢ Greater
isnt_greater Less is = λ greater. cc
isnt_greater Equal is = λ greater. cc
isnt_greater Greater is = cc

-- The earlier piece doesn't end behind the start of the later one.
abbrev pub EndsBy : KeyRange → KeyRange → Type 0
EndsBy earlier later = order_of_cuts (canonical_cut earlier.to) (canonical_cut later.from) ≢ Greater

-- what ends by the start of the last piece before does so by that of the next
ends_by : IsTotal → (first last piece : KeyRange) → EndsBy first last → IsPiece last → EndsBy last piece → EndsBy first piece
ends_by total first last piece before inside behind =
    isnt_greater (order_of_cuts (canonical_cut first.to) (canonical_cut piece.from))
    (upto_then total (canonical_cut first.to) (canonical_cut last.from) (canonical_cut piece.from)
    (not_greater (order_of_cuts (canonical_cut first.to) (canonical_cut last.from)) before)
    (upto_then total (canonical_cut last.from) (canonical_cut last.to) (canonical_cut piece.from)
    (not_greater (order_of_cuts (canonical_cut last.from) (canonical_cut last.to)) inside)
    (not_greater (order_of_cuts (canonical_cut last.to) (canonical_cut piece.from)) behind)))

all_end_by : IsTotal → (front : List KeyRange) (n : ℕ) (last piece : KeyRange) → ArePieces front → length front ≡ n + 1 → ((d : KeyRange) → get_or front n d ≡ last) → EndsBy last piece → (k : ℕ) (d : KeyRange) → k < length front → EndsBy (get_or front k d) piece
all_end_by total front n last piece are long is behind k d here =
    ⊎_elim
    (λ before. ends_by total (get_or front k d) last piece
    (subst (λ other. EndsBy (get_or front k d) other) (is d) (are.disjoint k n d before (omega arith)))
    (subst IsPiece (is d) (are.each n d (omega arith)))
    behind)
    (λ not_before.
    let same : k ≡ n = omega arith in
    subst (λ other. EndsBy other piece) (sym (ap (λ i. get_or front i d) same ∙ is d)) behind)
    (cases_lt k n)

-- One piece more, which the last one before doesn't end behind.
pub pieces_more : IsTotal → (pieces : List KeyRange) (n : ℕ) (last piece : KeyRange) → n + 1 < length pieces → last ≡ get_or pieces n last → piece ≡ get_or pieces (n + 1) piece → IsPiece piece → EndsBy last piece → ArePieces (take (n + 1) pieces) → ArePieces (take (n + 1 + 1) pieces)
pieces_more total pieces n last piece here at_last at_piece inside behind are =
    let long : length (take (n + 1) pieces) ≡ n + 1 = length-take-le (n + 1) pieces (omega arith) in
    record {
      each = All-more IsPiece pieces (n + 1) piece here are.each (subst IsPiece at_piece inside);
      disjoint = subst (AllPairs EndsBy) (sym (take_more pieces (n + 1) piece here ∙ ap (λ one. take (n + 1) pieces ++ one ∷ []) (sym at_piece)))
          (all_pairs_push EndsBy (take (n + 1) pieces) piece are.disjoint
          (all_end_by total (take (n + 1) pieces) n last piece are long
          (λ d. get_or-take (n + 1) pieces n d (omega arith) ∙ get_or_default pieces n d last (omega arith) ∙ sym at_last) behind));
    }
