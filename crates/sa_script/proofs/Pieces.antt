-- Where a piece of a script and what is behind it stand.
use Rattle.std.proofs.Common.{◌≡◌, ℕ, ◌+◌, ◌-◌, Bool, true, false, List, [], ◌∷◌, ◌++◌, length, take, drop, Some, sym, ap, subst, ◌∙◌, arith, append_assoc}
use Rattle.std.specs.Prelude.{MatchBool, slice_get, if◌then◌else◌}
use Rattle.std.specs.List.{concat}
use Rattle.std.proofs.Math.Seq.{take-append_seam, drop-append-add}
use Rattle.std.proofs.lemmas.List.{append-nil, drop-drop}
use Rattle.sa_lexer.specs.declared.piece.PieceEnd.{PieceEnd}
use Rattle.sa_lexer.specs.Piece.{EndsPiece}
use Rattle.sa_script.specs.Piece.{Piece, IsPiece, closing, place_behind}

abbrev mark : Bool → List ℕ
mark closed = if closed then 59 ∷ [] else []

-- what stands behind a piece and its mark
pub record IsSeam (whole front behind : List ℕ) (closed : Bool) : Type 0 where
  pub source : whole ≡ front ++ mark closed ++ behind
  pub last : closed ≡ false → behind ≡ []

seam : (whole front after : List ℕ) (closed : Bool) → whole ≡ front ++ after → MatchBool closed (slice_get after 0 ≡ Some 59) (after ≡ []) → IsSeam whole front (drop (length front + length (mark closed)) whole) closed
seam whole front [] true e ends = absurd cc
seam whole front (byte ∷ rest) true e ends =
    let same : byte ≡ 59 = cc in
    let behind : drop (length front + 1) whole ≡ rest = ap (drop (length front + 1)) e ∙ drop-append-add front (byte ∷ rest) 1 in
    record {
      source = e ∙ ap (λ (b : ℕ). front ++ (b ∷ rest)) same ∙ sym (append_assoc front (59 ∷ []) rest) ∙ ap (λ (more : List ℕ). (front ++ 59 ∷ []) ++ more) (sym behind);
      last = λ no. absurd cc;
    }
seam whole front after false e ends =
    let all : whole ≡ front ++ [] = e ∙ ap (λ (more : List ℕ). front ++ more) ends in
    let behind : drop (length front + 0) whole ≡ [] = ap (drop (length front + 0)) all ∙ drop-append-add front [] 0 in
    record {
      source = all ∙ ap (λ (more : List ℕ). (front ++ more)) (sym behind) ∙ ap (λ (more : List ℕ). more ++ drop (length front + 0) whole) (sym (append-nil front));
      last = λ no. behind;
    }

-- a piece that was cut out of its script
pub piece_is : (script : List ℕ) (piece : Piece) (found : PieceEnd) → EndsPiece piece.place script found → piece.text ≡ take (found.end - piece.place) (drop piece.place script) → piece.closed ≡ found.closed → IsPiece script piece (drop (place_behind piece) script)
piece_is script piece found h text closed =
    let front = concat h.0 in
    let long : found.end - piece.place ≡ length front = omega (arith, h.3) in
    let same : piece.text ≡ front = text ∙ ap (λ (n : ℕ). take n (drop piece.place script)) long ∙ ap (take (length front)) h.2 ∙ take-append_seam front h.1 in
    let ends : MatchBool piece.closed (slice_get h.1 0 ≡ Some 59) (h.1 ≡ []) = subst (λ (b : Bool). MatchBool b (slice_get h.1 0 ≡ Some 59) (h.1 ≡ [])) (sym closed) h.5 in
    let whole : drop piece.place script ≡ piece.text ++ h.1 = h.2 ∙ ap (λ (bytes : List ℕ). bytes ++ h.1) (sym same) in
    let stands = seam (drop piece.place script) piece.text h.1 piece.closed whole ends in
    let there : drop (length piece.text + length (closing piece)) (drop piece.place script) ≡ drop (place_behind piece) script =
    drop-drop (length piece.text + length (closing piece)) piece.place script ∙ ap (λ (n : ℕ). drop n script) (omega arith) in
    record {
      source = stands.source ∙ ap (λ (more : List ℕ). piece.text ++ closing piece ++ more) there;
      ends = (h.0, h.1, h.2, ap (λ (bytes : List ℕ). piece.place + length bytes) same, h.4, ends);
      last = λ no. sym there ∙ stands.last no;
    }
