-- A piece is stretches up to a `;` or the end.
use Rattle.std.proofs.Common.{◌≡◌, ◌≢◌, ℕ, zero, suc, ◌+◌, ◌-◌, ◌<◌, ◌≤◌, List, [], ◌∷◌, ◌++◌, length, take, drop, get_or, Some, Result, Ok, true, false, refl, sym, ap, ◌∙◌, subst, arith, inl, inr, append_assoc, length-append, add-zero}
use Rattle.std.specs.Prelude.{MatchBool, slice_get, ◌==◌}
use Rattle.std.specs.List.{concat}
use Rattle.std.proofs.lemmas.Bool.{eqb-true, eqb-false}
use Rattle.std.proofs.lemmas.List.{take-append-drop, length-take-le}
use Rattle.sa_lexer.specs.declared.opening.Opening.{Opening}
use Rattle.sa_lexer.specs.declared.opening.Opening.TheVariants.{LineComment, Comment, Quoted, Plain}
use Rattle.sa_lexer.specs.declared.piece.PieceEnd.{PieceEnd}
use Rattle.sa_lexer.specs.Fault.{Fault, ◌>>=◌}
use Rattle.sa_lexer.specs.Opening.{opening_of, line_len, opened_len, len_at}
use Rattle.sa_lexer.specs.Spans.{meaning_of}
use Rattle.sa_lexer.specs.Grammar.{Follow}
use Rattle.sa_lexer.specs.Piece.{end_from, piece_end_at, IsStretch, EndsPiece}
use Rattle.sa_lexer.proofs.Enclosed.{line_front, comment_front, quoted_front}
use Rattle.sa_lexer.proofs.Openings.{line_some, line_within}
use Rattle.sa_lexer.proofs.Results.{ok_is, bind_ok, chosen}

-- what is passed is a stretch
pub record IsPassed (bytes : List ℕ) (len : ℕ) : Type 0 where
  pub some : 0 < len
  pub within : len ≤ length bytes
  pub is : IsStretch (take len bytes) (drop len bytes)

plain_passed : (bytes : List ℕ) → 0 < length bytes → get_or bytes 0 0 ≢ 59 → opening_of bytes ≡ Plain → IsPassed bytes 1
plain_passed [] some other opens = absurd (omega arith)
plain_passed (byte ∷ bytes) some other opens = record { some = omega arith; within = omega arith; is = inl (byte, other, refl, opens) }

opened_passed : (place : ℕ) (bytes : List ℕ) (len : ℕ) (opening : Opening) → 0 < length bytes → get_or bytes 0 0 ≢ 59 → opening_of bytes ≡ opening → opened_len place bytes opening ≡ Ok len → IsPassed bytes len
opened_passed place bytes len LineComment some other opens e =
    subst (IsPassed bytes) (ok_is (line_len bytes) len e) (record { some = line_some bytes opens; within = line_within bytes; is = inr (inl (line_front bytes opens)) })
opened_passed place bytes len Comment some other opens e =
    let front = comment_front place bytes len opens e in
    record { some = front.some; within = front.within; is = inr (inr (inl front.is)) }
opened_passed place bytes len Quoted some other opens e =
    let front = quoted_front place bytes len opens e in
    record { some = front.some; within = front.within; is = inr (inr (inr (front.quote, meaning_of front.parts, front.is, (front.parts, front.are, front.source, refl), front.ends))) }
opened_passed place bytes len Plain some other opens e = subst (IsPassed bytes) (ok_is 1 len e) (plain_passed bytes some other opens)

pub len_passed : (place : ℕ) (bytes : List ℕ) (len : ℕ) → 0 < length bytes → get_or bytes 0 0 ≢ 59 → len_at place bytes ≡ Ok len → IsPassed bytes len
unfolding len_at
len_passed place bytes len some other e = opened_passed place bytes len (opening_of bytes) some other refl e

-- the piece that the bytes from the place on begin with
abbrev EndsHere : ℕ → List ℕ → PieceEnd → Type 0
EndsHere place bytes found =
    (stretches : List (List ℕ)) × (after : List ℕ) × (bytes ≡ concat stretches ++ after) × (found.end ≡ place + length (concat stretches))
    × Follow IsStretch stretches after × MatchBool found.closed (slice_get after 0 ≡ Some 59) (after ≡ [])

with_stretch : (place : ℕ) (bytes : List ℕ) (len : ℕ) (found : PieceEnd) → IsPassed bytes len → EndsHere (place + len) (drop len bytes) found → EndsHere place bytes found
with_stretch place bytes len found passed h =
    let front = take len bytes in
    let all : length front ≡ len = length-take-le len bytes passed.within in (
      front ∷ h.0,
      h.1,
      sym (take-append-drop len bytes) ∙ ap (λ (more : List ℕ). front ++ more) h.2 ∙ sym (append_assoc front (concat h.0) h.1),
      omega (arith, h.3, all, length-append front (concat h.0)),
      (subst (IsStretch front) h.2 passed.is, h.4),
      h.5,
    )

from_rest : (place n byte : ℕ) (bytes : List ℕ) (found : PieceEnd) → 0 < n → EndsHere ((place + 1) + (n - 1)) (drop (n - 1) bytes) found → EndsHere (place + n) (drop n (byte ∷ bytes)) found
from_rest place zero byte bytes found some h = absurd (omega arith)
from_rest place (suc k) byte bytes found some h =
    let back : suc k - 1 ≡ k = omega arith in
    let there : (place + 1) + k ≡ place + suc k = omega arith in
    subst (λ (n : ℕ). EndsHere n (drop k bytes) found) there (subst (λ (j : ℕ). EndsHere ((place + 1) + j) (drop j bytes) found) back h)

ends_from : (inside place : ℕ) (bytes : List ℕ) (found : PieceEnd) → inside ≤ length bytes → end_from inside place bytes ≡ Ok found → EndsHere (place + inside) (drop inside bytes) found
unfolding end_from
ends_from zero place [] found within e =
    let here : place ≡ (place + 0) + 0 = omega arith in
    subst (EndsHere (place + 0) []) (ok_is (record { end = place; closed = false }) found e) ([], [], refl, here, tt, refl)
ends_from (suc inside) place [] found within e = absurd (omega arith)
ends_from (suc inside) place (byte ∷ bytes) found within e =
    let there : (place + 1) + inside ≡ place + suc inside = omega arith in
    subst (λ (n : ℕ). EndsHere n (drop inside bytes) found) there (ends_from inside (place + 1) bytes found (omega arith) e)
ends_from zero place (byte ∷ bytes) found within e =
    let go_on : Result PieceEnd Fault = len_at place (byte ∷ bytes) >>= λ len. end_from (len - 1) (place + 1) bytes in
    subst (λ (n : ℕ). EndsHere n (byte ∷ bytes) found) (sym (add-zero place)) (elim (chosen (byte == 59) (Ok (record { end = place; closed = true })) go_on (Ok found) e) [
      | inl a ↦ subst (EndsHere place (byte ∷ bytes)) (ok_is (record { end = place; closed = true }) found a.1) ([], byte ∷ bytes, refl, sym (add-zero place), tt, ap (λ (b : ℕ). Some b) (eqb-true byte 59 a.0))
      | inr a ↦
          let first = bind_ok (len_at place (byte ∷ bytes)) (λ len. end_from (len - 1) (place + 1) bytes) found a.1 in
          let passed = len_passed place (byte ∷ bytes) first.0 (omega arith) (eqb-false byte 59 a.0) first.1 in
          with_stretch place (byte ∷ bytes) first.0 found passed (from_rest place first.0 byte bytes found passed.some (ends_from (first.0 - 1) (place + 1) bytes found (omega (arith, passed.some, passed.within)) first.2))
    ])

pub ends_piece : (from : ℕ) (text : List ℕ) (found : PieceEnd) → from ≤ length text → piece_end_at from text ≡ Ok found → EndsPiece from text found
ends_piece from text found within e =
    let there : 0 + from ≡ from = omega arith in
    subst (λ (n : ℕ). EndsHere n (drop from text) found) there (ends_from from 0 text found within e)
