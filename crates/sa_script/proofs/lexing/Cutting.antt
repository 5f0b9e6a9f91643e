-- Where a piece ends is found there, and what it leaves open is told.
use Rattle.std.proofs.Common.{◌≡◌, ◌≢◌, ℕ, zero, suc, ◌+◌, ◌-◌, ◌<◌, ◌≤◌, List, [], ◌∷◌, ◌++◌, length, drop, get_or, Some, Ok, Err, Bool, true, false, refl, sym, ap, ◌∙◌, subst, arith, inl, inr, ◌⊎◌, append_assoc, length-append, add-zero}
use Rattle.std.specs.Prelude.{MatchBool, slice_get, codes, not, ◌==◌}
use Rattle.std.specs.List.{concat, prefix_len, AllPass, AllByRecursion}
use Rattle.std.proofs.Math.Seq.{drop-append_seam}
use Rattle.std.proofs.lemmas.Bool.{eq-eqb, ne_eqb}
use Rattle.sa_lexer.specs.declared.fault.LexKind.{LexKind}
use Rattle.sa_lexer.specs.declared.fault.LexKind.TheVariants.{BadByte, OpenText, OpenComment, NumberTooLong, TextTooLong}
use Rattle.sa_lexer.specs.declared.piece.PieceEnd.{PieceEnd}
use Rattle.sa_lexer.specs.Fault.{Fault, fault}
use Rattle.sa_lexer.specs.Faulty.{IsOpenPiece, LeavesOpen}
use Rattle.sa_lexer.specs.Grammar.{IsLineComment, Follow}
use Rattle.sa_lexer.specs.Byte.{is_quote}
use Rattle.sa_lexer.specs.Opening.{begins_with, len_at}
use Rattle.sa_lexer.specs.Piece.{IsStretch, EndsPiece, end_from}
use Rattle.sa_lexer.specs.Spans.{Part, IsPart, source_of}
use Rattle.sa_lexer.proofs.Openings.{line_first}
use Rattle.sa_script.proofs.lexing.Opened.{quote_apart, comment_len_at}
use Rattle.sa_script.proofs.lexing.Quoted.{quoted_len, open_text_len, open_comment_len, comment_closes}

-- ---- one step

inside_passed : (inside place : ℕ) (bytes : List ℕ) → inside ≤ length bytes → end_from inside place bytes ≡ end_from 0 (place + inside) (drop inside bytes)
unfolding end_from
inside_passed zero place bytes within = rw add-zero refl
inside_passed (suc inside) place [] within = absurd (omega arith)
inside_passed (suc inside) place (byte ∷ bytes) within =
    let there : (place + 1) + inside ≡ place + suc inside = omega arith in
    inside_passed inside (place + 1) bytes (omega arith) ∙ ap (λ (n : ℕ). end_from 0 n (drop inside bytes)) there

-- what a stretch is to the search
record Passes (place : ℕ) (bytes after : List ℕ) : Type 0 where
  some : 0 < length bytes
  other : get_or (bytes ++ after) 0 0 ≢ 59
  len : len_at place (bytes ++ after) ≡ Ok (length bytes)

one_stretch : (place : ℕ) (bytes after : List ℕ) → Passes place bytes after → end_from 0 place (bytes ++ after) ≡ end_from 0 (place + length bytes) after
unfolding end_from
one_stretch place [] after h = absurd (omega (arith, h.some))
one_stretch place (byte ∷ bytes) after h =
    let back : length (byte ∷ bytes) - 1 ≡ length bytes = omega arith in
    let there : (place + 1) + length bytes ≡ place + suc (length bytes) = omega arith in
    rw (ne_eqb byte 59 h.other, h.len, back)
    (inside_passed (length bytes) (place + 1) (bytes ++ after) (omega (arith, length-append bytes after)) ∙ ap (λ (n : ℕ). end_from 0 n (drop (length bytes) (bytes ++ after))) there
    ∙ ap (end_from 0 (place + suc (length bytes))) (drop-append_seam bytes after))

-- ---- stretches

none_pass : (p : ℕ → Bool) (bytes : List ℕ) → p (get_or bytes 0 0) ≡ false → prefix_len p bytes ≡ 0
none_pass p [] e = refl
none_pass p (byte ∷ bytes) e = rw e refl

run_len : (p : ℕ → Bool) (front after : List ℕ) → AllPass p front → prefix_len p after ≡ 0 → prefix_len p (front ++ after) ≡ length front
run_len p [] after all none = none
run_len p (byte ∷ front) after all none =
    let here : p byte ≡ true = all 0 0 (omega arith) in
    let later = run_len p front after (λ k d lt. all (suc k) d (omega arith)) none in
    rw here (let one : 1 + prefix_len p (front ++ after) ≡ suc (length front) = omega (arith, later) in one)

abbrev in_line : ℕ → Bool
in_line byte = not (byte == 10)

line_ends : (after : List ℕ) → (after ≡ []) ⊎ (get_or after 0 0 ≡ 10) → prefix_len in_line after ≡ 0
line_ends after h = elim h [
  | inl end ↦ ap (prefix_len in_line) end
  | inr feed ↦ none_pass in_line after (ap in_line feed)
]

line_some : (bytes after : List ℕ) → IsLineComment bytes after → 0 < length bytes
line_some [] after h =
    elim h.2 [
      | inl end ↦ absurd (omega (arith, (line_first after h.0).0, ap length end))
      | inr feed ↦ absurd (elim (line_first after h.0).1 [ inl hash ↦ omega arith | inr dash ↦ omega arith ])
    ]
line_some (byte ∷ bytes) after h = omega arith

line_passes : (place : ℕ) (bytes after : List ℕ) → IsLineComment bytes after → Passes place bytes after
unfolding len_at
line_passes place bytes after h = record {
  some = line_some bytes after h;
  other = λ e. elim (line_first (bytes ++ after) h.0).1 [ inl hash ↦ omega arith | inr dash ↦ omega arith ];
  len = rw h.0 (ap (λ (n : ℕ). Ok n) (run_len in_line bytes after h.1 (line_ends after h.2)));
}

comment_passes : (place : ℕ) (inner after : List ℕ) → ((k : ℕ) → k < length inner → begins_with (codes "*/") (drop k (inner ++ codes "*/")) ≡ false) → Passes place (codes "/*" ++ (inner ++ codes "*/")) after
comment_passes place inner after apart =
    let rest = (inner ++ codes "*/") ++ after in
    let count : 2 + (length inner + 2) ≡ suc (suc (length (inner ++ codes "*/"))) = omega (arith, length-append inner (codes "*/")) in
    record {
      some = omega arith;
      other = λ e. omega arith;
      len = comment_len_at place (length inner + 2) rest (comment_closes inner after apart) ∙ ap (λ (n : ℕ). Ok n) count;
    }

quoted_passes : (place quote : ℕ) (parts : List Part) (after : List ℕ) → is_quote quote ≡ true → AllByRecursion (IsPart quote) parts → get_or after 0 0 ≢ quote → Passes place (quote ∷ (source_of parts ++ quote ∷ [])) after
quoted_passes place quote parts after is are apart =
    let bytes = quote ∷ (source_of parts ++ quote ∷ []) in
    record {
      some = omega arith;
      other = (quote_apart quote is).2;
      len = quoted_len place quote parts after is are apart;
    }

stretch_passes : (place : ℕ) (bytes after : List ℕ) → IsStretch bytes after → Passes place bytes after
unfolding len_at
stretch_passes place bytes after h = elim h [
  | inl plain ↦ record {
    some = omega (arith, ap length plain.2);
    other = subst (λ (b : List ℕ). get_or (b ++ after) 0 0 ≢ 59) (sym plain.2) plain.1;
    len = rw plain.3 (ap (λ (n : ℕ). Ok n) (sym (ap length plain.2)));
  }
  | inr (inl line) ↦ line_passes place bytes after line
  | inr (inr (inl comment)) ↦ subst (λ (b : List ℕ). Passes place b after) (sym comment.1) (comment_passes place comment.0 after comment.2)
  | inr (inr (inr quoted)) ↦ subst (λ (b : List ℕ). Passes place b after) (sym quoted.3.2) (quoted_passes place quoted.0 quoted.3.0 after quoted.2 quoted.3.1 quoted.4)
]

past_stretches : (place : ℕ) (stretches : List (List ℕ)) (after : List ℕ) → Follow IsStretch stretches after → end_from 0 place (concat stretches ++ after) ≡ end_from 0 (place + length (concat stretches)) after
past_stretches place [] after follow = ap (λ (n : ℕ). end_from 0 n after) (sym (add-zero place))
past_stretches place (bytes ∷ stretches) after follow =
    let there : (place + length bytes) + length (concat stretches) ≡ place + length (bytes ++ concat stretches) = omega (arith, length-append bytes (concat stretches)) in
    ap (end_from 0 place) (append_assoc bytes (concat stretches) after) ∙ one_stretch place bytes (concat stretches ++ after) (stretch_passes place bytes (concat stretches ++ after) follow.0)
    ∙ past_stretches (place + length bytes) stretches after follow.1 ∙ ap (λ (n : ℕ). end_from 0 n after) there

-- ---- the end of a piece

end_here : (place : ℕ) (after : List ℕ) (closed : Bool) → MatchBool closed (slice_get after 0 ≡ Some 59) (after ≡ []) → end_from 0 place after ≡ Ok (record { end = place; closed = closed })
unfolding end_from
end_here place [] true h = absurd cc
end_here place (byte ∷ after) true h = let e : byte ≡ 59 = cc in rw (eq-eqb byte 59 e) refl
end_here place after false h = rw h refl

-- the end of a piece is found
pub end_found : (from : ℕ) (text : List ℕ) (found : PieceEnd) → EndsPiece from text found → end_from 0 from (drop from text) ≡ Ok found
end_found from text found h =
    ap (end_from 0 from) h.2 ∙ past_stretches from h.0 h.1 h.4 ∙ end_here (from + length (concat h.0)) h.1 found.closed h.5
    ∙ ap (λ (n : ℕ). Ok (record { end = n; closed = found.closed })) (sym h.3)

err_here : (place : ℕ) (rest : List ℕ) (f : Fault) → 0 < length rest → get_or rest 0 0 ≢ 59 → len_at place rest ≡ Err f → end_from 0 place rest ≡ Err f
unfolding end_from
err_here place [] f some other e = absurd (omega arith)
err_here place (byte ∷ rest) f some other e = rw (ne_eqb byte 59 other, e) refl

open_here : (place : ℕ) (kind : LexKind) (rest : List ℕ) → LeavesOpen kind rest → end_from 0 place rest ≡ Err (fault kind place)
open_here place OpenText rest h =
    let bytes = h.quote ∷ (source_of h.parts ++ h.left) in
    ap (end_from 0 place) h.source
    ∙ err_here place bytes (fault OpenText place) (omega arith) (quote_apart h.quote h.quoted).2 (open_text_len place rest h)
open_here place OpenComment rest h =
    ap (end_from 0 place) h.source
    ∙ err_here place (47 ∷ 42 ∷ h.inner) (fault OpenComment place) (omega arith) (λ e. omega arith) (open_comment_len place h.inner h.unclosed)
open_here place BadByte rest h = absurd h
open_here place NumberTooLong rest h = absurd h
open_here place TextTooLong rest h = absurd h

-- what a piece leaves open is told
pub open_found : (from : ℕ) (text : List ℕ) (kind : LexKind) (place : ℕ) → IsOpenPiece from text kind place → end_from 0 from (drop from text) ≡ Err (fault kind place)
open_found from text kind place h =
    ap (end_from 0 from) h.source ∙ past_stretches from h.front h.rest h.before ∙ open_here (from + length (concat h.front)) kind h.rest h.unclosed
    ∙ ap (λ (n : ℕ). Err (fault kind n)) (sym h.there)
