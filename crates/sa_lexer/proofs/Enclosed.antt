-- The front of a text that a comment or a part in quotes is.
use Rattle.std.proofs.Common.{◌≡◌, ◌≢◌, ℕ, zero, suc, ◌+◌, ◌<◌, ◌≤◌, List, [], ◌∷◌, ◌++◌, length, take, drop, get_or, Some, Ok, Bool, true, false, sym, ap, ◌∙◌, subst, arith, inl, inr, ◌⊎◌, add-zero}
use Rattle.std.specs.Prelude.{not, ◌==◌, nat_eq, codes}
use Rattle.std.specs.Cmp.Lexicographic.{pointwise}
use Rattle.std.specs.List.{AllByRecursion}
use Rattle.std.proofs.Math.Seq.{take-append-add}
use Rattle.std.proofs.lemmas.Bool.{cases_lt, eqb-true, not-false}
use Rattle.std.proofs.lemmas.List.{take-append-drop, drop_all, get_or-drop, length-drop, take-take}
use Rattle.std.proofs.lemmas.List.Sums.{prefix_len_stops}
use Rattle.sa_lexer.specs.declared.fault.LexKind.TheVariants.{OpenComment, OpenText}
use Rattle.sa_lexer.specs.declared.opening.Opening.TheVariants.{LineComment, Comment, Quoted}
use Rattle.sa_lexer.specs.Byte.{is_quote}
use Rattle.sa_lexer.specs.Opening.{begins_with, opening_of, line_len, plus, comment_close, quote_close, opened_len}
use Rattle.sa_lexer.specs.Spans.{Part, IsPart, source_of}
use Rattle.sa_lexer.specs.Grammar.{IsLineComment, IsComment}
use Rattle.sa_lexer.proofs.Openings.{comment_first, comment_fits, quoted_first, plus_some, closed_ok, begins, comment_closes, quote_closes}
use Rattle.sa_lexer.proofs.Quotes.{has_parts}
use Rattle.sa_lexer.proofs.Results.{chosen}
use Rattle.sa_lexer.proofs.Runs.{run_passes}

pub next_is : (n : ℕ) (bytes : List ℕ) → get_or (drop n bytes) 0 0 ≡ get_or bytes n 0
next_is n bytes = get_or-drop n bytes 0 0 ∙ ap (λ (k : ℕ). get_or bytes k 0) (add-zero n)

pub line_front : (bytes : List ℕ) → opening_of bytes ≡ LineComment → IsLineComment (take (line_len bytes) bytes) (drop (line_len bytes) bytes)
line_front bytes opens =
    let test : ℕ → Bool = λ byte. not (byte == 10) in
    let len = line_len bytes in
    let end : (drop len bytes ≡ []) ⊎ (get_or (drop len bytes) 0 0 ≡ 10) = elim (cases_lt len (length bytes)) [
      | inl within ↦ inr (next_is len bytes ∙ eqb-true (get_or bytes len 0) 10 (not-false (get_or bytes len 0 == 10) (prefix_len_stops test bytes 0 within)))
      | inr past ↦ inl (drop_all len bytes past)
    ] in
    (subst (λ (b : List ℕ). opening_of b ≡ LineComment) (sym (take-append-drop len bytes)) opens, run_passes test bytes, end)

-- what stands before the first `*/`
record IsInner (bytes : List ℕ) (len : ℕ) : Type 0 where
  inner : List ℕ
  source : take len bytes ≡ inner ++ codes "*/"
  apart : (k : ℕ) → k < length inner → begins_with (codes "*/") (drop k (inner ++ codes "*/")) ≡ false

apart_later : (byte : ℕ) (bytes inner : List ℕ) (n : ℕ) → 1 ≤ n → take n bytes ≡ inner ++ codes "*/" → begins_with (codes "*/") (byte ∷ bytes) ≡ false → ((k : ℕ) → k < length inner → begins_with (codes "*/") (drop k (inner ++ codes "*/")) ≡ false)
    → (k : ℕ) → k < length (byte ∷ inner) → begins_with (codes "*/") (drop k (byte ∷ (inner ++ codes "*/"))) ≡ false
apart_later byte bytes inner n some source here later zero lt =
    let same : take 1 (inner ++ codes "*/") ≡ take 1 bytes = ap (take 1) (sym source) ∙ take-take 1 n bytes some in
    ap (λ (front : List ℕ). pointwise nat_eq (codes "*/") (byte ∷ front)) same ∙ here
apart_later byte bytes inner n some source here later (suc k) lt = later k (omega arith)

inner_is : (bytes : List ℕ) (len : ℕ) → comment_close bytes ≡ Some len → IsInner bytes len
unfolding comment_close
inner_is [] len e = absurd cc
inner_is (byte ∷ bytes) len e = elim (chosen (begins_with (codes "*/") (byte ∷ bytes)) (Some 2) (plus 1 (comment_close bytes)) (Some len) e) [
  | inl a ↦
      let two : len ≡ 2 = cc in
      rw two (record { inner = []; source = ap (take 2) (begins (codes "*/") (byte ∷ bytes) a.0); apart = λ k lt. absurd (omega arith) })
  | inr a ↦
      let p = plus_some 1 (comment_close bytes) len a.1 in
      let h = inner_is bytes p.0 p.1 in
      let one : len ≡ suc p.0 = omega (arith, p.2) in
      rw one (record {
        inner = byte ∷ h.inner;
        source = ap (λ (more : List ℕ). byte ∷ more) h.source;
        apart = apart_later byte bytes h.inner p.0 (comment_closes bytes p.0 p.1).some h.source a.0 h.apart;
      })
]

pub record IsCommentFront (bytes : List ℕ) (len : ℕ) : Type 0 where
  pub some : 0 < len
  pub within : len ≤ length bytes
  pub is : IsComment (take len bytes)

pub comment_front : (place : ℕ) (bytes : List ℕ) (len : ℕ) → opening_of bytes ≡ Comment → opened_len place bytes Comment ≡ Ok len → IsCommentFront bytes len
comment_front place bytes len opens e =
    let p = plus_some 2 (comment_close (drop 2 bytes)) len (closed_ok OpenComment place (plus 2 (comment_close (drop 2 bytes))) len e) in
    let h = inner_is (drop 2 bytes) p.0 p.1 in
    let front : take len bytes ≡ codes "/*" ++ (h.inner ++ codes "*/") =
    ap (λ (n : ℕ). take n bytes) (sym p.2) ∙ ap (take (2 + p.0)) (comment_first bytes opens) ∙ take-append-add (codes "/*") (drop 2 bytes) p.0 ∙ ap (λ (more : List ℕ). codes "/*" ++ more) h.source in
    let closes = comment_closes (drop 2 bytes) p.0 p.1 in
    record {
      some = omega (arith, p.2);
      within = omega (arith, p.2, closes.within, length-drop 2 bytes, comment_fits bytes opens);
      is = (h.inner, front, h.apart);
    }

pub record IsQuotedFront (bytes : List ℕ) (len : ℕ) : Type 0 where
  pub quote : ℕ
  pub parts : List Part
  pub some : 0 < len
  pub within : len ≤ length bytes
  pub is : is_quote quote ≡ true
  pub are : AllByRecursion (IsPart quote) parts
  pub source : take len bytes ≡ quote ∷ (source_of parts ++ quote ∷ [])
  pub ends : get_or (drop len bytes) 0 0 ≢ quote

pub quoted_front : (place : ℕ) (bytes : List ℕ) (len : ℕ) → opening_of bytes ≡ Quoted → opened_len place bytes Quoted ≡ Ok len → IsQuotedFront bytes len
quoted_front place [] len opens read = absurd (let is = quoted_first [] opens in cc)
quoted_front place (quote ∷ bytes) len opens read =
    let p = plus_some 1 (quote_close quote bytes) len (closed_ok OpenText place (plus 1 (quote_close quote bytes)) len read) in
    let is = quoted_first (quote ∷ bytes) opens in
    let h = has_parts quote bytes p.0 is p.1 in
    let one : len ≡ suc p.0 = omega (arith, p.2) in
    record {
      quote = quote;
      parts = h.parts;
      some = omega arith;
      within = omega (arith, (quote_closes quote bytes p.0 p.1).within);
      is = is;
      are = h.are;
      source = ap (λ (n : ℕ). take n (quote ∷ bytes)) one ∙ ap (λ (more : List ℕ). quote ∷ more) h.source;
      ends = subst (λ (n : ℕ). get_or (drop n (quote ∷ bytes)) 0 0 ≢ quote) (sym one) h.ends;
    }
