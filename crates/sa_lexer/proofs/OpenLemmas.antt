-- A comment or a part in quotes for which no end is found has none.
use Rattle.std.proofs.Common.{◌≡◌, ℕ, zero, suc, ◌<◌, List, [], ◌∷◌, ◌++◌, length, drop, get_or, Option, Some, None, Err, Bool, true, false, cond, refl, sym, ap, ◌∙◌, subst, arith, inl, inr, ◌⊎◌, append_assoc}
use Rattle.std.specs.Prelude.{not, ◌==◌, ◌&&◌, ◌||◌, codes}
use Rattle.std.specs.List.{AllByRecursion}
use Rattle.std.proofs.lemmas.Bool.{and_parts, and_from, or_cases, or_parts, eqb-true, not_from_false}
use Rattle.sa_lexer.specs.declared.fault.LexKind.{LexKind}
use Rattle.sa_lexer.specs.declared.fault.LexKind.TheVariants.{OpenText, OpenComment}
use Rattle.sa_lexer.specs.declared.opening.Opening.{Opening}
use Rattle.sa_lexer.specs.declared.opening.Opening.TheVariants.{LineComment, Comment, Quoted, Plain}
use Rattle.sa_lexer.specs.Fault.{Fault, fault}
use Rattle.sa_lexer.specs.Opening.{begins_with, opening_of, plus, comment_close, escapes, quote_close, closed, opened_len, len_at}
use Rattle.sa_lexer.specs.Quoted.{escape, is_other}
use Rattle.sa_lexer.specs.Spans.{Part, IsPart, source_of}
use Rattle.sa_lexer.specs.Faulty.{IsOpenText, IsOpenComment, LeavesOpen}
use Rattle.sa_lexer.proofs.Held.{escape_first}
use Rattle.sa_lexer.proofs.Openings.{comment_first, quoted_first}
use Rattle.sa_lexer.proofs.Quotes.{two_same, second_same}
use Rattle.sa_lexer.proofs.Results.{chosen, err_is}

plus_none : (n : ℕ) (found : Option ℕ) → plus n found ≡ None → found ≡ None
plus_none n None e = refl
plus_none n (Some k) e = absurd cc

closed_err : (kind : LexKind) (place : ℕ) (found : Option ℕ) (f : Fault) → closed kind place found ≡ Err f → (found ≡ None) × (fault kind place ≡ f)
closed_err kind place None f e = (refl, err_is (fault kind place) f e)
closed_err kind place (Some k) f e = absurd cc

no_close : (bytes : List ℕ) → comment_close bytes ≡ None → (k : ℕ) → k < length bytes → begins_with (codes "*/") (drop k bytes) ≡ false
unfolding comment_close
no_close [] e k lt = absurd (omega arith)
no_close (byte ∷ bytes) e zero lt = elim (chosen (begins_with (codes "*/") (byte ∷ bytes)) (Some 2) (plus 1 (comment_close bytes)) None e) [
  | inl a ↦ absurd cc
  | inr a ↦ a.0
]
no_close (byte ∷ bytes) e (suc k) lt = elim (chosen (begins_with (codes "*/") (byte ∷ bytes)) (Some 2) (plus 1 (comment_close bytes)) None e) [
  | inl a ↦ absurd cc
  | inr a ↦ no_close bytes (plus_none 1 (comment_close bytes) a.1) k (omega arith)
]

-- what stands behind a quote that nothing closes
record OpenParts (quote : ℕ) (bytes : List ℕ) : Type 0 where
  parts : List Part
  left : List ℕ
  are : AllByRecursion (IsPart quote) parts
  source : bytes ≡ source_of parts ++ left
  ends : (left ≡ []) ⊎ ((escapes quote 92 ≡ true) × (left ≡ 92 ∷ []))

with_part : (quote : ℕ) (part : Part) (rest : List ℕ) → IsPart quote part → OpenParts quote rest → OpenParts quote (part.source ++ rest)
with_part quote part rest is h = record {
  parts = part ∷ h.parts;
  left = h.left;
  are = (is, h.are);
  source = ap (λ (more : List ℕ). part.source ++ more) h.source ∙ sym (append_assoc part.source (source_of h.parts) h.left);
  ends = h.ends;
}

none_left : (quote : ℕ) → OpenParts quote []
none_left quote = record { parts = []; left = []; are = tt; source = refl; ends = inl refl }

other_part : (quote byte : ℕ) → (byte == quote) ≡ false → escapes quote byte ≡ false → is_other quote byte ≡ true
other_part quote byte same escaped = and_from (not (byte == quote)) (not (escapes quote byte)) (not_from_false (byte == quote) same) (not_from_false (escapes quote byte) escaped)

backslash_reads : (quote first : ℕ) → escapes quote first ≡ true → escapes quote 92 ≡ true
backslash_reads quote first escaped = (and_parts (first == 92) (not (quote == 96)) escaped).1

last_left : (quote byte : ℕ) (b : Bool) → escapes quote byte ≡ b → (byte == quote) ≡ false → OpenParts quote (byte ∷ [])
last_left quote byte true escaped same =
    record { parts = []; left = byte ∷ []; are = tt; source = refl; ends = inr (backslash_reads quote byte escaped, ap (λ (b : ℕ). b ∷ []) (escape_first quote byte escaped)) }
last_left quote byte false escaped same =
    with_part quote (record { source = byte ∷ []; meaning = byte ∷ [] }) [] (inr (inr (byte, other_part quote byte same escaped, refl, refl))) (none_left quote)

open_parts : (quote : ℕ) (bytes : List ℕ) → quote_close quote bytes ≡ None → OpenParts quote bytes
unfolding quote_close
open_parts quote [] e = none_left quote
open_parts quote (first ∷ []) e = elim (chosen (first == quote) (Some 1) None None e) [
  | inl a ↦ absurd cc
  | inr a ↦ last_left quote first (escapes quote first) refl a.0
]
open_parts quote (first ∷ second ∷ rest) e =
    let pass : Option ℕ = cond (first == quote || escapes quote first) (plus 2 (quote_close quote rest)) (plus 1 (quote_close quote (second ∷ rest))) in
    elim (chosen (first == quote && not (second == quote)) (Some 1) pass None e) [
      | inl a ↦ absurd cc
      | inr a ↦ elim (chosen (first == quote || escapes quote first) (plus 2 (quote_close quote rest)) (plus 1 (quote_close quote (second ∷ rest))) None a.1) [
        | inl b ↦
            let later = open_parts quote rest (plus_none 2 (quote_close quote rest) b.1) in
            elim (or_cases (first == quote) (escapes quote first) b.0) [
              | inl same ↦
                  let doubled = two_same quote first second (eqb-true first quote same) (second_same quote first second a.0 same) in
                  with_part quote (record { source = first ∷ second ∷ []; meaning = quote ∷ [] }) rest (inl (doubled, refl)) later
              | inr escaped ↦
                  let backslash : first ∷ second ∷ [] ≡ 92 ∷ second ∷ [] = ap (λ (b : ℕ). b ∷ second ∷ []) (escape_first quote first escaped) in
                  with_part quote (record { source = first ∷ second ∷ []; meaning = escape second }) rest (inr (inl (second, backslash_reads quote first escaped, backslash, refl))) later
            ]
        | inr b ↦
            let apart = or_parts (first == quote) (escapes quote first) b.0 in
            with_part quote (record { source = first ∷ []; meaning = first ∷ [] }) (second ∷ rest) (inr (inr (first, other_part quote first apart.0 apart.1, refl, refl)))
            (open_parts quote (second ∷ rest) (plus_none 1 (quote_close quote (second ∷ rest)) b.1))
      ]
    ]

comment_open : (bytes : List ℕ) → opening_of bytes ≡ Comment → comment_close (drop 2 bytes) ≡ None → IsOpenComment bytes
comment_open bytes opens none = record { inner = drop 2 bytes; source = comment_first bytes opens; unclosed = no_close (drop 2 bytes) none }

text_open : (bytes : List ℕ) → opening_of bytes ≡ Quoted → quote_close (get_or bytes 0 0) (drop 1 bytes) ≡ None → IsOpenText bytes
text_open [] opens none = absurd (let is = quoted_first [] opens in cc)
text_open (quote ∷ bytes) opens none =
    let parts = open_parts quote bytes none in
    record {
      quote = quote;
      parts = parts.parts;
      left = parts.left;
      quoted = quoted_first (quote ∷ bytes) opens;
      are = parts.are;
      source = ap (λ (more : List ℕ). quote ∷ more) parts.source;
      ends = parts.ends;
    }

-- What is left open, at the place where it opens.
abbrev pub OpensAt : ℕ → List ℕ → Fault → Type 0
OpensAt place bytes f = (f.place ≡ place) × LeavesOpen f.kind bytes

opened_wrong : (place : ℕ) (bytes : List ℕ) (opening : Opening) (f : Fault) → opening_of bytes ≡ opening → opened_len place bytes opening ≡ Err f → OpensAt place bytes f
opened_wrong place bytes LineComment f opens e = absurd cc
opened_wrong place bytes Comment f opens e =
    let (none, same) = closed_err OpenComment place (plus 2 (comment_close (drop 2 bytes))) f e in
    subst (OpensAt place bytes) same (refl, comment_open bytes opens (plus_none 2 (comment_close (drop 2 bytes)) none))
opened_wrong place bytes Quoted f opens e =
    let (none, same) = closed_err OpenText place (plus 1 (quote_close (get_or bytes 0 0) (drop 1 bytes))) f e in
    subst (OpensAt place bytes) same (refl, text_open bytes opens (plus_none 1 (quote_close (get_or bytes 0 0) (drop 1 bytes)) none))
opened_wrong place bytes Plain f opens e = absurd cc

pub len_wrong : (place : ℕ) (bytes : List ℕ) (f : Fault) → len_at place bytes ≡ Err f → OpensAt place bytes f
unfolding len_at
len_wrong place bytes f e = opened_wrong place bytes (opening_of bytes) f refl e
