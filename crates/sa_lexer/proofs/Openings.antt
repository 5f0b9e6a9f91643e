-- What is known of the bytes where a comment or a part in quotes opens, and where it ends.
use Rattle.std.proofs.Common.{◌≡◌, ℕ, zero, suc, ◌+◌, ◌-◌, ◌<◌, ◌≤◌, List, [], ◌∷◌, ◌++◌, length, drop, get_or, Option, Some, None, Ok, Bool, true, false, cond, refl, sym, ap, ◌∙◌, subst, arith, inl, inr, ◌⊎◌, add-one}
use Rattle.std.specs.Prelude.{codes, not, ◌==◌, ◌||◌, ◌&&◌}
use Rattle.std.specs.Str.{IsUtf8, IsCharBoundary}
use Rattle.std.proofs.lemmas.Bool.{and_parts, or_cases, eqb-true, not-false}
use Rattle.std.proofs.lemmas.Bool.Decides.{Decides-eqb}
use Rattle.std.proofs.lemmas.List.Prefix.{front_reads, front_fits}
use Rattle.std.proofs.lemmas.List.Sums.{prefix_len-le-length, prefix_len_stops}
use Rattle.std.proofs.lemmas.Slice.Eq.{starts_is}
use Rattle.std.proofs.lemmas.Str.{IsCharBoundary-after_ascii}
use Rattle.sa_lexer.specs.declared.fault.LexKind.{LexKind}
use Rattle.sa_lexer.specs.declared.fault.LexKind.TheVariants.{OpenText, OpenComment}
use Rattle.sa_lexer.specs.declared.opening.Opening.{Opening}
use Rattle.sa_lexer.specs.declared.opening.Opening.TheVariants.{LineComment, Comment, Quoted, Plain}
use Rattle.sa_lexer.specs.Byte.{is_quote}
use Rattle.sa_lexer.specs.Opening.{begins_with, space_or_end, opening_of, line_len, plus, comment_close, escapes, quote_close, closed, opened_len, len_at}
use Rattle.sa_lexer.proofs.Held.{quote_small}
use Rattle.sa_lexer.proofs.Results.{ok_is, chosen}

pub begins : (front bytes : List ℕ) → begins_with front bytes ≡ true → bytes ≡ front ++ drop (length front) bytes
begins front bytes e = (starts_is Decides-eqb bytes front (begins_with front bytes) refl).0 e

-- what opening_of says, by its cases
pub opening_cases : (bytes : List ℕ) (opening : Opening) → opening_of bytes ≡ opening
    → ((opening ≡ LineComment) × ((begins_with (codes "#") bytes || (begins_with (codes "--") bytes && space_or_end (drop 2 bytes))) ≡ true))
    ⊎ (((opening ≡ Comment) × (begins_with (codes "/*") bytes ≡ true))
    ⊎ (((opening ≡ Quoted) × (is_quote (get_or bytes 0 0) ≡ true))
    ⊎ ((opening ≡ Plain) × (is_quote (get_or bytes 0 0) ≡ false))))
unfolding opening_of
opening_cases bytes opening e =
    let quoted : Opening = cond (is_quote (get_or bytes 0 0)) Quoted Plain in
    let comment : Opening = cond (begins_with (codes "/*") bytes) Comment quoted in
    elim (chosen (begins_with (codes "#") bytes || (begins_with (codes "--") bytes && space_or_end (drop 2 bytes))) LineComment comment opening e) [
      | inl a ↦ inl (sym a.1, a.0)
      | inr a ↦ elim (chosen (begins_with (codes "/*") bytes) Comment quoted opening a.1) [
        | inl b ↦ inr (inl (sym b.1, b.0))
        | inr b ↦ elim (chosen (is_quote (get_or bytes 0 0)) Quoted Plain opening b.1) [
          | inl d ↦ inr (inr (inl (sym d.1, d.0)))
          | inr d ↦ inr (inr (inr (sym d.1, d.0)))
        ]
      ]
    ]

pub line_first : (bytes : List ℕ) → opening_of bytes ≡ LineComment → (0 < length bytes) × ((get_or bytes 0 0 ≡ 35) ⊎ (get_or bytes 0 0 ≡ 45))
line_first bytes e = elim (opening_cases bytes LineComment e) [
  | inl a ↦ elim (or_cases (begins_with (codes "#") bytes) (begins_with (codes "--") bytes && space_or_end (drop 2 bytes)) a.1) [
    | inl hash ↦
        let stands = begins (codes "#") bytes hash in
        (front_fits bytes (codes "#") (drop 1 bytes) stands, inl (front_reads 0 bytes (codes "#") (drop 1 bytes) stands 0 (omega arith)))
    | inr dashes ↦
        let stands = begins (codes "--") bytes (and_parts (begins_with (codes "--") bytes) (space_or_end (drop 2 bytes)) dashes).0 in
        let fits : 2 ≤ length bytes = front_fits bytes (codes "--") (drop 2 bytes) stands in
        (omega arith, inr (front_reads 0 bytes (codes "--") (drop 2 bytes) stands 0 (omega arith)))
  ]
  | inr (inl b) ↦ absurd (let f = b.0 in cc)
  | inr (inr (inl b)) ↦ absurd (let f = b.0 in cc)
  | inr (inr (inr b)) ↦ absurd (let f = b.0 in cc)
]

pub comment_first : (bytes : List ℕ) → opening_of bytes ≡ Comment → bytes ≡ codes "/*" ++ drop 2 bytes
comment_first bytes e = elim (opening_cases bytes Comment e) [
  | inl b ↦ absurd (let f = b.0 in cc)
  | inr (inl a) ↦ begins (codes "/*") bytes a.1
  | inr (inr (inl b)) ↦ absurd (let f = b.0 in cc)
  | inr (inr (inr b)) ↦ absurd (let f = b.0 in cc)
]

pub quoted_first : (bytes : List ℕ) → opening_of bytes ≡ Quoted → is_quote (get_or bytes 0 0) ≡ true
quoted_first bytes e = elim (opening_cases bytes Quoted e) [
  | inl b ↦ absurd (let f = b.0 in cc)
  | inr (inl b) ↦ absurd (let f = b.0 in cc)
  | inr (inr (inl a)) ↦ a.1
  | inr (inr (inr b)) ↦ absurd (let f = b.0 in cc)
]

pub comment_fits : (bytes : List ℕ) → opening_of bytes ≡ Comment → 2 ≤ length bytes
comment_fits bytes e = front_fits bytes (codes "/*") (drop 2 bytes) (comment_first bytes e)

pub line_some : (bytes : List ℕ) → opening_of bytes ≡ LineComment → 0 < line_len bytes
line_some [] e = absurd (omega (arith, (line_first [] e).0))
line_some (byte ∷ bytes) e = elim (line_first (byte ∷ bytes) e).1 [
  | inl hash ↦ let h : byte ≡ 35 = hash in rw h (omega arith)
  | inr dash ↦ let h : byte ≡ 45 = dash in rw h (omega arith)
]

pub line_within : (bytes : List ℕ) → line_len bytes ≤ length bytes
line_within bytes = prefix_len-le-length (λ byte. not (byte == 10)) bytes

pub plus_some : (n : ℕ) (found : Option ℕ) (len : ℕ) → plus n found ≡ Some len → (k : ℕ) × (found ≡ Some k) × (n + k ≡ len)
plus_some n None len e = absurd cc
plus_some n (Some k) len e = (k, refl, cc)

-- what a search for an end finds: a part that the byte ends
pub record Closes (bytes : List ℕ) (byte len : ℕ) : Type 0 where
  pub some : 0 < len
  pub within : len ≤ length bytes
  pub last : get_or bytes (len - 1) 0 ≡ byte

closes_later : (first : ℕ) (bytes : List ℕ) (byte n len : ℕ) → n + 1 ≡ len → Closes bytes byte n → Closes (first ∷ bytes) byte len
closes_later first bytes byte zero len e h = absurd (omega (arith, h.some))
closes_later first bytes byte (suc n) len e h =
    let there : len - 1 ≡ suc n = omega arith in
    let back : suc n - 1 ≡ n = omega arith in
    record { some = omega arith; within = omega (arith, h.within); last = rw there (rw back at h.last) }

pub quote_closes : (quote : ℕ) (bytes : List ℕ) (len : ℕ) → quote_close quote bytes ≡ Some len → Closes bytes quote len
unfolding quote_close
quote_closes quote [] len e = absurd cc
quote_closes quote (first ∷ []) len e = elim (chosen (first == quote) (Some 1) None (Some len) e) [
  | inl a ↦ let one : len ≡ 1 = cc in rw one (record { some = omega arith; within = omega arith; last = eqb-true first quote a.0 })
  | inr a ↦ absurd cc
]
quote_closes quote (first ∷ second ∷ rest) len e =
    let pass : Option ℕ = cond (first == quote || escapes quote first) (plus 2 (quote_close quote rest)) (plus 1 (quote_close quote (second ∷ rest))) in
    elim (chosen (first == quote && not (second == quote)) (Some 1) pass (Some len) e) [
      | inl a ↦ let one : len ≡ 1 = cc in rw one (record { some = omega arith; within = omega arith; last = eqb-true first quote (and_parts (first == quote) (not (second == quote)) a.0).0 })
      | inr a ↦ elim (chosen (first == quote || escapes quote first) (plus 2 (quote_close quote rest)) (plus 1 (quote_close quote (second ∷ rest))) (Some len) a.1) [
        | inl b ↦
            let p = plus_some 2 (quote_close quote rest) len b.1 in
            closes_later first (second ∷ rest) quote (p.0 + 1) len (omega (arith, p.2)) (closes_later second rest quote p.0 (p.0 + 1) refl (quote_closes quote rest p.0 p.1))
        | inr b ↦
            let p = plus_some 1 (quote_close quote (second ∷ rest)) len b.1 in
            closes_later first (second ∷ rest) quote p.0 len (omega (arith, p.2)) (quote_closes quote (second ∷ rest) p.0 p.1)
      ]
    ]

pub comment_closes : (bytes : List ℕ) (len : ℕ) → comment_close bytes ≡ Some len → Closes bytes 47 len
unfolding comment_close
comment_closes [] len e = absurd cc
comment_closes (byte ∷ bytes) len e = elim (chosen (begins_with (codes "*/") (byte ∷ bytes)) (Some 2) (plus 1 (comment_close bytes)) (Some len) e) [
  | inl a ↦
      let two : len ≡ 2 = cc in
      let stands = begins (codes "*/") (byte ∷ bytes) a.0 in
      rw two (record { some = omega arith; within = front_fits (byte ∷ bytes) (codes "*/") (drop 2 (byte ∷ bytes)) stands; last = front_reads 0 (byte ∷ bytes) (codes "*/") (drop 2 (byte ∷ bytes)) stands 1 (omega arith) })
  | inr a ↦
      let p = plus_some 1 (comment_close bytes) len a.1 in
      closes_later byte bytes 47 p.0 len (omega (arith, p.2)) (comment_closes bytes p.0 p.1)
]

pub closed_ok : (kind : LexKind) (place : ℕ) (found : Option ℕ) (len : ℕ) → closed kind place found ≡ Ok len → found ≡ Some len
closed_ok kind place None len e = absurd cc
closed_ok kind place (Some k) len e = cc

-- what is known of a part in quotes, with both quotes
pub record IsQuotedPart (bytes : List ℕ) (len : ℕ) : Type 0 where
  pub long : 1 < len
  pub within : len ≤ length bytes
  pub quote : is_quote (get_or bytes 0 0) ≡ true
  pub last : get_or bytes (len - 1) 0 ≡ get_or bytes 0 0

pub quoted_part : (place : ℕ) (bytes : List ℕ) (len : ℕ) → 0 < length bytes → opening_of bytes ≡ Quoted → len_at place bytes ≡ Ok len → IsQuotedPart bytes len
unfolding len_at
quoted_part place [] len some opens e = absurd (omega arith)
quoted_part place (quote ∷ bytes) len some opens e =
    let read : opened_len place (quote ∷ bytes) Quoted ≡ Ok len = ap (opened_len place (quote ∷ bytes)) (sym opens) ∙ e in
    let p = plus_some 1 (quote_close quote bytes) len (closed_ok OpenText place (plus 1 (quote_close quote bytes)) len read) in
    let h = closes_later quote bytes quote p.0 len (omega (arith, p.2)) (quote_closes quote bytes p.0 p.1) in
    record { long = omega (arith, p.2, (quote_closes quote bytes p.0 p.1).some); within = h.within; quote = quoted_first (quote ∷ bytes) opens; last = h.last }

pub comment_part : (place : ℕ) (bytes : List ℕ) (len : ℕ) → opening_of bytes ≡ Comment → len_at place bytes ≡ Ok len → Closes bytes 47 len
unfolding len_at
comment_part place [] len opens e = absurd (let fits : 2 ≤ 0 = comment_fits [] opens in omega arith)
comment_part place (first ∷ []) len opens e = absurd (let fits : 2 ≤ 1 = comment_fits (first ∷ []) opens in omega arith)
comment_part place (first ∷ second ∷ bytes) len opens e =
    let read : opened_len place (first ∷ second ∷ bytes) Comment ≡ Ok len = ap (opened_len place (first ∷ second ∷ bytes)) (sym opens) ∙ e in
    let p = plus_some 2 (comment_close bytes) len (closed_ok OpenComment place (plus 2 (comment_close bytes)) len read) in
    closes_later first (second ∷ bytes) 47 (p.0 + 1) len (omega (arith, p.2)) (closes_later second bytes 47 p.0 (p.0 + 1) refl (comment_closes bytes p.0 p.1))

pub line_part : (place : ℕ) (bytes : List ℕ) (len : ℕ) → opening_of bytes ≡ LineComment → len_at place bytes ≡ Ok len → len ≡ line_len bytes
unfolding len_at
line_part place bytes len opens e =
    let read : opened_len place bytes LineComment ≡ Ok len = ap (opened_len place bytes) (sym opens) ∙ e in
    sym (ok_is (line_len bytes) len read)

-- a text may be cut where a line ends
pub line_cut : (bytes : List ℕ) → IsCharBoundary bytes (line_len bytes)
line_cut bytes =
    let test : ℕ → Bool = λ byte. not (byte == 10) in
    let stop : (within : line_len bytes < length bytes) → get_or bytes (line_len bytes) 0 ≡ 10 = λ within. eqb-true (get_or bytes (line_len bytes) 0) 10 (not-false (get_or bytes (line_len bytes) 0 == 10) (prefix_len_stops test bytes 0 within)) in
    (line_within bytes, λ within past. absurd (omega (arith, stop within)))

-- and after a part that a byte of ASCII ends
pub closed_cut : (bytes : List ℕ) (byte len : ℕ) → byte < 128 → IsUtf8 bytes → Closes bytes byte len → IsCharBoundary bytes len
closed_cut bytes byte zero small utf8 h = absurd (omega (arith, h.some))
closed_cut bytes byte (suc n) small utf8 h =
    let back : suc n - 1 ≡ n = omega arith in
    let last : get_or bytes n 0 ≡ byte = rw back at h.last in
    subst (λ (k : ℕ). IsCharBoundary bytes k) (add-one n) (IsCharBoundary-after_ascii bytes n utf8 (omega (arith, h.within)) (omega arith))

pub quoted_cut : (bytes : List ℕ) (len : ℕ) → IsUtf8 bytes → IsQuotedPart bytes len → IsCharBoundary bytes len
quoted_cut bytes len utf8 part =
    closed_cut bytes (get_or bytes 0 0) len (quote_small (get_or bytes 0 0) part.quote).0 utf8 (record { some = omega (arith, part.long); within = part.within; last = part.last })
