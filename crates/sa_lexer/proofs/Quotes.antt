-- A part in quotes is doubled quotes, escapes and other bytes between two quotes.
use Rattle.std.proofs.Common.{◌≡◌, ◌≢◌, ℕ, ◌+◌, List, [], ◌∷◌, ◌++◌, length, take, drop, get_or, Option, Some, None, true, false, cond, refl, sym, ap, ◌∙◌, subst, arith, inl, inr, append_assoc}
use Rattle.std.proofs.Math.Seq.{take-append-add, drop-append-add}
use Rattle.std.specs.Prelude.{not, ◌==◌, ◌&&◌, ◌||◌}
use Rattle.std.specs.List.{AllByRecursion}
use Rattle.std.proofs.lemmas.Bool.{and_parts, and_cases, and_from, and_left, or_cases, or_parts, eqb-true, eqb-false, eq-eqb, ne_eqb, not-true, not-false, not_from_false}
use Rattle.std.proofs.lemmas.Bool.Decides.{nat_tests}
use Rattle.sa_lexer.specs.Byte.{is_quote}
use Rattle.sa_lexer.specs.Opening.{plus, escapes, quote_close}
use Rattle.sa_lexer.specs.Quoted.{escape, is_other, held_in}
use Rattle.sa_lexer.specs.Spans.{Part, IsPart, source_of, meaning_of}
use Rattle.sa_lexer.proofs.Results.{chosen}
use Rattle.sa_lexer.proofs.Held.{quote_small, escape_first, held_one}
use Rattle.sa_lexer.proofs.Openings.{plus_some}

-- what stands up to the closing quote
pub record HasParts (quote : ℕ) (bytes : List ℕ) (len : ℕ) : Type 0 where
  pub parts : List Part
  pub are : AllByRecursion (IsPart quote) parts
  pub source : take len bytes ≡ source_of parts ++ quote ∷ []
  pub ends : get_or (drop len bytes) 0 0 ≢ quote

quote_some : (quote : ℕ) → is_quote quote ≡ true → quote ≢ 0
quote_some quote is = grind (arith, nat_tests)

with_part : (quote : ℕ) (part : Part) (rest : List ℕ) (n len : ℕ) → IsPart quote part → length part.source + n ≡ len → HasParts quote rest n → HasParts quote (part.source ++ rest) len
with_part quote part rest n len is e h =
    rw (← e) (record {
      parts = part ∷ h.parts;
      are = (is, h.are);
      source = take-append-add part.source rest n ∙ ap (λ (more : List ℕ). part.source ++ more) h.source ∙ sym (append_assoc part.source (source_of h.parts) (quote ∷ []));
      ends = subst (λ (after : List ℕ). get_or after 0 0 ≢ quote) (sym (drop-append-add part.source rest n)) h.ends;
    })

pub two_same : (quote first second : ℕ) → first ≡ quote → second ≡ quote → first ∷ second ∷ [] ≡ quote ∷ quote ∷ []
two_same quote first second a b = rw (a, b) refl

pub second_same : (quote first second : ℕ) → (first == quote && not (second == quote)) ≡ false → (first == quote) ≡ true → second ≡ quote
second_same quote first second stays same = elim (and_cases (first == quote) (not (second == quote)) stays) [
  | inl a ↦ absurd (let clash : true ≡ false = sym same ∙ a in cc)
  | inr a ↦ eqb-true second quote (not-false (second == quote) a)
]

pub has_parts : (quote : ℕ) (bytes : List ℕ) (len : ℕ) → is_quote quote ≡ true → quote_close quote bytes ≡ Some len → HasParts quote bytes len
unfolding quote_close
has_parts quote [] len is e = absurd cc
has_parts quote (first ∷ []) len is e = elim (chosen (first == quote) (Some 1) None (Some len) e) [
  | inl a ↦ let one : len ≡ 1 = cc in rw one (record { parts = []; are = tt; source = ap (λ (b : ℕ). b ∷ []) (eqb-true first quote a.0); ends = λ z. (quote_some quote is (sym z)) })
  | inr a ↦ absurd cc
]
has_parts quote (first ∷ second ∷ rest) len is e =
    let pass : Option ℕ = cond (first == quote || escapes quote first) (plus 2 (quote_close quote rest)) (plus 1 (quote_close quote (second ∷ rest))) in
    elim (chosen (first == quote && not (second == quote)) (Some 1) pass (Some len) e) [
      | inl a ↦
          let one : len ≡ 1 = cc in
          let both = and_parts (first == quote) (not (second == quote)) a.0 in
          rw one (record { parts = []; are = tt; source = ap (λ (b : ℕ). b ∷ []) (eqb-true first quote both.0); ends = eqb-false second quote (not-true (second == quote) both.1) })
      | inr a ↦ elim (chosen (first == quote || escapes quote first) (plus 2 (quote_close quote rest)) (plus 1 (quote_close quote (second ∷ rest))) (Some len) a.1) [
        | inl b ↦
            let p = plus_some 2 (quote_close quote rest) len b.1 in
            let rest_has = has_parts quote rest p.0 is p.1 in
            elim (or_cases (first == quote) (escapes quote first) b.0) [
              | inl same ↦
                  let doubled = two_same quote first second (eqb-true first quote same) (second_same quote first second a.0 same) in
                  with_part quote (record { source = first ∷ second ∷ []; meaning = quote ∷ [] }) rest p.0 len (inl (doubled, refl)) p.2 rest_has
              | inr escaped ↦
                  let backslash : first ∷ second ∷ [] ≡ 92 ∷ second ∷ [] = ap (λ (b : ℕ). b ∷ second ∷ []) (escape_first quote first escaped) in
                  let read : escapes quote 92 ≡ true = (and_parts (first == 92) (not (quote == 96)) escaped).1 in
                  with_part quote (record { source = first ∷ second ∷ []; meaning = escape second }) rest p.0 len (inr (inl (second, read, backslash, refl))) p.2 rest_has
            ]
        | inr b ↦
            let p = plus_some 1 (quote_close quote (second ∷ rest)) len b.1 in
            let other = or_parts (first == quote) (escapes quote first) b.0 in
            let is_one : is_other quote first ≡ true = and_from (not (first == quote)) (not (escapes quote first)) (not_from_false (first == quote) other.0) (not_from_false (escapes quote first) other.1) in
            with_part quote (record { source = first ∷ []; meaning = first ∷ [] }) (second ∷ rest) p.0 len (inr (inr (first, is_one, refl, refl))) p.2 (has_parts quote (second ∷ rest) p.0 is p.1)
      ]
    ]

doubled_held : (quote : ℕ) (rest : List ℕ) → held_in quote (quote ∷ quote ∷ rest) ≡ quote ∷ held_in quote rest
unfolding held_in
doubled_held quote rest = rw (and_from (quote == quote) (quote == quote) (eq-eqb quote quote refl) (eq-eqb quote quote refl)) refl

escaped_held : (quote byte : ℕ) (rest : List ℕ) → is_quote quote ≡ true → escapes quote 92 ≡ true → held_in quote (92 ∷ byte ∷ rest) ≡ escape byte ++ held_in quote rest
unfolding held_in
escaped_held quote byte rest is read =
    let apart : 92 ≢ quote = λ e. (quote_small quote is).1 (sym e) in
    rw (and_left (92 == quote) (byte == quote) (ne_eqb 92 quote apart), read) refl

part_held : (quote : ℕ) (part : Part) (rest : List ℕ) → is_quote quote ≡ true → IsPart quote part → held_in quote (part.source ++ rest) ≡ part.meaning ++ held_in quote rest
part_held quote part rest is h = elim h [
  | inl d ↦ rw (d.0, d.1) (doubled_held quote rest)
  | inr (inl d) ↦ rw (d.2, d.3) (escaped_held quote d.0 rest is d.1)
  | inr (inr d) ↦ rw (d.2, d.3) (held_one quote d.0 rest d.1)
]

-- what the parts stand for is what the bytes between the quotes hold
pub held_parts : (quote : ℕ) (parts : List Part) → is_quote quote ≡ true → AllByRecursion (IsPart quote) parts → held_in quote (source_of parts) ≡ meaning_of parts
unfolding held_in
held_parts quote [] is are = refl
held_parts quote (part ∷ parts) is are =
    part_held quote part (source_of parts) is are.0 ∙ ap (λ (more : List ℕ). part.meaning ++ more) (held_parts quote parts is are.1)
