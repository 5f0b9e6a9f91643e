-- What the bytes between quotes stand for, one front after another.
use Rattle.std.proofs.Common.{◌≡◌, ◌≢◌, ℕ, suc, ◌+◌, ◌<◌, ◌≤◌, List, [], ◌∷◌, ◌++◌, length, take, drop, get_or, Bool, true, false, cond, refl, sym, ap, ◌∙◌, arith, inl, inr, ◌⊎◌}
use Rattle.std.specs.Prelude.{not, ◌==◌}
use Rattle.std.specs.List.{prefix_len}
use Rattle.std.specs.Str.{IsUtf8, IsCharBoundary}
use Rattle.std.proofs.lemmas.Bool.{and_parts, and_cases, and_from, and_left, and_right, not-true, not-false, eqb-true, eq-eqb, ne_eqb, not_from_false}
use Rattle.std.proofs.lemmas.Bool.Decides.{nat_tests}
use Rattle.std.proofs.lemmas.List.Sums.{prefix_len-le-length, prefix_len_stops}
use Rattle.sa_lexer.specs.Byte.{is_quote}
use Rattle.sa_lexer.specs.Opening.{escapes}
use Rattle.sa_lexer.specs.Quoted.{escape, is_other, held_in}

-- a quote is ASCII, and no backslash
pub quote_small : (quote : ℕ) → is_quote quote ≡ true → (quote < 128) × (quote ≢ 92)
quote_small quote is = (grind (arith, nat_tests), grind (arith, nat_tests))

-- what doesn't stand for itself is a quote or an escape
pub special : (quote first : ℕ) → is_other quote first ≡ false → (first ≡ quote) ⊎ (escapes quote first ≡ true)
special quote first e = elim (and_cases (not (first == quote)) (not (escapes quote first)) e) [
  | inl same ↦ inl (eqb-true first quote (not-false (first == quote) same))
  | inr escape ↦ inr (not-false (escapes quote first) escape)
]

pub escape_first : (quote first : ℕ) → escapes quote first ≡ true → first ≡ 92
escape_first quote first e = eqb-true first 92 (and_parts (first == 92) (not (quote == 96)) e).0

pub special_small : (quote first : ℕ) → is_quote quote ≡ true → is_other quote first ≡ false → first < 128
special_small quote first is e = elim (special quote first e) [
  | inl same ↦ omega (arith, quote_small quote is)
  | inr escape ↦ omega (arith, escape_first quote first escape)
]

-- a byte that is neither a quote nor an escape stands for itself
pub held_one : (quote first : ℕ) (rest : List ℕ) → is_other quote first ≡ true → held_in quote (first ∷ rest) ≡ first ∷ held_in quote rest
unfolding held_in
held_one quote first [] e = refl
held_one quote first (second ∷ rest) e =
    let both = and_parts (not (first == quote)) (not (escapes quote first)) e in
    rw (not-true (first == quote) both.0, not-true (escapes quote first) both.1) refl

run_step : (quote first : ℕ) (rest : List ℕ) (b : Bool) → is_other quote first ≡ b → held_in quote rest ≡ take (prefix_len (is_other quote) rest) rest ++ held_in quote (drop (prefix_len (is_other quote) rest) rest)
    → held_in quote (first ∷ rest) ≡ take (cond b (1 + prefix_len (is_other quote) rest) 0) (first ∷ rest) ++ held_in quote (drop (cond b (1 + prefix_len (is_other quote) rest) 0) (first ∷ rest))
run_step quote first rest true e later =
    let one : 1 + prefix_len (is_other quote) rest ≡ suc (prefix_len (is_other quote) rest) = omega arith in
    rw one (held_one quote first rest e ∙ ap (λ (held : List ℕ). first ∷ held) later)
run_step quote first rest false e later = refl

-- and so does a run of such bytes
pub held_run : (quote : ℕ) (bytes : List ℕ) → held_in quote bytes ≡ take (prefix_len (is_other quote) bytes) bytes ++ held_in quote (drop (prefix_len (is_other quote) bytes) bytes)
held_run quote [] = refl
held_run quote (first ∷ rest) = run_step quote first rest (is_other quote first) refl (held_run quote rest)

pub held_last : (quote : ℕ) (bytes : List ℕ) → length bytes ≡ 1 → held_in quote bytes ≡ bytes ++ held_in quote (drop 1 bytes)
unfolding held_in
held_last quote [] e = absurd (omega arith)
held_last quote (first ∷ []) e = refl
held_last quote (first ∷ second ∷ rest) e = absurd (omega arith)

pub held_doubled : (quote : ℕ) (bytes : List ℕ) → 1 < length bytes → get_or bytes 0 0 ≡ quote → get_or bytes 1 0 ≡ quote → held_in quote bytes ≡ take 1 bytes ++ held_in quote (drop 2 bytes)
unfolding held_in
held_doubled quote [] long a b = absurd (omega arith)
held_doubled quote (first ∷ []) long a b = absurd (omega arith)
held_doubled quote (first ∷ second ∷ rest) long a b =
    let same : first ≡ quote = a in
    let again : second ≡ quote = b in
    rw (and_from (first == quote) (second == quote) (eq-eqb first quote same) (eq-eqb second quote again)) (ap (λ (byte : ℕ). byte ∷ held_in quote rest) (sym same))

pub held_lone : (quote : ℕ) (bytes : List ℕ) → 1 < length bytes → is_quote quote ≡ true → get_or bytes 0 0 ≡ quote → get_or bytes 1 0 ≢ quote → held_in quote bytes ≡ take 1 bytes ++ held_in quote (drop 1 bytes)
unfolding held_in
held_lone quote [] long is a b = absurd (omega arith)
held_lone quote (first ∷ []) long is a b = absurd (omega arith)
held_lone quote (first ∷ second ∷ rest) long is a b =
    let plain : first ≢ 92 = omega (arith, a, (quote_small quote is).1) in
    rw (and_right (first == quote) (second == quote) (ne_eqb second quote b), and_left (first == 92) (not (quote == 96)) (ne_eqb first 92 plain)) refl

pub held_escaped : (quote : ℕ) (bytes : List ℕ) → 1 < length bytes → get_or bytes 0 0 ≢ quote → is_other quote (get_or bytes 0 0) ≡ false → held_in quote bytes ≡ escape (get_or bytes 1 0) ++ held_in quote (drop 2 bytes)
unfolding held_in
held_escaped quote [] long a b = absurd (omega arith)
held_escaped quote (first ∷ []) long a b = absurd (omega arith)
held_escaped quote (first ∷ second ∷ rest) long a b = elim (special quote first b) [
  | inl same ↦ absurd (a same)
  | inr escape ↦ rw (and_left (first == quote) (second == quote) (ne_eqb first quote a), escape) refl
]

escape_past : (byte : ℕ) → 128 ≤ byte → escape byte ≡ byte ∷ []
escape_past byte past = grind (arith, nat_tests)

other_past : (quote byte : ℕ) → is_quote quote ≡ true → 128 ≤ byte → is_other quote byte ≡ true
other_past quote byte is past =
    let small = quote_small quote is in
    let apart : byte ≢ quote = omega arith in
    let plain : byte ≢ 92 = omega arith in
    and_from (not (byte == quote)) (not (escapes quote byte)) (not_from_false (byte == quote) (ne_eqb byte quote apart)) (not_from_false (escapes quote byte) (and_left (byte == 92) (not (quote == 96)) (ne_eqb byte 92 plain)))

-- before a character past ASCII the backslash alone vanishes
pub held_past : (quote : ℕ) (bytes : List ℕ) → 1 < length bytes → is_quote quote ≡ true → get_or bytes 0 0 ≢ quote → is_other quote (get_or bytes 0 0) ≡ false → 128 ≤ get_or bytes 1 0 → held_in quote bytes ≡ held_in quote (drop 1 bytes)
held_past quote [] long is a b past = absurd (omega arith)
held_past quote (first ∷ []) long is a b past = absurd (omega arith)
held_past quote (first ∷ second ∷ rest) long is a b past =
    let past : 128 ≤ second = past in
    held_escaped quote (first ∷ second ∷ rest) long a b
    ∙ ap (λ (meaning : List ℕ). meaning ++ held_in quote rest) (escape_past second past)
    ∙ sym (held_one quote second rest (other_past quote second is past))

-- a text may be cut after such a run
pub after_others : (quote : ℕ) (bytes : List ℕ) → is_quote quote ≡ true → IsUtf8 bytes → IsCharBoundary bytes (prefix_len (is_other quote) bytes)
after_others quote bytes is utf8 =
    (prefix_len-le-length (is_other quote) bytes, λ within past. absurd (omega (arith, special_small quote (get_or bytes (prefix_len (is_other quote) bytes) 0) is (prefix_len_stops (is_other quote) bytes 0 within))))
