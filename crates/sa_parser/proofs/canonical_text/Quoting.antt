-- What is written between quotes is read as what was written.
use Rattle.std.proofs.Common.{◌≡◌, ℕ, Bool, true, false, List, [], ◌∷◌, ◌++◌, cond, refl, ap, subst, inl, inr}
use Rattle.std.specs.Prelude.{not, ◌==◌}
use Rattle.std.specs.List.{AllByRecursion}
use Rattle.std.proofs.lemmas.Bool.{or_cases, or_parts, eqb-true, and_from, and_parts, not_from_false}
use Rattle.sa_lexer.specs.Opening.{escapes}
use Rattle.sa_lexer.specs.Spans.{Part, IsPart, InQuotes, source_of, meaning_of}
use Rattle.sa_print.specs.Quoted.{is_doubled, byte_between, between_quotes, quoted}

-- a byte, as it is written between quotes
abbrev part_of : ℕ → ℕ → Part
part_of quote byte = record { source = byte_between quote byte; meaning = byte ∷ [] }

doubled_part : (quote byte : ℕ) → is_doubled quote byte ≡ true → IsPart quote (record { source = byte ∷ byte ∷ []; meaning = byte ∷ [] })
doubled_part quote byte e = elim (or_cases (byte == quote) (escapes quote byte) e) [
  | inl a ↦ let same : byte ≡ quote = eqb-true byte quote a in inl (ap (λ (b : ℕ). b ∷ b ∷ []) same, ap (λ (b : ℕ). b ∷ []) same)
  | inr a ↦
      let slash : byte ≡ 92 = eqb-true byte 92 (and_parts (byte == 92) (not (quote == 96)) a).0 in
      let Escapes : ℕ → Type 0 = λ b. escapes quote b ≡ true in
      inr (inl (92, subst Escapes slash a, ap (λ (b : ℕ). b ∷ b ∷ []) slash, ap (λ (b : ℕ). b ∷ []) slash))
]

single_part : (quote byte : ℕ) → is_doubled quote byte ≡ false → IsPart quote (record { source = byte ∷ []; meaning = byte ∷ [] })
single_part quote byte e =
    let (other, plain) = or_parts (byte == quote) (escapes quote byte) e in
    inr (inr (byte, and_from _ _ (not_from_false (byte == quote) other) (not_from_false (escapes quote byte) plain), refl, refl))

part_by : (quote byte : ℕ) (doubled : Bool) → is_doubled quote byte ≡ doubled → IsPart quote (record { source = cond doubled (byte ∷ byte ∷ []) (byte ∷ []); meaning = byte ∷ [] })
part_by quote byte true e = doubled_part quote byte e
part_by quote byte false e = single_part quote byte e

record AreParts (quote : ℕ) (bytes : List ℕ) : Type 0 where
  parts : List Part
  are : AllByRecursion (IsPart quote) parts
  source : between_quotes quote bytes ≡ source_of parts
  meaning : bytes ≡ meaning_of parts

are_parts : (quote : ℕ) (bytes : List ℕ) → AreParts quote bytes
unfolding between_quotes
are_parts quote [] = record { parts = []; are = tt; source = refl; meaning = refl }
are_parts quote (byte ∷ bytes) =
    let rest = are_parts quote bytes in
    record {
      parts = part_of quote byte ∷ rest.parts;
      are = (part_by quote byte (is_doubled quote byte) refl, rest.are);
      source = ap (λ (more : List ℕ). byte_between quote byte ++ more) rest.source;
      meaning = ap (λ (more : List ℕ). byte ∷ more) rest.meaning;
    }

pub in_quotes : (quote : ℕ) (bytes : List ℕ) → InQuotes quote (quoted quote bytes) bytes
in_quotes quote bytes =
    let all = are_parts quote bytes in
    (all.parts, all.are, ap (λ (source : List ℕ). quote ∷ (source ++ quote ∷ [])) all.source, all.meaning)
