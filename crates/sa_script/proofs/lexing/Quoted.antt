-- Where what stands in quotes ends, and that it has no end where nothing closes it.
use Rattle.std.proofs.Common.{◌≡◌, ◌≢◌, ℕ, suc, ◌+◌, ◌<◌, ◌≤◌, List, [], ◌∷◌, ◌++◌, length, take, drop, get_or, Some, None, Ok, Err, true, false, refl, sym, ap, ◌∙◌, arith, inl, inr, ◌⊎◌, append_assoc, length-append}
use Rattle.std.specs.Prelude.{not, ◌==◌, codes, nat_eq}
use Rattle.std.specs.Cmp.Lexicographic.{pointwise}
use Rattle.std.specs.List.{AllByRecursion}
use Rattle.std.proofs.Math.Seq.{take-append_seam}
use Rattle.std.proofs.lemmas.Bool.{and_parts, and_from, eq-eqb, ne_eqb, not-true, not_from_false}
use Rattle.std.proofs.lemmas.List.{take-append-le}
use Rattle.sa_lexer.specs.declared.fault.LexKind.TheVariants.{OpenText, OpenComment}
use Rattle.sa_lexer.specs.Byte.{is_quote}
use Rattle.sa_lexer.specs.Fault.{Fault, fault}
use Rattle.sa_lexer.specs.Lexeme.{lexeme_at, quoted_at}
use Rattle.sa_lexer.specs.Opening.{begins_with, plus, comment_close, escapes, quote_close, len_at}
use Rattle.sa_lexer.specs.Quoted.{is_other}
use Rattle.sa_lexer.specs.Spans.{Part, IsPart, source_of}
use Rattle.sa_lexer.specs.Faulty.{IsOpenText}
use Rattle.sa_script.proofs.lexing.Opened.{quote_apart, quoted_len_at, quoted_open_at, comment_open_at, quoted_err_at}

-- ---- a closing quote

here : (quote : ℕ) (after : List ℕ) → get_or after 0 0 ≢ quote → quote_close quote (quote ∷ after) ≡ Some 1
unfolding quote_close
here quote [] apart = rw (eq-eqb quote quote refl) refl
here quote (byte ∷ after) apart =
    rw (and_from (quote == quote) (not (byte == quote)) (eq-eqb quote quote refl) (not_from_false (byte == quote) (ne_eqb byte quote apart))) refl

doubled : (quote : ℕ) (rest : List ℕ) → quote_close quote (quote ∷ quote ∷ rest) ≡ plus 2 (quote_close quote rest)
unfolding quote_close
doubled quote rest = rw (eq-eqb quote quote refl) refl

escaped : (quote byte : ℕ) (rest : List ℕ) → 92 ≢ quote → escapes quote 92 ≡ true → quote_close quote (92 ∷ byte ∷ rest) ≡ plus 2 (quote_close quote rest)
unfolding quote_close
escaped quote byte rest apart read = rw (ne_eqb 92 quote apart, read) refl

other_next : (quote byte second : ℕ) (rest : List ℕ) → is_other quote byte ≡ true → quote_close quote (byte ∷ second ∷ rest) ≡ plus 1 (quote_close quote (second ∷ rest))
unfolding quote_close
other_next quote byte second rest other =
    let both = and_parts (not (byte == quote)) (not (escapes quote byte)) other in
    rw (not-true (byte == quote) both.0, not-true (escapes quote byte) both.1) refl

other_last : (quote byte : ℕ) → is_other quote byte ≡ true → quote_close quote (byte ∷ []) ≡ None
unfolding quote_close
other_last quote byte other =
    let both = and_parts (not (byte == quote)) (not (escapes quote byte)) other in
    rw (not-true (byte == quote) both.0) refl

other_some : (quote byte : ℕ) (rest : List ℕ) → is_other quote byte ≡ true → 0 < length rest → quote_close quote (byte ∷ rest) ≡ plus 1 (quote_close quote rest)
other_some quote byte [] other some = absurd (omega arith)
other_some quote byte (second ∷ rest) other some = other_next quote byte second rest other

part_some : (quote : ℕ) (part : Part) (rest : List ℕ) → is_quote quote ≡ true → IsPart quote part → 0 < length rest → quote_close quote (part.source ++ rest) ≡ plus (length part.source) (quote_close quote rest)
part_some quote part rest is h some = elim h [
  | inl d ↦ rw d.0 (doubled quote rest)
  | inr (inl d) ↦ rw d.2 (escaped quote d.0 rest (λ e. (quote_apart quote is).1 (sym e)) d.1)
  | inr (inr d) ↦ rw d.2 (other_some quote d.0 rest d.1 some)
]

pub closed_behind : (quote : ℕ) (parts : List Part) (after : List ℕ) → is_quote quote ≡ true → AllByRecursion (IsPart quote) parts → get_or after 0 0 ≢ quote → quote_close quote (source_of parts ++ quote ∷ after) ≡ Some (length (source_of parts) + 1)
closed_behind quote [] after is are apart = here quote after apart
closed_behind quote (part ∷ parts) after is are apart =
    let rest = source_of parts ++ quote ∷ after in
    let some : 0 < length rest = omega (arith, length-append (source_of parts) (quote ∷ after)) in
    let count : length part.source + (length (source_of parts) + 1) ≡ length (part.source ++ source_of parts) + 1 = omega (arith, length-append part.source (source_of parts)) in
    ap (quote_close quote) (append_assoc part.source (source_of parts) (quote ∷ after)) ∙ part_some quote part rest is are.0 some
    ∙ ap (plus (length part.source)) (closed_behind quote parts after is are.1 apart) ∙ ap (λ (n : ℕ). Some n) count

close_of : (quote : ℕ) (parts : List Part) (after : List ℕ) → is_quote quote ≡ true → AllByRecursion (IsPart quote) parts → get_or after 0 0 ≢ quote → quote_close quote ((source_of parts ++ quote ∷ []) ++ after) ≡ Some (length (source_of parts) + 1)
close_of quote parts after is are apart = ap (quote_close quote) (append_assoc (source_of parts) (quote ∷ []) after) ∙ closed_behind quote parts after is are apart

all_of : (quote : ℕ) (parts : List Part) → 1 + (length (source_of parts) + 1) ≡ length (quote ∷ (source_of parts ++ quote ∷ []))
all_of quote parts = omega (arith, length-append (source_of parts) (quote ∷ []))

-- what stands in quotes takes its bytes
pub quoted_len : (place quote : ℕ) (parts : List Part) (after : List ℕ) → is_quote quote ≡ true → AllByRecursion (IsPart quote) parts → get_or after 0 0 ≢ quote
    → len_at place ((quote ∷ (source_of parts ++ quote ∷ [])) ++ after) ≡ Ok (length (quote ∷ (source_of parts ++ quote ∷ [])))
quoted_len place quote parts after is are apart =
    quoted_len_at place quote (length (source_of parts) + 1) ((source_of parts ++ quote ∷ []) ++ after) is (close_of quote parts after is are apart) ∙ ap (λ (n : ℕ). Ok n) (all_of quote parts)

-- what stands in quotes and is refused
pub quoted_err : (place quote : ℕ) (parts : List Part) (after : List ℕ) (f : Fault) → is_quote quote ≡ true → AllByRecursion (IsPart quote) parts → get_or after 0 0 ≢ quote
    → quoted_at place (quote ∷ (source_of parts ++ quote ∷ [])) ≡ Err f → lexeme_at place ((quote ∷ (source_of parts ++ quote ∷ [])) ++ after) ≡ Err f
quoted_err place quote parts after f is are apart reads =
    let part = quote ∷ (source_of parts ++ quote ∷ []) in
    let front : take (1 + (length (source_of parts) + 1)) (part ++ after) ≡ part = ap (λ (n : ℕ). take n (part ++ after)) (all_of quote parts) ∙ take-append_seam part after in
    quoted_err_at place quote (length (source_of parts) + 1) ((source_of parts ++ quote ∷ []) ++ after) f is (close_of quote parts after is are apart) (ap (quoted_at place) front ∙ reads)

-- ---- no closing quote

other_none : (quote byte : ℕ) (rest : List ℕ) → is_other quote byte ≡ true → quote_close quote rest ≡ None → quote_close quote (byte ∷ rest) ≡ None
other_none quote byte [] other none = other_last quote byte other
other_none quote byte (second ∷ rest) other none = other_next quote byte second rest other ∙ ap (plus 1) none

part_none : (quote : ℕ) (part : Part) (rest : List ℕ) → is_quote quote ≡ true → IsPart quote part → quote_close quote rest ≡ None → quote_close quote (part.source ++ rest) ≡ None
part_none quote part rest is h none = elim h [
  | inl d ↦ rw d.0 (doubled quote rest ∙ ap (plus 2) none)
  | inr (inl d) ↦ rw d.2 (escaped quote d.0 rest (λ e. (quote_apart quote is).1 (sym e)) d.1 ∙ ap (plus 2) none)
  | inr (inr d) ↦ rw d.2 (other_none quote d.0 rest d.1 none)
]

left_none : (quote : ℕ) (left : List ℕ) → is_quote quote ≡ true → (left ≡ []) ⊎ ((escapes quote 92 ≡ true) × (left ≡ 92 ∷ [])) → quote_close quote left ≡ None
unfolding quote_close
left_none quote left is h = elim h [
  | inl e ↦ rw e refl
  | inr e ↦ rw (e.1, ne_eqb 92 quote (λ same. (quote_apart quote is).1 (sym same))) refl
]

open_behind : (quote : ℕ) (parts : List Part) (left : List ℕ) → is_quote quote ≡ true → AllByRecursion (IsPart quote) parts → quote_close quote left ≡ None → quote_close quote (source_of parts ++ left) ≡ None
open_behind quote [] left is are none = none
open_behind quote (part ∷ parts) left is are none =
    ap (quote_close quote) (append_assoc part.source (source_of parts) left) ∙ part_none quote part (source_of parts ++ left) is are.0 (open_behind quote parts left is are.1 none)

pub open_text_len : (place : ℕ) (rest : List ℕ) → (h : IsOpenText rest) → len_at place (h.quote ∷ (source_of h.parts ++ h.left)) ≡ Err (fault OpenText place)
open_text_len place rest h = quoted_open_at place h.quote (source_of h.parts ++ h.left) h.quoted (open_behind h.quote h.parts h.left h.quoted h.are (left_none h.quote h.left h.quoted h.ends))

-- ---- comments

pub comment_closes : (inner after : List ℕ) → ((k : ℕ) → k < length inner → begins_with (codes "*/") (drop k (inner ++ codes "*/")) ≡ false) → comment_close ((inner ++ codes "*/") ++ after) ≡ Some (length inner + 2)
unfolding comment_close
comment_closes [] after apart = refl
comment_closes (byte ∷ inner) after apart =
    let some : 1 ≤ length (inner ++ codes "*/") = omega (arith, length-append inner (codes "*/")) in
    let front : take 1 ((inner ++ codes "*/") ++ after) ≡ take 1 (inner ++ codes "*/") = take-append-le 1 (inner ++ codes "*/") after some in
    let here : begins_with (codes "*/") (byte ∷ ((inner ++ codes "*/") ++ after)) ≡ false = ap (λ (more : List ℕ). pointwise nat_eq (codes "*/") (byte ∷ more)) front ∙ apart 0 (omega arith) in
    let later = comment_closes inner after (λ k lt. apart (suc k) (omega arith)) in
    let count : 1 + (length inner + 2) ≡ suc (length inner) + 2 = omega arith in
    rw here (ap (plus 1) later ∙ ap (λ (n : ℕ). Some n) count)

never_closes : (inner : List ℕ) → ((k : ℕ) → k < length inner → begins_with (codes "*/") (drop k inner) ≡ false) → comment_close inner ≡ None
unfolding comment_close
never_closes [] apart = refl
never_closes (byte ∷ inner) apart =
    let first : begins_with (codes "*/") (byte ∷ inner) ≡ false = apart 0 (omega arith) in
    rw first (ap (plus 1) (never_closes inner (λ k lt. apart (suc k) (omega arith))))

pub open_comment_len : (place : ℕ) (inner : List ℕ) → ((k : ℕ) → k < length inner → begins_with (codes "*/") (drop k inner) ≡ false) → len_at place (47 ∷ 42 ∷ inner) ≡ Err (fault OpenComment place)
open_comment_len place inner apart = comment_open_at place inner (never_closes inner apart)
