-- What is wrong with the rest of a text is told of it.
use Rattle.std.proofs.Common.{◌≡◌, ◌≢◌, ℕ, suc, ◌+◌, ◌<◌, ◌≤◌, List, [], ◌∷◌, ◌++◌, length, get_or, Option, Some, None, Err, Bool, true, false, refl, sym, ap, ◌∙◌, subst, arith, inl, inr, ◌⊎◌, length-append, add-zero}
use Rattle.std.specs.Prelude.{◌==◌, nat_lt}
use Rattle.std.specs.Char.{is_ascii_digit}
use Rattle.std.specs.List.{prefix_len, AllPass, AllByRecursion}
use Rattle.std.specs.Str.{all_ascii_digits}
use Rattle.std.proofs.Math.Seq.{get_or-append_seam}
use Rattle.std.proofs.lemmas.Bool.{and_parts, le-ltb, lt-ltb, false_from_ne_true}
use Rattle.std.proofs.lemmas.Bool.Decides.{nat_tests}
use Rattle.std.proofs.lemmas.List.Elements.{All-nil, All-cons}
use Rattle.sa_lexer.specs.declared.fault.LexKind.{LexKind}
use Rattle.sa_lexer.specs.declared.fault.LexKind.TheVariants.{BadByte, OpenText, OpenComment, NumberTooLong, TextTooLong}
use Rattle.sa_lexer.specs.declared.sign.Sign.{Sign}
use Rattle.sa_lexer.specs.Byte.{is_space, is_word_byte, is_quote}
use Rattle.sa_lexer.specs.Fault.{Fault, fault}
use Rattle.sa_lexer.specs.Faulty.{IsWrong, BeginsNothing, IsEmptyName, FollowsNumber, IsLongNumber, IsLongText, IsOpenText, IsOpenComment}
use Rattle.sa_lexer.specs.Lexeme.{lexeme_at, number_at, plain_at, quoted_at}
use Rattle.sa_lexer.specs.Opening.{begins_with, is_executable, len_at}
use Rattle.sa_lexer.specs.Quoted.{held_in}
use Rattle.sa_lexer.specs.Sign.{spelling, sign_at}
use Rattle.sa_lexer.specs.Spans.{Part, IsPart, source_of, meaning_of, InQuotes}
use Rattle.std.specs.Prelude.{slice_range}
use Rattle.std.proofs.Common.{◌-◌}
use Rattle.sa_lexer.proofs.Again.{OpensNone, comment_opens}
use Rattle.sa_lexer.proofs.Cuts.{sign_begins}
use Rattle.sa_lexer.proofs.Lexemes.{between}
use Rattle.sa_lexer.proofs.Quotes.{held_parts}
use Rattle.sa_script.proofs.lexing.Opened.{executable_comment, free_of, quote_apart, left_open, plain_err}
use Rattle.sa_script.proofs.lexing.Quoted.{quoted_err, open_text_len, open_comment_len}

-- ---- a byte that begins nothing

no_sign : (bytes : List ℕ) (found : Option Sign) → sign_at bytes ≡ found → ((sign : Sign) → begins_with (spelling sign) bytes ≡ false) → found ≡ None
no_sign bytes None e none = refl
no_sign bytes (Some sign) e none = let yes = sign_begins bytes sign e in let no = none sign in absurd cc

digit_word : (byte : ℕ) → is_ascii_digit byte ≡ true → is_word_byte byte ≡ true
digit_word byte e = grind (arith, nat_tests)

not_digit : (byte : ℕ) → is_word_byte byte ≡ false → is_ascii_digit byte ≡ false
not_digit byte e = false_from_ne_true (is_ascii_digit byte) (λ d. let clash : true ≡ false = sym (digit_word byte d) ∙ e in cc)

nothing_plain : (place byte : ℕ) (after : List ℕ) → is_space byte ≡ false → is_word_byte byte ≡ false → is_ascii_digit byte ≡ false → sign_at (byte ∷ after) ≡ None → plain_at place (byte ∷ after) ≡ Err (fault BadByte place)
unfolding plain_at
nothing_plain place byte after space word digit sign = rw (space, word, digit, sign) refl

nothing_free : (rest : List ℕ) → BeginsNothing rest → is_executable rest ≡ false
nothing_free rest h = false_from_ne_true (is_executable rest) (λ e. let clash = sym (comment_opens []) ∙ sym (executable_comment rest e) ∙ h.opens in cc)

nothing_told : (place : ℕ) (rest : List ℕ) → BeginsNothing rest → lexeme_at place rest ≡ Err (fault BadByte place)
unfolding lexeme_at len_at
nothing_told place rest h =
    rw (nothing_free rest h, h.opens)
    (ap (plain_at place) h.source ∙ nothing_plain place h.byte h.after h.space h.word (not_digit h.byte h.word) (ap sign_at (sym h.source) ∙ no_sign rest (sign_at rest) refl h.sign))

-- ---- numbers

none_pass : (p : ℕ → Bool) (bytes : List ℕ) → p (get_or bytes 0 0) ≡ false → prefix_len p bytes ≡ 0
none_pass p [] e = refl
none_pass p (byte ∷ bytes) e = rw e refl

run_is : (p : ℕ → Bool) (front after : List ℕ) → AllPass p front → prefix_len p (front ++ after) ≡ length front + prefix_len p after
run_is p [] after all = let e : prefix_len p after ≡ 0 + prefix_len p after = omega arith in e
run_is p (byte ∷ front) after all =
    let here : p byte ≡ true = all 0 0 (omega arith) in
    let later = run_is p front after (λ k d lt. all (suc k) d (omega arith)) in
    rw here (let one : 1 + prefix_len p (front ++ after) ≡ suc (length front) + prefix_len p after = omega (arith, later) in one)

digits_pass : (bytes : List ℕ) → all_ascii_digits bytes ≡ true → AllPass is_ascii_digit bytes
digits_pass [] e = All-nil (λ b. is_ascii_digit b ≡ true)
digits_pass (byte ∷ bytes) e =
    let both = and_parts (is_ascii_digit byte) (all_ascii_digits bytes) e in
    All-cons (λ b. is_ascii_digit b ≡ true) byte bytes both.0 (digits_pass bytes both.1)

word_apart : (byte : ℕ) → is_word_byte byte ≡ true → OpensNone byte × ((is_quote byte ≡ false) × (is_space byte ≡ false))
word_apart byte e = (record { hash = grind (arith, nat_tests); dash = grind (arith, nat_tests); slash = grind (arith, nat_tests) }, (grind (arith, nat_tests), grind (arith, nat_tests)))

digit_plain : (place byte : ℕ) (bytes : List ℕ) → is_space byte ≡ false → is_ascii_digit byte ≡ true → plain_at place (byte ∷ bytes) ≡ number_at place (byte ∷ bytes)
unfolding plain_at
digit_plain place byte bytes space digit = rw (space, digit) refl

-- what a number answers, the text does
number_told : (place : ℕ) (digits after : List ℕ) (f : Fault) → 0 < length digits → all_ascii_digits digits ≡ true → number_at place (digits ++ after) ≡ Err f → lexeme_at place (digits ++ after) ≡ Err f
number_told place [] after f some all e = absurd (omega arith)
number_told place (byte ∷ digits) after f some all e =
    let digit = (and_parts (is_ascii_digit byte) (all_ascii_digits digits) all).0 in
    let apart = word_apart byte (digit_word byte digit) in
    plain_err place byte (digits ++ after) f apart.0 apart.1.0 (digit_plain place byte (digits ++ after) apart.1.1 digit ∙ e)

follows_at : (place : ℕ) (digits after : List ℕ) (byte : ℕ) → all_ascii_digits digits ≡ true → length digits ≤ 38 → is_ascii_digit byte ≡ false → is_word_byte byte ≡ true → number_at place (digits ++ (byte ∷ after)) ≡ Err (fault BadByte (place + length digits))
unfolding number_at
follows_at place digits after byte all short digit word =
    let len : prefix_len is_ascii_digit (digits ++ (byte ∷ after)) ≡ length digits =
    run_is is_ascii_digit digits (byte ∷ after) (digits_pass digits all) ∙ ap (λ (n : ℕ). length digits + n) (none_pass is_ascii_digit (byte ∷ after) digit) ∙ add-zero (length digits) in
    let next : get_or (digits ++ (byte ∷ after)) (length digits) 0 ≡ byte = get_or-append_seam digits byte after 0 in
    rw (len, le-ltb 38 (length digits) short, next, word) refl

follows_told : (place : ℕ) (rest : List ℕ) (count : ℕ) → FollowsNumber rest count → lexeme_at place rest ≡ Err (fault BadByte (place + count))
follows_told place rest count h =
    ap (lexeme_at place) h.source ∙ number_told place h.digits (h.byte ∷ h.after) (fault BadByte (place + length h.digits)) h.some h.are (follows_at place h.digits h.after h.byte h.are h.short h.digit h.word)
    ∙ ap (λ (n : ℕ). Err (fault BadByte (place + n))) (sym h.all)

long_at : (place : ℕ) (digits after : List ℕ) → all_ascii_digits digits ≡ true → 38 < length digits → number_at place (digits ++ after) ≡ Err (fault NumberTooLong place)
unfolding number_at
long_at place digits after all long =
    let len = run_is is_ascii_digit digits after (digits_pass digits all) in
    let many : nat_lt 38 (prefix_len is_ascii_digit (digits ++ after)) ≡ true = lt-ltb 38 (prefix_len is_ascii_digit (digits ++ after)) (omega (arith, len)) in
    rw many refl

long_told : (place : ℕ) (rest : List ℕ) → IsLongNumber rest → lexeme_at place rest ≡ Err (fault NumberTooLong place)
long_told place rest h =
    ap (lexeme_at place) h.source ∙ number_told place h.digits h.after (fault NumberTooLong place) (omega (arith, h.long)) h.are (long_at place h.digits h.after h.are h.long)

-- ---- quotes

empty_at : (place : ℕ) → quoted_at place (96 ∷ 96 ∷ []) ≡ Err (fault BadByte place)
unfolding quoted_at held_in
empty_at place = refl

empty_told : (place : ℕ) (rest : List ℕ) → IsEmptyName rest → lexeme_at place rest ≡ Err (fault BadByte place)
empty_told place rest h = ap (lexeme_at place) h.source ∙ quoted_err place 96 [] h.after (fault BadByte place) refl tt h.ends (empty_at place)

long_text_at : (place quote : ℕ) (parts : List Part) (held : List ℕ) → is_quote quote ≡ true → (quote == 96) ≡ false → AllByRecursion (IsPart quote) parts → held ≡ meaning_of parts → 255 < length held
    → quoted_at place (quote ∷ (source_of parts ++ quote ∷ [])) ≡ Err (fault TextTooLong place)
unfolding quoted_at
long_text_at place quote parts held is other are means long =
    let inside : held_in quote (slice_range (quote ∷ (source_of parts ++ quote ∷ [])) 1 (length (quote ∷ (source_of parts ++ quote ∷ [])) - 1)) ≡ held = ap (held_in quote) (between quote (source_of parts)) ∙ held_parts quote parts is are ∙ sym means in
    rw (other, inside, lt-ltb 255 (length held) long) refl

long_text : (place quote : ℕ) (bytes after held : List ℕ) → is_quote quote ≡ true → (quote == 96) ≡ false → InQuotes quote bytes held → get_or after 0 0 ≢ get_or bytes 0 0 → 255 < length held → lexeme_at place (bytes ++ after) ≡ Err (fault TextTooLong place)
long_text place quote bytes after held is other h ends long =
    subst (λ (b : List ℕ). lexeme_at place (b ++ after) ≡ Err (fault TextTooLong place)) (sym h.2)
    (quoted_err place quote h.0 after (fault TextTooLong place) is h.1 (subst (λ (b : List ℕ). get_or after 0 0 ≢ get_or b 0 0) h.2 ends) (long_text_at place quote h.0 held is other h.1 h.3 long))

long_text_told : (place : ℕ) (rest : List ℕ) → IsLongText rest → lexeme_at place rest ≡ Err (fault TextTooLong place)
long_text_told place rest h = ap (lexeme_at place) h.source ∙ (elim h.quoted [
  | inl single ↦ long_text place 39 h.bytes h.after h.held refl refl single h.ends h.long
  | inr double ↦ long_text place 34 h.bytes h.after h.held refl refl double h.ends h.long
])

open_text_told : (place : ℕ) (rest : List ℕ) → IsOpenText rest → lexeme_at place rest ≡ Err (fault OpenText place)
open_text_told place rest h =
    let bytes = h.quote ∷ (source_of h.parts ++ h.left) in
    ap (lexeme_at place) h.source
    ∙ left_open place bytes (fault OpenText place) (free_of h.quote (source_of h.parts ++ h.left) (quote_apart h.quote h.quoted).0.slash) (open_text_len place rest h)

open_comment_told : (place : ℕ) (rest : List ℕ) → IsOpenComment rest → is_executable rest ≡ false → lexeme_at place rest ≡ Err (fault OpenComment place)
open_comment_told place rest h free =
    ap (lexeme_at place) h.source
    ∙ left_open place (47 ∷ 42 ∷ h.inner) (fault OpenComment place) (subst (λ (b : List ℕ). is_executable b ≡ false) h.source free) (open_comment_len place h.inner h.unclosed)

executable_told : (place : ℕ) (rest : List ℕ) → is_executable rest ≡ true → lexeme_at place rest ≡ Err (fault BadByte place)
unfolding lexeme_at
executable_told place rest e = rw e refl

-- ---- whatever is wrong

at_once : (place count : ℕ) (rest : List ℕ) (kind : LexKind) → count ≡ 0 → lexeme_at place rest ≡ Err (fault kind place) → lexeme_at place rest ≡ Err (fault kind (place + count))
at_once place count rest kind none e = let there : place ≡ place + count = omega (arith, none) in e ∙ ap (λ (n : ℕ). Err (fault kind n)) there

bad_told : (place : ℕ) (rest : List ℕ) → BeginsNothing rest ⊎ (IsEmptyName rest ⊎ (is_executable rest ≡ true)) → lexeme_at place rest ≡ Err (fault BadByte place)
bad_told place rest h = elim h [
  | inl nothing ↦ nothing_told place rest nothing
  | inr (inl empty) ↦ empty_told place rest empty
  | inr (inr runs) ↦ executable_told place rest runs
]

pub wrong_told : (place : ℕ) (kind : LexKind) (rest : List ℕ) (count : ℕ) → IsWrong kind rest count → lexeme_at place rest ≡ Err (fault kind (place + count))
wrong_told place BadByte rest count h = elim h [
  | inl now ↦ at_once place count rest BadByte now.0 (bad_told place rest now.1)
  | inr follows ↦ follows_told place rest count follows
]
wrong_told place OpenText rest count h = at_once place count rest OpenText h.0 (open_text_told place rest h.1)
wrong_told place OpenComment rest count h = at_once place count rest OpenComment h.0 (open_comment_told place rest h.1 h.2)
wrong_told place NumberTooLong rest count h = at_once place count rest NumberTooLong h.0 (long_told place rest h.1)
wrong_told place TextTooLong rest count h = at_once place count rest TextTooLong h.0 (long_text_told place rest h.1)

-- ---- something is there

executable_some : (rest : List ℕ) → is_executable rest ≡ true → 0 < length rest
unfolding is_executable
executable_some [] e = absurd cc
executable_some (byte ∷ rest) e = omega arith

quotes_some : (quote : ℕ) (bytes held : List ℕ) → InQuotes quote bytes held → 0 < length bytes
quotes_some quote bytes held h = omega (arith, ap length h.2)

bad_some : (rest : List ℕ) → BeginsNothing rest ⊎ (IsEmptyName rest ⊎ (is_executable rest ≡ true)) → 0 < length rest
bad_some rest h = elim h [
  | inl nothing ↦ omega (arith, ap length nothing.source)
  | inr (inl empty) ↦ omega (arith, ap length empty.source)
  | inr (inr runs) ↦ executable_some rest runs
]

long_text_some : (rest : List ℕ) → IsLongText rest → 0 < length rest
long_text_some rest h =
    let some : 0 < length h.bytes = elim h.quoted [ inl single ↦ quotes_some 39 h.bytes h.held single | inr double ↦ quotes_some 34 h.bytes h.held double ] in
    omega (arith, some, ap length h.source, length-append h.bytes h.after)

pub wrong_some : (kind : LexKind) (rest : List ℕ) (count : ℕ) → IsWrong kind rest count → 0 < length rest
wrong_some BadByte rest count h = elim h [
  | inl now ↦ bad_some rest now.1
  | inr follows ↦ omega (arith, ap length follows.source, length-append follows.digits (follows.byte ∷ follows.after))
]
wrong_some OpenText rest count h = omega (arith, ap length h.1.source)
wrong_some OpenComment rest count h = omega (arith, ap length h.1.source)
wrong_some NumberTooLong rest count h = omega (arith, ap length h.1.source, length-append h.1.digits h.1.after, h.1.long)
wrong_some TextTooLong rest count h = long_text_some rest h.1
