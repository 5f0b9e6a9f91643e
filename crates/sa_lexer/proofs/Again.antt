-- What is spelled as a token, and ends there, is read as that token. A blank is read as a blank.
use Rattle.std.proofs.Common.{◌≡◌, ◌≢◌, ℕ, suc, ◌+◌, ◌-◌, ◌<◌, ◌≤◌, List, [], ◌∷◌, ◌++◌, length, take, drop, get_or, Some, Ok, Bool, true, false, refl, sym, ap, ◌∙◌, subst, arith, inl, inr, append_assoc, length-append, add-zero}
use Rattle.std.specs.Prelude.{nat_eq, not, ◌==◌, codes, slice_range}
use Rattle.std.specs.Char.{is_ascii_digit}
use Rattle.std.specs.Cmp.Lexicographic.{pointwise}
use Rattle.std.specs.List.{prefix_len, AllPass, AllByRecursion}
use Rattle.std.specs.Str.{all_ascii_digits}
use Rattle.std.specs.Str.Parse.{digits_value}
use Rattle.std.proofs.Math.Seq.{take-append_seam}
use Rattle.std.proofs.lemmas.Bool.{and_parts, and_from, or_cases, eq-eqb, ne_eqb, le-ltb, not-true, not_from_false, false_from_ne_true}
use Rattle.std.proofs.lemmas.Bool.Decides.{Decides-eqb, nat_tests}
use Rattle.std.proofs.lemmas.List.{take_at, get_or_append_left, get_or-append-add, take-append-le}
use Rattle.std.proofs.lemmas.List.Elements.{All-nil, All-cons}
use Rattle.std.proofs.lemmas.Slice.Eq.{starts_is}
use Rattle.sa_lexer.specs.declared.opening.Opening.{Opening}
use Rattle.sa_lexer.specs.declared.opening.Opening.TheVariants.{LineComment, Comment, Quoted, Plain}
use Rattle.sa_lexer.specs.declared.lexeme.Lexeme.{Lexeme}
use Rattle.sa_lexer.specs.declared.sign.Sign as signs_of
use Rattle.sa_lexer.specs.declared.sign.Sign.TheVariants.{NullSafeEqual, NotEqual, BangEqual, LessEqual, GreaterEqual, AndAnd, OrOr, LeftParen, RightParen, Comma, Dot, Star, Plus, Minus, Slash, Percent, Equal, Less, Greater}
use Rattle.sa_lexer.specs.declared.token.TokenKind.{TokenKind}
use Rattle.sa_lexer.specs.declared.token.TokenKind.TheVariants.{Word, QuotedName, Text, Number, Sign}
use Rattle.sa_lexer.specs.Byte.{is_space, is_word_byte, is_quote}
use Rattle.sa_lexer.specs.Opening.{begins_with, opening_of, is_executable, plus, comment_close, escapes, quote_close, opened_len, len_at}
use Rattle.sa_lexer.specs.Lexeme.{blank, token, word_at, number_at, plain_at, quoted_at, opened_at, lexeme_at}
use Rattle.sa_lexer.specs.Sign.{spelling, sign_at}
use Rattle.sa_lexer.specs.Quoted.{held_in, is_other}
use Rattle.sa_lexer.specs.Spans.{Part, IsPart, source_of, meaning_of, InQuotes, Spells}
use Rattle.sa_lexer.specs.Grammar.{IsLineComment, IsComment, IsBlank, Ends}
use Rattle.sa_lexer.proofs.Cuts.{last_of_sign, sign_begins}
use Rattle.sa_lexer.proofs.Lexemes.{between}
use Rattle.sa_lexer.proofs.Longest.{longest_sign, sign_found}
use Rattle.sa_lexer.proofs.Openings.{begins, line_first}
use Rattle.sa_lexer.proofs.Quotes.{held_parts}

-- ---- what opens

pub comment_opens : (rest : List ℕ) → opening_of (47 ∷ 42 ∷ rest) ≡ Comment
unfolding opening_of
comment_opens rest = refl

executable_opens : (bytes : List ℕ) → is_executable bytes ≡ true → opening_of bytes ≡ Comment
unfolding is_executable
executable_opens bytes e = elim (or_cases (begins_with (codes "/*!") bytes) (begins_with (codes "/*M!") bytes) e) [
  | inl a ↦ ap opening_of (begins (codes "/*!") bytes a) ∙ comment_opens (33 ∷ drop 3 bytes)
  | inr a ↦ ap opening_of (begins (codes "/*M!") bytes a) ∙ comment_opens (77 ∷ 33 ∷ drop 4 bytes)
]

plain_safe : (bytes : List ℕ) → opening_of bytes ≡ Plain → is_executable bytes ≡ false
plain_safe bytes opens = false_from_ne_true (is_executable bytes) (λ e. let clash : Comment ≡ Plain = sym (executable_opens bytes e) ∙ opens in cc)

quoted_safe : (bytes : List ℕ) → opening_of bytes ≡ Quoted → is_executable bytes ≡ false
quoted_safe bytes opens = false_from_ne_true (is_executable bytes) (λ e. let clash : Comment ≡ Quoted = sym (executable_opens bytes e) ∙ opens in cc)

line_safe : (bytes : List ℕ) → opening_of bytes ≡ LineComment → is_executable bytes ≡ false
line_safe bytes opens = false_from_ne_true (is_executable bytes) (λ e. let clash : Comment ≡ LineComment = sym (executable_opens bytes e) ∙ opens in cc)

-- a byte that begins no comment
pub record OpensNone (byte : ℕ) : Type 0 where
  pub hash : byte ≢ 35
  pub dash : byte ≢ 45
  pub slash : byte ≢ 47

pub plain_opens : (byte : ℕ) (bytes : List ℕ) → OpensNone byte → is_quote byte ≡ false → opening_of (byte ∷ bytes) ≡ Plain
unfolding opening_of
plain_opens byte bytes none quote =
    rw (ne_eqb 35 byte (λ e. none.hash (sym e)), ne_eqb 45 byte (λ e. none.dash (sym e)), ne_eqb 47 byte (λ e. none.slash (sym e)), quote) refl

quote_opens : (byte : ℕ) (bytes : List ℕ) → OpensNone byte → is_quote byte ≡ true → opening_of (byte ∷ bytes) ≡ Quoted
unfolding opening_of
quote_opens byte bytes none quote =
    rw (ne_eqb 35 byte (λ e. none.hash (sym e)), ne_eqb 45 byte (λ e. none.dash (sym e)), ne_eqb 47 byte (λ e. none.slash (sym e)), quote) refl

pub read_as : (place : ℕ) (bytes : List ℕ) (opening : Opening) (len : ℕ) (lexeme : Lexeme) → is_executable bytes ≡ false → opening_of bytes ≡ opening → opened_len place bytes opening ≡ Ok len → opened_at place bytes len opening ≡ Ok lexeme
    → lexeme_at place bytes ≡ Ok lexeme
unfolding lexeme_at len_at
read_as place bytes opening len lexeme safe opens takes reads = rw (safe, opens, takes) reads

plain_read : (place : ℕ) (bytes : List ℕ) (lexeme : Lexeme) → opening_of bytes ≡ Plain → plain_at place bytes ≡ Ok lexeme → lexeme_at place bytes ≡ Ok lexeme
plain_read place bytes lexeme opens reads = read_as place bytes Plain 1 lexeme (plain_safe bytes opens) opens refl reads

-- ---- runs

none_passes : (p : ℕ → Bool) (bytes : List ℕ) → p (get_or bytes 0 0) ≡ false → prefix_len p bytes ≡ 0
none_passes p [] e = refl
none_passes p (byte ∷ bytes) e = rw e refl

run_len : (p : ℕ → Bool) (front after : List ℕ) → AllPass p front → prefix_len p after ≡ 0 → prefix_len p (front ++ after) ≡ length front
run_len p [] after all none = none
run_len p (byte ∷ front) after all none =
    let here : p byte ≡ true = all 0 0 (omega arith) in
    let later = run_len p front after (λ k d lt. all (suc k) d (omega arith)) none in
    rw here (let one : 1 + prefix_len p (front ++ after) ≡ suc (length front) = omega (arith, later) in one)

digits_pass : (bytes : List ℕ) → all_ascii_digits bytes ≡ true → AllPass is_ascii_digit bytes
digits_pass [] e = All-nil (λ b. is_ascii_digit b ≡ true)
digits_pass (byte ∷ bytes) e =
    let both = and_parts (is_ascii_digit byte) (all_ascii_digits bytes) e in
    All-cons (λ b. is_ascii_digit b ≡ true) byte bytes both.0 (digits_pass bytes both.1)

-- ---- blanks

pub space_apart : (byte : ℕ) → is_space byte ≡ true → OpensNone byte × (is_quote byte ≡ false)
space_apart byte e = (record { hash = grind (arith, nat_tests); dash = grind (arith, nat_tests); slash = grind (arith, nat_tests) }, grind (arith, nat_tests))

space_plain : (place byte : ℕ) (after : List ℕ) → is_space byte ≡ true → plain_at place (byte ∷ after) ≡ Ok (blank 1)
unfolding plain_at
space_plain place byte after e = rw e refl

pub space_again : (place byte : ℕ) (after : List ℕ) → is_space byte ≡ true → lexeme_at place (byte ∷ after) ≡ Ok (blank 1)
space_again place byte after e =
    let apart = space_apart byte e in
    plain_read place (byte ∷ after) (blank 1) (plain_opens byte after apart.0 apart.1) (space_plain place byte after e)

line_again : (place : ℕ) (bytes after : List ℕ) → IsLineComment bytes after → lexeme_at place (bytes ++ after) ≡ Ok (blank (length bytes))
line_again place bytes after h =
    let test : ℕ → Bool = λ byte. not (byte == 10) in
    let none : prefix_len test after ≡ 0 = elim h.2 [
      | inl end ↦ ap (prefix_len test) end
      | inr feed ↦ none_passes test after (ap test feed)
    ] in
    let all = run_len test bytes after h.1 none in
    read_as place (bytes ++ after) LineComment (length bytes) (blank (length bytes)) (line_safe (bytes ++ after) h.0) h.0 (ap (λ (n : ℕ). Ok n) all) refl

close_again : (inner after : List ℕ) → ((k : ℕ) → k < length inner → begins_with (codes "*/") (drop k (inner ++ codes "*/")) ≡ false) → comment_close ((inner ++ codes "*/") ++ after) ≡ Some (length inner + 2)
unfolding comment_close
close_again [] after apart = refl
close_again (byte ∷ inner) after apart =
    let some : 1 ≤ length (inner ++ codes "*/") = omega (arith, length-append inner (codes "*/")) in
    let front : take 1 ((inner ++ codes "*/") ++ after) ≡ take 1 (inner ++ codes "*/") = take-append-le 1 (inner ++ codes "*/") after some in
    let here : begins_with (codes "*/") (byte ∷ ((inner ++ codes "*/") ++ after)) ≡ false = ap (λ (more : List ℕ). pointwise nat_eq (codes "*/") (byte ∷ more)) front ∙ apart 0 (omega arith) in
    let later = close_again inner after (λ k lt. apart (suc k) (omega arith)) in
    let count : 1 + (length inner + 2) ≡ suc (length inner) + 2 = omega arith in
    rw here (ap (plus 1) later ∙ ap (λ (n : ℕ). Some n) count)

comment_again : (place : ℕ) (bytes after : List ℕ) → IsComment bytes → is_executable (bytes ++ after) ≡ false → lexeme_at place (bytes ++ after) ≡ Ok (blank (length bytes))
comment_again place bytes after h safe =
    let whole : bytes ++ after ≡ 47 ∷ 42 ∷ ((h.0 ++ codes "*/") ++ after) = ap (λ (front : List ℕ). front ++ after) h.1 in
    let long : length bytes ≡ 2 + (length h.0 + 2) = ap length h.1 ∙ (let inner : suc (suc (length (h.0 ++ codes "*/"))) ≡ 2 + (length h.0 + 2) = omega (arith, length-append h.0 (codes "*/")) in inner) in
    let takes : opened_len place (47 ∷ 42 ∷ ((h.0 ++ codes "*/") ++ after)) Comment ≡ Ok (2 + (length h.0 + 2)) = rw (close_again h.0 after h.2) refl in
    let read = read_as place (47 ∷ 42 ∷ ((h.0 ++ codes "*/") ++ after)) Comment (2 + (length h.0 + 2)) (blank (2 + (length h.0 + 2))) (subst (λ (b : List ℕ). is_executable b ≡ false) whole safe) (comment_opens ((h.0 ++ codes "*/") ++ after)) takes refl in
    subst (λ (b : List ℕ). lexeme_at place b ≡ Ok (blank (length bytes))) (sym whole) (subst (λ (n : ℕ). lexeme_at place (47 ∷ 42 ∷ ((h.0 ++ codes "*/") ++ after)) ≡ Ok (blank n)) (sym long) read)

line_long : (bytes after : List ℕ) → IsLineComment bytes after → 0 < length bytes
line_long [] after h =
    elim h.2 [
      | inl end ↦ absurd (omega (arith, (line_first after h.0).0, ap length end))
      | inr feed ↦ absurd (elim (line_first after h.0).1 [ inl hash ↦ omega arith | inr dash ↦ omega arith ])
    ]
line_long (byte ∷ bytes) after h = omega arith

pub record ReadsBlank (place : ℕ) (bytes after : List ℕ) : Type 0 where
  pub some : 0 < length bytes
  pub is : lexeme_at place (bytes ++ after) ≡ Ok (blank (length bytes))

pub blank_again : (place : ℕ) (bytes after : List ℕ) → IsBlank bytes after → ReadsBlank place bytes after
blank_again place bytes after h = elim h [
  | inl space ↦ subst (λ (b : List ℕ). ReadsBlank place b after) (sym space.2) (record { some = omega arith; is = space_again place space.0 after space.1 })
  | inr (inl line) ↦ record { some = line_long bytes after line; is = line_again place bytes after line }
  | inr (inr comment) ↦ record { some = omega (arith, ap length comment.0.1); is = comment_again place bytes after comment.0 comment.1 }
]

-- ---- words, numbers and signs

word_apart : (byte : ℕ) → is_word_byte byte ≡ true → OpensNone byte × ((is_quote byte ≡ false) × (is_space byte ≡ false))
word_apart byte e = (record { hash = grind (arith, nat_tests); dash = grind (arith, nat_tests); slash = grind (arith, nat_tests) }, (grind (arith, nat_tests), grind (arith, nat_tests)))

word_is_again : (bytes after : List ℕ) → AllPass is_word_byte bytes → is_word_byte (get_or after 0 0) ≡ false → word_at (bytes ++ after) ≡ token (Word bytes) (length bytes)
unfolding word_at
word_is_again bytes after all ends = rw (run_len is_word_byte bytes after all (none_passes is_word_byte after ends), take-append_seam) refl

word_plain : (place byte : ℕ) (bytes : List ℕ) → is_space byte ≡ false → is_ascii_digit byte ≡ false → is_word_byte byte ≡ true → plain_at place (byte ∷ bytes) ≡ Ok (word_at (byte ∷ bytes))
unfolding plain_at
word_plain place byte bytes space digit word = rw (space, word, digit) refl

word_again : (place : ℕ) (bytes after : List ℕ) → 0 < length bytes → AllPass is_word_byte bytes → is_ascii_digit (get_or bytes 0 0) ≡ false → is_word_byte (get_or after 0 0) ≡ false → lexeme_at place (bytes ++ after) ≡ Ok (token (Word bytes) (length bytes))
word_again place [] after some all digit ends = absurd (omega arith)
word_again place (byte ∷ bytes) after some all digit ends =
    let here : is_word_byte byte ≡ true = all 0 0 (omega arith) in
    let apart = word_apart byte here in
    plain_read place (byte ∷ (bytes ++ after)) (token (Word (byte ∷ bytes)) (length (byte ∷ bytes))) (plain_opens byte (bytes ++ after) apart.0 apart.1.0)
    (word_plain place byte (bytes ++ after) apart.1.1 digit here ∙ ap (λ (l : Lexeme). Ok l) (word_is_again (byte ∷ bytes) after all ends))

digit_word : (byte : ℕ) → is_ascii_digit byte ≡ true → is_word_byte byte ≡ true
digit_word byte e = grind (arith, nat_tests)

not_word_digit : (byte : ℕ) → is_word_byte byte ≡ false → is_ascii_digit byte ≡ false
not_word_digit byte e = false_from_ne_true (is_ascii_digit byte) (λ d. let clash : true ≡ false = sym (digit_word byte d) ∙ e in cc)

number_is_again : (place : ℕ) (bytes after : List ℕ) → length bytes ≤ 38 → all_ascii_digits bytes ≡ true → is_word_byte (get_or after 0 0) ≡ false → number_at place (bytes ++ after) ≡ Ok (token (Number (digits_value 10 bytes)) (length bytes))
unfolding number_at
number_is_again place bytes after short all ends =
    let len = run_len is_ascii_digit bytes after (digits_pass bytes all) (none_passes is_ascii_digit after (not_word_digit (get_or after 0 0) ends)) in
    let next : get_or (bytes ++ after) (length bytes) 0 ≡ get_or after 0 0 = ap (λ (n : ℕ). get_or (bytes ++ after) n 0) (sym (add-zero (length bytes))) ∙ get_or-append-add bytes after 0 0 in
    rw (len, le-ltb 38 (length bytes) short, next, ends, take-append_seam) refl

digit_plain : (place byte : ℕ) (bytes : List ℕ) → is_space byte ≡ false → is_ascii_digit byte ≡ true → plain_at place (byte ∷ bytes) ≡ number_at place (byte ∷ bytes)
unfolding plain_at
digit_plain place byte bytes space digit = rw (space, digit) refl

number_again : (place : ℕ) (bytes after : List ℕ) → 0 < length bytes → length bytes ≤ 38 → all_ascii_digits bytes ≡ true → is_word_byte (get_or after 0 0) ≡ false → lexeme_at place (bytes ++ after) ≡ Ok (token (Number (digits_value 10 bytes)) (length bytes))
number_again place [] after some short all ends = absurd (omega arith)
number_again place (byte ∷ bytes) after some short all ends =
    let digit = (and_parts (is_ascii_digit byte) (all_ascii_digits bytes) all).0 in
    let apart = word_apart byte (digit_word byte digit) in
    plain_read place (byte ∷ (bytes ++ after)) (token (Number (digits_value 10 (byte ∷ bytes))) (length (byte ∷ bytes))) (plain_opens byte (bytes ++ after) apart.0 apart.1.0)
    (digit_plain place byte (bytes ++ after) apart.1.1 digit ∙ number_is_again place (byte ∷ bytes) after short all ends)

-- no sign begins as anything else does
sign_first : (sign : signs_of.Sign) → (is_space (get_or (spelling sign) 0 0) ≡ false) × (is_ascii_digit (get_or (spelling sign) 0 0) ≡ false) × (is_word_byte (get_or (spelling sign) 0 0) ≡ false)
sign_first NullSafeEqual = (refl, refl, refl)
sign_first NotEqual = (refl, refl, refl)
sign_first BangEqual = (refl, refl, refl)
sign_first LessEqual = (refl, refl, refl)
sign_first GreaterEqual = (refl, refl, refl)
sign_first AndAnd = (refl, refl, refl)
sign_first OrOr = (refl, refl, refl)
sign_first LeftParen = (refl, refl, refl)
sign_first RightParen = (refl, refl, refl)
sign_first Comma = (refl, refl, refl)
sign_first Dot = (refl, refl, refl)
sign_first Star = (refl, refl, refl)
sign_first Plus = (refl, refl, refl)
sign_first Minus = (refl, refl, refl)
sign_first Slash = (refl, refl, refl)
sign_first Percent = (refl, refl, refl)
sign_first Equal = (refl, refl, refl)
sign_first Less = (refl, refl, refl)
sign_first Greater = (refl, refl, refl)

sign_alone : (sign : signs_of.Sign) → sign_at (spelling sign) ≡ Some sign
unfolding sign_at
sign_alone NullSafeEqual = refl
sign_alone NotEqual = refl
sign_alone BangEqual = refl
sign_alone LessEqual = refl
sign_alone GreaterEqual = refl
sign_alone AndAnd = refl
sign_alone OrOr = refl
sign_alone LeftParen = refl
sign_alone RightParen = refl
sign_alone Comma = refl
sign_alone Dot = refl
sign_alone Star = refl
sign_alone Plus = refl
sign_alone Minus = refl
sign_alone Slash = refl
sign_alone Percent = refl
sign_alone Equal = refl
sign_alone Less = refl
sign_alone Greater = refl

same_sign : (a b : signs_of.Sign) → spelling a ≡ spelling b → a ≡ b
same_sign a b e = let same : Some a ≡ Some b = sym (sign_alone a) ∙ ap sign_at e ∙ sign_alone b in cc

sign_at_again : (sign : signs_of.Sign) (after : List ℕ) → ((other : signs_of.Sign) → begins_with (spelling other) (spelling sign ++ after) ≡ true → length (spelling other) ≤ length (spelling sign)) → sign_at (spelling sign ++ after) ≡ Some sign
sign_at_again sign after longest =
    let bytes = spelling sign ++ after in
    let here : begins_with (spelling sign) bytes ≡ true = (starts_is Decides-eqb bytes (spelling sign) (begins_with (spelling sign) bytes) refl).1 after refl in
    let found = sign_found bytes sign here in
    let there : begins_with (spelling found.0) bytes ≡ true = sign_begins bytes found.0 found.1 in
    let long : length (spelling found.0) ≡ length (spelling sign) = omega (arith, longest found.0 there, longest_sign bytes found.0 sign found.1 here) in
    let stands : take (length (spelling found.0)) bytes ≡ spelling found.0 = ap (take (length (spelling found.0))) (begins (spelling found.0) bytes there) ∙ take_at (spelling found.0) (drop (length (spelling found.0)) bytes) (length (spelling found.0)) refl in
    let same : spelling found.0 ≡ spelling sign = sym stands ∙ ap (λ (n : ℕ). take n bytes) long ∙ take-append_seam (spelling sign) after in
    found.1 ∙ ap (λ (s : signs_of.Sign). Some s) (same_sign found.0 sign same)

sign_plain : (place : ℕ) (bytes : List ℕ) (sign : signs_of.Sign) → is_space (get_or bytes 0 0) ≡ false → is_ascii_digit (get_or bytes 0 0) ≡ false → is_word_byte (get_or bytes 0 0) ≡ false → sign_at bytes ≡ Some sign
    → plain_at place bytes ≡ Ok (token (Sign sign) (length (spelling sign)))
unfolding plain_at
sign_plain place bytes sign space digit word here = rw (space, word, digit, here) refl

sign_again : (place : ℕ) (sign : signs_of.Sign) (after : List ℕ) → opening_of (spelling sign ++ after) ≡ Plain
    → ((other : signs_of.Sign) → begins_with (spelling other) (spelling sign ++ after) ≡ true → length (spelling other) ≤ length (spelling sign)) → lexeme_at place (spelling sign ++ after) ≡ Ok (token (Sign sign) (length (spelling sign)))
sign_again place sign after opens longest =
    let bytes = spelling sign ++ after in
    let some : 0 < length (spelling sign) = omega (arith, (last_of_sign sign).1) in
    let first : get_or bytes 0 0 ≡ get_or (spelling sign) 0 0 = get_or_append_left (spelling sign) after 0 0 some in
    let of = sign_first sign in
    plain_read place bytes (token (Sign sign) (length (spelling sign))) opens
    (sign_plain place bytes sign (ap is_space first ∙ of.0) (ap is_ascii_digit first ∙ of.1) (ap is_word_byte first ∙ of.2) (sign_at_again sign after longest))

-- ---- quotes

quote_apart : (quote : ℕ) → is_quote quote ≡ true → OpensNone quote × (quote ≢ 92)
quote_apart quote e = (record { hash = grind (arith, nat_tests); dash = grind (arith, nat_tests); slash = grind (arith, nat_tests) }, grind (arith, nat_tests))

close_here : (quote : ℕ) (after : List ℕ) → get_or after 0 0 ≢ quote → quote_close quote (quote ∷ after) ≡ Some 1
unfolding quote_close
close_here quote [] apart = rw (eq-eqb quote quote refl) refl
close_here quote (byte ∷ after) apart =
    rw (and_from (quote == quote) (not (byte == quote)) (eq-eqb quote quote refl) (not_from_false (byte == quote) (ne_eqb byte quote apart))) refl

close_doubled : (quote : ℕ) (rest : List ℕ) → quote_close quote (quote ∷ quote ∷ rest) ≡ plus 2 (quote_close quote rest)
unfolding quote_close
close_doubled quote rest = rw (eq-eqb quote quote refl) refl

close_escaped : (quote byte : ℕ) (rest : List ℕ) → 92 ≢ quote → escapes quote 92 ≡ true → quote_close quote (92 ∷ byte ∷ rest) ≡ plus 2 (quote_close quote rest)
unfolding quote_close
close_escaped quote byte rest apart read = rw (ne_eqb 92 quote apart, read) refl

close_other : (quote byte second : ℕ) (rest : List ℕ) → is_other quote byte ≡ true → quote_close quote (byte ∷ second ∷ rest) ≡ plus 1 (quote_close quote (second ∷ rest))
unfolding quote_close
close_other quote byte second rest other =
    let both = and_parts (not (byte == quote)) (not (escapes quote byte)) other in
    rw (not-true (byte == quote) both.0, not-true (escapes quote byte) both.1) refl

close_next : (quote byte : ℕ) (rest : List ℕ) → is_other quote byte ≡ true → 0 < length rest → quote_close quote (byte ∷ rest) ≡ plus 1 (quote_close quote rest)
close_next quote byte [] other some = absurd (omega arith)
close_next quote byte (second ∷ rest) other some = close_other quote byte second rest other

close_part : (quote : ℕ) (part : Part) (rest : List ℕ) → is_quote quote ≡ true → IsPart quote part → 0 < length rest → quote_close quote (part.source ++ rest) ≡ plus (length part.source) (quote_close quote rest)
close_part quote part rest is h some = elim h [
  | inl d ↦ rw d.0 (close_doubled quote rest)
  | inr (inl d) ↦ rw d.2 (close_escaped quote d.0 rest (λ e. (quote_apart quote is).1 (sym e)) d.1)
  | inr (inr d) ↦ rw d.2 (close_next quote d.0 rest d.1 some)
]

close_parts : (quote : ℕ) (parts : List Part) (after : List ℕ) → is_quote quote ≡ true → AllByRecursion (IsPart quote) parts → get_or after 0 0 ≢ quote → quote_close quote (source_of parts ++ quote ∷ after) ≡ Some (length (source_of parts) + 1)
close_parts quote [] after is are apart = close_here quote after apart
close_parts quote (part ∷ parts) after is are apart =
    let rest = source_of parts ++ quote ∷ after in
    let some : 0 < length rest = omega (arith, length-append (source_of parts) (quote ∷ after)) in
    let count : length part.source + (length (source_of parts) + 1) ≡ length (part.source ++ source_of parts) + 1 = omega (arith, length-append part.source (source_of parts)) in
    ap (quote_close quote) (append_assoc part.source (source_of parts) (quote ∷ after)) ∙ close_part quote part rest is are.0 some
    ∙ ap (plus (length part.source)) (close_parts quote parts after is are.1 apart) ∙ ap (λ (n : ℕ). Some n) count

-- the bytes with both quotes are the token
name_at : (place : ℕ) (parts : List Part) (held : List ℕ) → AllByRecursion (IsPart 96) parts → held ≡ meaning_of parts → 0 < length held → quoted_at place (96 ∷ (source_of parts ++ 96 ∷ [])) ≡ Ok (token (QuotedName held) (length (96 ∷ (source_of parts ++ 96 ∷ []))))
unfolding quoted_at
name_at place parts held are means some =
    let inside : held_in 96 (slice_range (96 ∷ (source_of parts ++ 96 ∷ [])) 1 (length (96 ∷ (source_of parts ++ 96 ∷ [])) - 1)) ≡ held = ap (held_in 96) (between 96 (source_of parts)) ∙ held_parts 96 parts refl are ∙ sym means in
    let full : length held ≢ 0 = omega arith in
    rw (inside, ne_eqb (length held) 0 full) refl

text_at : (place quote : ℕ) (parts : List Part) (held : List ℕ) → is_quote quote ≡ true → (quote == 96) ≡ false → AllByRecursion (IsPart quote) parts → held ≡ meaning_of parts → length held ≤ 255
    → quoted_at place (quote ∷ (source_of parts ++ quote ∷ [])) ≡ Ok (token (Text held) (length (quote ∷ (source_of parts ++ quote ∷ []))))
unfolding quoted_at
text_at place quote parts held is other are means short =
    let inside : held_in quote (slice_range (quote ∷ (source_of parts ++ quote ∷ [])) 1 (length (quote ∷ (source_of parts ++ quote ∷ [])) - 1)) ≡ held = ap (held_in quote) (between quote (source_of parts)) ∙ held_parts quote parts is are ∙ sym means in
    rw (other, inside, le-ltb 255 (length held) short) refl

quoted_again : (place quote : ℕ) (parts : List Part) (after : List ℕ) (kind : TokenKind) → is_quote quote ≡ true → AllByRecursion (IsPart quote) parts → get_or after 0 0 ≢ quote
    → quoted_at place (quote ∷ (source_of parts ++ quote ∷ [])) ≡ Ok (token kind (length (quote ∷ (source_of parts ++ quote ∷ []))))
    → lexeme_at place ((quote ∷ (source_of parts ++ quote ∷ [])) ++ after) ≡ Ok (token kind (length (quote ∷ (source_of parts ++ quote ∷ []))))
quoted_again place quote parts after kind is are apart reads =
    let part = quote ∷ (source_of parts ++ quote ∷ []) in
    let rest = (source_of parts ++ quote ∷ []) ++ after in
    let opens = quote_opens quote rest (quote_apart quote is).0 is in
    let close : quote_close quote rest ≡ Some (length (source_of parts) + 1) = ap (quote_close quote) (append_assoc (source_of parts) (quote ∷ []) after) ∙ close_parts quote parts after is are apart in
    let count : 1 + (length (source_of parts) + 1) ≡ length part = omega (arith, length-append (source_of parts) (quote ∷ [])) in
    let takes : opened_len place (quote ∷ rest) Quoted ≡ Ok (length part) = rw close (ap (λ (n : ℕ). Ok n) count) in
    let front : take (length part) (quote ∷ rest) ≡ part = take-append_seam part after in
    read_as place (quote ∷ rest) Quoted (length part) (token kind (length part)) (quoted_safe (quote ∷ rest) opens) opens takes (ap (quoted_at place) front ∙ reads)

-- ---- every token

name_again : (place : ℕ) (bytes after name : List ℕ) → InQuotes 96 bytes name → 0 < length name → get_or after 0 0 ≢ get_or bytes 0 0 → lexeme_at place (bytes ++ after) ≡ Ok (token (QuotedName name) (length bytes))
name_again place bytes after name h some ends =
    subst (λ (b : List ℕ). lexeme_at place (b ++ after) ≡ Ok (token (QuotedName name) (length b))) (sym h.2)
    (quoted_again place 96 h.0 after (QuotedName name) refl h.1 (subst (λ (b : List ℕ). get_or after 0 0 ≢ get_or b 0 0) h.2 ends) (name_at place h.0 name h.1 h.3 some))

text_again : (place quote : ℕ) (bytes after text : List ℕ) → is_quote quote ≡ true → (quote == 96) ≡ false → InQuotes quote bytes text → length text ≤ 255 → get_or after 0 0 ≢ get_or bytes 0 0 → lexeme_at place (bytes ++ after) ≡ Ok (token (Text text) (length bytes))
text_again place quote bytes after text is other h short ends =
    subst (λ (b : List ℕ). lexeme_at place (b ++ after) ≡ Ok (token (Text text) (length b))) (sym h.2)
    (quoted_again place quote h.0 after (Text text) is h.1 (subst (λ (b : List ℕ). get_or after 0 0 ≢ get_or b 0 0) h.2 ends) (text_at place quote h.0 text is other h.1 h.3 short))

pub token_again : (place : ℕ) (bytes after : List ℕ) (kind : TokenKind) → Spells bytes kind → Ends bytes after kind → lexeme_at place (bytes ++ after) ≡ Ok (token kind (length bytes))
token_again place bytes after (Word word) h ends = rw h.0 (word_again place bytes after h.1 h.2 h.3 ends)
token_again place bytes after (QuotedName name) h ends = name_again place bytes after name h.0 h.1 ends
token_again place bytes after (Text text) h ends = elim h.0 [
  | inl single ↦ text_again place 39 bytes after text refl refl single h.1 ends
  | inr double ↦ text_again place 34 bytes after text refl refl double h.1 ends
]
token_again place bytes after (Number number) h ends = rw (← h.0) (number_again place bytes after h.1 h.2 h.3 ends)
token_again place bytes after (Sign sign) h ends =
    subst (λ (b : List ℕ). lexeme_at place (b ++ after) ≡ Ok (token (Sign sign) (length b))) (sym h)
    (sign_again place sign after (subst (λ (b : List ℕ). opening_of (b ++ after) ≡ Plain) h ends.0) (λ other begins. subst (λ (b : List ℕ). length (spelling other) ≤ length b) h (ends.1 other (subst (λ (b : List ℕ). begins_with (spelling other) (b ++ after) ≡ true) (sym h) begins))))
