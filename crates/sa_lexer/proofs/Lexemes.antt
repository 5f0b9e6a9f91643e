-- What is read at the front of a text is a blank, or a token that is spelled there and ends there.
use Rattle.std.proofs.Common.{◌≡◌, ◌≢◌, ℕ, ◌+◌, ◌-◌, ◌<◌, ◌≤◌, List, [], ◌∷◌, ◌++◌, length, take, drop, get_or, Option, Some, None, Result, Ok, Err, Bool, true, false, cond, ltb, refl, sym, ap, ◌∙◌, subst, arith, inl, inr, ◌⊎◌, length-append}
use Rattle.std.specs.Prelude.{◌==◌, ◌||◌, slice_range}
use Rattle.std.specs.Char.{is_ascii_digit}
use Rattle.std.specs.List.{prefix_len, AllByRecursion}
use Rattle.std.specs.Str.Parse.{digits_value}
use Rattle.std.proofs.lemmas.Bool.{cases_lt, or_cases, ltb-false, eqb-true, eqb-false}
use Rattle.std.proofs.lemmas.List.{take_at, take-append-drop, drop_all, get_or-take, length-take-le}
use Rattle.std.proofs.lemmas.List.Folds.{length-prefix_len}
use Rattle.std.proofs.lemmas.List.Sums.{prefix_len_stops, prefix_len-le-length}
use Rattle.sa_lexer.specs.declared.fault.LexKind.TheVariants.{BadByte, NumberTooLong, TextTooLong}
use Rattle.sa_lexer.specs.declared.lexeme.Lexeme.{Lexeme}
use Rattle.sa_lexer.specs.declared.opening.Opening.{Opening}
use Rattle.sa_lexer.specs.declared.opening.Opening.TheVariants.{LineComment, Comment, Quoted, Plain}
use Rattle.sa_lexer.specs.declared.sign.Sign.{Sign}
use Rattle.sa_lexer.specs.declared.token.TokenKind.{TokenKind}
use Rattle.sa_lexer.specs.declared.token.TokenKind.TheVariants as kinds
use Rattle.sa_lexer.specs.Byte.{is_space, is_word_byte, is_quote}
use Rattle.sa_lexer.specs.Fault.{Fault, fault, ◌>>=◌}
use Rattle.sa_lexer.specs.Opening.{begins_with, opening_of, is_executable, line_len, opened_len, len_at}
use Rattle.sa_lexer.specs.Quoted.{held_in}
use Rattle.sa_lexer.specs.Sign.{sign_at, spelling}
use Rattle.sa_lexer.specs.Lexeme.{blank, token, word_at, number_at, sign_lexeme, plain_at, quoted_at, opened_at, lexeme_at}
use Rattle.sa_lexer.specs.Spans.{Part, IsPart, Spells, InQuotes, source_of, meaning_of}
use Rattle.sa_lexer.specs.Grammar.{IsBlank, Ends}
use Rattle.sa_lexer.proofs.Cuts.{sign_stands, last_of_sign}
use Rattle.sa_lexer.proofs.Enclosed.{next_is, line_front, comment_front, quoted_front}
use Rattle.sa_lexer.proofs.Longest.{longest_sign}
use Rattle.sa_lexer.proofs.Openings.{line_within, line_some}
use Rattle.sa_lexer.proofs.Quotes.{held_parts}
use Rattle.sa_lexer.proofs.Results.{ok_is, bind_ok, chosen}
use Rattle.sa_lexer.proofs.Runs.{digits_of_run, run_passes}

-- what the bytes of a lexeme are, before what follows
abbrev pub IsKind : List ℕ → List ℕ → Option TokenKind → Type 0
IsKind bytes after None = IsBlank bytes after
IsKind bytes after (Some kind) = Spells bytes kind × Ends bytes after kind

-- a lexeme takes a byte at least, and no more than there are
pub record IsLexeme (bytes : List ℕ) (lexeme : Lexeme) : Type 0 where
  pub some : 0 < lexeme.len
  pub within : lexeme.len ≤ length bytes
  pub is : IsKind (take lexeme.len bytes) (drop lexeme.len bytes) lexeme.kind

-- the byte behind a run fails its test, and so does the want of one
run_ends : (p : ℕ → Bool) (bytes : List ℕ) → p 0 ≡ false → p (get_or (drop (prefix_len p bytes) bytes) 0 0) ≡ false
run_ends p bytes none = elim (cases_lt (prefix_len p bytes) (length bytes)) [
  | inl within ↦ subst (λ (b : ℕ). p b ≡ false) (sym (next_is (prefix_len p bytes) bytes)) (prefix_len_stops p bytes 0 within)
  | inr past ↦ rw (drop_all (prefix_len p bytes) bytes past) none
]

space_is : (bytes : List ℕ) → 0 < length bytes → is_space (get_or bytes 0 0) ≡ true → IsLexeme bytes (blank 1)
space_is [] some space = absurd (omega arith)
space_is (byte ∷ bytes) some space = record { some = omega arith; within = omega arith; is = inl (byte, space, refl) }

pub word_is : (bytes : List ℕ) → 0 < length bytes → is_ascii_digit (get_or bytes 0 0) ≡ false → is_word_byte (get_or bytes 0 0) ≡ true → IsLexeme bytes (word_at bytes)
unfolding word_at
word_is [] some digit first = absurd (omega arith)
word_is (byte ∷ bytes) some digit first =
    let len = prefix_len is_word_byte (byte ∷ bytes) in
    let long : 0 < len = rw first (omega arith) in
    record {
      some = long;
      within = prefix_len-le-length is_word_byte (byte ∷ bytes);
      is = ((refl, rw length-prefix_len long, run_passes is_word_byte (byte ∷ bytes), rw (get_or-take len (byte ∷ bytes) 0 0 long) digit), run_ends is_word_byte (byte ∷ bytes) refl);
    }

number_is : (place : ℕ) (bytes : List ℕ) (lexeme : Lexeme) → 0 < length bytes → is_ascii_digit (get_or bytes 0 0) ≡ true → number_at place bytes ≡ Ok lexeme → IsLexeme bytes lexeme
unfolding number_at
number_is place [] lexeme some first e = absurd (omega arith)
number_is place (byte ∷ bytes) lexeme some first e =
    let len = prefix_len is_ascii_digit (byte ∷ bytes) in
    let long : 0 < len = rw first (omega arith) in
    let number : Lexeme = token (kinds.Number (digits_value 10 (take len (byte ∷ bytes)))) len in
    let bad : Result Lexeme Fault = cond (is_word_byte (get_or (byte ∷ bytes) len 0)) (Err (fault BadByte (place + len))) (Ok number) in
    elim (chosen (ltb 38 len) (Err (fault NumberTooLong place)) bad (Ok lexeme) e) [
      | inl over ↦ absurd cc
      | inr short ↦ elim (chosen (is_word_byte (get_or (byte ∷ bytes) len 0)) (Err (fault BadByte (place + len))) (Ok number) (Ok lexeme) short.1) [
        | inl followed ↦ absurd cc
        | inr free ↦ subst (IsLexeme (byte ∷ bytes)) (ok_is number lexeme free.1) (record {
          some = long;
          within = prefix_len-le-length is_ascii_digit (byte ∷ bytes);
          is = ((refl, rw length-prefix_len long, rw length-prefix_len (ltb-false 38 len short.0), digits_of_run (byte ∷ bytes)), subst (λ (b : ℕ). is_word_byte b ≡ false) (sym (next_is len (byte ∷ bytes))) free.0);
        })
      ]
    ]

sign_is : (place : ℕ) (bytes : List ℕ) (found : Option Sign) (lexeme : Lexeme) → opening_of bytes ≡ Plain → sign_at bytes ≡ found → sign_lexeme place found ≡ Ok lexeme → IsLexeme bytes lexeme
sign_is place bytes None lexeme plain here e = absurd cc
sign_is place bytes (Some sign) lexeme plain here e =
    let len = length (spelling sign) in
    let stands = sign_stands bytes sign here in
    let last = last_of_sign sign in
    let whole = take-append-drop len bytes in
    let front : take len bytes ≡ spelling sign = ap (take len) stands ∙ take_at (spelling sign) (drop len bytes) len refl in
    subst (IsLexeme bytes) (ok_is (token (kinds.Sign sign) len) lexeme e) (record {
      some = omega (arith, last.1);
      within = omega (arith, ap length stands ∙ length-append (spelling sign) (drop len bytes));
      is = (
        front,
        (
          subst (λ (b : List ℕ). opening_of b ≡ Plain) (sym whole) plain,
          λ other begins. omega (arith, longest_sign bytes sign other here (subst (λ (b : List ℕ). begins_with (spelling other) b ≡ true) whole begins), ap length front),
        ),
      );
    })

pub plain_is : (place : ℕ) (bytes : List ℕ) (lexeme : Lexeme) → 0 < length bytes → opening_of bytes ≡ Plain → plain_at place bytes ≡ Ok lexeme → IsLexeme bytes lexeme
unfolding plain_at
plain_is place bytes lexeme some plain e =
    let first = get_or bytes 0 0 in
    let sign : Result Lexeme Fault = sign_lexeme place (sign_at bytes) in
    let word : Result Lexeme Fault = cond (is_word_byte first) (Ok (word_at bytes)) sign in
    let number : Result Lexeme Fault = cond (is_ascii_digit first) (number_at place bytes) word in
    elim (chosen (is_space first) (Ok (blank 1)) number (Ok lexeme) e) [
      | inl space ↦ subst (IsLexeme bytes) (ok_is (blank 1) lexeme space.1) (space_is bytes some space.0)
      | inr a ↦ elim (chosen (is_ascii_digit first) (number_at place bytes) word (Ok lexeme) a.1) [
        | inl digit ↦ number_is place bytes lexeme some digit.0 digit.1
        | inr b ↦ elim (chosen (is_word_byte first) (Ok (word_at bytes)) sign (Ok lexeme) b.1) [
          | inl letter ↦ subst (IsLexeme bytes) (ok_is (word_at bytes) lexeme letter.1) (word_is bytes some b.0 letter.0)
          | inr other ↦ sign_is place bytes (sign_at bytes) lexeme plain refl other.1
        ]
      ]
    ]

line_is : (bytes : List ℕ) → opening_of bytes ≡ LineComment → IsLexeme bytes (blank (line_len bytes))
line_is bytes opens = record { some = line_some bytes opens; within = line_within bytes; is = inr (inl (line_front bytes opens)) }

comment_is : (place : ℕ) (bytes : List ℕ) (len : ℕ) → is_executable bytes ≡ false → opening_of bytes ≡ Comment → opened_len place bytes Comment ≡ Ok len → IsLexeme bytes (blank len)
comment_is place bytes len plain opens e =
    let front = comment_front place bytes len opens e in
    record { some = front.some; within = front.within; is = inr (inr (front.is, subst (λ (b : List ℕ). is_executable b ≡ false) (sym (take-append-drop len bytes)) plain)) }

-- what stands between the quotes
pub between : (quote : ℕ) (source : List ℕ) → slice_range (quote ∷ (source ++ quote ∷ [])) 1 (length (quote ∷ (source ++ quote ∷ [])) - 1) ≡ source
between quote source =
    let all : (length (quote ∷ (source ++ quote ∷ [])) - 1) - 1 ≡ length source = omega (arith, length-append source (quote ∷ [])) in
    rw all (take_at source (quote ∷ []) (length source) refl)

-- which of the three quotes it is
pub text_quote : (quote : ℕ) → is_quote quote ≡ true → (quote == 96) ≡ false → (quote ≡ 39) ⊎ (quote ≡ 34)
text_quote quote is other = elim (or_cases (quote == 39 || quote == 34) (quote == 96) is) [
  | inl a ↦ elim (or_cases (quote == 39) (quote == 34) a) [ inl b ↦ inl (eqb-true quote 39 b) | inr b ↦ inr (eqb-true quote 34 b) ]
  | inr a ↦ absurd (let clash : true ≡ false = sym a ∙ other in cc)
]

-- a part in quotes is a name or a text, where it is neither empty nor too long
record IsQuoted (part : List ℕ) (quote : ℕ) (lexeme : Lexeme) : Type 0 where
  len : lexeme.len ≡ length part
  is : (after : List ℕ) → get_or after 0 0 ≢ quote → IsKind part after lexeme.kind

quoted_kind : (place quote : ℕ) (parts : List Part) (lexeme : Lexeme) → is_quote quote ≡ true → AllByRecursion (IsPart quote) parts → quoted_at place (quote ∷ (source_of parts ++ quote ∷ [])) ≡ Ok lexeme → IsQuoted (quote ∷ (source_of parts ++ quote ∷ [])) quote lexeme
unfolding quoted_at
quoted_kind place quote parts lexeme is are e =
    let part = quote ∷ (source_of parts ++ quote ∷ []) in
    let held = held_in quote (slice_range part 1 (length part - 1)) in
    let means : held ≡ meaning_of parts = ap (held_in quote) (between quote (source_of parts)) ∙ held_parts quote parts is are in
    let holds : InQuotes quote part held = (parts, are, refl, means) in
    let name : Result Lexeme Fault = cond (length held == 0) (Err (fault BadByte place)) (Ok (token (kinds.QuotedName held) (length part))) in
    let text : Result Lexeme Fault = cond (ltb 255 (length held)) (Err (fault TextTooLong place)) (Ok (token (kinds.Text held) (length part))) in
    elim (chosen (quote == 96) name text (Ok lexeme) e) [
      | inl a ↦ elim (chosen (length held == 0) (Err (fault BadByte place)) (Ok (token (kinds.QuotedName held) (length part))) (Ok lexeme) a.1) [
        | inl b ↦ absurd cc
        | inr b ↦ subst (IsQuoted part quote) (ok_is (token (kinds.QuotedName held) (length part)) lexeme b.1) (record {
          len = refl;
          is = λ after apart. ((subst (λ (q : ℕ). InQuotes q part held) (eqb-true quote 96 a.0) holds, omega (arith, eqb-false (length held) 0 b.0)), apart);
        })
      ]
      | inr a ↦ elim (chosen (ltb 255 (length held)) (Err (fault TextTooLong place)) (Ok (token (kinds.Text held) (length part))) (Ok lexeme) a.1) [
        | inl b ↦ absurd cc
        | inr b ↦ subst (IsQuoted part quote) (ok_is (token (kinds.Text held) (length part)) lexeme b.1) (record {
          len = refl;
          is = λ after apart. (
            (
              elim (text_quote quote is a.0) [
                | inl single ↦ inl (subst (λ (q : ℕ). InQuotes q part held) single holds)
                | inr double ↦ inr (subst (λ (q : ℕ). InQuotes q part held) double holds)
              ],
              ltb-false 255 (length held) b.0,
            ),
            apart,
          );
        })
      ]
    ]

quoted_is : (place : ℕ) (bytes : List ℕ) (len : ℕ) (lexeme : Lexeme) → opening_of bytes ≡ Quoted → opened_len place bytes Quoted ≡ Ok len → quoted_at place (take len bytes) ≡ Ok lexeme → IsLexeme bytes lexeme
quoted_is place bytes len lexeme opens read e =
    let front = quoted_front place bytes len opens read in
    let kind = quoted_kind place front.quote front.parts lexeme front.is front.are (rw front.source at e) in
    let same : lexeme.len ≡ len = kind.len ∙ ap length (sym front.source) ∙ length-take-le len bytes front.within in
    let there = subst (λ (b : List ℕ). IsKind b (drop len bytes) lexeme.kind) (sym front.source) (kind.is (drop len bytes) front.ends) in
    record {
      some = omega (arith, same, front.some);
      within = omega (arith, same, front.within);
      is = subst (λ (n : ℕ). IsKind (take n bytes) (drop n bytes) lexeme.kind) (sym same) there;
    }

opened_is : (place : ℕ) (bytes : List ℕ) (len : ℕ) (opening : Opening) (lexeme : Lexeme) → 0 < length bytes → is_executable bytes ≡ false → opening_of bytes ≡ opening → opened_len place bytes opening ≡ Ok len → opened_at place bytes len opening ≡ Ok lexeme
    → IsLexeme bytes lexeme
opened_is place bytes len LineComment lexeme some plain opens read e =
    subst (IsLexeme bytes) (ok_is (blank len) lexeme e) (subst (λ (n : ℕ). IsLexeme bytes (blank n)) (ok_is (line_len bytes) len read) (line_is bytes opens))
opened_is place bytes len Comment lexeme some plain opens read e =
    subst (IsLexeme bytes) (ok_is (blank len) lexeme e) (comment_is place bytes len plain opens read)
opened_is place bytes len Quoted lexeme some plain opens read e = quoted_is place bytes len lexeme opens read e
opened_is place bytes len Plain lexeme some plain opens read e = plain_is place bytes lexeme some opens e

pub lexeme_is : (place : ℕ) (bytes : List ℕ) (lexeme : Lexeme) → 0 < length bytes → lexeme_at place bytes ≡ Ok lexeme → IsLexeme bytes lexeme
unfolding lexeme_at len_at
lexeme_is place bytes lexeme some e =
    let read : Result Lexeme Fault = len_at place bytes >>= λ len. opened_at place bytes len (opening_of bytes) in
    elim (chosen (is_executable bytes) (Err (fault BadByte place)) read (Ok lexeme) e) [
      | inl run ↦ absurd cc
      | inr plain ↦
          let found = bind_ok (len_at place bytes) (λ len. opened_at place bytes len (opening_of bytes)) lexeme plain.1 in
          opened_is place bytes found.0 (opening_of bytes) lexeme some plain.0 refl found.1 found.2
    ]
