-- What is refused at the front of a text is wrong there, by the kind of its fault.
use Rattle.std.proofs.Common.{◌≡◌, ◌≢◌, ℕ, ◌+◌, ◌-◌, ◌<◌, List, [], ◌∷◌, ◌++◌, length, take, drop, get_or, Option, Some, None, Result, Ok, Err, true, false, cond, ltb, refl, sym, ap, ◌∙◌, subst, arith, inl, inr, length-append, add-zero}
use Rattle.std.specs.Prelude.{◌==◌, slice_range}
use Rattle.std.specs.Char.{is_ascii_digit}
use Rattle.std.specs.List.{prefix_len, AllByRecursion}
use Rattle.std.specs.Str.Parse.{digits_value}
use Rattle.std.proofs.lemmas.Bool.{cases_lt, ltb-true, ltb-false, eqb-true, false_from_ne_true}
use Rattle.std.proofs.lemmas.Bool.Decides.{nat_tests}
use Rattle.std.proofs.lemmas.List.{take-append-drop, drop_more, length-take-le, get_or_past}
use Rattle.std.proofs.lemmas.List.Sums.{prefix_len_stops, prefix_len-le-length}
use Rattle.sa_lexer.specs.declared.fault.LexKind.{LexKind}
use Rattle.sa_lexer.specs.declared.fault.LexKind.TheVariants.{BadByte, OpenText, OpenComment, NumberTooLong, TextTooLong}
use Rattle.sa_lexer.specs.declared.lexeme.Lexeme.{Lexeme}
use Rattle.sa_lexer.specs.declared.opening.Opening.{Opening}
use Rattle.sa_lexer.specs.declared.opening.Opening.TheVariants.{LineComment, Comment, Quoted, Plain}
use Rattle.sa_lexer.specs.declared.sign.Sign.{Sign}
use Rattle.sa_lexer.specs.declared.token.TokenKind.TheVariants as kinds
use Rattle.sa_lexer.specs.Byte.{is_space, is_word_byte, is_quote}
use Rattle.sa_lexer.specs.Fault.{Fault, fault, ◌>>=◌}
use Rattle.sa_lexer.specs.Opening.{begins_with, opening_of, is_executable, opened_len, len_at}
use Rattle.sa_lexer.specs.Quoted.{escape, held_in}
use Rattle.sa_lexer.specs.Sign.{spelling, sign_at}
use Rattle.sa_lexer.specs.Lexeme.{blank, token, word_at, number_at, sign_lexeme, plain_at, quoted_at, opened_at, lexeme_at}
use Rattle.sa_lexer.specs.Spans.{Part, IsPart, source_of, meaning_of, InQuotes}
use Rattle.sa_lexer.specs.Faulty.{IsEmptyName, IsWrong, LeavesOpen}
use Rattle.sa_lexer.proofs.Enclosed.{quoted_front}
use Rattle.sa_lexer.proofs.Lexemes.{between, text_quote}
use Rattle.sa_lexer.proofs.Longest.{sign_found}
use Rattle.sa_lexer.proofs.Quotes.{held_parts}
use Rattle.sa_lexer.proofs.Results.{chosen, err_is, bind_err}
use Rattle.sa_lexer.proofs.Runs.{digits_of_run}
use Rattle.sa_lexer.proofs.OpenLemmas.{OpensAt, len_wrong}

-- How the rest of a text from a place on is wrong.
abbrev pub IsWrongAt : ℕ → List ℕ → Fault → Type 0
IsWrongAt start bytes f = (count : ℕ) × (f.place ≡ start + count) × IsWrong f.kind bytes count

wrong_here : (start : ℕ) (bytes : List ℕ) (kind : LexKind) (f : Fault) → fault kind start ≡ f → IsWrong kind bytes 0 → IsWrongAt start bytes f
wrong_here start bytes kind f e wrong = subst (IsWrongAt start bytes) e (0, sym (add-zero start), wrong)

-- the byte at an index, with what stands before and behind it
parted_at : (bytes : List ℕ) (n : ℕ) → n < length bytes → bytes ≡ take n bytes ++ (get_or bytes n 0 ∷ drop (n + 1) bytes)
parted_at bytes n within = sym (take-append-drop n bytes) ∙ ap (λ (rest : List ℕ). take n bytes ++ rest) (drop_more bytes n 0 within)

-- a byte of a word behind a run of digits is one of the bytes
run_stops : (bytes : List ℕ) (n : ℕ) → is_word_byte (get_or bytes n 0) ≡ true → n < length bytes
run_stops bytes n word = elim (cases_lt n (length bytes)) [
  | inl within ↦ within
  | inr past ↦ absurd (let clash : true ≡ false = sym word ∙ ap is_word_byte (get_or_past bytes n 0 past) in cc)
]

number_wrong : (place : ℕ) (bytes : List ℕ) (f : Fault) → is_ascii_digit (get_or bytes 0 0) ≡ true → number_at place bytes ≡ Err f → IsWrongAt place bytes f
unfolding number_at
number_wrong place [] f first e = absurd cc
number_wrong place (byte ∷ rest) f first e =
    let bytes = byte ∷ rest in
    let len = prefix_len is_ascii_digit bytes in
    let some : 0 < len = rw first (omega arith) in
    let all : length (take len bytes) ≡ len = length-take-le len bytes (prefix_len-le-length is_ascii_digit bytes) in
    let number : Result Lexeme Fault = Ok (token (kinds.Number (digits_value 10 (take len bytes))) len) in
    let followed : Result Lexeme Fault = cond (is_word_byte (get_or bytes len 0)) (Err (fault BadByte (place + len))) number in
    elim (chosen (ltb 38 len) (Err (fault NumberTooLong place)) followed (Err f) e) [
      | inl over ↦
          wrong_here place bytes NumberTooLong f (err_is (fault NumberTooLong place) f over.1) (
            refl,
            record {
              digits = take len bytes;
              after = drop len bytes;
              source = sym (take-append-drop len bytes);
              are = digits_of_run bytes;
              long = omega (arith, ltb-true 38 len over.0, all);
            },
          )
      | inr short ↦ elim (chosen (is_word_byte (get_or bytes len 0)) (Err (fault BadByte (place + len))) number (Err f) short.1) [
        | inl word ↦
            let within : len < length bytes = run_stops bytes len word.0 in
            subst (IsWrongAt place bytes) (err_is (fault BadByte (place + len)) f word.1) (
              len,
              refl,
              inr (record {
                digits = take len bytes;
                byte = get_or bytes len 0;
                after = drop (len + 1) bytes;
                source = parted_at bytes len within;
                are = digits_of_run bytes;
                some = omega (arith, all, some);
                short = omega (arith, all, ltb-false 38 len short.0);
                digit = prefix_len_stops is_ascii_digit bytes 0 within;
                word = word.0;
                all = sym all;
              }),
            )
        | inr free ↦ absurd cc
      ]
    ]

sign_wrong : (place : ℕ) (bytes : List ℕ) (found : Option Sign) (f : Fault) → 0 < length bytes → opening_of bytes ≡ Plain → is_space (get_or bytes 0 0) ≡ false → is_word_byte (get_or bytes 0 0) ≡ false → sign_at bytes ≡ found → sign_lexeme place found ≡ Err f
    → IsWrongAt place bytes f
sign_wrong place bytes (Some sign) f some plain space word here e = absurd cc
sign_wrong place [] None f some plain space word here e = absurd (omega arith)
sign_wrong place (byte ∷ rest) None f some plain space word here e =
    wrong_here place (byte ∷ rest) BadByte f (err_is (fault BadByte place) f e) (inl (
      refl,
      inl (record {
        byte = byte;
        after = rest;
        source = refl;
        space = space;
        word = word;
        opens = plain;
        sign = λ sign. false_from_ne_true (begins_with (spelling sign) (byte ∷ rest)) (λ begins.
            let found = sign_found (byte ∷ rest) sign begins in
            let clash : None ≡ Some found.0 = sym here ∙ found.1 in cc);
      }),
    ))

plain_wrong : (place : ℕ) (bytes : List ℕ) (f : Fault) → 0 < length bytes → opening_of bytes ≡ Plain → plain_at place bytes ≡ Err f → IsWrongAt place bytes f
unfolding plain_at
plain_wrong place bytes f some plain e =
    let first = get_or bytes 0 0 in
    let sign : Result Lexeme Fault = sign_lexeme place (sign_at bytes) in
    let word : Result Lexeme Fault = cond (is_word_byte first) (Ok (word_at bytes)) sign in
    let number : Result Lexeme Fault = cond (is_ascii_digit first) (number_at place bytes) word in
    elim (chosen (is_space first) (Ok (blank 1)) number (Err f) e) [
      | inl space ↦ absurd cc
      | inr a ↦ elim (chosen (is_ascii_digit first) (number_at place bytes) word (Err f) a.1) [
        | inl digit ↦ number_wrong place bytes f digit.0 digit.1
        | inr b ↦ elim (chosen (is_word_byte first) (Ok (word_at bytes)) sign (Err f) b.1) [
          | inl letter ↦ absurd cc
          | inr other ↦ sign_wrong place bytes (sign_at bytes) f some plain a.0 other.0 refl other.1
        ]
      ]
    ]

escape_some : (byte : ℕ) → 0 < length (escape byte)
escape_some byte = grind (arith, nat_tests)

part_some : (quote : ℕ) (part : Part) → IsPart quote part → 0 < length part.meaning
part_some quote part is = elim is [
  | inl doubled ↦ omega (arith, ap length doubled.1)
  | inr (inl escaped) ↦ omega (arith, ap length escaped.3, escape_some escaped.0)
  | inr (inr other) ↦ omega (arith, ap length other.3)
]

-- parts that hold nothing are none
no_parts : (quote : ℕ) (parts : List Part) → AllByRecursion (IsPart quote) parts → length (meaning_of parts) ≡ 0 → source_of parts ≡ []
no_parts quote [] are none = refl
no_parts quote (part ∷ parts) are none =
    absurd (omega (arith, part_some quote part are.0, length-append part.meaning (meaning_of parts), none))

-- The bytes are a part in quotes, and what follows it.
record IsQuotedBefore (bytes : List ℕ) (quote : ℕ) (parts : List Part) : Type 0 where
  after : List ℕ
  source : bytes ≡ (quote ∷ (source_of parts ++ quote ∷ [])) ++ after
  ends : get_or after 0 0 ≢ quote

empty_name : (bytes : List ℕ) (quote : ℕ) (parts : List Part) → IsQuotedBefore bytes quote parts → quote ≡ 96 → source_of parts ≡ [] → IsEmptyName bytes
empty_name bytes quote parts h is none = record {
  after = h.after;
  source = h.source ∙ rw (is, none) refl;
  ends = rw is at h.ends;
}

quoted_kind_wrong : (place quote : ℕ) (parts : List Part) (bytes : List ℕ) (f : Fault) → is_quote quote ≡ true → AllByRecursion (IsPart quote) parts → IsQuotedBefore bytes quote parts
    → quoted_at place (quote ∷ (source_of parts ++ quote ∷ [])) ≡ Err f → IsWrongAt place bytes f
unfolding quoted_at
quoted_kind_wrong place quote parts bytes f is are h e =
    let part = quote ∷ (source_of parts ++ quote ∷ []) in
    let held = held_in quote (slice_range part 1 (length part - 1)) in
    let means : held ≡ meaning_of parts = ap (held_in quote) (between quote (source_of parts)) ∙ held_parts quote parts is are in
    let holds : InQuotes quote part held = (parts, are, refl, means) in
    let name : Result Lexeme Fault = cond (length held == 0) (Err (fault BadByte place)) (Ok (token (kinds.QuotedName held) (length part))) in
    let text : Result Lexeme Fault = cond (ltb 255 (length held)) (Err (fault TextTooLong place)) (Ok (token (kinds.Text held) (length part))) in
    elim (chosen (quote == 96) name text (Err f) e) [
      | inl a ↦ elim (chosen (length held == 0) (Err (fault BadByte place)) (Ok (token (kinds.QuotedName held) (length part))) (Err f) a.1) [
        | inl b ↦
            let none : length (meaning_of parts) ≡ 0 = ap length (sym means) ∙ eqb-true (length held) 0 b.0 in
            wrong_here place bytes BadByte f (err_is (fault BadByte place) f b.1) (inl (refl, inr (inl (empty_name bytes quote parts h (eqb-true quote 96 a.0) (no_parts quote parts are none)))))
        | inr b ↦ absurd cc
      ]
      | inr a ↦ elim (chosen (ltb 255 (length held)) (Err (fault TextTooLong place)) (Ok (token (kinds.Text held) (length part))) (Err f) a.1) [
        | inl b ↦
            wrong_here place bytes TextTooLong f (err_is (fault TextTooLong place) f b.1) (
              refl,
              record {
                bytes = part;
                after = h.after;
                held = held;
                source = h.source;
                quoted = elim (text_quote quote is a.0) [
                  | inl single ↦ inl (subst (λ (q : ℕ). InQuotes q part held) single holds)
                  | inr double ↦ inr (subst (λ (q : ℕ). InQuotes q part held) double holds)
                ];
                ends = h.ends;
                long = ltb-true 255 (length held) b.0;
              },
            )
        | inr b ↦ absurd cc
      ]
    ]

quoted_wrong : (place : ℕ) (bytes : List ℕ) (len : ℕ) (f : Fault) → opening_of bytes ≡ Quoted → opened_len place bytes Quoted ≡ Ok len → quoted_at place (take len bytes) ≡ Err f → IsWrongAt place bytes f
quoted_wrong place bytes len f opens read e =
    let front = quoted_front place bytes len opens read in
    quoted_kind_wrong place front.quote front.parts bytes f front.is front.are
    (record { after = drop len bytes; source = sym (take-append-drop len bytes) ∙ ap (λ (part : List ℕ). part ++ drop len bytes) front.source; ends = front.ends })
    (rw front.source at e)

left_open : (place : ℕ) (bytes : List ℕ) (f : Fault) → is_executable bytes ≡ false → OpensAt place bytes f → IsWrongAt place bytes f
left_open place bytes f plain opens = (0, opens.0 ∙ sym (add-zero place), open_kind f.kind bytes plain opens.1)
  where
    open_kind : (kind : LexKind) (bytes : List ℕ) → is_executable bytes ≡ false → LeavesOpen kind bytes → IsWrong kind bytes 0
    open_kind OpenText bytes plain unclosed = (refl, unclosed)
    open_kind OpenComment bytes plain unclosed = (refl, unclosed, plain)
    open_kind BadByte bytes plain unclosed = absurd unclosed
    open_kind NumberTooLong bytes plain unclosed = absurd unclosed
    open_kind TextTooLong bytes plain unclosed = absurd unclosed

opened_kind_wrong : (place : ℕ) (bytes : List ℕ) (len : ℕ) (opening : Opening) (f : Fault) → 0 < length bytes → opening_of bytes ≡ opening → opened_len place bytes opening ≡ Ok len → opened_at place bytes len opening ≡ Err f → IsWrongAt place bytes f
opened_kind_wrong place bytes len LineComment f some opens read e = absurd cc
opened_kind_wrong place bytes len Comment f some opens read e = absurd cc
opened_kind_wrong place bytes len Quoted f some opens read e = quoted_wrong place bytes len f opens read e
opened_kind_wrong place bytes len Plain f some opens read e = plain_wrong place bytes f some opens e

-- What is refused at the front of a text is wrong there.
pub lexeme_wrong : (place : ℕ) (bytes : List ℕ) (f : Fault) → 0 < length bytes → lexeme_at place bytes ≡ Err f → IsWrongAt place bytes f
unfolding lexeme_at len_at
lexeme_wrong place bytes f some e =
    let read : Result Lexeme Fault = len_at place bytes >>= λ len. opened_at place bytes len (opening_of bytes) in
    elim (chosen (is_executable bytes) (Err (fault BadByte place)) read (Err f) e) [
      | inl a ↦ wrong_here place bytes BadByte f (err_is (fault BadByte place) f a.1) (inl (refl, inr (inr a.0)))
      | inr a ↦ elim (bind_err (len_at place bytes) (λ len. opened_at place bytes len (opening_of bytes)) f a.1) [
        | inl unclosed ↦ left_open place bytes f a.0 (len_wrong place bytes f unclosed)
        | inr (len, takes, refused) ↦ opened_kind_wrong place bytes len (opening_of bytes) f some refl takes refused
      ]
    ]
