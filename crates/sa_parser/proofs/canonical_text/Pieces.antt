-- The parts of a canonical text that are one token.
use Rattle.std.proofs.Common.{◌≡◌, ◌≢◌, ℕ, ◌+◌, ◌^◌, ◌<◌, ◌≤◌, Bool, true, false, List, [], ◌∷◌, ◌++◌, length, cond, refl, sym, ap, ◌∙◌, subst, arith, inl}
use Rattle.std.specs.Prelude.{codes, not, ◌&&◌, ◌==◌, slice_index}
use Rattle.std.specs.Char.{is_ascii_digit}
use Rattle.std.specs.Fmt.{decimal}
use Rattle.std.specs.List.{list_all}
use Rattle.std.proofs.lemmas.Bool.{and_parts, not-true, eqb-false, false≢true, both_ways}
use Rattle.std.proofs.lemmas.Fmt.{decimal_is_IsNumeral_wide, length-decimal-le_wide}
use Rattle.std.proofs.lemmas.List.Sums.{AllPass-from_list_all}
use Rattle.sa_lexer.specs.declared.sign.Sign.{Sign}
use Rattle.sa_lexer.specs.declared.sign.Sign.TheVariants.{LeftParen, RightParen, Comma, Dot, Star, Minus}
use Rattle.sa_lexer.specs.declared.token.Token.{Token}
use Rattle.sa_lexer.specs.declared.token.TokenKind.{TokenKind}
use Rattle.sa_lexer.specs.declared.token.TokenKind.TheVariants as kinds
use Rattle.sa_lexer.specs.Byte.{is_word_byte}
use Rattle.sa_lexer.specs.Sign.{spelling}
use Rattle.sa_lexer.specs.Spans.{Spells}
use Rattle.sa_lexer.specs.Grammar.{Ends}
use Rattle.sa_print.specs.Lists.{bracketed}
use Rattle.sa_print.specs.Name.{is_word, canonical_name}
use Rattle.sa_print.specs.Quoted.{quoted, canonical_literal}
use Rattle.sa_lexer.specs.Reserved.{is_reserved}
use Rattle.sa_parser.proofs.canonical_text.Lexed.{Quiet, quiet_at, Free, Lexed, token_at, token-Lexed, space-Lexed, joined-Lexed, narrowed-Lexed}
use Rattle.sa_parser.proofs.canonical_text.Quoting.{in_quotes}
use Rattle.sa_parser.proofs.canonical_text.Read.{numerals}
use Rattle.sa_parser.proofs.canonical_text.Signs.{left_paren_ends, right_paren_ends, comma_ends, dot_ends, star_ends, minus_ends, spaced_ends}

-- a space stands next, and no word goes on with it
abbrev pub Spaced : List ℕ → Type 0
Spaced after = slice_index after 0 ≡ 32

pub space-Quiet : (after : List ℕ) → Spaced after → Quiet after
space-Quiet [] e = absurd (omega (arith, e))
space-Quiet (byte ∷ after) e =
    let Before : ℕ → Type 0 = λ some. Quiet (some ∷ after) in
    subst Before (sym e) (quiet_at 32 after refl)

-- words

word_spells : (word : List ℕ) → is_word word ≡ true → Spells word (kinds.Word word)
word_spells word e =
    let (some, rest) = and_parts (not (length word == 0)) (not (is_ascii_digit (slice_index word 0)) && list_all is_word_byte word) e in
    let (begins, all) = and_parts (not (is_ascii_digit (slice_index word 0))) (list_all is_word_byte word) rest in
    (refl, omega (arith, eqb-false (length word) 0 (not-true (length word == 0) some)), AllPass-from_list_all is_word_byte word all, not-true _ begins)

pub word-Lexed : (place : ℕ) (word : List ℕ) → is_word word ≡ true → Lexed Quiet place word (token_at (kinds.Word word) place (length word) ∷ [])
word-Lexed place word e = token-Lexed Quiet place word (kinds.Word word) (word_spells word e) (λ after quiet. quiet.word)

-- a word and a space behind it
pub word_space-Lexed : (place : ℕ) (word : List ℕ) → is_word word ≡ true → Lexed Free place (word ++ 32 ∷ []) (token_at (kinds.Word word) place (length word) ∷ [])
word_space-Lexed place word e =
    joined-Lexed (word-Lexed place word e) (space-Lexed (place + length word)) (λ after free. space-Quiet (32 ∷ after) refl)

-- a word behind a space
pub space_word-Lexed : (place : ℕ) (word : List ℕ) → is_word word ≡ true → Lexed Quiet place (32 ∷ word) (token_at (kinds.Word word) (place + 1) (length word) ∷ [])
space_word-Lexed place word e = joined-Lexed (space-Lexed place) (word-Lexed (place + 1) word e) (λ after quiet. tt)

-- a word between spaces
pub spaced_word-Lexed : (place : ℕ) (word : List ℕ) → is_word word ≡ true → Lexed Free place (32 ∷ (word ++ 32 ∷ [])) (token_at (kinds.Word word) (place + 1) (length word) ∷ [])
spaced_word-Lexed place word e = joined-Lexed (space-Lexed place) (word_space-Lexed (place + 1) word e) (λ after free. tt)

-- signs

sign-Lexed : (sign : Sign) (place : ℕ) → ((after : List ℕ) → Ends (spelling sign) after (kinds.Sign sign))
    → Lexed Free place (spelling sign) (token_at (kinds.Sign sign) place (length (spelling sign)) ∷ [])
sign-Lexed sign place ends = token-Lexed Free place (spelling sign) (kinds.Sign sign) refl (λ after free. ends after)

pub left_paren-Lexed : (place : ℕ) → Lexed Free place (40 ∷ []) (token_at (kinds.Sign LeftParen) place 1 ∷ [])
left_paren-Lexed place = sign-Lexed LeftParen place left_paren_ends

pub right_paren-Lexed : (place : ℕ) → Lexed Free place (41 ∷ []) (token_at (kinds.Sign RightParen) place 1 ∷ [])
right_paren-Lexed place = sign-Lexed RightParen place right_paren_ends

pub comma-Lexed : (place : ℕ) → Lexed Free place (44 ∷ []) (token_at (kinds.Sign Comma) place 1 ∷ [])
comma-Lexed place = sign-Lexed Comma place comma_ends

pub comma_space-Lexed : (place : ℕ) → Lexed Free place (44 ∷ 32 ∷ []) (token_at (kinds.Sign Comma) place 1 ∷ [])
comma_space-Lexed place = joined-Lexed (comma-Lexed place) (space-Lexed (place + 1)) (λ after free. tt)

pub dot-Lexed : (place : ℕ) → Lexed Free place (46 ∷ []) (token_at (kinds.Sign Dot) place 1 ∷ [])
dot-Lexed place = sign-Lexed Dot place dot_ends

pub star-Lexed : (place : ℕ) → Lexed Free place (42 ∷ []) (token_at (kinds.Sign Star) place 1 ∷ [])
star-Lexed place = sign-Lexed Star place star_ends

pub minus-Lexed : (place : ℕ) → Lexed (λ after. slice_index after 0 ≢ 45) place (45 ∷ []) (token_at (kinds.Sign Minus) place 1 ∷ [])
minus-Lexed place = token-Lexed (λ after. slice_index after 0 ≢ 45) place (spelling Minus) (kinds.Sign Minus) refl minus_ends

-- a sign between spaces
pub spaced_sign-Lexed : (place : ℕ) (sign : Sign) → Lexed Free place (32 ∷ (spelling sign ++ 32 ∷ [])) (token_at (kinds.Sign sign) (place + 1) (length (spelling sign)) ∷ [])
spaced_sign-Lexed place sign =
    let one = token-Lexed Spaced (place + 1) (spelling sign) (kinds.Sign sign) refl (spaced_ends sign) in
    joined-Lexed (space-Lexed place) (joined-Lexed one (space-Lexed ((place + 1) + length (spelling sign))) (λ after free. refl)) (λ after free. tt)

-- a text in brackets
pub brackets-Lexed : {place : ℕ} {text : List ℕ} {tokens : List Token} → Lexed Quiet (place + 1) text tokens
    → Lexed Quiet place (bracketed text) (token_at (kinds.Sign LeftParen) place 1 ∷ [] ++ tokens ++ token_at (kinds.Sign RightParen) (place + length (codes "(" ++ text)) 1 ∷ [])
brackets-Lexed {place} {text} inner =
    let opened = joined-Lexed (left_paren-Lexed place) inner (λ after quiet. tt) in
    narrowed-Lexed (λ after quiet. tt) (joined-Lexed opened (right_paren-Lexed (place + length (codes "(" ++ text))) (λ after free. quiet_at 41 after refl))

-- numbers

pub number-Lexed : (place number : ℕ) → number < 10 ^ 38 → Lexed Quiet place (decimal number) (token_at (kinds.Number number) place (length (decimal number)) ∷ [])
number-Lexed place number small =
    let (numeral, value) = decimal_is_IsNumeral_wide number (omega (arith, small)) in
    let spells : Spells (decimal number) (kinds.Number number) =
    (value, numeral.0, length-decimal-le_wide 38 number (omega arith) small (omega (arith, small)), numerals.from (decimal number) numeral.1) in
    token-Lexed Quiet place (decimal number) (kinds.Number number) spells (λ after quiet. quiet.word)

-- texts

pub text-Lexed : (place : ℕ) (text : List ℕ) → length text ≤ 255 → Lexed Quiet place (canonical_literal text) (token_at (kinds.Text text) place (length (canonical_literal text)) ∷ [])
text-Lexed place text short =
    token-Lexed Quiet place (canonical_literal text) (kinds.Text text) (inl (in_quotes 39 text), short) (λ after quiet. quiet.text)

-- names

-- whether a name stands bare
abbrev pub is_bare : List ℕ → Bool
is_bare name = is_word name && not (is_reserved name)

abbrev pub kind_by : Bool → List ℕ → TokenKind
kind_by true name = kinds.Word name
kind_by false name = kinds.QuotedName name

-- the token that a name is written as
abbrev pub name_kind : List ℕ → TokenKind
name_kind name = kind_by (is_bare name) name

name_by : (place : ℕ) (name : List ℕ) (bare : Bool) → is_bare name ≡ bare → 0 < length name
    → Lexed Quiet place (cond bare name (quoted 96 name)) (token_at (kind_by bare name) place (length (cond bare name (quoted 96 name))) ∷ [])
name_by place name true e some = word-Lexed place name (and_parts (is_word name) (not (is_reserved name)) e).0
name_by place name false e some =
    token-Lexed Quiet place (quoted 96 name) (kinds.QuotedName name) (in_quotes 96 name, some) (λ after quiet. quiet.name)

pub name-Lexed : (place : ℕ) (name : List ℕ) → 0 < length name → Lexed Quiet place (canonical_name name) (token_at (name_kind name) place (length (canonical_name name)) ∷ [])
unfolding canonical_name
name-Lexed place name some = name_by place name (is_bare name) refl some

word_begins : (name after : List ℕ) → is_word name ≡ true → slice_index (name ++ after) 0 ≢ 45
word_begins [] after e same = absurd (false≢true e)
word_begins (byte ∷ name) after e same =
    let (some, rest) = and_parts (not (length (byte ∷ name) == 0)) (not (is_ascii_digit byte) && (is_word_byte byte && list_all is_word_byte name)) e in
    let (begins, all) = and_parts (not (is_ascii_digit byte)) (is_word_byte byte && list_all is_word_byte name) rest in
    let is : is_word_byte byte ≡ true = (and_parts (is_word_byte byte) (list_all is_word_byte name) all).0 in
    both_ways (is_word_byte 45) refl (ap is_word_byte (sym same) ∙ is)

named_begins : (name after : List ℕ) (bare : Bool) → is_bare name ≡ bare → slice_index (cond bare name (quoted 96 name) ++ after) 0 ≢ 45
named_begins name after true e = word_begins name after (and_parts (is_word name) (not (is_reserved name)) e).0
named_begins name after false e = λ same. omega (arith, same)

-- no name begins with a minus
pub name_begins : (name after : List ℕ) → slice_index (canonical_name name ++ after) 0 ≢ 45
unfolding canonical_name
name_begins name after = named_begins name after (is_bare name) refl
