-- A part of a text and its tokens, whatever stands before and behind it.
use Rattle.std.proofs.Common.{◌≡◌, ◌≢◌, ℕ, ◌+◌, Bool, true, false, List, [], ◌∷◌, ◌++◌, length, Ok, refl, sym, ap, subst, inl, append_assoc, append-nil, add-zero, length-append, arith}
use Rattle.std.specs.Prelude.{slice_index, not, ◌&&◌, ◌==◌}
use Rattle.std.proofs.lemmas.Bool.{and_parts, not-true, eqb-false}
use Rattle.sa_lexer.specs.declared.token.Token.{Token}
use Rattle.sa_lexer.specs.declared.token.TokenKind.{TokenKind}
use Rattle.sa_lexer.specs.Byte.{is_word_byte}
use Rattle.sa_lexer.specs.Tokens.{tokens_of}
use Rattle.sa_lexer.specs.Spans.{Spells}
use Rattle.sa_lexer.specs.Grammar.{Ends, AreTokens}
use Rattle.sa_lexer.proofs.Unique.{only_reading}

-- no word and nothing in quotes goes on with these bytes
pub record Quiet (after : List ℕ) : Type 0 where
  pub word : is_word_byte (slice_index after 0) ≡ false
  pub text : slice_index after 0 ≢ 39
  pub name : slice_index after 0 ≢ 96

abbrev pub is_quiet : ℕ → Bool
is_quiet byte = not (is_word_byte byte) && (not (byte == 39) && not (byte == 96))

pub quiet_at : (byte : ℕ) (after : List ℕ) → is_quiet byte ≡ true → Quiet (byte ∷ after)
quiet_at byte after e =
    let (word, rest) = and_parts (not (is_word_byte byte)) (not (byte == 39) && not (byte == 96)) e in
    let (text, name) = and_parts (not (byte == 39)) (not (byte == 96)) rest in
    record { word = not-true _ word; text = eqb-false byte 39 (not-true _ text); name = eqb-false byte 96 (not-true _ name) }

-- any bytes
abbrev pub Free : List ℕ → Type 0
Free after = Unit {0}

-- From the place on the text is these tokens, in front of bytes of which this holds.
pub record Lexed (Before : List ℕ → Type 0) (place : ℕ) (text : List ℕ) (tokens : List Token) : Type 0 where
  pub joins : (after : List ℕ) (more : List Token) → Before after → AreTokens (place + length text) after more → AreTokens place (text ++ after) (tokens ++ more)

-- a token of so many bytes
abbrev pub token_at : TokenKind → ℕ → ℕ → Token
token_at kind place len = record { kind = kind; start = place; end = place + len }

pub token-Lexed : (Before : List ℕ → Type 0) (place : ℕ) (text : List ℕ) (kind : TokenKind) → Spells text kind → ((after : List ℕ) → Before after → Ends text after kind)
    → Lexed Before place text (token_at kind place (length text) ∷ [])
token-Lexed Before place text kind spells ends = record {
  joins = λ after more before are. ([], text, after, refl, tt, sym (add-zero place), refl, spells, ends after before, are);
}

behind_space : (place : ℕ) (after : List ℕ) (tokens : List Token) → AreTokens (place + 1) after tokens → AreTokens place (32 ∷ after) tokens
behind_space place after [] h = ((32 ∷ []) ∷ h.0, ap (λ (more : List ℕ). 32 ∷ more) h.1, (inl (32, refl, refl), h.2))
behind_space place after (token ∷ tokens) h = (
  (32 ∷ []) ∷ h.0,
  h.1,
  h.2,
  ap (λ (more : List ℕ). 32 ∷ more) h.3,
  (inl (32, refl, refl), h.4),
  omega (arith, h.5),
  h.6,
  h.7,
  h.8,
  h.9,
)

pub space-Lexed : (place : ℕ) → Lexed Free place (32 ∷ []) []
space-Lexed place = record { joins = λ after more before are. behind_space place after more are }

pub joined-Lexed : {Before Behind : List ℕ → Type 0} {place : ℕ} {text other : List ℕ} {tokens more : List Token}
    → Lexed Before place text tokens → Lexed Behind (place + length text) other more → ((after : List ℕ) → Behind after → Before (other ++ after))
    → Lexed Behind place (text ++ other) (tokens ++ more)
joined-Lexed {place} {text} {other} {tokens} {more} one two fits = record {
  joins = λ after rest behind are.
      let there : place + length (text ++ other) ≡ (place + length text) + length other = omega (arith, length-append text other) in
      let last = two.joins after rest behind (subst (λ (n : ℕ). AreTokens n after rest) there are) in
      let whole = one.joins (other ++ after) (more ++ rest) (fits after behind) last in
      subst (λ (ts : List Token). AreTokens place ((text ++ other) ++ after) ts) (sym (append_assoc tokens more rest))
      (subst (λ (bs : List ℕ). AreTokens place bs (tokens ++ (more ++ rest))) (sym (append_assoc text other after)) whole);
}

-- in front of fewer bytes
pub narrowed-Lexed : {Before Behind : List ℕ → Type 0} {place : ℕ} {text : List ℕ} {tokens : List Token} → ((after : List ℕ) → Behind after → Before after)
    → Lexed Before place text tokens → Lexed Behind place text tokens
narrowed-Lexed fewer lexed = record { joins = λ after more behind. lexed.joins after more (fewer after behind) }

-- the same text, written another way
pub same-Lexed : {Before : List ℕ → Type 0} {place : ℕ} {text other : List ℕ} {tokens : List Token} → text ≡ other → Lexed Before place text tokens → Lexed Before place other tokens
same-Lexed {Before} {place} {tokens} e lexed = subst (λ (bs : List ℕ). Lexed Before place bs tokens) e lexed

-- a whole text
pub whole-Lexed : (text : List ℕ) (tokens : List Token) → Lexed Quiet 0 text tokens → tokens_of text ≡ Ok tokens
whole-Lexed text tokens lexed =
    let quiet : Quiet [] = record { word = refl; text = λ same. omega (arith, same); name = λ same. omega (arith, same) } in
    let are = lexed.joins [] [] quiet ([], refl, tt) in
    only_reading text tokens
    (subst (λ (ts : List Token). AreTokens 0 text ts) (append-nil tokens) (subst (λ (bs : List ℕ). AreTokens 0 bs (tokens ++ [])) (append-nil text) are))
