-- What is read is the text: tokens and blanks, and the spans of the tokens.
use Rattle.std.proofs.Common.{◌≡◌, ℕ, zero, suc, ◌+◌, ◌-◌, ◌<◌, ◌≤◌, List, [], ◌∷◌, ◌++◌, length, take, drop, Option, Some, None, Ok, refl, sym, ap, subst, ◌∙◌, arith, inl, inr, append_assoc, length-append, add-zero}
use Rattle.std.specs.Prelude.{slice_range}
use Rattle.std.specs.List.{AllByRecursion, concat}
use Rattle.std.proofs.Math.Seq.{take-append_seam, drop-append_seam}
use Rattle.std.proofs.lemmas.List.{append-nil, drop-drop, take-append-drop, length-take-le}
use Rattle.std.proofs.lemmas.List.Elements.{All-from_recursion}
use Rattle.sa_lexer.specs.declared.lexeme.Lexeme.{Lexeme}
use Rattle.sa_lexer.specs.declared.token.Token.{Token}
use Rattle.sa_lexer.specs.declared.token.TokenKind.{TokenKind}
use Rattle.sa_lexer.specs.declared.token.TokenKind.TheVariants.{Word, QuotedName, Text, Number, Sign}
use Rattle.sa_lexer.specs.Fault.{◌>>=◌}
use Rattle.sa_lexer.specs.Lexeme.{lexeme_at}
use Rattle.sa_lexer.specs.Tokens.{token_of, tokens_from, tokens_of}
use Rattle.sa_lexer.specs.Spans.{SpansRise, Spells, InQuotes, AllSpelled}
use Rattle.sa_lexer.specs.Grammar.{IsBlank, Ends, AreTokens}
use Rattle.sa_lexer.proofs.Cuts.{last_of_sign}
use Rattle.sa_lexer.proofs.Lexemes.{IsKind, IsLexeme, lexeme_is}
use Rattle.sa_lexer.proofs.Results.{ok_is, bind_ok}

with_blank : (place : ℕ) (blank after : List ℕ) (tokens : List Token) → IsBlank blank after → AreTokens (place + length blank) after tokens → AreTokens place (blank ++ after) tokens
with_blank place blank after [] is h =
    let rest : after ≡ concat h.0 ++ [] = h.1 ∙ sym (append-nil (concat h.0)) in
    (blank ∷ h.0, ap (λ (more : List ℕ). blank ++ more) h.1, (subst (IsBlank blank) rest is, h.2))
with_blank place blank after (token ∷ tokens) is h = (
  blank ∷ h.0,
  h.1,
  h.2,
  ap (λ (more : List ℕ). blank ++ more) h.3 ∙ sym (append_assoc blank (concat h.0) (h.1 ++ h.2)),
  (subst (IsBlank blank) h.3 is, h.4),
  omega (arith, h.5, length-append blank (concat h.0)),
  h.6,
  h.7,
  h.8,
  h.9,
)

with_token : (place : ℕ) (spelled after : List ℕ) (kind : TokenKind) (tokens : List Token) → Spells spelled kind → Ends spelled after kind → AreTokens (place + length spelled) after tokens
    → AreTokens place (spelled ++ after) (record { kind = kind; start = place; end = place + length spelled } ∷ tokens)
with_token place spelled after kind tokens spells ends h = ([], spelled, after, refl, tt, sym (add-zero place), refl, spells, ends, h)

with_lexeme : (place : ℕ) (bytes after : List ℕ) (kind : Option TokenKind) (tokens : List Token) → IsKind bytes after kind → AreTokens (place + length bytes) after tokens → AreTokens place (bytes ++ after) (token_of place (place + length bytes) kind ++ tokens)
with_lexeme place bytes after None tokens is h = with_blank place bytes after tokens is h
with_lexeme place bytes after (Some kind) tokens is h = with_token place bytes after kind tokens is.0 is.1 h

step : (place : ℕ) (bytes : List ℕ) (lexeme : Lexeme) (tokens : List Token) → IsLexeme bytes lexeme → AreTokens (place + lexeme.len) (drop lexeme.len bytes) tokens → AreTokens place bytes (token_of place (place + lexeme.len) lexeme.kind ++ tokens)
step place bytes lexeme tokens is h =
    let front = take lexeme.len bytes in
    let after = drop lexeme.len bytes in
    let all : length front ≡ lexeme.len = length-take-le lexeme.len bytes is.within in
    let whole = with_lexeme place front after lexeme.kind tokens is.is (subst (λ (n : ℕ). AreTokens (place + n) after tokens) (sym all) h) in
    subst (λ (b : List ℕ). AreTokens place b (token_of place (place + lexeme.len) lexeme.kind ++ tokens)) (take-append-drop lexeme.len bytes)
    (subst (λ (n : ℕ). AreTokens place (front ++ after) (token_of place (place + n) lexeme.kind ++ tokens)) all whole)

from_rest : (place n byte : ℕ) (bytes : List ℕ) (tokens : List Token) → 0 < n → AreTokens ((place + 1) + (n - 1)) (drop (n - 1) bytes) tokens → AreTokens (place + n) (drop n (byte ∷ bytes)) tokens
from_rest place zero byte bytes tokens some h = absurd (omega arith)
from_rest place (suc k) byte bytes tokens some h =
    let back : suc k - 1 ≡ k = omega arith in
    let there : (place + 1) + k ≡ place + suc k = omega arith in
    subst (λ (n : ℕ). AreTokens n (drop k bytes) tokens) there (subst (λ (j : ℕ). AreTokens ((place + 1) + j) (drop j bytes) tokens) back h)

are_tokens_from : (inside place : ℕ) (bytes : List ℕ) (tokens : List Token) → inside ≤ length bytes → tokens_from inside place bytes ≡ Ok tokens → AreTokens (place + inside) (drop inside bytes) tokens
unfolding tokens_from
are_tokens_from zero place [] tokens within e = subst (AreTokens (place + 0) []) (ok_is [] tokens e) ([], refl, tt)
are_tokens_from (suc inside) place [] tokens within e = absurd (omega arith)
are_tokens_from (suc inside) place (byte ∷ bytes) tokens within e =
    let there : (place + 1) + inside ≡ place + suc inside = omega arith in
    subst (λ (n : ℕ). AreTokens n (drop inside bytes) tokens) there (are_tokens_from inside (place + 1) bytes tokens (omega arith) e)
are_tokens_from zero place (byte ∷ bytes) tokens within e =
    let first = bind_ok (lexeme_at place (byte ∷ bytes)) (λ lexeme. tokens_from (lexeme.len - 1) (place + 1) bytes >>= λ tokens. Ok (token_of place (place + lexeme.len) lexeme.kind ++ tokens)) tokens e in
    let is = lexeme_is place (byte ∷ bytes) first.0 (omega arith) first.1 in
    let later = bind_ok (tokens_from (first.0.len - 1) (place + 1) bytes) (λ tokens. Ok (token_of place (place + first.0.len) first.0.kind ++ tokens)) tokens first.2 in
    let rest = are_tokens_from (first.0.len - 1) (place + 1) bytes later.0 (omega (arith, is.some, is.within)) later.1 in
    let whole = step place (byte ∷ bytes) first.0 later.0 is (from_rest place first.0.len byte bytes later.0 is.some rest) in
    subst (λ (n : ℕ). AreTokens n (byte ∷ bytes) tokens) (sym (add-zero place)) (subst (AreTokens place (byte ∷ bytes)) (ok_is (token_of place (place + first.0.len) first.0.kind ++ later.0) tokens later.2) whole)

-- a text that was read is its tokens and blanks
pub are_tokens : (text : List ℕ) (tokens : List Token) → tokens_of text ≡ Ok tokens → AreTokens 0 text tokens
are_tokens text tokens e = are_tokens_from 0 0 text tokens (omega arith) e

quotes_some : (quote : ℕ) (bytes held : List ℕ) → InQuotes quote bytes held → 0 < length bytes
quotes_some quote bytes held h = omega (arith, ap length h.2)

pub spells_some : (bytes : List ℕ) (kind : TokenKind) → Spells bytes kind → 0 < length bytes
spells_some bytes (Word word) h = h.1
spells_some bytes (QuotedName name) h = quotes_some 96 bytes name h.0
spells_some bytes (Text text) h = elim h.0 [ inl single ↦ quotes_some 39 bytes text single | inr double ↦ quotes_some 34 bytes text double ]
spells_some bytes (Number number) h = h.1
spells_some bytes (Sign sign) h = omega (arith, ap length h, (last_of_sign sign).1)

spans_rise : (place : ℕ) (bytes : List ℕ) (tokens : List Token) → AreTokens place bytes tokens → SpansRise place (place + length bytes) tokens
spans_rise place bytes [] h = omega arith
spans_rise place bytes (token ∷ tokens) h =
    let some = spells_some h.1 token.kind h.7 in
    let later = spans_rise token.end h.2 tokens h.9 in
    let all : token.end + length h.2 ≡ place + length bytes = omega (arith, h.5, h.6, ap length h.3, length-append (concat h.0) (h.1 ++ h.2), length-append h.1 h.2) in
    (omega (arith, h.5), omega (arith, h.6), subst (λ (n : ℕ). SpansRise token.end n tokens) all later)

pub all_rise : (text : List ℕ) (tokens : List Token) → AreTokens 0 text tokens → SpansRise 0 (length text) tokens
all_rise text tokens h =
    let all : 0 + length text ≡ length text = omega arith in
    subst (λ (n : ℕ). SpansRise 0 n tokens) all (spans_rise 0 text tokens h)

-- what stands behind some bytes of the text
behind : (text : List ℕ) (place : ℕ) (front rest : List ℕ) → drop place text ≡ front ++ rest → drop (place + length front) text ≡ rest
behind text place front rest e = sym (drop-drop (length front) place text) ∙ ap (drop (length front)) e ∙ drop-append_seam front rest

spelled_from : (text : List ℕ) (place : ℕ) (bytes : List ℕ) (tokens : List Token) → drop place text ≡ bytes → AreTokens place bytes tokens → AllByRecursion (λ token. Spells (slice_range text token.start token.end) token.kind) tokens
spelled_from text place bytes [] here h = tt
spelled_from text place bytes (token ∷ tokens) here h =
    let start : drop token.start text ≡ h.1 ++ h.2 = subst (λ (n : ℕ). drop n text ≡ h.1 ++ h.2) (sym h.5) (behind text place (concat h.0) (h.1 ++ h.2) (here ∙ h.3)) in
    let end : drop token.end text ≡ h.2 = subst (λ (n : ℕ). drop n text ≡ h.2) (sym h.6) (behind text token.start h.1 h.2 start) in
    let long : token.end - token.start ≡ length h.1 = omega (arith, h.6) in
    let stands : slice_range text token.start token.end ≡ h.1 = ap (λ (n : ℕ). take n (drop token.start text)) long ∙ ap (take (length h.1)) start ∙ take-append_seam h.1 h.2 in
    (subst (λ (b : List ℕ). Spells b token.kind) (sym stands) h.7, spelled_from text token.end h.2 tokens end h.9)

pub all_spelled : (text : List ℕ) (tokens : List Token) → AreTokens 0 text tokens → AllSpelled text tokens
all_spelled text tokens h = All-from_recursion (λ token. Spells (slice_range text token.start token.end) token.kind) tokens (spelled_from text 0 text tokens refl h)
