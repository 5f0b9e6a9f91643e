-- A text that is tokens and blanks is read as those tokens, so it has one reading.
use Rattle.std.proofs.Common.{◌≡◌, ℕ, ◌+◌, ◌-◌, ◌<◌, List, [], ◌∷◌, ◌++◌, length, drop, Option, Some, None, Ok, refl, sym, ap, ◌∙◌, subst, arith, append_assoc, length-append, add-zero}
use Rattle.std.specs.List.{concat}
use Rattle.std.proofs.Math.Seq.{drop-append_seam}
use Rattle.std.proofs.lemmas.List.{append-nil}
use Rattle.sa_lexer.specs.declared.token.Token.{Token}
use Rattle.sa_lexer.specs.declared.token.TokenKind.{TokenKind}
use Rattle.sa_lexer.specs.Lexeme.{lexeme_at}
use Rattle.sa_lexer.specs.Tokens.{token_of, tokens_from, tokens_of}
use Rattle.sa_lexer.specs.Grammar.{IsBlank, Follow, AreTokens}
use Rattle.sa_lexer.proofs.Again.{blank_again, token_again}
use Rattle.sa_lexer.proofs.Laws.{spells_some}
use Rattle.sa_lexer.proofs.Steps.{rest_of}

-- the tokens from a place on, read with one lexeme before them
with_lexeme : (place : ℕ) (bytes after : List ℕ) (kind : Option TokenKind) (tokens : List Token) → 0 < length bytes → lexeme_at place (bytes ++ after) ≡ Ok (record { kind = kind; len = length bytes }) → tokens_from 0 (place + length bytes) after ≡ Ok tokens
    → tokens_from 0 place (bytes ++ after) ≡ Ok (token_of place (place + length bytes) kind ++ tokens)
unfolding tokens_from
with_lexeme place [] after kind tokens some here later = absurd (omega arith)
with_lexeme place (byte ∷ bytes) after kind tokens some here later =
    let seam : drop (length (byte ∷ bytes)) (byte ∷ (bytes ++ after)) ≡ after = drop-append_seam (byte ∷ bytes) after in
    let rest : tokens_from (length (byte ∷ bytes) - 1) (place + 1) (bytes ++ after) ≡ Ok tokens =
    rest_of place (length (byte ∷ bytes)) byte (bytes ++ after) some ∙ ap (tokens_from 0 (place + length (byte ∷ bytes))) seam ∙ later in
    rw (here, rest) refl

after_blanks : (place : ℕ) (blanks : List (List ℕ)) (after : List ℕ) (tokens : List Token) → Follow IsBlank blanks after → tokens_from 0 (place + length (concat blanks)) after ≡ Ok tokens → tokens_from 0 place (concat blanks ++ after) ≡ Ok tokens
after_blanks place [] after tokens follow later = subst (λ (n : ℕ). tokens_from 0 n after ≡ Ok tokens) (add-zero place) later
after_blanks place (blank ∷ blanks) after tokens follow later =
    let there : place + length (blank ++ concat blanks) ≡ (place + length blank) + length (concat blanks) = omega (arith, length-append blank (concat blanks)) in
    let rest = after_blanks (place + length blank) blanks after tokens follow.1 (subst (λ (n : ℕ). tokens_from 0 n after ≡ Ok tokens) there later) in
    let first = blank_again place blank (concat blanks ++ after) follow.0 in
    ap (tokens_from 0 place) (append_assoc blank (concat blanks) after) ∙ with_lexeme place blank (concat blanks ++ after) None tokens first.some first.is rest

read_again : (place : ℕ) (bytes : List ℕ) (tokens : List Token) → AreTokens place bytes tokens → tokens_from 0 place bytes ≡ Ok tokens
unfolding tokens_from
read_again place bytes [] h =
    let whole : bytes ≡ concat h.0 ++ [] = h.1 ∙ sym (append-nil (concat h.0)) in
    ap (tokens_from 0 place) whole ∙ after_blanks place h.0 [] [] h.2 refl
read_again place bytes (token ∷ tokens) h =
    let start = place + length (concat h.0) in
    let later : tokens_from 0 (start + length h.1) h.2 ≡ Ok tokens =
    subst (λ (n : ℕ). tokens_from 0 n h.2 ≡ Ok tokens) (h.6 ∙ ap (λ (n : ℕ). n + length h.1) h.5) (read_again token.end h.2 tokens h.9) in
    let read = with_lexeme start h.1 h.2 (Some token.kind) tokens (spells_some h.1 token.kind h.7) (token_again start h.1 h.2 token.kind h.7 h.8) later in
    let same : record { kind = token.kind; start = start; end = start + length h.1 } ∷ tokens ≡ token ∷ tokens = rw (← h.5, ← h.6) refl in
    ap (tokens_from 0 place) h.3 ∙ after_blanks place h.0 (h.1 ++ h.2) (token ∷ tokens) h.4 (read ∙ ap (λ (ts : List Token). Ok ts) same)

pub only_reading : (text : List ℕ) (tokens : List Token) → AreTokens 0 text tokens → tokens_of text ≡ Ok tokens
only_reading text tokens h = read_again 0 text tokens h
