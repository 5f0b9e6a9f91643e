-- The bytes of a text are read as their tokens wherever the text stands, or their fault is told.
use Rattle.std.proofs.Common.{◌≡◌, ℕ, ◌+◌, ◌-◌, ◌<◌, List, [], ◌∷◌, ◌++◌, length, drop, Option, Some, None, Result, Ok, Err, refl, sym, ap, ◌∙◌, subst, arith, inl, inr, append_assoc, length-append, add-zero}
use Rattle.std.specs.List.{concat}
use Rattle.std.proofs.Math.Seq.{drop-append_seam}
use Rattle.std.proofs.lemmas.List.{append-nil}
use Rattle.sa_lexer.specs.declared.fault.LexKind.{LexKind}
use Rattle.sa_lexer.specs.declared.token.Token.{Token}
use Rattle.sa_lexer.specs.declared.token.TokenKind.{TokenKind}
use Rattle.sa_lexer.specs.Fault.{Fault, fault, ◌>>=◌}
use Rattle.sa_lexer.specs.Faulty.{IsFaulty, IsTokenOrBlank}
use Rattle.sa_lexer.specs.Grammar.{IsBlank, Follow, AreTokens}
use Rattle.sa_lexer.specs.Lexeme.{lexeme_at}
use Rattle.sa_lexer.specs.Tokens.{token_of, tokens_from}
use Rattle.sa_lexer.proofs.Again.{blank_again, token_again}
use Rattle.sa_lexer.proofs.Laws.{spells_some}
use Rattle.sa_lexer.proofs.Steps.{rest_of}
use Rattle.sa_script.proofs.lexing.Wrong.{wrong_told, wrong_some}

-- tokens behind one lexeme
abbrev behind : (start end : ℕ) → Option TokenKind → Result (List Token) Fault → Result (List Token) Fault
behind start end kind read = read >>= λ (tokens : List Token). Ok (token_of start end kind ++ tokens)

one_lexeme : (place : ℕ) (bytes after : List ℕ) (kind : Option TokenKind) → 0 < length bytes → lexeme_at place (bytes ++ after) ≡ Ok (record { kind = kind; len = length bytes })
    → tokens_from 0 place (bytes ++ after) ≡ behind place (place + length bytes) kind (tokens_from 0 (place + length bytes) after)
unfolding tokens_from
one_lexeme place [] after kind some here = absurd (omega arith)
one_lexeme place (byte ∷ bytes) after kind some here =
    let seam : drop (length (byte ∷ bytes)) (byte ∷ (bytes ++ after)) ≡ after = drop-append_seam (byte ∷ bytes) after in
    let rest : tokens_from (length (byte ∷ bytes) - 1) (place + 1) (bytes ++ after) ≡ tokens_from 0 (place + length (byte ∷ bytes)) after =
    rest_of place (length (byte ∷ bytes)) byte (bytes ++ after) some ∙ ap (tokens_from 0 (place + length (byte ∷ bytes))) seam in
    rw (here, rest) refl

nothing_before : (read : Result (List Token) Fault) (start end : ℕ) → behind start end None read ≡ read
nothing_before (Ok tokens) start end = refl
nothing_before (Err fault) start end = refl

past_blanks : (place : ℕ) (blanks : List (List ℕ)) (after : List ℕ) → Follow IsBlank blanks after → tokens_from 0 place (concat blanks ++ after) ≡ tokens_from 0 (place + length (concat blanks)) after
past_blanks place [] after follow = ap (λ (n : ℕ). tokens_from 0 n after) (sym (add-zero place))
past_blanks place (blank ∷ blanks) after follow =
    let first = blank_again place blank (concat blanks ++ after) follow.0 in
    let there : (place + length blank) + length (concat blanks) ≡ place + length (blank ++ concat blanks) = omega (arith, length-append blank (concat blanks)) in
    ap (tokens_from 0 place) (append_assoc blank (concat blanks) after) ∙ one_lexeme place blank (concat blanks ++ after) None first.some first.is
    ∙ nothing_before (tokens_from 0 (place + length blank) (concat blanks ++ after)) place (place + length blank) ∙ past_blanks (place + length blank) blanks after follow.1
    ∙ ap (λ (n : ℕ). tokens_from 0 n after) there

-- a text of these tokens is read as them
pub tokens_read : (place : ℕ) (bytes : List ℕ) (tokens : List Token) → AreTokens place bytes tokens → tokens_from 0 place bytes ≡ Ok tokens
unfolding tokens_from
tokens_read place bytes [] h =
    let whole : bytes ≡ concat h.0 ++ [] = h.1 ∙ sym (append-nil (concat h.0)) in
    ap (tokens_from 0 place) whole ∙ past_blanks place h.0 [] h.2
tokens_read place bytes (token ∷ tokens) h =
    let start = place + length (concat h.0) in
    let later : tokens_from 0 (start + length h.1) h.2 ≡ Ok tokens =
    subst (λ (n : ℕ). tokens_from 0 n h.2 ≡ Ok tokens) (h.6 ∙ ap (λ (n : ℕ). n + length h.1) h.5) (tokens_read token.end h.2 tokens h.9) in
    let same : record { kind = token.kind; start = start; end = start + length h.1 } ∷ tokens ≡ token ∷ tokens = rw (← h.5, ← h.6) refl in
    ap (tokens_from 0 place) h.3 ∙ past_blanks place h.0 (h.1 ++ h.2) h.4
    ∙ one_lexeme start h.1 h.2 (Some token.kind) (spells_some h.1 token.kind h.7) (token_again start h.1 h.2 token.kind h.7 h.8)
    ∙ ap (behind start (start + length h.1) (Some token.kind)) later ∙ ap (λ (ts : List Token). Ok ts) same

-- tokens and blanks before a fault change nothing of it
past_front : (place : ℕ) (front : List (List ℕ)) (rest : List ℕ) (f : Fault) → Follow IsTokenOrBlank front rest → tokens_from 0 (place + length (concat front)) rest ≡ Err f → tokens_from 0 place (concat front ++ rest) ≡ Err f
past_front place [] rest f follow e = ap (λ (n : ℕ). tokens_from 0 n rest) (sym (add-zero place)) ∙ e
past_front place (bytes ∷ front) rest f follow e =
    let there : (place + length bytes) + length (concat front) ≡ place + length (bytes ++ concat front) = omega (arith, length-append bytes (concat front)) in
    let later = past_front (place + length bytes) front rest f follow.1 (ap (λ (n : ℕ). tokens_from 0 n rest) there ∙ e) in
    ap (tokens_from 0 place) (append_assoc bytes (concat front) rest) ∙ (elim follow.0 [
      | inl token ↦
          one_lexeme place bytes (concat front ++ rest) (Some token.0) (spells_some bytes token.0 token.1) (token_again place bytes (concat front ++ rest) token.0 token.1 token.2)
          ∙ ap (behind place (place + length bytes) (Some token.0)) later
      | inr blank ↦
          let first = blank_again place bytes (concat front ++ rest) blank in
          one_lexeme place bytes (concat front ++ rest) None first.some first.is ∙ ap (behind place (place + length bytes) None) later
    ])

at_fault : (place : ℕ) (rest : List ℕ) (f : Fault) → 0 < length rest → lexeme_at place rest ≡ Err f → tokens_from 0 place rest ≡ Err f
unfolding tokens_from
at_fault place [] f some e = absurd (omega arith)
at_fault place (byte ∷ rest) f some e = rw e refl

-- the fault of a text is told of it
pub fault_read : (place : ℕ) (text : List ℕ) (kind : LexKind) (at : ℕ) → IsFaulty text kind at → tokens_from 0 place text ≡ Err (fault kind (place + at))
fault_read place text kind at h =
    let start = place + length (concat h.front) in
    let there : start + h.count ≡ place + at = omega (arith, h.there) in
    let told = wrong_told start kind h.rest h.count h.wrong ∙ ap (λ (n : ℕ). Err (fault kind n)) there in
    ap (tokens_from 0 place) h.source ∙ past_front place h.front h.rest (fault kind (place + at)) h.before (at_fault start h.rest (fault kind (place + at)) (wrong_some kind h.rest h.count h.wrong) told)
