-- Reading tokens one after another, as a loop does.
use Rattle.std.proofs.Common.{◌≡◌, ℕ, zero, suc, ◌+◌, ◌-◌, ◌<◌, List, [], ◌∷◌, ◌++◌, length, drop, Result, Ok, Err, refl, sym, ap, ◌∙◌, append_assoc, add-zero, arith}
use Rattle.std.proofs.lemmas.List.{append-nil}
use Rattle.sa_lexer.specs.declared.fault.LexFault.{LexFault}
use Rattle.sa_lexer.specs.declared.fault.LexFault.TheVariants.{Bad, OutOfMemory}
use Rattle.sa_lexer.specs.declared.lexeme.Lexeme.{Lexeme}
use Rattle.sa_lexer.specs.declared.token.Token.{Token}
use Rattle.sa_lexer.specs.Fault.{Fault, Gives, ◌>>=◌}
use Rattle.sa_lexer.specs.Lexeme.{lexeme_at}
use Rattle.sa_lexer.specs.Tokens.{token_of, tokens_from}

-- what was read before, and what is still read
abbrev pub with_front : List Token → Result (List Token) Fault → Result (List Token) Fault
with_front front read = read >>= λ tokens. Ok (front ++ tokens)

-- the bytes that belong to what was read before are passed
pub passed : (inside place : ℕ) (bytes : List ℕ) → tokens_from inside place bytes ≡ tokens_from 0 (place + inside) (drop inside bytes)
unfolding tokens_from
passed zero place bytes = rw add-zero refl
passed (suc inside) place [] = refl
passed (suc inside) place (byte ∷ bytes) =
    let there : (place + 1) + inside ≡ place + suc inside = omega arith in
    passed inside (place + 1) bytes ∙ ap (λ (n : ℕ). tokens_from 0 n (drop inside bytes)) there

regroup : (front more : List Token) (read : Result (List Token) Fault) → with_front front (read >>= λ tokens. Ok (more ++ tokens)) ≡ with_front (front ++ more) read
regroup front more (Ok tokens) = ap (λ (ts : List Token). Ok ts) (sym (append_assoc front more tokens))
regroup front more (Err fault) = refl

-- what follows the first n bytes
pub rest_of : (place n byte : ℕ) (bytes : List ℕ) → 0 < n → tokens_from (n - 1) (place + 1) bytes ≡ tokens_from 0 (place + n) (drop n (byte ∷ bytes))
rest_of place zero byte bytes some = absurd (omega arith)
rest_of place (suc k) byte bytes some =
    let same : suc k - 1 ≡ k = omega arith in
    let there : (place + 1) + k ≡ place + suc k = omega arith in
    rw same (passed k (place + 1) bytes ∙ ap (λ (n : ℕ). tokens_from 0 n (drop k bytes)) there)

pub goes_on : (front : List Token) (place : ℕ) (bytes : List ℕ) (lexeme : Lexeme) (total : Result (List Token) Fault) → 0 < length bytes → 0 < lexeme.len → lexeme_at place bytes ≡ Ok lexeme → with_front front (tokens_from 0 place bytes) ≡ total
    → with_front (front ++ token_of place (place + lexeme.len) lexeme.kind) (tokens_from 0 (place + lexeme.len) (drop lexeme.len bytes)) ≡ total
unfolding tokens_from
goes_on front place [] lexeme total some step here so_far = absurd (omega arith)
goes_on front place (byte ∷ bytes) lexeme total some step here so_far =
    let one : tokens_from 0 place (byte ∷ bytes) ≡ (tokens_from (lexeme.len - 1) (place + 1) bytes >>= λ tokens. Ok (token_of place (place + lexeme.len) lexeme.kind ++ tokens)) = rw here refl in
    let all : tokens_from (lexeme.len - 1) (place + 1) bytes ≡ tokens_from 0 (place + lexeme.len) (drop lexeme.len (byte ∷ bytes)) = rest_of place lexeme.len byte bytes step in
    sym (regroup front (token_of place (place + lexeme.len) lexeme.kind) (tokens_from 0 (place + lexeme.len) (drop lexeme.len (byte ∷ bytes))))
    ∙ ap (λ (read : Result (List Token) Fault). with_front front (read >>= λ tokens. Ok (token_of place (place + lexeme.len) lexeme.kind ++ tokens))) (sym all)
    ∙ ap (with_front front) (sym one) ∙ so_far

pub ends : (fault : LexFault) (front : List Token) (place : ℕ) (bytes : List ℕ) (total : Result (List Token) Fault) → 0 < length bytes → Gives {T = Lexeme} (Err fault) (lexeme_at place bytes) → with_front front (tokens_from 0 place bytes) ≡ total → Gives {T = List Token} (Err fault) total
unfolding tokens_from
ends OutOfMemory front place bytes total some here so_far = tt
ends (Bad kind at) front place [] total some here so_far = absurd (omega arith)
ends (Bad kind at) front place (byte ∷ bytes) total some here so_far = sym so_far ∙ rw here refl

pub is_done : (front : List Token) (place : ℕ) (bytes : List ℕ) (total : Result (List Token) Fault) → length bytes ≡ 0 → with_front front (tokens_from 0 place bytes) ≡ total → total ≡ Ok front
unfolding tokens_from
is_done front place [] total none so_far = sym so_far ∙ ap (λ (ts : List Token). Ok ts) (append-nil front)
is_done front place (byte ∷ bytes) total none so_far = absurd (omega arith)
