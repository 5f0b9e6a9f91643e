-- What opens where a text begins, how far it reaches, and that nothing but its fault is read there.
use Rattle.std.proofs.Common.{◌≡◌, ◌≢◌, ℕ, ◌+◌, List, [], ◌∷◌, drop, take, Some, None, Ok, Err, true, false, refl, sym, ap, ◌∙◌, inl, inr}
use Rattle.std.specs.Prelude.{codes}
use Rattle.std.proofs.lemmas.Bool.{or_cases, ne_eqb}
use Rattle.std.proofs.lemmas.Bool.Decides.{nat_tests}
use Rattle.std.proofs.Common.{arith}
use Rattle.sa_lexer.specs.declared.fault.LexKind.TheVariants.{OpenText, OpenComment}
use Rattle.sa_lexer.specs.Byte.{is_quote}
use Rattle.sa_lexer.specs.Fault.{Fault, fault}
use Rattle.sa_lexer.specs.Lexeme.{lexeme_at, plain_at, quoted_at}
use Rattle.sa_lexer.specs.Opening.{begins_with, opening_of, is_executable, comment_close, quote_close, len_at}
use Rattle.sa_lexer.proofs.Again.{OpensNone, comment_opens, plain_opens}
use Rattle.sa_lexer.proofs.Openings.{begins}

-- what MariaDB would run begins like a comment
pub executable_comment : (bytes : List ℕ) → is_executable bytes ≡ true → opening_of bytes ≡ opening_of (codes "/*")
unfolding is_executable
executable_comment bytes e = elim (or_cases (begins_with (codes "/*!") bytes) (begins_with (codes "/*M!") bytes) e) [
  | inl a ↦ ap opening_of (begins (codes "/*!") bytes a) ∙ comment_opens (33 ∷ drop 3 bytes) ∙ sym (comment_opens [])
  | inr a ↦ ap opening_of (begins (codes "/*M!") bytes a) ∙ comment_opens (77 ∷ 33 ∷ drop 4 bytes) ∙ sym (comment_opens [])
]

-- and with a slash
pub free_of : (byte : ℕ) (bytes : List ℕ) → byte ≢ 47 → is_executable (byte ∷ bytes) ≡ false
unfolding is_executable
free_of byte bytes other = rw (ne_eqb 47 byte (λ e. other (sym e))) refl

pub quote_apart : (quote : ℕ) → is_quote quote ≡ true → OpensNone quote × (quote ≢ 92) × (quote ≢ 59)
quote_apart quote e = (record { hash = grind (arith, nat_tests); dash = grind (arith, nat_tests); slash = grind (arith, nat_tests) }, grind (arith, nat_tests), grind (arith, nat_tests))

-- ---- how far it reaches

pub quoted_len_at : (place quote n : ℕ) (bytes : List ℕ) → is_quote quote ≡ true → quote_close quote bytes ≡ Some n → len_at place (quote ∷ bytes) ≡ Ok (1 + n)
unfolding len_at opening_of
quoted_len_at place quote n bytes is close =
    let none = (quote_apart quote is).0 in
    rw (ne_eqb 35 quote (λ e. none.hash (sym e)), ne_eqb 45 quote (λ e. none.dash (sym e)), ne_eqb 47 quote (λ e. none.slash (sym e)), is, close) refl

pub quoted_open_at : (place quote : ℕ) (bytes : List ℕ) → is_quote quote ≡ true → quote_close quote bytes ≡ None → len_at place (quote ∷ bytes) ≡ Err (fault OpenText place)
unfolding len_at opening_of
quoted_open_at place quote bytes is close =
    let none = (quote_apart quote is).0 in
    rw (ne_eqb 35 quote (λ e. none.hash (sym e)), ne_eqb 45 quote (λ e. none.dash (sym e)), ne_eqb 47 quote (λ e. none.slash (sym e)), is, close) refl

pub comment_len_at : (place n : ℕ) (rest : List ℕ) → comment_close rest ≡ Some n → len_at place (47 ∷ 42 ∷ rest) ≡ Ok (2 + n)
unfolding len_at
comment_len_at place n rest close = rw (comment_opens rest, close) refl

pub comment_open_at : (place : ℕ) (rest : List ℕ) → comment_close rest ≡ None → len_at place (47 ∷ 42 ∷ rest) ≡ Err (fault OpenComment place)
unfolding len_at
comment_open_at place rest close = rw (comment_opens rest, close) refl

-- ---- what is read

pub left_open : (place : ℕ) (bytes : List ℕ) (f : Fault) → is_executable bytes ≡ false → len_at place bytes ≡ Err f → lexeme_at place bytes ≡ Err f
unfolding lexeme_at
left_open place bytes f free len = rw (free, len) refl

pub plain_err : (place byte : ℕ) (bytes : List ℕ) (f : Fault) → OpensNone byte → is_quote byte ≡ false → plain_at place (byte ∷ bytes) ≡ Err f → lexeme_at place (byte ∷ bytes) ≡ Err f
unfolding lexeme_at len_at
plain_err place byte bytes f none quote reads = rw (free_of byte bytes none.slash, plain_opens byte bytes none quote) reads

pub quoted_err_at : (place quote n : ℕ) (bytes : List ℕ) (f : Fault) → is_quote quote ≡ true → quote_close quote bytes ≡ Some n → quoted_at place (take (1 + n) (quote ∷ bytes)) ≡ Err f → lexeme_at place (quote ∷ bytes) ≡ Err f
unfolding lexeme_at len_at opening_of
quoted_err_at place quote n bytes f is close reads =
    let none = (quote_apart quote is).0 in
    rw (free_of quote bytes none.slash, ne_eqb 35 quote (λ e. none.hash (sym e)), ne_eqb 45 quote (λ e. none.dash (sym e)), ne_eqb 47 quote (λ e. none.slash (sym e)), is, close) reads
