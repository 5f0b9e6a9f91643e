-- Looking for the end of a comment or of a part in quotes, byte by byte.
use Rattle.std.proofs.Common.{◌≡◌, ℕ, ◌+◌, ◌<◌, ◌≤◌, List, [], length, drop, Option, Some, None, Bool, true, false, refl, sym, ap, ◌∙◌, arith}
use Rattle.std.proofs.lemmas.List.{drop_more, drop_all, at_drop_more}
use Rattle.std.specs.Prelude.{codes, cond}
use Rattle.sa_lexer.specs.Opening.{begins_with, plus, comment_close, quote_close}

plus_plus : (m n : ℕ) (found : Option ℕ) → plus m (plus n found) ≡ plus (m + n) found
plus_plus m n None = refl
plus_plus m n (Some k) = ap (λ (j : ℕ). Some j) (let e : m + (n + k) ≡ (m + n) + k = omega arith in e)

pub plus_zero : (found : Option ℕ) → plus 0 found ≡ found
plus_zero None = refl
plus_zero (Some k) = ap (λ (j : ℕ). Some j) (let e : 0 + k ≡ k = omega arith in e)

-- a step of n bytes, of which the search knows what it does
pub search_on : (search : List ℕ → Option ℕ) (bytes : List ℕ) (place n : ℕ) → search (drop place bytes) ≡ plus n (search (drop (place + n) bytes)) → plus place (search (drop place bytes)) ≡ search bytes
    → plus (place + n) (search (drop (place + n) bytes)) ≡ search bytes
search_on search bytes place n step so_far =
    sym (plus_plus place n (search (drop (place + n) bytes))) ∙ ap (plus place) (sym step) ∙ so_far

-- nothing was found up to the end
pub none_left : (search : List ℕ → Option ℕ) (bytes : List ℕ) (place : ℕ) → search [] ≡ None → length bytes ≤ place → plus place (search (drop place bytes)) ≡ search bytes → None ≡ search bytes
none_left search bytes place nothing past so_far =
    let rest : search (drop place bytes) ≡ None = ap search (drop_all place bytes past) ∙ nothing in
    ap (plus place) (sym rest) ∙ so_far

comment_at : (bytes : List ℕ) (place : ℕ) → place < length bytes
    → comment_close (drop place bytes) ≡ cond (begins_with (codes "*/") (drop place bytes)) (Some 2) (plus 1 (comment_close (drop (place + 1) bytes)))
unfolding comment_close
comment_at bytes place lt =
    at_drop_more comment_close bytes place 0 lt
    ∙ ap (λ (front : List ℕ). cond (begins_with (codes "*/") front) (Some 2) (plus 1 (comment_close (drop (place + 1) bytes)))) (sym (drop_more bytes place 0 lt))

pub comment_here : (bytes : List ℕ) (place : ℕ) → place < length bytes → begins_with (codes "*/") (drop place bytes) ≡ true → plus place (comment_close (drop place bytes)) ≡ comment_close bytes → Some (place + 2) ≡ comment_close bytes
comment_here bytes place lt here so_far =
    let one : comment_close (drop place bytes) ≡ Some 2 = comment_at bytes place lt ∙ ap (λ (b : Bool). cond b (Some 2) (plus 1 (comment_close (drop (place + 1) bytes)))) here in
    ap (plus place) (sym one) ∙ so_far

pub comment_later : (bytes : List ℕ) (place : ℕ) → place < length bytes → begins_with (codes "*/") (drop place bytes) ≡ false → plus place (comment_close (drop place bytes)) ≡ comment_close bytes → plus (place + 1) (comment_close (drop (place + 1) bytes)) ≡ comment_close bytes
comment_later bytes place lt here so_far =
    search_on comment_close bytes place 1 (comment_at bytes place lt ∙ ap (λ (b : Bool). cond b (Some 2) (plus 1 (comment_close (drop (place + 1) bytes)))) here) so_far

pub no_comment : comment_close [] ≡ None
unfolding comment_close
no_comment = refl

pub no_quote : (quote : ℕ) → quote_close quote [] ≡ None
unfolding quote_close
no_quote quote = refl
