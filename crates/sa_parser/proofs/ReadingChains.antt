-- A chain that is read by a loop, of which so many turns are done.
use Rattle.std.proofs.Common.{◌≡◌, ℕ, suc, ◌+◌, ◌-◌, ◌<◌, ◌≤◌, Bool, List, Ok, ap, arith, cond}
use Rattle.sa_lexer.specs.declared.token.Token.{Token}
use Rattle.sa_parser.specs.inner.Reading.{Reader, and_then, more}

pub more-turn : {A B : Type 0} (looks : List Token → Bool) (take : A → B → A) (read : Reader B) (turns done : ℕ) (so_far : A) (tokens : List Token)
    → done < turns → more looks take read (turns - done) so_far tokens
    ≡ cond (looks tokens) (and_then (read tokens) (λ part. more looks take read (turns - (done + 1)) (take so_far part))) (Ok (so_far, tokens))
unfolding more
more-turn looks take read turns done so_far tokens below =
    let one : turns - done ≡ suc (turns - (done + 1)) = omega arith in
    ap (λ n. more looks take read n so_far tokens) one

pub more-end : {A B : Type 0} (looks : List Token → Bool) (take : A → B → A) (read : Reader B) (turns done : ℕ) (so_far : A) (tokens : List Token)
    → turns ≤ done → more looks take read (turns - done) so_far tokens ≡ Ok (so_far, tokens)
unfolding more
more-end looks take read turns done so_far tokens past =
    let none : turns - done ≡ 0 = omega arith in
    ap (λ n. more looks take read n so_far tokens) none

pub ruleset turns = (more-turn, more-end)
