-- What each session has counted on a desk.
use Rattle.std.proofs.Common.{ℕ, ◌<◌, List, length, slice_set, get_or, All, arith}
use Rattle.std.proofs.lemmas.List.Elements.{All-set, All-get_or}

-- A session's polls are counted anew.
pub unspent-reset : (turns session : ℕ) (polls : List ℕ) → session < length polls → All (λ count. count < turns) polls → All (λ count. count < turns) (slice_set polls session 0)
unspent-reset turns session polls within all =
    let one : get_or polls session 0 < turns = All-get_or (λ count. count < turns) polls session 0 within all in
    All-set (λ count. count < turns) polls session 0 (omega (arith, one)) all
