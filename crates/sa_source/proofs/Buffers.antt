-- What stands in a buffer of which the first part was filled.
use Rattle.std.proofs.Common.{◌≡◌, ℕ, ◌≤◌, List, ◌++◌, length, take, drop, sym, ap, ◌∙◌, append_assoc}
use Rattle.std.proofs.lemmas.List.{take-append-drop, drop-append-le}

-- bytes at the front of the first part, and then the second part
pub append-drop : (bytes buffer : List ℕ) (n room : ℕ) → n ≤ length (take room buffer) → (bytes ++ drop n (take room buffer)) ++ drop room buffer ≡ bytes ++ drop n buffer
append-drop bytes buffer n room h =
    append_assoc bytes (drop n (take room buffer)) (drop room buffer)
    ∙ ap (λ rest. bytes ++ rest) (sym (drop-append-le n (take room buffer) (drop room buffer) h) ∙ ap (drop n) (take-append-drop room buffer))

pub ruleset filled = (append-drop)
