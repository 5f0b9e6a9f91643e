use Rattle.std.proofs.Common.{List, ℕ, length, ap, sym, ◌∙◌}
use Rattle.sa_script.specs.Said.{last_session}
use Rattle.sa_script.proofs.Sessions.{last_session-last}
use Rattle.sa_script.proofs.statement.last_len.Goals as goal

pub returns-in-len1-up : goal.returns-in-len1-up
returns-in-len1-up c =
    c.len.ensures ∙ ap (λ (session : List (List ℕ)). length session) (c.last-item.is ∙ sym (last_session-last c.as_slice.result.now c.last-item.result c.in-len1-up.len_at_least))
    ∙ ap (λ (sessions : List (List (List ℕ))). length (last_session sessions)) c.as_slice.ensures
