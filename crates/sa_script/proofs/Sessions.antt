-- The statements of the last session.
use Rattle.std.proofs.Common.{◌≡◌, ℕ, suc, ◌-◌, ◌<◌, List, [], ◌∷◌, ◌++◌, length, get_or, refl, ap, arith}
use Rattle.sa_script.specs.Said.{with_statement, last_session}

-- the last session is the one in the last place
pub last_session-last : (sessions : List (List (List ℕ))) (past : List (List ℕ)) → 0 < length sessions → last_session sessions ≡ get_or sessions (length sessions - 1) past
last_session-last [] past some = absurd (omega arith)
last_session-last (session ∷ []) past some = refl
last_session-last (session ∷ next ∷ rest) past some =
    let last : suc (suc (length rest)) - 1 ≡ suc (length rest) = omega arith in
    let same : suc (length rest) - 1 ≡ length rest = omega arith in
    rw last (rw same at (last_session-last (next ∷ rest) past (omega arith)))

-- a statement of the last session, where it is known which that is
pub with_statement-last : (sessions : List (List (List ℕ))) (last : List (List ℕ)) (text : List ℕ) → with_statement (sessions ++ last ∷ []) text ≡ sessions ++ (last ++ text ∷ []) ∷ []
with_statement-last [] last text = refl
with_statement-last (session ∷ []) last text = refl
with_statement-last (session ∷ next ∷ rest) last text = ap (λ (more : List (List (List ℕ))). session ∷ more) (with_statement-last (next ∷ rest) last text)

-- a statement makes no session
pub with_statement-length : (sessions : List (List (List ℕ))) (text : List ℕ) → length (with_statement sessions text) ≡ length sessions
with_statement-length [] text = refl
with_statement-length (session ∷ []) text = refl
with_statement-length (session ∷ next ∷ rest) text = ap suc (with_statement-length (next ∷ rest) text)
