-- What the first token of a list says, whatever stands behind it.
use Rattle.std.proofs.Common.{◌≡◌, ◌<◌, true, false, ◌||◌, List, [], ◌∷◌, ◌++◌, length, refl, sym, ◌∙◌, arith, length-append}
use Rattle.std.proofs.lemmas.Bool.{false≢true, both_ways, false_from_ne_true, or_parts, or_left, or_right}
use Rattle.sa_lexer.specs.declared.token.Token.{Token}
use Rattle.sa_parser.proofs.Heads.{Heads, none, or, has, starts, apart, within, apart-has, within-has, or-has}

pub starts-nothing : (heads : Heads) → starts heads [] ≡ false
unfolding starts
starts-nothing heads = refl

pub starts-none : (tokens : List Token) → starts none tokens ≡ false
unfolding starts has
starts-none [] = refl
starts-none (token ∷ rest) = refl

pub starts-or : (first second : Heads) (tokens : List Token) → starts (or first second) tokens ≡ (starts first tokens || starts second tokens)
unfolding starts
starts-or first second [] = refl
starts-or first second (token ∷ rest) = or-has first second token.kind

-- what stands behind the first token doesn't matter
pub starts-other : (heads : Heads) (before : List Token) (token : Token) (behind other : List Token)
    → starts heads (before ++ token ∷ behind) ≡ starts heads (before ++ token ∷ other)
unfolding starts
starts-other heads [] token behind other = refl
starts-other heads (first ∷ before) token behind other = refl

pub starts-append : (heads : Heads) (before rest : List Token) → starts heads before ≡ true → starts heads (before ++ rest) ≡ true
unfolding starts
starts-append heads [] rest h = absurd (false≢true h)
starts-append heads (token ∷ before) rest h = h

pub starts-within : (first second : Heads) (before rest : List Token) → within first second ≡ true
    → starts first before ≡ true → starts second (before ++ rest) ≡ true
unfolding starts
starts-within first second [] rest w h = absurd (false≢true h)
starts-within first second (token ∷ before) rest w h = within-has first second token.kind w h

pub starts-apart : (first second : Heads) (before rest : List Token) → apart first second ≡ true
    → starts first before ≡ true → starts second (before ++ rest) ≡ false
unfolding starts
starts-apart first second [] rest a h = absurd (false≢true h)
starts-apart first second (token ∷ before) rest a h = apart-has first second token.kind a h

-- where a token is there, the tokens behind it are fewer
pub starts-fewer : (heads : Heads) (before rest : List Token) → starts heads before ≡ true → length rest < length (before ++ rest)
unfolding starts
starts-fewer heads [] rest h = absurd (false≢true h)
starts-fewer heads (token ∷ before) rest h = omega (arith, length-append before rest)

pub starts-or_first : (first second : Heads) (tokens : List Token) → starts first tokens ≡ true → starts (or first second) tokens ≡ true
starts-or_first first second tokens h = starts-or first second tokens ∙ or_left _ _ h

pub starts-or_second : (first second : Heads) (tokens : List Token) → starts second tokens ≡ true → starts (or first second) tokens ≡ true
starts-or_second first second tokens h = starts-or first second tokens ∙ or_right _ _ h

pub starts-or_neither : (first second : Heads) (tokens : List Token) → starts (or first second) tokens ≡ false
    → (starts first tokens ≡ false) × (starts second tokens ≡ false)
starts-or_neither first second tokens h = or_parts (starts first tokens) (starts second tokens) (sym (starts-or first second tokens) ∙ h)

pub starts-wider : (first second : Heads) (tokens : List Token) → within first second ≡ true → starts first tokens ≡ true → starts second tokens ≡ true
unfolding starts
starts-wider first second [] w h = absurd (false≢true h)
starts-wider first second (token ∷ rest) w h = within-has first second token.kind w h

pub starts-narrower : (first second : Heads) (tokens : List Token) → within first second ≡ true → starts second tokens ≡ false → starts first tokens ≡ false
starts-narrower first second tokens w h =
    false_from_ne_true (starts first tokens) (λ e. both_ways (starts second tokens) h (starts-wider first second tokens w e))
