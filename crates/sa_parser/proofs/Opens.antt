-- What stands at the beginning of tokens that may be none.
use Rattle.std.proofs.Common.{◌≡◌, Bool, true, false, ◌&&◌, ◌||◌, List, ◌++◌, if◌then◌else◌, refl, inl, inr}
use Rattle.std.proofs.lemmas.Bool.{true≢false, false≢true}
use Rattle.sa_lexer.specs.declared.token.Token.{Token}
use Rattle.sa_parser.proofs.Heads.{Heads, or, starts, apart, within}
use Rattle.sa_parser.proofs.Law.{Opens}
use Rattle.sa_parser.proofs.Starts.{starts-append, starts-apart, starts-or_first, starts-or_second, starts-or_neither, starts-wider}

-- one thing behind another
pub Opens-append : (blank also_blank : Bool) (first second : Heads) (before after : List Token) → Opens blank first before → Opens also_blank second after
    → Opens (blank && also_blank) (if blank then or first second else first) (before ++ after)
Opens-append false also_blank first second before after h k = starts-append first before after h
Opens-append true false first second before after (inl e) k = rw e (starts-or_second first second after k)
Opens-append true false first second before after (inr h) k =
    starts-append (or first second) before after (starts-or_first first second before h)
Opens-append true true first second before after (inl e) (inl f) = inl (rw e f)
Opens-append true true first second before after (inl e) (inr k) = inr (rw e (starts-or_second first second after k))
Opens-append true true first second before after (inr h) k =
    inr (starts-append (or first second) before after (starts-or_first first second before h))

-- what can't follow the first of two things doesn't follow it
pub quiet-append : (blank : Bool) (opens goes_on : Heads) (before rest : List Token) → apart opens goes_on ≡ true → Opens blank opens before
    → (blank ≡ true → starts goes_on rest ≡ false) → starts goes_on (before ++ rest) ≡ false
quiet-append false opens goes_on before rest a h quiet = starts-apart opens goes_on before rest a h
quiet-append true opens goes_on before rest a (inl e) quiet = rw e (quiet refl)
quiet-append true opens goes_on before rest a (inr h) quiet = starts-apart opens goes_on before rest a h

-- what can't follow two things
pub quiet-parts : (blank : Bool) (first second : Heads) (rest : List Token) → starts (if blank then or first second else first) rest ≡ false
    → (starts first rest ≡ false) × (blank ≡ true → starts second rest ≡ false)
quiet-parts true first second rest quiet =
    let parts = starts-or_neither first second rest quiet in (parts.0, λ _. parts.1)
quiet-parts false first second rest quiet = (quiet, λ e. absurd (false≢true e))

-- what isn't nothing has a first token
pub Opens-full : (blank : Bool) (heads : Heads) (tokens : List Token) → blank ≡ false → Opens blank heads tokens → starts heads tokens ≡ true
Opens-full false heads tokens full h = h
Opens-full true heads tokens full h = absurd (true≢false full)

-- a larger set, and perhaps nothing
pub Opens-wider : (blank also_blank : Bool) (first second : Heads) (tokens : List Token) → (blank ≡ true → also_blank ≡ true) → within first second ≡ true
    → Opens blank first tokens → Opens also_blank second tokens
Opens-wider false false first second tokens may w h = starts-wider first second tokens w h
Opens-wider false true first second tokens may w h = inr (starts-wider first second tokens w h)
Opens-wider true false first second tokens may w h = absurd (false≢true (may refl))
Opens-wider true true first second tokens may w (inl e) = inl e
Opens-wider true true first second tokens may w (inr h) = inr (starts-wider first second tokens w h)

-- one of two things
pub Opens-or_first : (blank also_blank : Bool) (first second : Heads) (tokens : List Token) → Opens blank first tokens
    → Opens (blank || also_blank) (or first second) tokens
Opens-or_first false false first second tokens h = starts-or_first first second tokens h
Opens-or_first false true first second tokens h = inr (starts-or_first first second tokens h)
Opens-or_first true also_blank first second tokens (inl e) = inl e
Opens-or_first true also_blank first second tokens (inr h) = inr (starts-or_first first second tokens h)

pub Opens-or_second : (blank also_blank : Bool) (first second : Heads) (tokens : List Token) → Opens also_blank second tokens
    → Opens (blank || also_blank) (or first second) tokens
Opens-or_second false false first second tokens h = starts-or_second first second tokens h
Opens-or_second false true first second tokens (inl e) = inl e
Opens-or_second false true first second tokens (inr h) = inr (starts-or_second first second tokens h)
Opens-or_second true false first second tokens h = inr (starts-or_second first second tokens h)
Opens-or_second true true first second tokens (inl e) = inl e
Opens-or_second true true first second tokens (inr h) = inr (starts-or_second first second tokens h)
