-- Readers that fail at their first token.
use Rattle.std.proofs.Common.{◌≡◌, ℕ, true, false, List, [], ◌∷◌, length, Option, Err, refl, ap, inl, inr, arith, length-append}
use Rattle.std.proofs.lemmas.Bool.{and_from}
use Rattle.sa_lexer.specs.declared.token.Token.{Token}
use Rattle.sa_parser.specs.Form.{Form, One}
use Rattle.sa_parser.specs.inner.Reading.{Reader, one, then_read}
use Rattle.sa_parser.proofs.Heads.{Heads, has}
use Rattle.sa_parser.proofs.Law.{Shape, Law}
use Rattle.sa_parser.proofs.Opens.{Opens-full}
use Rattle.sa_parser.proofs.Starts.{starts-none, starts-fewer}
use Rattle.sa_parser.proofs.LooksAhead.{Suffices}
use Rattle.sa_parser.proofs.laws.One.{one_shape}
use Rattle.sa_parser.proofs.laws.Then.{then-faulty}

module _ {A B : Type 0} {First AlsoFirst : Form (A → B)} {Second AlsoSecond : Form A} {start end : Shape} {first : Reader (A → B)} {second : Reader A}
    (begins : Law First AlsoFirst start first) (full : start.blank ≡ false) (ends : Law Second AlsoSecond end second) where
  -- where two readings fail at once, the first of them does
  pub fails-first : (tokens : List Token) → then_read first second tokens ≡ Err (length tokens) → first tokens ≡ Err (length tokens)
  fails-first tokens e =
      elim (then-faulty first second tokens (length tokens) e) [
        | inl f ↦ f
        | inr found ↦
            let (make, between, f, g) = found in
            let (front, parts, is) = begins.sound tokens make between f in
            let (before, behind, after, value, more, count, wide) = ends.begun between (length tokens) g in
            let fewer = starts-fewer start.opens front between (Opens-full start.blank start.opens front full (begins.opens front make is)) in
            absurd (omega (arith, fewer, ap length parts, ap length more, count, length-append before behind))
      ]

-- What begins with its token doesn't fail there.
pub one-fails_not : {A : Type 0} (told : Token → Option A) {heads : Heads} → Law (One told) (One told) (one_shape heads) (one told)
    → Suffices (has heads ∷ []) (One told) → (token : Token) (behind : List Token) (left : ℕ) → has heads token.kind ≡ true
    → one told (token ∷ behind) ≡ Err left → ⊥
one-fails_not told {heads} law suffices token behind left h e =
    let (value, is) = suffices.is (token ∷ []) (and_from (has heads token.kind) true h refl) in
    let read = law.complete (token ∷ []) behind value is (starts-none behind) in
    cc
