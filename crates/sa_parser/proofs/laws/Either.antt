-- One reading or another, by a look at the first token.
use Rattle.std.proofs.Common.{◌≡◌, ℕ, ◌⊎◌, suc, Bool, true, false, List, ◌∷◌, ◌++◌, length, Ok, Err, sym, ◌∙◌, inl, inr}
use Rattle.std.proofs.lemmas.Bool.{cases_Bool}
use Rattle.sa_lexer.specs.declared.token.Token.{Token}
use Rattle.sa_parser.specs.Form.{Form, Either}
use Rattle.sa_parser.specs.inner.Reading.{Reader, Outcome, either}
use Rattle.sa_parser.proofs.Heads.{Heads, or, starts, apart, within}
use Rattle.sa_parser.proofs.Law.{Shape, Law, Ahead, Deeper}
use Rattle.sa_parser.proofs.Looks.{Looks, Looks-other}
use Rattle.sa_parser.proofs.Opens.{Opens-full}
use Rattle.sa_parser.proofs.Starts.{starts-within, starts-apart, starts-or_first, starts-or_second, starts-or_neither}

abbrev pub either_shape : Shape → Shape → Shape
either_shape first second = record {
  opens = or first.opens second.opens;
  blank = false;
  goes_on = or first.goes_on second.goes_on;
}

module _ {A : Type 0} (looks : List Token → Bool) (first second : Reader A) (tokens : List Token) where
  pub either-first : looks tokens ≡ true → either looks first second tokens ≡ first tokens
  unfolding either
  either-first e = rw e

  pub either-second : looks tokens ≡ false → either looks first second tokens ≡ second tokens
  unfolding either
  either-second e = rw e

  -- what is read is read by one or the other
  pub either-cases : (outcome : Outcome A) → either looks first second tokens ≡ outcome
      → ((looks tokens ≡ true) × (first tokens ≡ outcome)) ⊎ ((looks tokens ≡ false) × (second tokens ≡ outcome))
  either-cases outcome e =
      elim (cases_Bool (looks tokens)) [
        | inl sees ↦ inl (sees, sym (either-first sees) ∙ e)
        | inr not ↦ inr (not, sym (either-second not) ∙ e)
      ]

module _ {A : Type 0} {First AlsoFirst Second AlsoSecond : Form A} {one two : Shape} {first second : Reader A}
    (law : Law First AlsoFirst one first) (other : Law Second AlsoSecond two second) where
  pub either-widens : (tokens : List Token) (value : A) → Either First Second tokens value → Either AlsoFirst AlsoSecond tokens value
  unfolding Either
  either-widens tokens value (inl is) = inl (law.widens tokens value is)
  either-widens tokens value (inr is) = inr (other.widens tokens value is)

  pub either-some : (tokens : List Token) × (value : A) × Either AlsoFirst AlsoSecond tokens value
  unfolding Either
  either-some = (law.some.0, law.some.1, inl law.some.2)

-- what holds of both parts whatever the look is
module _ {A : Type 0} {First AlsoFirst Second AlsoSecond : Form A} {one two : Shape} (looks : List Token → Bool) {first second : Reader A}
    (law : Law First AlsoFirst one first) (other : Law Second AlsoSecond two second) where
  pub either-sound : (tokens : List Token) (value : A) (rest : List Token) → either looks first second tokens ≡ Ok (value, rest)
      → (before : List Token) × (tokens ≡ before ++ rest) × Either First Second before value
  unfolding Either
  either-sound tokens value rest e =
      elim (either-cases looks first second tokens (Ok (value, rest)) e) [
        | inl found ↦ let (before, parts, is) = law.sound tokens value rest found.1 in (before, parts, inl is)
        | inr found ↦ let (before, parts, is) = other.sound tokens value rest found.1 in (before, parts, inr is)
      ]

  pub either-begun : (tokens : List Token) (left : ℕ) → either looks first second tokens ≡ Err left
      → (before : List Token) × (behind : List Token) × (after : List Token) × (value : A) × (tokens ≡ before ++ behind) × (left ≡ length behind) × Either AlsoFirst AlsoSecond (before ++ after) value
  unfolding Either
  either-begun tokens left e =
      elim (either-cases looks first second tokens (Err left) e) [
        | inl found ↦
            let (before, behind, after, value, parts, count, wide) = law.begun tokens left found.1 in
            (before, behind, after, value, parts, count, inl wide)
        | inr found ↦
            let (before, behind, after, value, parts, count, wide) = other.begun tokens left found.1 in
            (before, behind, after, value, parts, count, inr wide)
      ]

module _ {A : Type 0} {First AlsoFirst Second AlsoSecond : Form A} {one two : Shape} {heads : Heads} {looks : List Token → Bool} {first second : Reader A}
    (look : Looks heads looks) (law : Law First AlsoFirst one first) (other : Law Second AlsoSecond two second)
    (full : one.blank ≡ false) (also_full : two.blank ≡ false) where
  either-complete : within one.opens heads ≡ true → apart two.opens heads ≡ true → (before rest : List Token) (value : A)
      → Either First Second before value → starts (either_shape one two).goes_on rest ≡ false
      → either looks first second (before ++ rest) ≡ Ok (value, rest)
  unfolding Either
  either-complete w a before rest value (inl is) quiet =
      either-first looks first second (before ++ rest)
      (look.is (before ++ rest) ∙ starts-within one.opens heads before rest w (Opens-full one.blank one.opens before full (law.opens before value is)))
      ∙ law.complete before rest value is (starts-or_neither one.goes_on two.goes_on rest quiet).0
  either-complete w a before rest value (inr is) quiet =
      either-second looks first second (before ++ rest)
      (look.is (before ++ rest) ∙ starts-apart two.opens heads before rest a (Opens-full two.blank two.opens before also_full (other.opens before value is)))
      ∙ other.complete before rest value is (starts-or_neither one.goes_on two.goes_on rest quiet).1

  either-opens : (tokens : List Token) (value : A) → Either First Second tokens value → starts (either_shape one two).opens tokens ≡ true
  unfolding Either
  either-opens tokens value (inl is) =
      starts-or_first one.opens two.opens tokens (Opens-full one.blank one.opens tokens full (law.opens tokens value is))
  either-opens tokens value (inr is) =
      starts-or_second one.opens two.opens tokens (Opens-full two.blank two.opens tokens also_full (other.opens tokens value is))

  pub either-Law : within one.opens heads ≡ true → apart two.opens heads ≡ true
      → Law (Either First Second) (Either AlsoFirst AlsoSecond) (either_shape one two) (either looks first second)
  either-Law w a = record {
    sound = either-sound looks law other;
    complete = either-complete w a;
    opens = either-opens;
    widens = either-widens law other;
    begun = either-begun looks law other;
    some = either-some law other;
  }

-- where the look sees the same whatever stands behind a token
module _ {A : Type 0} (looks : List Token → Bool) {first second : Reader A} (ahead : Ahead first) (also : Ahead second) where
  pub either-ahead_found : (before : List Token) (token : Token) (behind other : List Token) (value : A)
      → looks (before ++ token ∷ behind) ≡ looks (before ++ token ∷ other)
      → either looks first second (before ++ token ∷ behind) ≡ Ok (value, token ∷ behind)
      → either looks first second (before ++ token ∷ other) ≡ Ok (value, token ∷ other)
  either-ahead_found before token behind other value same e =
      elim (either-cases looks first second (before ++ token ∷ behind) (Ok (value, token ∷ behind)) e) [
        | inl found ↦ either-first looks first second (before ++ token ∷ other) (sym same ∙ found.0) ∙ ahead.found before token behind other value found.1
        | inr found ↦ either-second looks first second (before ++ token ∷ other) (sym same ∙ found.0) ∙ also.found before token behind other value found.1
      ]

  pub either-ahead_faulty : (before : List Token) (token : Token) (behind other : List Token)
      → looks (before ++ token ∷ behind) ≡ looks (before ++ token ∷ other)
      → either looks first second (before ++ token ∷ behind) ≡ Err (suc (length behind))
      → either looks first second (before ++ token ∷ other) ≡ Err (suc (length other))
  either-ahead_faulty before token behind other same e =
      elim (either-cases looks first second (before ++ token ∷ behind) (Err (suc (length behind))) e) [
        | inl found ↦ either-first looks first second (before ++ token ∷ other) (sym same ∙ found.0) ∙ ahead.faulty before token behind other found.1
        | inr found ↦ either-second looks first second (before ++ token ∷ other) (sym same ∙ found.0) ∙ also.faulty before token behind other found.1
      ]

pub either-Ahead : {A : Type 0} {heads : Heads} {looks : List Token → Bool} {first second : Reader A} → Looks heads looks
    → Ahead first → Ahead second → Ahead (either looks first second)
either-Ahead {looks} look ahead also = record {
  found = λ before token behind other value. either-ahead_found looks ahead also before token behind other value (Looks-other look before token behind other);
  faulty = λ before token behind other. either-ahead_faulty looks ahead also before token behind other (Looks-other look before token behind other);
}

pub either-Deeper : {A : Type 0} {levels : ℕ} (looks : List Token → Bool) {first second deep down : Reader A}
    → Deeper levels first deep → Deeper levels second down → Deeper levels (either looks first second) (either looks deep down)
either-Deeper looks {first} {second} {deep} {down} one two = record {
  found = λ tokens value rest e.
      elim (either-cases looks first second tokens (Ok (value, rest)) e) [
        | inl found ↦ either-first looks deep down tokens found.0 ∙ one.found tokens value rest found.1
        | inr found ↦ either-second looks deep down tokens found.0 ∙ two.found tokens value rest found.1
      ];
  faulty = λ tokens left e few.
      elim (either-cases looks first second tokens (Err left) e) [
        | inl found ↦ either-first looks deep down tokens found.0 ∙ one.faulty tokens left found.1 few
        | inr found ↦ either-second looks deep down tokens found.0 ∙ two.faulty tokens left found.1 few
      ];
}
