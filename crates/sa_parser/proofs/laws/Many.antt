-- A reading any number of times. Each takes a token at least, so as many turns as there are tokens are enough.
use Rattle.std.proofs.Common.{◌≡◌, ℕ, zero, suc, ◌+◌, ◌<◌, ◌≤◌, Bool, true, false, List, [], ◌∷◌, ◌++◌, length, Ok, Err, refl, sym, ap, ◌∙◌, inl, inr, arith, length-append, append_assoc, append-nil}
use Rattle.std.proofs.lemmas.List.{append_cancel_right}
use Rattle.sa_lexer.specs.declared.token.Token.{Token}
use Rattle.sa_parser.specs.Form.{Form, Many}
use Rattle.sa_parser.specs.inner.Reading.{Reader}
use Rattle.sa_parser.proofs.Heads.{Heads, or, starts, apart, within}
use Rattle.sa_parser.proofs.Law.{Shape, Opens, Law, Ahead, Deeper}
use Rattle.sa_parser.proofs.Looks.{Looks, Looks-other}
use Rattle.sa_parser.proofs.Opens.{Opens-full, quiet-append}
use Rattle.sa_parser.proofs.Outcomes.{same_value, same_rest}
use Rattle.sa_parser.proofs.Parts.{Parts, parted, found-further}
use Rattle.sa_parser.proofs.Starts.{starts-append, starts-within, starts-fewer, starts-or_neither}
use Rattle.sa_parser.proofs.laws.Several.{several, several-none, several-stops, several-computes, several-fails, several-fails_later, several-found, several-faulty, several-parted, several-parted_faulty}

abbrev pub many_shape : Heads → Shape → Shape
many_shape heads shape = record { opens = shape.opens; blank = true; goes_on = or heads shape.goes_on }

unfoldable pub many : {B : Type 0} → (List Token → Bool) → Reader B → Reader (List B)
many looks next tokens = several looks next (length tokens) tokens

module _ {B : Type 0} {Next Wide : Form B} {shape : Shape} (looks : List Token → Bool) {next : Reader B} (law : Law Next Wide shape next) where
  several-sound : (turns : ℕ) (tokens : List Token) (values : List B) (rest : List Token) → several looks next turns tokens ≡ Ok (values, rest)
      → (before : List Token) × (tokens ≡ before ++ rest) × Many Next before values
  unfolding Many
  several-sound zero tokens values rest e =
      let same = sym (several-none looks next tokens) ∙ e in
      ([], same_rest [] values tokens rest same, rw (sym (same_value [] values tokens rest same)) refl)
  several-sound (suc turns) tokens values rest e =
      elim (several-found looks next turns tokens values rest e) [
        | inl found ↦
            let (part, between, parts, sees, f, g, v) = found in
            let (front, one, is) = law.sound tokens part between f in
            let (back, more, are) = several-sound turns between parts rest g in (
              front ++ back,
              one ∙ ap (λ behind. front ++ behind) more ∙ sym (append_assoc front back rest),
              rw v (front, back, refl, is, are),
            )
        | inr found ↦ ([], found.2, rw found.1 refl)
      ]

  several-begun : (turns : ℕ) (tokens : List Token) (left : ℕ) → several looks next turns tokens ≡ Err left
      → (before : List Token) × (behind : List Token) × (after : List Token) × (values : List B) × (tokens ≡ before ++ behind) × (left ≡ length behind) × Many Wide (before ++ after) values
  unfolding Many
  several-begun zero tokens left e = let never = sym (several-none looks next tokens) ∙ e in cc
  several-begun (suc turns) tokens left e =
      elim (several-faulty looks next turns tokens left e).1 [
        | inl f ↦
            let (before, behind, after, part, parts, count, wide) = law.begun tokens left f in
            (before, behind, after, part ∷ [], parts, count, (before ++ after, [], sym (append-nil (before ++ after)), wide, refl))
        | inr found ↦
            let (part, between, f, g) = found in
            let (front, one, is) = law.sound tokens part between f in
            let (before, behind, after, values, more, count, wide) = several-begun turns between left g in (
              front ++ before,
              behind,
              after,
              part ∷ values,
              one ∙ ap (λ rest. front ++ rest) more ∙ sym (append_assoc front before behind),
              count,
              (front, before ++ after, append_assoc front before after, law.widens front part is, wide),
            )
      ]

  pub many-Parts : Parts (many looks next)
  unfolding many
  many-Parts = record {
    found = λ tokens values rest e. let (before, parts, are) = several-sound (length tokens) tokens values rest e in (before, parts);
    faulty = λ tokens left e.
        let (before, behind, after, values, parts, count, wide) = several-begun (length tokens) tokens left e in (before, behind, parts, count);
  }

module _ {B : Type 0} {Next Wide : Form B} {shape : Shape} {next : Reader B} (law : Law Next Wide shape next) where
  many-opens : shape.blank ≡ false → (tokens : List Token) (values : List B) → Many Next tokens values → Opens true shape.opens tokens
  unfolding Many
  many-opens full tokens [] are = inl are
  many-opens full tokens (value ∷ values) (front, back, parts, is, are) =
      inr (rw parts (starts-append shape.opens front back (Opens-full shape.blank shape.opens front full (law.opens front value is))))

  many-widens : (tokens : List Token) (values : List B) → Many Next tokens values → Many Wide tokens values
  unfolding Many
  many-widens tokens [] are = are
  many-widens tokens (value ∷ values) (front, back, parts, is, are) =
      (front, back, parts, law.widens front value is, many-widens back values are)

module _ {B : Type 0} {Next Wide : Form B} {shape : Shape} {heads : Heads} {looks : List Token → Bool} {next : Reader B}
    (look : Looks heads looks) (law : Law Next Wide shape next) (full : shape.blank ≡ false) where
  several-complete : within shape.opens heads ≡ true → apart shape.opens shape.goes_on ≡ true → (turns : ℕ) (before rest : List Token) (values : List B)
      → length before ≤ turns → Many Next before values → starts (or heads shape.goes_on) rest ≡ false
      → several looks next turns (before ++ rest) ≡ Ok (values, rest)
  unfolding Many
  several-complete w a turns before rest [] enough are quiet =
      rw are (several-stops looks next turns rest (look.is rest ∙ (starts-or_neither heads shape.goes_on rest quiet).0))
  several-complete w a zero before rest (value ∷ values) enough (front, back, parts, is, are) quiet =
      let fewer = starts-fewer shape.opens front back (Opens-full shape.blank shape.opens front full (law.opens front value is)) in
      absurd (omega (arith, fewer, enough, ap length parts))
  several-complete w a (suc turns) before rest (value ∷ values) enough (front, back, parts, is, are) quiet =
      let begins = Opens-full shape.blank shape.opens front full (law.opens front value is) in
      let fewer = starts-fewer shape.opens front back begins in
      let sees : looks (before ++ rest) ≡ true =
      look.is (before ++ rest) ∙ ap (starts heads) (ap (λ tokens. tokens ++ rest) parts ∙ append_assoc front back rest)
      ∙ starts-within shape.opens heads front (back ++ rest) w begins in
      let between = quiet-append true shape.opens shape.goes_on back rest a (many-opens law full back values are)
      (λ _. (starts-or_neither heads shape.goes_on rest quiet).1) in
      several-parted looks next turns before front back rest value values (value ∷ values) parts refl sees
      (law.complete front (back ++ rest) value is between)
      (several-complete w a turns back rest values (omega (arith, fewer, enough, ap length parts)) are quiet)

  several-ahead_found : Ahead next → (turns more_turns : ℕ) (before : List Token) (token : Token) (behind other : List Token) (values : List B)
      → length before < turns → length before < more_turns → several looks next turns (before ++ token ∷ behind) ≡ Ok (values, token ∷ behind)
      → several looks next more_turns (before ++ token ∷ other) ≡ Ok (values, token ∷ other)
  several-ahead_found ahead zero more_turns before token behind other values enough also e = absurd (omega (arith, enough))
  several-ahead_found ahead (suc turns) zero before token behind other values enough also e = absurd (omega (arith, also))
  several-ahead_found ahead (suc turns) (suc more_turns) before token behind other values enough also e =
      let same = sym (Looks-other look before token behind other) in
      elim (several-found looks next turns (before ++ token ∷ behind) values (token ∷ behind) e) [
        | inl found ↦
            let (part, between, parts, sees, f, g, v) = found in
            let (front, one, is) = law.sound (before ++ token ∷ behind) part between f in
            let (back, more, _) = several-sound looks law turns between parts (token ∷ behind) g in
            let whole : before ≡ front ++ back =
            append_cancel_right before (front ++ back) (token ∷ behind)
            (one ∙ ap (λ rest. front ++ rest) more ∙ sym (append_assoc front back (token ∷ behind))) in
            let fewer = starts-fewer shape.opens front back (Opens-full shape.blank shape.opens front full (law.opens front part is)) in
            let begun : next (front ++ (back ++ token ∷ behind)) ≡ Ok (part, back ++ token ∷ behind) =
            ap next (ap (λ rest. front ++ rest) (sym more) ∙ sym one) ∙ f ∙ ap (λ rest. Ok (part, rest)) more in
            let ended : several looks next turns (back ++ token ∷ behind) ≡ Ok (parts, token ∷ behind) = ap (several looks next turns) (sym more) ∙ g in
            several-parted looks next more_turns before front back (token ∷ other) part parts values whole v (same ∙ sees)
            (found-further ahead front back token behind other part begun)
            (several-ahead_found ahead turns more_turns back token behind other parts
            (omega (arith, fewer, enough, ap length whole)) (omega (arith, fewer, also, ap length whole)) ended)
        | inr found ↦
            let (not, v, all) = found in
            let nothing : before ≡ [] = append_cancel_right before [] (token ∷ behind) all in
            several-stops looks next (suc more_turns) (before ++ token ∷ other) (same ∙ not) ∙ rw (nothing, v)
      ]

  several-ahead_faulty : Ahead next → (turns more_turns : ℕ) (before : List Token) (token : Token) (behind other : List Token)
      → length before < turns → length before < more_turns → several looks next turns (before ++ token ∷ behind) ≡ Err (suc (length behind))
      → several looks next more_turns (before ++ token ∷ other) ≡ Err (suc (length other))
  several-ahead_faulty ahead zero more_turns before token behind other enough also e = absurd (omega (arith, enough))
  several-ahead_faulty ahead (suc turns) zero before token behind other enough also e = absurd (omega (arith, also))
  several-ahead_faulty ahead (suc turns) (suc more_turns) before token behind other enough also e =
      let same = sym (Looks-other look before token behind other) in
      let (sees, why) = several-faulty looks next turns (before ++ token ∷ behind) (suc (length behind)) e in
      elim why [
        | inl f ↦ several-fails looks next more_turns (before ++ token ∷ other) (suc (length other)) (same ∙ sees) (ahead.faulty before token behind other f)
        | inr found ↦
            let (part, between, f, g) = found in
            let (front, one, is) = law.sound (before ++ token ∷ behind) part between f in
            let (back, left, _, _, more, count, _) = several-begun looks law turns between (suc (length behind)) g in
            let (whole, here) = parted before (front ++ back) (token ∷ behind) left
            (one ∙ ap (λ rest. front ++ rest) more ∙ sym (append_assoc front back left)) count in
            let rest_is : between ≡ back ++ token ∷ behind = more ∙ ap (λ rest. back ++ rest) (sym here) in
            let fewer = starts-fewer shape.opens front back (Opens-full shape.blank shape.opens front full (law.opens front part is)) in
            let begun : next (front ++ (back ++ token ∷ behind)) ≡ Ok (part, back ++ token ∷ behind) =
            ap next (ap (λ rest. front ++ rest) (sym rest_is) ∙ sym one) ∙ f ∙ ap (λ rest. Ok (part, rest)) rest_is in
            let ended : several looks next turns (back ++ token ∷ behind) ≡ Err (suc (length behind)) = ap (several looks next turns) (sym rest_is) ∙ g in
            several-parted_faulty looks next more_turns before front back (token ∷ other) part (suc (length other)) whole (same ∙ sees)
            (found-further ahead front back token behind other part begun)
            (several-ahead_faulty ahead turns more_turns back token behind other
            (omega (arith, fewer, enough, ap length whole)) (omega (arith, fewer, also, ap length whole)) ended)
      ]

  pub many-Law : within shape.opens heads ≡ true → apart shape.opens shape.goes_on ≡ true
      → Law (Many Next) (Many Wide) (many_shape heads shape) (many looks next)
  unfolding many Many
  many-Law w a = record {
    sound = λ tokens. several-sound looks law (length tokens) tokens;
    complete = λ before rest values are quiet.
        several-complete w a (length (before ++ rest)) before rest values (omega (arith, length-append before rest)) are quiet;
    opens = many-opens law full;
    widens = many-widens law;
    begun = λ tokens. several-begun looks law (length tokens) tokens;
    some = ([], [], refl);
  }

  pub many-Ahead : Ahead next → Ahead (many looks next)
  unfolding many
  many-Ahead ahead = record {
    found = λ before token behind other values.
        several-ahead_found ahead (length (before ++ token ∷ behind)) (length (before ++ token ∷ other)) before token behind other values
        (omega (arith, length-append before (token ∷ behind))) (omega (arith, length-append before (token ∷ other)));
    faulty = λ before token behind other.
        several-ahead_faulty ahead (length (before ++ token ∷ behind)) (length (before ++ token ∷ other)) before token behind other
        (omega (arith, length-append before (token ∷ behind))) (omega (arith, length-append before (token ∷ other)));
  }

module _ {B : Type 0} {Next Wide : Form B} {shape : Shape} {levels : ℕ} (looks : List Token → Bool) {next deeper : Reader B}
    (law : Law Next Wide shape next) (keeps : Deeper levels next deeper) where
  several-deeper_found : (turns : ℕ) (tokens : List Token) (values : List B) (rest : List Token)
      → several looks next turns tokens ≡ Ok (values, rest) → several looks deeper turns tokens ≡ Ok (values, rest)
  several-deeper_found zero tokens values rest e = several-none looks deeper tokens ∙ sym (several-none looks next tokens) ∙ e
  several-deeper_found (suc turns) tokens values rest e =
      elim (several-found looks next turns tokens values rest e) [
        | inl found ↦
            let (part, between, parts, sees, f, g, v) = found in
            rw v (several-computes looks deeper turns tokens part between parts rest sees (keeps.found tokens part between f)
            (several-deeper_found turns between parts rest g))
        | inr found ↦
            let (not, v, all) = found in
            several-stops looks deeper (suc turns) tokens not ∙ rw (v, all)
      ]

  several-deeper_faulty : (turns : ℕ) (tokens : List Token) (left : ℕ) → several looks next turns tokens ≡ Err left → length tokens < levels + left
      → several looks deeper turns tokens ≡ Err left
  several-deeper_faulty zero tokens left e few = several-none looks deeper tokens ∙ sym (several-none looks next tokens) ∙ e
  several-deeper_faulty (suc turns) tokens left e few =
      let (sees, why) = several-faulty looks next turns tokens left e in
      elim why [
        | inl f ↦ several-fails looks deeper turns tokens left sees (keeps.faulty tokens left f few)
        | inr found ↦
            let (part, between, f, g) = found in
            let (front, one, _) = law.sound tokens part between f in
            let less : length between ≤ length tokens = omega (arith, ap length one, length-append front between) in
            several-fails_later looks deeper turns tokens part between left sees (keeps.found tokens part between f)
            (several-deeper_faulty turns between left g (omega (arith, less, few)))
      ]

  pub many-Deeper : Deeper levels (many looks next) (many looks deeper)
  unfolding many
  many-Deeper = record {
    found = λ tokens. several-deeper_found (length tokens) tokens;
    faulty = λ tokens. several-deeper_faulty (length tokens) tokens;
  }
