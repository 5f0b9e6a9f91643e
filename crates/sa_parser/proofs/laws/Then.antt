-- A reading and then another one.
use Rattle.std.proofs.Common.{◌≡◌, ℕ, ◌+◌, ◌<◌, ◌≤◌, ◌⊎◌, suc, true, false, ◌&&◌, List, ◌∷◌, ◌++◌, length, Ok, Err, if◌then◌else◌, refl, sym, ap, ◌∙◌, inl, inr, arith, length-append, append_assoc}
use Rattle.std.proofs.lemmas.List.{append_cancel_right}
use Rattle.sa_lexer.specs.declared.token.Token.{Token}
use Rattle.sa_parser.specs.Form.{Form, Then}
use Rattle.sa_parser.specs.inner.Reading.{Reader, given, and_then, then_read}
use Rattle.sa_parser.proofs.Heads.{or, starts, apart}
use Rattle.sa_parser.proofs.Law.{Shape, Opens, Law, Ahead, Deeper}
use Rattle.sa_parser.proofs.Opens.{Opens-append, quiet-append, quiet-parts}
use Rattle.sa_parser.proofs.Outcomes.{same_value, same_rest, and_then-found, and_then-faulty}
use Rattle.sa_parser.proofs.Parts.{Parts, Law-Parts, parted, found-further}
use Rattle.sa_parser.proofs.Starts.{starts-fewer}

abbrev pub then_shape : Shape → Shape → Shape
then_shape first second = record {
  opens = if first.blank then or first.opens second.opens else first.opens;
  blank = first.blank && second.blank;
  goes_on = if second.blank then or second.goes_on first.goes_on else second.goes_on;
}

module _ {A B : Type 0} (first : Reader (A → B)) (second : Reader A) where
  pub then-computes : (tokens : List Token) (make : A → B) (between : List Token) (part : A) (rest : List Token) → first tokens ≡ Ok (make, between)
      → second between ≡ Ok (part, rest) → then_read first second tokens ≡ Ok (make part, rest)
  unfolding then_read
  then-computes tokens make between part rest e f = rw e (rw f)

  pub then-fails_first : (tokens : List Token) (left : ℕ) → first tokens ≡ Err left → then_read first second tokens ≡ Err left
  unfolding then_read
  then-fails_first tokens left e = rw e

  pub then-fails_second : (tokens : List Token) (make : A → B) (between : List Token) (left : ℕ) → first tokens ≡ Ok (make, between)
      → second between ≡ Err left → then_read first second tokens ≡ Err left
  unfolding then_read
  then-fails_second tokens make between left e f = rw e (rw f)

  -- a reading of tokens that are parted
  then-parted : (before front back rest : List Token) (make : A → B) (part : A) (value : B) → before ≡ front ++ back → value ≡ make part
      → first (front ++ (back ++ rest)) ≡ Ok (make, back ++ rest) → second (back ++ rest) ≡ Ok (part, rest)
      → then_read first second (before ++ rest) ≡ Ok (value, rest)
  then-parted before front back rest make part value parts v e f =
      rw (parts, v, append_assoc front back rest) (then-computes (front ++ (back ++ rest)) make (back ++ rest) part rest e f)

  then-parted_faulty : (before front back rest : List Token) (make : A → B) (left : ℕ) → before ≡ front ++ back
      → first (front ++ (back ++ rest)) ≡ Ok (make, back ++ rest) → second (back ++ rest) ≡ Err left
      → then_read first second (before ++ rest) ≡ Err left
  then-parted_faulty before front back rest make left parts e f =
      rw (parts, append_assoc front back rest) (then-fails_second (front ++ (back ++ rest)) make (back ++ rest) left e f)

  pub then-found : (tokens : List Token) (value : B) (rest : List Token) → then_read first second tokens ≡ Ok (value, rest)
      → (make : A → B) × (between : List Token) × (part : A) × (first tokens ≡ Ok (make, between)) × (second between ≡ Ok (part, rest)) × (value ≡ make part)
  unfolding then_read
  then-found tokens value rest e =
      let (make, between, f, g) = and_then-found (λ make rest. and_then (second rest) (λ part. given (make part))) (first tokens) value rest e in
      let (part, behind, h, k) = and_then-found (λ part. given (make part)) (second between) value rest g in
      (make, between, part, f, h ∙ ap (λ after. Ok (part, after)) (same_rest (make part) value behind rest k), sym (same_value (make part) value behind rest k))

  pub then-faulty : (tokens : List Token) (left : ℕ) → then_read first second tokens ≡ Err left
      → (first tokens ≡ Err left) ⊎ ((make : A → B) × (between : List Token) × (first tokens ≡ Ok (make, between)) × (second between ≡ Err left))
  unfolding then_read
  then-faulty tokens left e =
      elim (and_then-faulty (λ make rest. and_then (second rest) (λ part. given (make part))) (first tokens) left e) [
        | inl f ↦ inl f
        | inr found ↦
            let (make, between, f, g) = found in
            elim (and_then-faulty (λ part. given (make part)) (second between) left g) [
              | inl h ↦ inr (make, between, f, h)
              | inr more ↦ let (part, behind, h, k) = more in cc
            ]
      ]

module _ {A B : Type 0} {First AlsoFirst : Form (A → B)} {Second AlsoSecond : Form A} {start end : Shape} {first : Reader (A → B)} {second : Reader A}
    (begins : Law First AlsoFirst start first) (ends : Law Second AlsoSecond end second) where
  then-sound : (tokens : List Token) (value : B) (rest : List Token) → then_read first second tokens ≡ Ok (value, rest)
      → (before : List Token) × (tokens ≡ before ++ rest) × Then First Second before value
  unfolding Then
  then-sound tokens value rest e =
      let (make, between, part, f, g, v) = then-found first second tokens value rest e in
      let (before, parts, is) = begins.sound tokens make between f in
      let (after, more, also) = ends.sound between part rest g in
      (before ++ after, parts ∙ ap (λ behind. before ++ behind) more ∙ sym (append_assoc before after rest), (before, after, make, part, refl, is, also, v))

  then-complete : apart end.opens start.goes_on ≡ true → (before rest : List Token) (value : B) → Then First Second before value
      → starts (then_shape start end).goes_on rest ≡ false → then_read first second (before ++ rest) ≡ Ok (value, rest)
  unfolding Then
  then-complete a before rest value is quiet =
      let (front, back, make, part, parts, one, other, v) = is in
      let (behind, if_blank) = quiet-parts end.blank end.goes_on start.goes_on rest quiet in
      let between = quiet-append end.blank end.opens start.goes_on back rest a (ends.opens back part other) if_blank in
      then-parted first second before front back rest make part value parts v
      (begins.complete front (back ++ rest) make one between) (ends.complete back rest part other behind)

  then-opens : (tokens : List Token) (value : B) → Then First Second tokens value → Opens (start.blank && end.blank) (then_shape start end).opens tokens
  unfolding Then
  then-opens tokens value (front, back, make, part, parts, one, other, v) =
      rw parts (Opens-append start.blank end.blank start.opens end.opens front back (begins.opens front make one) (ends.opens back part other))

  then-widens : (tokens : List Token) (value : B) → Then First Second tokens value → Then AlsoFirst AlsoSecond tokens value
  unfolding Then
  then-widens tokens value (front, back, make, part, parts, one, other, v) =
      (front, back, make, part, parts, begins.widens front make one, ends.widens back part other, v)

  then-begun : (tokens : List Token) (left : ℕ) → then_read first second tokens ≡ Err left
      → (before : List Token) × (behind : List Token) × (after : List Token) × (value : B) × (tokens ≡ before ++ behind) × (left ≡ length behind) × Then AlsoFirst AlsoSecond (before ++ after) value
  unfolding Then
  then-begun tokens left e =
      elim (then-faulty first second tokens left e) [
        | inl f ↦
            let (before, behind, after, make, parts, count, wide) = begins.begun tokens left f in
            let (example, part, also) = ends.some in (
              before,
              behind,
              after ++ example,
              make part,
              parts,
              count,
              (before ++ after, example, make, part, sym (append_assoc before after example), wide, also, refl),
            )
        | inr found ↦
            let (make, between, f, g) = found in
            let (front, parts, is) = begins.sound tokens make between f in
            let (before, behind, after, part, more, count, wide) = ends.begun between left g in (
              front ++ before,
              behind,
              after,
              make part,
              parts ∙ ap (λ rest. front ++ rest) more ∙ sym (append_assoc front before behind),
              count,
              (front, before ++ after, make, part, append_assoc front before after, begins.widens front make is, wide, refl),
            )
      ]

  then-some : (tokens : List Token) × (value : B) × Then AlsoFirst AlsoSecond tokens value
  unfolding Then
  then-some =
      let (front, make, one) = begins.some in
      let (back, part, other) = ends.some in
      (front ++ back, make part, (front, back, make, part, refl, one, other, refl))

  pub then-Law : apart end.opens start.goes_on ≡ true → Law (Then First Second) (Then AlsoFirst AlsoSecond) (then_shape start end) (then_read first second)
  then-Law a = record {
    sound = then-sound;
    complete = then-complete a;
    opens = then-opens;
    widens = then-widens;
    begun = then-begun;
    some = then-some;
  }

module _ {A B : Type 0} {first : Reader (A → B)} {second : Reader A} (begins : Parts first) (ends : Parts second) where
  then-ahead_found : Ahead first → Ahead second → (before : List Token) (token : Token) (behind other : List Token) (value : B)
      → then_read first second (before ++ token ∷ behind) ≡ Ok (value, token ∷ behind)
      → then_read first second (before ++ token ∷ other) ≡ Ok (value, token ∷ other)
  then-ahead_found one two before token behind other value e =
      let (make, between, part, f, g, v) = then-found first second (before ++ token ∷ behind) value (token ∷ behind) e in
      let (front, parts) = begins.found (before ++ token ∷ behind) make between f in
      let (back, more) = ends.found between part (token ∷ behind) g in
      let whole : before ≡ front ++ back =
      append_cancel_right before (front ++ back) (token ∷ behind)
      (parts ∙ ap (λ rest. front ++ rest) more ∙ sym (append_assoc front back (token ∷ behind))) in
      let begun : first (front ++ (back ++ token ∷ behind)) ≡ Ok (make, back ++ token ∷ behind) =
      ap first (ap (λ rest. front ++ rest) (sym more) ∙ sym parts) ∙ f ∙ ap (λ rest. Ok (make, rest)) more in
      let ended : second (back ++ token ∷ behind) ≡ Ok (part, token ∷ behind) = ap second (sym more) ∙ g in
      then-parted first second before front back (token ∷ other) make part value whole v
      (found-further one front back token behind other make begun) (two.found back token behind other part ended)

  then-ahead_faulty : Ahead first → Ahead second → (before : List Token) (token : Token) (behind other : List Token)
      → then_read first second (before ++ token ∷ behind) ≡ Err (suc (length behind))
      → then_read first second (before ++ token ∷ other) ≡ Err (suc (length other))
  then-ahead_faulty one two before token behind other e =
      elim (then-faulty first second (before ++ token ∷ behind) (suc (length behind)) e) [
        | inl f ↦ then-fails_first first second (before ++ token ∷ other) (suc (length other)) (one.faulty before token behind other f)
        | inr found ↦
            let (make, between, f, g) = found in
            let (front, parts) = begins.found (before ++ token ∷ behind) make between f in
            let (back, left, more, count) = ends.faulty between (suc (length behind)) g in
            let (whole, same) = parted before (front ++ back) (token ∷ behind) left
            (parts ∙ ap (λ rest. front ++ rest) more ∙ sym (append_assoc front back left)) count in
            let here : between ≡ back ++ token ∷ behind = more ∙ ap (λ rest. back ++ rest) (sym same) in
            let begun : first (front ++ (back ++ token ∷ behind)) ≡ Ok (make, back ++ token ∷ behind) =
            ap first (ap (λ rest. front ++ rest) (sym here) ∙ sym parts) ∙ f ∙ ap (λ rest. Ok (make, rest)) here in
            let ended : second (back ++ token ∷ behind) ≡ Err (suc (length behind)) = ap second (sym here) ∙ g in
            then-parted_faulty first second before front back (token ∷ other) make (suc (length other)) whole
            (found-further one front back token behind other make begun) (two.faulty back token behind other ended)
      ]

  pub then-Ahead_parts : Ahead first → Ahead second → Ahead (then_read first second)
  then-Ahead_parts one two = record { found = then-ahead_found one two; faulty = then-ahead_faulty one two }

pub then-Ahead : {A B : Type 0} {First AlsoFirst : Form (A → B)} {Second AlsoSecond : Form A} {start end : Shape} {first : Reader (A → B)} {second : Reader A}
    → Law First AlsoFirst start first → Law Second AlsoSecond end second → Ahead first → Ahead second → Ahead (then_read first second)
then-Ahead begins ends = then-Ahead_parts (Law-Parts begins) (Law-Parts ends)

module _ {A B : Type 0} {First AlsoFirst : Form (A → B)} {start : Shape} {first : Reader (A → B)}
    (begins : Law First AlsoFirst start first) where
  -- what is left after the first reading is no longer
  then-less : (tokens : List Token) (make : A → B) (between : List Token) → first tokens ≡ Ok (make, between) → length between ≤ length tokens
  then-less tokens make between f =
      let (front, parts, _) = begins.sound tokens make between f in
      omega (arith, ap length parts, length-append front between)

  -- and shorter, where the first form has a token
  then-fewer : start.blank ≡ false → (tokens : List Token) (make : A → B) (between : List Token) → first tokens ≡ Ok (make, between)
      → length between < length tokens
  then-fewer full tokens make between f =
      let (front, parts, is) = begins.sound tokens make between f in
      let first_token : starts start.opens front ≡ true = rw full at (begins.opens front make is) in
      rw parts (starts-fewer start.opens front between first_token)

module _ {A B : Type 0} {First AlsoFirst : Form (A → B)} {start : Shape} {first deep : Reader (A → B)} {second down : Reader A}
    (begins : Law First AlsoFirst start first) where
  then-deeper_found : {levels fewer : ℕ} → Deeper levels first deep → Deeper fewer second down
      → (tokens : List Token) (value : B) (rest : List Token)
      → then_read first second tokens ≡ Ok (value, rest) → then_read deep down tokens ≡ Ok (value, rest)
  then-deeper_found one two tokens value rest e =
      let (make, between, part, f, g, v) = then-found first second tokens value rest e in
      rw v (then-computes deep down tokens make between part rest (one.found tokens make between f) (two.found between part rest g))

  then-deeper_faulty : {levels fewer : ℕ} → Deeper levels first deep → Deeper fewer second down
      → ((tokens : List Token) (make : A → B) (between : List Token) (left : ℕ) → first tokens ≡ Ok (make, between)
      → length tokens < levels + left → length between < fewer + left)
      → (tokens : List Token) (left : ℕ) → then_read first second tokens ≡ Err left → length tokens < levels + left
      → then_read deep down tokens ≡ Err left
  then-deeper_faulty one two further tokens left e few =
      elim (then-faulty first second tokens left e) [
        | inl f ↦ then-fails_first deep down tokens left (one.faulty tokens left f few)
        | inr found ↦
            let (make, between, f, g) = found in
            then-fails_second deep down tokens make between left (one.found tokens make between f)
            (two.faulty between left g (further tokens make between left f few))
      ]

  pub then-Deeper : {levels : ℕ} → Deeper levels first deep → Deeper levels second down → Deeper levels (then_read first second) (then_read deep down)
  then-Deeper {levels} one two = record {
    found = then-deeper_found one two;
    faulty = then-deeper_faulty one two
        (λ tokens make between left f few. let less = then-less begins tokens make between f in omega (arith, less, few));
  }

  -- where the first form has a token, the second reader may be one level less deep
  pub then-Deeper_down : {levels : ℕ} → start.blank ≡ false → Deeper (suc levels) first deep → Deeper levels second down
      → Deeper (suc levels) (then_read first second) (then_read deep down)
  then-Deeper_down {levels} full one two = record {
    found = then-deeper_found one two;
    faulty = then-deeper_faulty one two
        (λ tokens make between left f few. let fewer = then-fewer begins full tokens make between f in omega (arith, fewer, few));
  }
