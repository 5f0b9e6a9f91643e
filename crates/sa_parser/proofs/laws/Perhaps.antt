-- A reading or nothing.
use Rattle.std.proofs.Common.{◌≡◌, ℕ, ◌⊎◌, suc, Bool, true, false, List, [], ◌∷◌, ◌++◌, length, Option, Some, None, Ok, Err, refl, sym, ◌∙◌, inl, inr}
use Rattle.std.proofs.lemmas.Bool.{cases_Bool}
use Rattle.std.proofs.lemmas.List.{append_cancel_right}
use Rattle.sa_lexer.specs.declared.token.Token.{Token}
use Rattle.sa_parser.specs.Form.{Form, Perhaps}
use Rattle.sa_parser.specs.inner.Reading.{Reader, given, made, perhaps}
use Rattle.sa_parser.proofs.Heads.{Heads, or, starts, within}
use Rattle.sa_parser.proofs.Law.{Shape, Opens, Law, Ahead, Deeper}
use Rattle.sa_parser.proofs.Looks.{Looks, Looks-other}
use Rattle.sa_parser.proofs.Opens.{Opens-full}
use Rattle.sa_parser.proofs.Outcomes.{same_value, same_rest}
use Rattle.sa_parser.proofs.Starts.{starts-within, starts-or_neither}
use Rattle.sa_parser.proofs.laws.Made.{made-computes, made-fails, made-found, made-faulty}

abbrev pub perhaps_shape : Heads → Shape → Shape
perhaps_shape heads shape = record { opens = shape.opens; blank = true; goes_on = or shape.goes_on heads }

module _ {A : Type 0} (looks : List Token → Bool) (read : Reader A) (tokens : List Token) where
  perhaps-reads : looks tokens ≡ true → perhaps looks read tokens ≡ made Some read tokens
  unfolding perhaps made
  perhaps-reads e = rw e

  perhaps-skips : looks tokens ≡ false → perhaps looks read tokens ≡ Ok (None, tokens)
  unfolding perhaps
  perhaps-skips e = rw e

  perhaps-computes : (part : A) (rest : List Token) → looks tokens ≡ true → read tokens ≡ Ok (part, rest) → perhaps looks read tokens ≡ Ok (Some part, rest)
  perhaps-computes part rest sees e = perhaps-reads sees ∙ made-computes Some read tokens part rest e

  perhaps-fails : (left : ℕ) → looks tokens ≡ true → read tokens ≡ Err left → perhaps looks read tokens ≡ Err left
  perhaps-fails left sees e = perhaps-reads sees ∙ made-fails Some read tokens left e

  perhaps-found : (value : Option A) (rest : List Token) → perhaps looks read tokens ≡ Ok (value, rest)
      → ((looks tokens ≡ true) × ((part : A) × (read tokens ≡ Ok (part, rest)) × (value ≡ Some part)))
      ⊎ ((looks tokens ≡ false) × (value ≡ None) × (tokens ≡ rest))
  perhaps-found value rest e =
      elim (cases_Bool (looks tokens)) [
        | inl sees ↦ inl (sees, made-found Some read tokens value rest (sym (perhaps-reads sees) ∙ e))
        | inr not ↦
            let same : given {A = Option A} None tokens ≡ Ok (value, rest) = sym (perhaps-skips not) ∙ e in
            inr (not, sym (same_value None value tokens rest same), same_rest None value tokens rest same)
      ]

  perhaps-faulty : (left : ℕ) → perhaps looks read tokens ≡ Err left → (looks tokens ≡ true) × (read tokens ≡ Err left)
  perhaps-faulty left e =
      elim (cases_Bool (looks tokens)) [
        | inl sees ↦ (sees, made-faulty Some read tokens left (sym (perhaps-reads sees) ∙ e))
        | inr not ↦ let same = sym (perhaps-skips not) ∙ e in cc
      ]

module _ {A : Type 0} {Is Wide : Form A} {shape : Shape} {heads : Heads} {looks : List Token → Bool} {read : Reader A}
    (look : Looks heads looks) (law : Law Is Wide shape read) where
  perhaps-sound : (tokens : List Token) (value : Option A) (rest : List Token) → perhaps looks read tokens ≡ Ok (value, rest)
      → (before : List Token) × (tokens ≡ before ++ rest) × Perhaps Is before value
  unfolding Perhaps
  perhaps-sound tokens value rest e =
      elim (perhaps-found looks read tokens value rest e) [
        | inl found ↦
            let (sees, (part, f, v)) = found in
            let (before, parts, is) = law.sound tokens part rest f in
            (before, parts, rw v is)
        | inr found ↦ ([], found.2, rw found.1 refl)
      ]

  perhaps-complete : shape.blank ≡ false → within shape.opens heads ≡ true → (before rest : List Token) (value : Option A)
      → Perhaps Is before value → starts (or shape.goes_on heads) rest ≡ false → perhaps looks read (before ++ rest) ≡ Ok (value, rest)
  unfolding Perhaps
  perhaps-complete full w before rest None is quiet =
      rw is (perhaps-skips looks read rest (look.is rest ∙ (starts-or_neither shape.goes_on heads rest quiet).1))
  perhaps-complete full w before rest (Some value) is quiet =
      perhaps-computes looks read (before ++ rest) value rest
      (look.is (before ++ rest) ∙ starts-within shape.opens heads before rest w (Opens-full shape.blank shape.opens before full (law.opens before value is)))
      (law.complete before rest value is (starts-or_neither shape.goes_on heads rest quiet).0)

  perhaps-begun : (tokens : List Token) (left : ℕ) → perhaps looks read tokens ≡ Err left
      → (before : List Token) × (behind : List Token) × (after : List Token) × (value : Option A) × (tokens ≡ before ++ behind) × (left ≡ length behind) × Perhaps Wide (before ++ after) value
  unfolding Perhaps
  perhaps-begun tokens left e =
      let (before, behind, after, part, parts, count, wide) = law.begun tokens left (perhaps-faulty looks read tokens left e).1 in
      (before, behind, after, Some part, parts, count, wide)

module _ {A : Type 0} {Is Wide : Form A} {shape : Shape} {read : Reader A} (law : Law Is Wide shape read) where
  perhaps-opens : shape.blank ≡ false → (tokens : List Token) (value : Option A) → Perhaps Is tokens value → Opens true shape.opens tokens
  unfolding Perhaps
  perhaps-opens full tokens None is = inl is
  perhaps-opens full tokens (Some value) is = inr (Opens-full shape.blank shape.opens tokens full (law.opens tokens value is))

  perhaps-widens : (tokens : List Token) (value : Option A) → Perhaps Is tokens value → Perhaps Wide tokens value
  unfolding Perhaps
  perhaps-widens tokens None is = is
  perhaps-widens tokens (Some value) is = law.widens tokens value is

pub perhaps-Law : {A : Type 0} {Is Wide : Form A} {shape : Shape} {heads : Heads} {looks : List Token → Bool} {read : Reader A}
    → Looks heads looks → Law Is Wide shape read → shape.blank ≡ false → within shape.opens heads ≡ true
    → Law (Perhaps Is) (Perhaps Wide) (perhaps_shape heads shape) (perhaps looks read)
unfolding Perhaps
perhaps-Law look law full w = record {
  sound = perhaps-sound look law;
  complete = perhaps-complete look law full w;
  opens = perhaps-opens law full;
  widens = perhaps-widens law;
  begun = perhaps-begun look law;
  some = ([], None, refl);
}

module _ {A : Type 0} {heads : Heads} {looks : List Token → Bool} {read : Reader A} (look : Looks heads looks) (ahead : Ahead read) where
  perhaps-ahead_found : (before : List Token) (token : Token) (behind other : List Token) (value : Option A)
      → perhaps looks read (before ++ token ∷ behind) ≡ Ok (value, token ∷ behind)
      → perhaps looks read (before ++ token ∷ other) ≡ Ok (value, token ∷ other)
  perhaps-ahead_found before token behind other value e =
      let same = Looks-other look before token behind other in
      elim (perhaps-found looks read (before ++ token ∷ behind) value (token ∷ behind) e) [
        | inl found ↦
            let (sees, (part, f, v)) = found in
            rw v (perhaps-computes looks read (before ++ token ∷ other) part (token ∷ other) (sym same ∙ sees) (ahead.found before token behind other part f))
        | inr found ↦
            let (not, v, all) = found in
            let nothing : before ≡ [] = append_cancel_right before [] (token ∷ behind) all in
            perhaps-skips looks read (before ++ token ∷ other) (sym same ∙ not) ∙ rw (nothing, v)
      ]

  perhaps-ahead_faulty : (before : List Token) (token : Token) (behind other : List Token)
      → perhaps looks read (before ++ token ∷ behind) ≡ Err (suc (length behind))
      → perhaps looks read (before ++ token ∷ other) ≡ Err (suc (length other))
  perhaps-ahead_faulty before token behind other e =
      let (sees, f) = perhaps-faulty looks read (before ++ token ∷ behind) (suc (length behind)) e in
      perhaps-fails looks read (before ++ token ∷ other) (suc (length other)) (sym (Looks-other look before token behind other) ∙ sees)
      (ahead.faulty before token behind other f)

  pub perhaps-Ahead : Ahead (perhaps looks read)
  perhaps-Ahead = record { found = perhaps-ahead_found; faulty = perhaps-ahead_faulty }

pub perhaps-Deeper : {A : Type 0} {levels : ℕ} (looks : List Token → Bool) {read deeper : Reader A}
    → Deeper levels read deeper → Deeper levels (perhaps looks read) (perhaps looks deeper)
perhaps-Deeper looks {read} {deeper} keeps = record {
  found = λ tokens value rest e.
      elim (perhaps-found looks read tokens value rest e) [
        | inl found ↦
            let (sees, (part, f, v)) = found in
            rw v (perhaps-computes looks deeper tokens part rest sees (keeps.found tokens part rest f))
        | inr found ↦
            let (not, v, all) = found in
            perhaps-skips looks deeper tokens not ∙ rw (v, all)
      ];
  faulty = λ tokens left e few.
      let (sees, f) = perhaps-faulty looks read tokens left e in
      perhaps-fails looks deeper tokens left sees (keeps.faulty tokens left f few);
}
