-- The reader that refuses at once.
use Rattle.std.proofs.Common.{◌≡◌, ℕ, suc, List, [], ◌∷◌, ◌++◌, length, Err, refl, ap, arith, length-append}
use Rattle.sa_lexer.specs.declared.token.Token.{Token}
use Rattle.sa_parser.specs.Form.{Form}
use Rattle.sa_parser.specs.inner.Reading.{Reader, refuse}
use Rattle.sa_parser.proofs.Law.{Shape, Law, Ahead, Deeper}
use Rattle.sa_parser.proofs.Outcomes.{same_left}

refuse-left : {A : Type 0} (tokens : List Token) (left : ℕ) → refuse {A = A} tokens ≡ Err left → left ≡ length tokens
refuse-left {A} tokens left e = same_left (refuse {A = A} tokens) left (length tokens) e refl

-- It agrees with a form that no tokens have, whatever the shape.
pub refuse-Law : {A : Type 0} {Is Wide : Form A} (shape : Shape) → ((tokens : List Token) (value : A) → Is tokens value → ⊥)
    → (tokens : List Token) (value : A) → Wide tokens value → Law Is Wide shape refuse
refuse-Law shape never example value wide = record {
  sound = λ tokens value rest e. cc;
  complete = λ before rest value is quiet. absurd (never before value is);
  opens = λ tokens value is. absurd (never tokens value is);
  widens = λ tokens value is. absurd (never tokens value is);
  begun = λ tokens left e. ([], tokens, example, value, refl, refuse-left tokens left e, wide);
  some = (example, value, wide);
}

pub refuse-Ahead : {A : Type 0} → Ahead (refuse {A = A})
refuse-Ahead {A} = record {
  found = λ before token behind other value e. cc;
  faulty = λ before token behind other e.
      let left = refuse-left {A = A} (before ++ token ∷ behind) (suc (length behind)) e in
      let count : length (before ++ token ∷ other) ≡ suc (length other) =
      omega (arith, left, length-append before (token ∷ behind), length-append before (token ∷ other)) in
      ap Err count;
}

pub refuse-Deeper : {A : Type 0} (deeper : Reader A) → Deeper 0 refuse deeper
refuse-Deeper {A} deeper = record {
  found = λ tokens value rest e. cc;
  faulty = λ tokens left e few. let all = refuse-left {A = A} tokens left e in absurd (omega (arith, all, few));
}
