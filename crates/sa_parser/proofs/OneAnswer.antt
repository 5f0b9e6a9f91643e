-- Tokens have one answer.
use Rattle.std.proofs.Common.{◌≡◌, ◌≢◌, ℕ, ◌<◌, inl, inr, List, [], ◌∷◌, ◌++◌, Result, Ok, Err, refl, sym, ap, ◌∙◌, arith, append_assoc, append-nil}
use Rattle.sa_lexer.specs.declared.token.Token.{Token}
use Rattle.sa_parser.specs.declared.answer.ParseFault.{ParseFault}
use Rattle.sa_parser.specs.declared.answer.ParseFault.TheVariants.{Syntax, NotSupported, TooDeep, OutOfMemory}
use Rattle.sa_parser.specs.Form.{Form}
use Rattle.sa_parser.specs.Depth.{depth_of, most_levels, StaysFlat}
use Rattle.sa_parser.specs.Fault.{Begins, FaultyAt, IsUnsupported}
use Rattle.sa_parser.specs.Parse.{DeepensTooFar, StaysInLevels, HasFault, GoesTooDeep, IsAnswer}
use Rattle.sa_parser.proofs.Lists.{Same, Sooner, Later, parting}
use Rattle.sa_parser.proofs.Judging.{Begins-whole, no_begin-faulty}

begins-before : {A : Type 0} (Is : Form A) (before behind : List Token) → FaultyAt Is before behind → Begins Is before
begins-before Is before [] faulty = faulty.0
begins-before Is before (token ∷ behind) faulty = faulty.0

flat-before : (before behind : List Token) → StaysInLevels before behind → StaysFlat before
flat-before before [] stays = stays
flat-before before (token ∷ behind) stays = stays.0

-- Tokens with one that goes too deep don't stay flat.
not_flat : (tokens before more : List Token) (token next : Token) → token ≡ next → StaysFlat tokens → tokens ≡ before ++ next ∷ more → most_levels < depth_of (before ++ token ∷ []) → ⊥
not_flat tokens before more token next same flat parts deeper =
    omega (arith, flat (before ++ next ∷ []) more (parts ∙ sym (append_assoc before (next ∷ []) more)), rw same at deeper)

abbrev NotUnsupported : {A : Type 0} → Form A → List Token → List Token → Type 0
NotUnsupported Is before behind = IsUnsupported Is before behind → ⊥

module _ {A : Type 0} (Is : Form A) where
  -- A statement has no fault.
  whole-faultless : (before behind : List Token) (tree : A) → Is (before ++ behind) tree → FaultyAt Is before behind → ⊥
  whole-faultless before [] tree is faulty = faulty.1 tree (rw append-nil at is)
  whole-faultless before (token ∷ behind) tree is faulty = no_begin-faulty Is before behind token faulty (Begins-whole Is (before ++ token ∷ behind) tree is)

  -- No tokens that begin a statement go on behind a fault.
  no_begin-behind : (before behind : List Token) (tokens more rest : List Token) (next : Token) → FaultyAt Is before behind → behind ≡ next ∷ rest → tokens ≡ before ++ next ∷ more
      → Begins Is tokens → ⊥
  no_begin-behind before behind tokens more rest next faulty back front begins =
      no_begin-faulty Is before more next (rw back at faulty) (rw front at begins)

  -- There is one place with a fault.
  one-place : (before behind front back : List Token) → before ++ behind ≡ front ++ back → FaultyAt Is before behind → FaultyAt Is front back → (before ≡ front) × (behind ≡ back)
  one-place before behind front back parts faulty other =
      elim (parting before behind front back parts) [
        | Same one two ↦ (one, two)
        | Sooner next more one two ↦ absurd (no_begin-behind before behind front more (more ++ back) next faulty two one (begins-before Is front back other))
        | Later next more one two ↦ absurd (no_begin-behind front back before more (more ++ behind) next other two one (begins-before Is before behind faulty))
      ]

  -- A fault doesn't stand where a token goes too deep.
  same-place : (before behind : List Token) (token : Token) → FaultyAt Is before (token ∷ behind) → StaysInLevels before (token ∷ behind) → DeepensTooFar Is before token → ⊥
  same-place before behind token faulty stays deepens =
      elim stays.1 [ inl star ↦ faulty.1 (deepens.2 star) | inr least ↦ omega (arith, least, deepens.1) ]

module _ {A : Type 0} (Is : Form A) (tokens : List Token) where
  whole-or_fault : (tree : A) (IsKind : List Token → List Token → Type 0) (place : ℕ) → Is tokens tree → HasFault Is tokens IsKind place → ⊥
  whole-or_fault tree IsKind place is (before, behind, parts, faulty, stays, kind, there) =
      whole-faultless Is before behind tree (rw parts at is) faulty

  whole-or_deep : (place : ℕ) → StaysFlat tokens → GoesTooDeep Is tokens place → ⊥
  whole-or_deep place flat (before, token, behind, parts, begins, deepens, there) = not_flat tokens before behind token token refl flat parts deepens.1

  -- Two faults are at one place and of one kind.
  one-fault : (IsKind IsOther : List Token → List Token → Type 0) (place other : ℕ) → HasFault Is tokens IsKind place → HasFault Is tokens IsOther other
      → (before behind : List Token) × IsKind before behind × IsOther before behind × (place ≡ other)
  one-fault IsKind IsOther place other (before, behind, parts, faulty, stays, kind, there) (front, back, sames, wrong, keeps, sort, here) =
      let (one, two) = one-place Is before behind front back (sym parts ∙ sames) faulty wrong in
      (before, behind, kind, rw (one, two) sort, there ∙ rw (one, two) (sym here))

  fault-or_deep : (IsKind : List Token → List Token → Type 0) (place other : ℕ) → HasFault Is tokens IsKind place → GoesTooDeep Is tokens other → ⊥
  fault-or_deep IsKind place other (before, behind, parts, faulty, stays, kind, there) (front, token, back, sames, begins, deepens, here) =
      elim (parting before behind front (token ∷ back) (sym parts ∙ sames)) [
        | Same one two ↦ same-place Is front back token (rw (one, two) at faulty) (rw (one, two) at stays) deepens
        | Sooner next more one two ↦ no_begin-behind Is before behind front more (more ++ token ∷ back) next faulty two one begins
        | Later next more one two ↦ not_flat before front more token next (cc) (flat-before before behind stays) one deepens.1
      ]

  one-deep : (place other : ℕ) → GoesTooDeep Is tokens place → GoesTooDeep Is tokens other → place ≡ other
  one-deep place other (before, token, behind, parts, begins, deepens, there) (front, next, back, sames, starts, sinks, here) =
      elim (parting before (token ∷ behind) front (next ∷ back) (sym parts ∙ sames)) [
        | Same one two ↦
            let same : token ≡ next = cc in
            there ∙ ap (λ (one : Token). one.start) same ∙ sym here
        | Sooner first more one two ↦ absurd (not_flat front before more token first (cc) sinks.0 one deepens.1)
        | Later first more one two ↦ absurd (not_flat before front more next first (cc) deepens.0 one sinks.1)
      ]

  module _ (unique : (tree other : A) → Is tokens tree → Is tokens other → tree ≡ other) where
    pub one-answer : (answer other : Result A ParseFault) → IsAnswer Is tokens answer → IsAnswer Is tokens other
        → answer ≢ Err OutOfMemory → other ≢ Err OutOfMemory → answer ≡ other
    one-answer (Err OutOfMemory) other is same known told = absurd (known refl)
    one-answer answer (Err OutOfMemory) is same known told = absurd (told refl)
    one-answer (Ok tree) (Ok other) is same known told = ap (λ (one : A). Ok one) (unique tree other is.0 same.0)
    one-answer (Ok tree) (Err (Syntax place)) is same known told = absurd (whole-or_fault tree (NotUnsupported Is) place is.0 same)
    one-answer (Ok tree) (Err (NotSupported place)) is same known told = absurd (whole-or_fault tree (IsUnsupported Is) place is.0 same)
    one-answer (Ok tree) (Err (TooDeep place)) is same known told = absurd (whole-or_deep place is.1 same)
    one-answer (Err (Syntax place)) (Ok tree) is same known told = absurd (whole-or_fault tree (NotUnsupported Is) place same.0 is)
    one-answer (Err (NotSupported place)) (Ok tree) is same known told = absurd (whole-or_fault tree (IsUnsupported Is) place same.0 is)
    one-answer (Err (TooDeep place)) (Ok tree) is same known told = absurd (whole-or_deep place same.1 is)
    one-answer (Err (Syntax place)) (Err (Syntax other)) is same known told =
        let (before, behind, kind, sort, e) = one-fault (NotUnsupported Is) (NotUnsupported Is) place other is same in
        ap (λ (one : ℕ). Err (Syntax one)) e
    one-answer (Err (NotSupported place)) (Err (NotSupported other)) is same known told =
        let (before, behind, kind, sort, e) = one-fault (IsUnsupported Is) (IsUnsupported Is) place other is same in
        ap (λ (one : ℕ). Err (NotSupported one)) e
    one-answer (Err (Syntax place)) (Err (NotSupported other)) is same known told =
        let (before, behind, kind, sort, e) = one-fault (NotUnsupported Is) (IsUnsupported Is) place other is same in
        absurd (kind sort)
    one-answer (Err (NotSupported place)) (Err (Syntax other)) is same known told =
        let (before, behind, kind, sort, e) = one-fault (IsUnsupported Is) (NotUnsupported Is) place other is same in
        absurd (sort kind)
    one-answer (Err (Syntax place)) (Err (TooDeep other)) is same known told = absurd (fault-or_deep (NotUnsupported Is) place other is same)
    one-answer (Err (NotSupported place)) (Err (TooDeep other)) is same known told = absurd (fault-or_deep (IsUnsupported Is) place other is same)
    one-answer (Err (TooDeep place)) (Err (Syntax other)) is same known told = absurd (fault-or_deep (NotUnsupported Is) other place same is)
    one-answer (Err (TooDeep place)) (Err (NotSupported other)) is same known told = absurd (fault-or_deep (IsUnsupported Is) other place same is)
    one-answer (Err (TooDeep place)) (Err (TooDeep other)) is same known told = ap (λ (one : ℕ). Err (TooDeep one)) (one-deep place other is same)
