-- A form of which tokens are at some level, and its readers, one for each level.
use Rattle.std.proofs.Common.{◌≡◌, ◌≤◌, ◌+◌, ℕ, zero, suc, List, [], ◌∷◌, ◌++◌, length, Ok, Err, sym, ap, subst, ◌∙◌, append-nil, append_assoc, arith}
use Rattle.sa_lexer.specs.declared.token.Token.{Token}
use Rattle.sa_parser.specs.Fault.{Begins, FaultyAt}
use Rattle.sa_parser.specs.Form.{Form}
use Rattle.sa_parser.specs.inner.Reading.{Reader}
use Rattle.sa_parser.proofs.Consequences.{one_value, whole-is, faulty-not, found-alone, faulty-alone}
use Rattle.sa_parser.proofs.Law.{Shape, Law, Ahead, Deeper}

-- at some level
abbrev pub AtSome : {A : Type 0} → (ℕ → Form A) → Form A
AtSome Is tokens value = (levels : ℕ) × Is levels tokens value

pub record Levelled {A : Type 0} (Is : ℕ → Form A) (shape : Shape) (read : ℕ → Reader A) : Type 0 where
  pub law : (levels : ℕ) → Law (Is levels) (Is (suc levels)) shape (read levels)
  pub ahead : (levels : ℕ) → Ahead (read (suc levels))
  pub keeps : (levels more : ℕ) → levels ≤ more → Deeper (suc levels) (read levels) (read more)

module _ {A : Type 0} {Is : ℕ → Form A} {shape : Shape} {read : ℕ → Reader A} (levelled : Levelled Is shape read) where
  widened : (extra levels : ℕ) (tokens : List Token) (value : A) → Is levels tokens value → Is (extra + levels) tokens value
  widened zero levels tokens value is =
      let same : levels ≡ 0 + levels = omega arith in
      let at : ℕ → Type 0 = λ levels. Is levels tokens value in
      subst at same is
  widened (suc extra) levels tokens value is =
      let same : suc (extra + levels) ≡ suc extra + levels = omega arith in
      let at : ℕ → Type 0 = λ levels. Is levels tokens value in
      subst at same ((levelled.law (extra + levels)).widens tokens value (widened extra levels tokens value is))

  pub some-sound : (levels : ℕ) (tokens : List Token) (value : A) → read levels tokens ≡ Ok (value, []) → AtSome Is tokens value
  some-sound levels tokens value e = (levels, whole-is (levelled.law levels) tokens value e)

  pub some-unique : (tokens : List Token) (value other : A) → AtSome Is tokens value → AtSome Is tokens other → value ≡ other
  some-unique tokens value other (levels, is) (more, also) =
      let same : more + levels ≡ levels + more = omega arith in
      let at : ℕ → Type 0 = λ levels. Is levels tokens value in
      one_value (levelled.law (levels + more)) tokens value other (subst at same (widened more levels tokens value is)) (widened levels more tokens other also)

  -- what is at some level is at one more than any number and that level
  wide : (extra levels : ℕ) (before : List Token) (token : Token) (after : List Token) (value : A) → Is levels ((before ++ token ∷ []) ++ after) value
      → Is (suc (extra + levels)) (before ++ token ∷ after) value
  wide extra levels before token after value is =
      let has_value : List Token → Type 0 = λ tokens. Is (suc (extra + levels)) tokens value in
      subst has_value (append_assoc before (token ∷ []) after)
      ((levelled.law (extra + levels)).widens ((before ++ token ∷ []) ++ after) value (widened extra levels ((before ++ token ∷ []) ++ after) value is))

  -- No tokens are in the form that begin with those read and the token at which the reader stopped.
  none-found : (before : List Token) (token : Token) (behind : List Token) (value : A)
      → read (length (before ++ token ∷ behind)) (before ++ token ∷ behind) ≡ Ok (value, token ∷ behind)
      → Begins (AtSome Is) (before ++ token ∷ []) → ⊥
  none-found before token behind value e (after, other, (levels, is)) =
      let count = length (before ++ token ∷ behind) in
      let deeper = (levelled.keeps count (suc (count + levels)) (omega arith)).found (before ++ token ∷ behind) value (token ∷ behind) e in
      found-alone (levelled.law (suc (count + levels))) (levelled.ahead (count + levels)) before token behind after value other deeper
      (wide count levels before token after other is)

  -- Nor if it failed there.
  none-faulty : (before : List Token) (token : Token) (behind : List Token)
      → read (length (before ++ token ∷ behind)) (before ++ token ∷ behind) ≡ Err (length (token ∷ behind))
      → Begins (AtSome Is) (before ++ token ∷ []) → ⊥
  none-faulty before token behind e (after, other, (levels, is)) =
      let count = length (before ++ token ∷ behind) in
      let deeper = (levelled.keeps count (suc (count + levels)) (omega arith)).faulty (before ++ token ∷ behind) (length (token ∷ behind)) e (omega arith) in
      faulty-alone (levelled.law (suc (count + levels))) (levelled.ahead (count + levels)) before token behind after other deeper
      (wide count levels before token after other is)

  -- what fails at its end is not in the form
  none-whole : (before : List Token) → read (length before) before ≡ Err 0 → (value : A) → AtSome Is before value → ⊥
  none-whole before e value (levels, is) =
      let deeper = (levelled.keeps (length before) (length before + levels) (omega arith)).faulty before 0 e (omega arith) in
      faulty-not (levelled.law (length before + levels)) before 0 deeper value (widened (length before) levels before value is)

  faulty-at : (before behind : List Token) → Begins (AtSome Is) before → read (length (before ++ behind)) (before ++ behind) ≡ Err (length behind)
      → FaultyAt (AtSome Is) before behind
  faulty-at before [] begins e =
      let whole : List Token → Type 0 = λ tokens. read (length tokens) tokens ≡ Err 0 in
      (begins, none-whole before (subst whole (append-nil before) e))
  faulty-at before (token ∷ behind) begins e = (begins, none-faulty before token behind e)

  pub some-leftover : (tokens : List Token) (value : A) (token : Token) (behind : List Token) → read (length tokens) tokens ≡ Ok (value, token ∷ behind)
      → (before : List Token) × (tokens ≡ before ++ token ∷ behind) × FaultyAt (AtSome Is) before (token ∷ behind)
  some-leftover tokens value token behind e =
      let (before, parts, is) = (levelled.law (length tokens)).sound tokens value (token ∷ behind) e in
      let reads : List Token → Type 0 = λ tokens. read (length tokens) tokens ≡ Ok (value, token ∷ behind) in
      let has_value : List Token → Type 0 = λ some. Is (length tokens) some value in (
        before,
        parts,
        (([], value, (length tokens, subst has_value (sym (append-nil before)) is)), none-found before token behind value (subst reads parts e)),
      )

  pub some-faulty : (tokens : List Token) (left : ℕ) → read (length tokens) tokens ≡ Err left
      → (before behind : List Token) × (tokens ≡ before ++ behind) × (left ≡ length behind) × FaultyAt (AtSome Is) before behind
  some-faulty tokens left e =
      let (before, behind, after, value, parts, count, is) = (levelled.law (length tokens)).begun tokens left e in
      let reads : List Token → Type 0 = λ tokens. read (length tokens) tokens ≡ Err (length behind) in (
        before,
        behind,
        parts,
        count,
        faulty-at before behind (after, value, (suc (length tokens), is)) (subst reads parts (e ∙ ap Err count)),
      )
