-- From what the parts of an answer tell to the answer.
use Rattle.std.proofs.Common.{◌≡◌, ℕ, suc, ◌+◌, ◌-◌, ◌<◌, ◌⊎◌, inl, inr, true, false, List, [], ◌∷◌, ◌++◌, length, take, drop, get_or, Err, Some, refl, sym, ap, ◌∙◌, arith, append_assoc}
use Rattle.std.proofs.lemmas.List.{take-append-le, drop-append-le, take-append-drop, length-drop, length-take, length-take-le, append-nil, at_drop_more, take_more}
use Rattle.std.proofs.Math.Nat.{eq-or-lt_of_le}
use Rattle.std.proofs.lemmas.Bool.{true≢false}
use Rattle.sa_lexer.specs.declared.token.Token.{Token}
use Rattle.sa_lexer.specs.declared.sign.Sign.TheVariants as signs
use Rattle.sa_parser.specs.declared.answer.ParseFault.{ParseFault}
use Rattle.sa_parser.specs.declared.answer.ParseFault.TheVariants.{Syntax, NotSupported, TooDeep, OutOfMemory}
use Rattle.sa_parser.specs.Token.{is_sign}
use Rattle.sa_parser.specs.Form.{Form}
use Rattle.sa_parser.specs.Depth.{StaysFlat}
use Rattle.sa_parser.specs.Fault.{Begins, FaultyAt, end_of}
use Rattle.sa_parser.specs.Parse.{StaysInLevels, IsAnswer}
use Rattle.sa_parser.specs.inner.Answer.{IsFirstTooDeep, TellsFault}
use Rattle.sa_parser.specs.inner.Judgement.{FaultyBehind, IsFirstFaulty}
use Rattle.sa_parser.proofs.Judging.{Begins-fewer}

-- A fault that is told is an answer.
pub told : {A : Type 0} (Is : Form A) (tokens : List Token) (count : ℕ) (fault : ParseFault) → FaultyBehind Is tokens count
    → StaysInLevels (take count tokens) (drop count tokens) → TellsFault Is (take count tokens) (drop count tokens) fault → IsAnswer Is tokens (Err fault)
told Is tokens count (Syntax place) faulty stays tells =
    (take count tokens, drop count tokens, sym (take-append-drop count tokens), faulty, stays, tells.0, tells.1)
told Is tokens count (NotSupported place) faulty stays tells =
    (take count tokens, drop count tokens, sym (take-append-drop count tokens), faulty, stays, tells.0, tells.1)
told Is tokens count (TooDeep place) faulty stays tells = absurd tells
told Is tokens count OutOfMemory faulty stays tells = absurd tells

-- Tokens that go nowhere too deep do so in front of every fault.
pub flat-parts : (before behind : List Token) → StaysFlat (before ++ behind) → StaysInLevels before behind
flat-parts before [] flat = λ front back parts. flat front back (append-nil before ∙ parts)
flat-parts before (token ∷ behind) flat = (
  λ front back parts. flat front (back ++ token ∷ behind) (ap (λ (some : List Token). some ++ token ∷ behind) parts ∙ append_assoc front back (token ∷ behind)),
  inr (flat (before ++ token ∷ []) behind (sym (append_assoc before (token ∷ []) behind))),
)

pub flat-told : {A : Type 0} (Is : Form A) (tokens : List Token) (count : ℕ) (fault : ParseFault) → StaysFlat tokens → FaultyBehind Is tokens count
    → TellsFault Is (take count tokens) (drop count tokens) fault → IsAnswer Is tokens (Err fault)
flat-told Is tokens count fault flat faulty tells =
    told Is tokens count fault faulty (flat-parts (take count tokens) (drop count tokens) (rw (take-append-drop count tokens) flat)) tells

-- What is said of a fault stays true with further tokens behind it.
faulty-further : {A : Type 0} (Is : Form A) (front back more : List Token) → 0 < length back → FaultyAt Is front back → FaultyAt Is front (back ++ more)
faulty-further Is front [] more some faulty = absurd (omega arith)
faulty-further Is front (token ∷ back) more some faulty = faulty

levels-further : (front back more : List Token) → 0 < length back → StaysInLevels front back → StaysInLevels front (back ++ more)
levels-further front [] more some stays = absurd (omega arith)
levels-further front (token ∷ back) more some stays = stays

-- a fault among the first of the tokens
pub faulty-among : {A : Type 0} (Is : Form A) (scope more : List Token) (count : ℕ) → count < length scope → FaultyBehind Is scope count → FaultyBehind Is (scope ++ more) count
faulty-among Is scope more count within faulty =
    let front : take count (scope ++ more) ≡ take count scope = take-append-le count scope more (omega arith) in
    let back : drop count (scope ++ more) ≡ drop count scope ++ more = drop-append-le count scope more (omega arith) in
    rw (front, back) (faulty-further Is (take count scope) (drop count scope) more (rw length-drop (omega arith)) faulty)

levels-among : (scope more : List Token) (count : ℕ) → count < length scope → StaysInLevels (take count scope) (drop count scope)
    → StaysInLevels (take count (scope ++ more)) (drop count (scope ++ more))
levels-among scope more count within stays =
    let front : take count (scope ++ more) ≡ take count scope = take-append-le count scope more (omega arith) in
    let back : drop count (scope ++ more) ≡ drop count scope ++ more = drop-append-le count scope more (omega arith) in
    rw (front, back) (levels-further (take count scope) (drop count scope) more (rw length-drop (omega arith)) stays)

flat-among : (scope more : List Token) (count : ℕ) → count < length scope → StaysFlat scope
    → StaysInLevels (take count (scope ++ more)) (drop count (scope ++ more))
flat-among scope more count within flat =
    levels-among scope more count within (flat-parts (take count scope) (drop count scope) (rw (take-append-drop count scope) flat))

-- How many tokens are judged where the one at the place goes too deep: a star with those before it, any other without.
abbrev pub IsJudgedFrom : ℕ → Token → ℕ → Type 0
IsJudgedFrom place token judged =
    ((is_sign signs.Star token.kind ≡ true) × (judged ≡ place + 1)) ⊎ ((is_sign signs.Star token.kind ≡ false) × (judged ≡ place))

module _ (tokens : List Token) (place : ℕ) (token : Token) (deep : IsFirstTooDeep tokens (Some place)) (is : token ≡ get_or tokens place token) where
  from_there : drop place tokens ≡ token ∷ drop (place + 1) tokens
  from_there = at_drop_more (λ rest. rest) tokens place token deep.0 ∙ ap (λ (first : Token). first ∷ drop (place + 1) tokens) (sym is)

  up_to : take (place + 1) tokens ≡ take place tokens ++ token ∷ []
  up_to = take_more tokens place token deep.0 ∙ ap (λ (last : Token). take place tokens ++ last ∷ []) (sym is)

  parted : tokens ≡ take place tokens ++ token ∷ drop (place + 1) tokens
  parted = sym (take-append-drop place tokens) ∙ ap (λ (rest : List Token). take place tokens ++ rest) from_there

  levels-before : (count : ℕ) → count < place → StaysInLevels (take count tokens) (drop count tokens)
  levels-before count before =
      rw take-append-drop at (flat-among (take place tokens) (drop place tokens) count (rw (length-take-le place tokens (omega arith)) before) deep.1)

  levels-star : (count : ℕ) → is_sign signs.Star token.kind ≡ true → count < place + 1 → StaysInLevels (take count tokens) (drop count tokens)
  levels-star count star within =
      elim (eq-or-lt_of_le {n = count} {m = place} (omega arith)) [
        | inl there ↦ rw (there, from_there) (deep.1, inl star)
        | inr before ↦ levels-before count before
      ]

  pub deep-begun : {A : Type 0} (Is : Form A) (judged : ℕ) → IsJudgedFrom place token judged → Begins Is (take judged tokens)
      → IsAnswer Is tokens (Err (TooDeep token.start))
  deep-begun Is judged (inl star) begins =
      let with_it : Begins Is (take place tokens ++ token ∷ []) = rw (star.1, up_to) at begins in (
        take place tokens,
        token,
        drop (place + 1) tokens,
        parted,
        Begins-fewer Is (take place tokens) (token ∷ []) with_it,
        (deep.1, rw up_to at deep.2, λ _. with_it),
        refl,
      )
  deep-begun Is judged (inr other) begins = (
    take place tokens,
    token,
    drop (place + 1) tokens,
    parted,
    rw other.1 at begins,
    (deep.1, rw up_to at deep.2, λ star. absurd (true≢false (sym star ∙ other.0))),
    refl,
  )

  pub deep-faulty : {A : Type 0} (Is : Form A) (judged count : ℕ) (fault : ParseFault) → IsJudgedFrom place token judged
      → IsFirstFaulty Is (take judged tokens) (Some count) → TellsFault Is (take count tokens) (drop count tokens) fault → IsAnswer Is tokens (Err fault)
  deep-faulty Is judged count fault (inl star) faulty tells =
      let within : count < place + 1 = omega (arith, faulty.0, length-take judged tokens, star.1) in
      told Is tokens count fault (rw take-append-drop at (faulty-among Is (take judged tokens) (drop judged tokens) count faulty.0 faulty.1))
      (levels-star count star.0 within) tells
  deep-faulty Is judged count fault (inr other) faulty tells =
      let within : count < place = omega (arith, faulty.0, length-take judged tokens, other.1) in
      told Is tokens count fault (rw take-append-drop at (faulty-among Is (take judged tokens) (drop judged tokens) count faulty.0 faulty.1))
      (levels-before count within) tells

-- the end of the last token
pub end_of-last : (tokens : List Token) (past : Token) → 0 < length tokens → end_of tokens ≡ (get_or tokens (length tokens - 1) past).end
end_of-last [] past some = absurd (omega arith)
end_of-last (token ∷ []) past some = refl
end_of-last (token ∷ next ∷ rest) past some =
    let last : suc (suc (length rest)) - 1 ≡ suc (length rest) = omega arith in
    let same : suc (length rest) - 1 ≡ length rest = omega arith in
    rw last (rw same at (end_of-last (next ∷ rest) past (omega arith)))
