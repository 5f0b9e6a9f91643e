-- Tokens have an answer: each choice that the parser makes can be made for any tokens.
use Rattle.std.proofs.Common.{◌≡◌, ◌≢◌, ℕ, zero, suc, codes, ◌+◌, ◌-◌, ◌<◌, ◌⊎◌, inl, inr, Bool, true, false, List, [], ◌∷◌, ◌++◌, length, take, drop, get_or, Option, Some, None, Ok, Err, is_some, refl, sym, ap, ◌∙◌, arith, append_assoc, length-append}
use Rattle.std.specs.List.{list_any}
use Rattle.std.proofs.Math.Seq.{take-append_seam}
use Rattle.std.proofs.lemmas.Bool.{false≢true}
use Rattle.std.proofs.lemmas.List.{append-nil, take-append-drop, length-drop}
use Rattle.sa_lexer.specs.declared.sign.Sign as sign_type
use Rattle.sa_lexer.specs.declared.sign.Sign.TheVariants as signs
use Rattle.sa_lexer.specs.declared.token.Token.{Token}
use Rattle.sa_lexer.specs.declared.token.TokenKind.{TokenKind}
use Rattle.sa_lexer.specs.declared.token.TokenKind.TheVariants.{Word, QuotedName, Text, Number, Sign}
use Rattle.sa_parser.specs.declared.answer.ParseFault.{ParseFault}
use Rattle.sa_parser.specs.declared.answer.ParseFault.TheVariants.{Syntax, NotSupported, TooDeep, OutOfMemory}
use Rattle.sa_parser.specs.declared.grammar.Grammar.{Grammar}
use Rattle.sa_parser.specs.declared.judgement.Judgement.{Judgement}
use Rattle.sa_parser.specs.declared.judgement.Judgement.TheVariants.{Whole, Faulty}
use Rattle.sa_parser.specs.Token.{is_word, is_sign, name_of}
use Rattle.sa_parser.specs.Form.{Form}
use Rattle.sa_parser.specs.Depth.{depth_of, most_levels, StaysFlat}
use Rattle.sa_parser.specs.Fault.{Begins, fault_place, in_place_of, some_name, ReadAsName, StandsForKind, unsupported_words, AsksForMore, IsUnsupported}
use Rattle.sa_parser.specs.Parse.{IsAnswer, HasAnswer}
use Rattle.sa_parser.specs.inner.Answer.{IsFirstTooDeep, TellsFault}
use Rattle.sa_parser.specs.inner.Grammar.{tree_of, form_of, read_by}
use Rattle.sa_parser.specs.inner.Judgement.{IsJudgement, IsFirstFaulty, whole_or_faulty, first_of}
use Rattle.sa_parser.specs.inner.Reading.{Outcome}
use Rattle.sa_parser.proofs.Answering.{flat-told, IsJudgedFrom, deep-begun, deep-faulty}
use Rattle.sa_parser.proofs.Depths.{StaysFlat-none, StaysFlat-push, deeper_or_least}
use Rattle.sa_parser.proofs.Judging.{judged-found, judged-faulty, first-is, no_begin-behind}

-- a fact or its contrary
abbrev Decided : Type 0 → Type 0
Decided P = P ⊎ (P → ⊥)

test : (b : Bool) → Decided (b ≡ true)
test true = inl refl
test false = inr false≢true

-- ---- the first token that goes too deep

deep_here : (front : List Token) (token : Token) (back : List Token) → StaysFlat front → most_levels < depth_of (front ++ token ∷ []) → IsFirstTooDeep (front ++ token ∷ back) (Some (length front))
deep_here front token back flat deeper =
    let parted : (front ++ token ∷ []) ++ back ≡ front ++ token ∷ back = append_assoc front (token ∷ []) back in
    let count : length (front ++ token ∷ []) ≡ length front + 1 = length-append front (token ∷ []) in
    let up_to : take (length front + 1) (front ++ token ∷ back) ≡ front ++ token ∷ [] =
    ap (λ (n : ℕ). take n (front ++ token ∷ back)) (sym count) ∙ ap (take (length (front ++ token ∷ []))) (sym parted) ∙ take-append_seam (front ++ token ∷ []) back in (
      omega (arith, length-append front (token ∷ back)),
      rw (take-append_seam front (token ∷ back)) flat,
      rw up_to deeper,
    )

some_deep : (front back : List Token) → StaysFlat front → (place : Option ℕ) × IsFirstTooDeep (front ++ back) place
some_deep front [] flat = (None, rw append-nil flat)
some_deep front (token ∷ back) flat = elim (deeper_or_least most_levels (depth_of (front ++ token ∷ []))) [
  | inl deeper ↦ (Some (length front), deep_here front token back flat deeper)
  | inr least ↦
      let (place, is) = some_deep (front ++ token ∷ []) back (StaysFlat-push front token flat least) in
      (place, rw append_assoc at is)
]

-- ---- what reading tells

judged : (grammar : Grammar) (tokens : List Token) (outcome : Outcome (tree_of grammar)) → read_by grammar tokens ≡ outcome → (judgement : Judgement (tree_of grammar)) × IsJudgement (form_of grammar) tokens judgement
judged grammar tokens (Ok (tree, behind)) e = (whole_or_faulty tree (length tokens) (length behind), (judged-found grammar tokens tree behind e).1)
judged grammar tokens (Err left) e = (Faulty (length tokens - left), (judged-faulty grammar tokens left e).1)

some_judgement : (grammar : Grammar) (tokens : List Token) → (judgement : Judgement (tree_of grammar)) × IsJudgement (form_of grammar) tokens judgement
some_judgement grammar tokens = judged grammar tokens (read_by grammar tokens) refl

some_first : (grammar : Grammar) (tokens : List Token) → (place : Option ℕ) × IsFirstFaulty (form_of grammar) tokens place
some_first grammar tokens =
    let (judgement, is) = some_judgement grammar tokens in
    (first_of judgement (length tokens), first-is (form_of grammar) tokens judgement is)

begins_by : {A : Type 0} (Is : Form A) (tokens : List Token) (place : Option ℕ) → IsFirstFaulty Is tokens place → Decided (Begins Is tokens)
begins_by Is tokens None begins = inl begins
begins_by Is tokens (Some count) faulty =
    inr (λ begins. no_begin-behind Is (take count tokens) (drop count tokens) (rw length-drop (omega arith)) faulty.1 (rw (take-append-drop count tokens) begins))

begins : (grammar : Grammar) (tokens : List Token) → Decided (Begins (form_of grammar) tokens)
begins grammar tokens =
    let (place, is) = some_first grammar tokens in
    begins_by (form_of grammar) tokens place is

-- ---- the kind of a fault

-- tokens are none, or end with a last one
data LastOf (tokens : List Token) : Type 0 where
  Empty : tokens ≡ [] → LastOf tokens
  Ended : (earlier : List Token) (last : Token) → tokens ≡ earlier ++ last ∷ [] → LastOf tokens

last_of : (tokens : List Token) → LastOf tokens
last_of [] = Empty refl
last_of (token ∷ tokens) = elim (last_of tokens) [
  | Empty none ↦ Ended [] token (ap (λ (more : List Token). token ∷ more) none)
  | Ended earlier last e ↦ Ended (token ∷ earlier) last (ap (λ (more : List Token). token ∷ more) e)
]

-- the last of tokens is one alone
same_last : (front back : List Token) (token last : Token) → front ++ token ∷ [] ≡ back ++ last ∷ [] → (front ≡ back) × (token ≡ last)
same_last [] [] token last e = (refl, cc)
same_last [] (next ∷ []) token last e = absurd cc
same_last [] (next ∷ other ∷ back) token last e = absurd cc
same_last (next ∷ []) [] token last e = absurd cc
same_last (next ∷ other ∷ front) [] token last e = absurd cc
same_last (next ∷ front) (other ∷ back) token last e =
    let one : next ≡ other = cc in
    let further : front ++ token ∷ [] ≡ back ++ last ∷ [] = cc in
    let (fronts, lasts) = same_last front back token last further in
    (cc, lasts)

no_last : (earlier : List Token) (last : Token) → [] ≡ earlier ++ last ∷ [] → ⊥
no_last [] last e = cc
no_last (token ∷ earlier) last e = cc

read_as_name : (grammar : Grammar) (before : List Token) → Decided (ReadAsName (form_of grammar) before)
read_as_name grammar before = elim (last_of before) [
  | Empty none ↦ inr (λ (earlier, last, e, named, begins). no_last earlier last (sym none ∙ e))
  | Ended earlier last e ↦ elim (test (is_some (name_of last.kind))) [
    | inl named ↦ elim (begins grammar (earlier ++ in_place_of last some_name ∷ [])) [
      | inl is ↦ inl (earlier, last, e, named, is)
      | inr never ↦ inr (λ (others, other, parts, name, is).
          let (fronts, lasts) = same_last earlier others last other (sym e ∙ parts) in
          never (rw (fronts, lasts) is))
    ]
    | inr unnamed ↦ inr (λ (others, other, parts, name, is).
        let (fronts, lasts) = same_last earlier others last other (sym e ∙ parts) in
        unnamed (rw lasts name))
  ]
]

stands_for_kind : (grammar : Grammar) (before : List Token) (token : Token) → Decided (StandsForKind (form_of grammar) before token)
stands_for_kind grammar before token = elim (begins grammar (before ++ in_place_of token (Word (codes "INT")) ∷ [])) [
  | inl int ↦ elim (begins grammar (before ++ in_place_of token some_name ∷ [])) [
    | inl name ↦ inr (λ stands. stands.1 name)
    | inr never ↦ inl (int, never)
  ]
  | inr never ↦ inr (λ stands. never stands.0)
]

asks_by_sign : (grammar : Grammar) (before : List Token) (token : Token) (sign : sign_type.Sign) → Decided (AsksForMore (form_of grammar) before token (Sign sign))
asks_by_sign grammar before token signs.OrOr = inl tt
asks_by_sign grammar before token signs.Slash = inl tt
asks_by_sign grammar before token signs.Percent = inl tt
asks_by_sign grammar before token signs.LeftParen = read_as_name grammar before
asks_by_sign grammar before token signs.NullSafeEqual = inr (λ asks. asks)
asks_by_sign grammar before token signs.NotEqual = inr (λ asks. asks)
asks_by_sign grammar before token signs.BangEqual = inr (λ asks. asks)
asks_by_sign grammar before token signs.LessEqual = inr (λ asks. asks)
asks_by_sign grammar before token signs.GreaterEqual = inr (λ asks. asks)
asks_by_sign grammar before token signs.AndAnd = inr (λ asks. asks)
asks_by_sign grammar before token signs.RightParen = inr (λ asks. asks)
asks_by_sign grammar before token signs.Comma = inr (λ asks. asks)
asks_by_sign grammar before token signs.Dot = inr (λ asks. asks)
asks_by_sign grammar before token signs.Star = inr (λ asks. asks)
asks_by_sign grammar before token signs.Plus = inr (λ asks. asks)
asks_by_sign grammar before token signs.Minus = inr (λ asks. asks)
asks_by_sign grammar before token signs.Equal = inr (λ asks. asks)
asks_by_sign grammar before token signs.Less = inr (λ asks. asks)
asks_by_sign grammar before token signs.Greater = inr (λ asks. asks)

asks : (grammar : Grammar) (before : List Token) (token : Token) (kind : TokenKind) → Decided (AsksForMore (form_of grammar) before token kind)
asks grammar before token (Sign sign) = asks_by_sign grammar before token sign
asks grammar before token (Text text) = begins grammar (before ++ in_place_of token (Text (codes "enabled=on")) ∷ [])
asks grammar before token (Word word) = elim (test (list_any (λ other. is_word other (Word word)) unsupported_words)) [
  | inl listed ↦ inl (inl listed)
  | inr unlisted ↦ elim (stands_for_kind grammar before token) [
    | inl kind ↦ inl (inr kind)
    | inr never ↦ inr (λ asks. elim asks [ inl listed ↦ unlisted listed | inr kind ↦ never kind ])
  ]
]
asks grammar before token (QuotedName name) = inr (λ asks. asks)
asks grammar before token (Number number) = inr (λ asks. asks)

unsupported : (grammar : Grammar) (before behind : List Token) → Decided (IsUnsupported (form_of grammar) before behind)
unsupported grammar before [] = inr (λ asks. asks)
unsupported grammar before (token ∷ behind) = asks grammar before token token.kind

-- A fault with what it tells.
record Told (grammar : Grammar) (before behind : List Token) : Type 0 where
  fault : ParseFault
  tells : TellsFault (form_of grammar) before behind fault
  known : fault ≢ OutOfMemory

some_fault : (grammar : Grammar) (before behind : List Token) → Told grammar before behind
some_fault grammar before behind = elim (unsupported grammar before behind) [
  | inl asks ↦ record { fault = NotSupported (fault_place before behind); tells = (asks, refl); known = λ e. cc }
  | inr never ↦ record { fault = Syntax (fault_place before behind); tells = (never, refl); known = λ e. cc }
]

-- ---- the answer

answer_by_fault : {A : Type 0} (Is : Form A) (tokens : List Token) (fault : ParseFault) → fault ≢ OutOfMemory → IsAnswer Is tokens (Err fault) → HasAnswer Is tokens
answer_by_fault Is tokens fault known is = record { answer = Err fault; is = is; known = λ e. known (let same : fault ≡ OutOfMemory = cc in same) }

flat_answer : (grammar : Grammar) (tokens : List Token) (judgement : Judgement (tree_of grammar)) → StaysFlat tokens → IsJudgement (form_of grammar) tokens judgement → HasAnswer (form_of grammar) tokens
flat_answer grammar tokens (Whole tree) flat is = record { answer = Ok tree; is = (is, flat); known = λ e. cc }
flat_answer grammar tokens (Faulty count) flat is =
    let told = some_fault grammar (take count tokens) (drop count tokens) in
    answer_by_fault (form_of grammar) tokens told.fault told.known (flat-told (form_of grammar) tokens count told.fault flat is.1 told.tells)

module _ (grammar : Grammar) (tokens : List Token) (place : ℕ) (deep : IsFirstTooDeep tokens (Some place)) where
  deep_by : (token : Token) (count : ℕ) (first : Option ℕ) → token ≡ get_or tokens place token → IsJudgedFrom place token count → IsFirstFaulty (form_of grammar) (take count tokens) first → HasAnswer (form_of grammar) tokens
  deep_by token count None is from begun =
      answer_by_fault (form_of grammar) tokens (TooDeep token.start) (λ e. cc) (deep-begun tokens place token deep is (form_of grammar) count from begun)
  deep_by token count (Some faulty) is from found =
      let told = some_fault grammar (take faulty tokens) (drop faulty tokens) in
      answer_by_fault (form_of grammar) tokens told.fault told.known
      (deep-faulty tokens place token deep is (form_of grammar) count faulty told.fault from found told.tells)

  judged_from : (token : Token) → (count : ℕ) × IsJudgedFrom place token count
  judged_from token = by (is_sign signs.Star token.kind) refl
    where
      by : (star : Bool) → is_sign signs.Star token.kind ≡ star → (count : ℕ) × IsJudgedFrom place token count
      by true e = (place + 1, inl (e, refl))
      by false e = (place, inr (e, refl))

  deep_at : (token : Token) → token ≡ get_or tokens place token → HasAnswer (form_of grammar) tokens
  deep_at token is =
      let (count, from) = judged_from token in
      let (first, found) = some_first grammar (take count tokens) in
      deep_by token count first is from found

token_at : (tokens : List Token) (place : ℕ) → place < length tokens → (token : Token) × (token ≡ get_or tokens place token)
token_at [] place within = absurd (omega arith)
token_at (token ∷ tokens) zero within = (token, refl)
token_at (token ∷ tokens) (suc place) within = token_at tokens place (omega arith)

answer_by_depth : (grammar : Grammar) (tokens : List Token) (deep : Option ℕ) → IsFirstTooDeep tokens deep → HasAnswer (form_of grammar) tokens
answer_by_depth grammar tokens None flat =
    let (judgement, is) = some_judgement grammar tokens in
    flat_answer grammar tokens judgement flat is
answer_by_depth grammar tokens (Some place) deep =
    let (token, is) = token_at tokens place deep.0 in
    deep_at grammar tokens place deep token is

-- Tokens have an answer.
pub some_answer : (grammar : Grammar) (tokens : List Token) → HasAnswer (form_of grammar) tokens
some_answer grammar tokens =
    let (deep, is) = some_deep [] tokens StaysFlat-none in
    answer_by_depth grammar tokens deep is
