-- What reading tells of tokens, in either grammar.
use Rattle.std.proofs.Common.{◌≡◌, ◌≢◌, ◌↔◌, cond, Result, IsTrue, Bool, true, false, not, is_some, append_assoc, ℕ, ◌+◌, ◌-◌, ◌≤◌, ◌<◌, List, [], ◌∷◌, ◌++◌, length, take, drop, Ok, Err, Option, Some, None, refl, ap, ◌∙◌, arith, length-append}
use Rattle.std.specs.Prelude.{◌==◌}
use Rattle.std.proofs.lemmas.Bool.{eqb-true, eqb-false}
use Rattle.std.proofs.lemmas.List.{take_at, drop_at, take_all, drop_all, append-nil, take-append-drop, length-drop}
use Rattle.std.proofs.lemmas.Bool.Decides.{nat_tests}
use Rattle.sa_lexer.specs.declared.token.Token.{Token}
use Rattle.sa_parser.specs.declared.grammar.Grammar.{Grammar}
use Rattle.sa_parser.specs.declared.grammar.Grammar.TheVariants.{Session, Setup, Script}
use Rattle.sa_parser.specs.declared.judgement.Judgement.{Judgement}
use Rattle.sa_parser.specs.declared.judgement.Judgement.TheVariants.{Whole, Faulty}
use Rattle.sa_parser.specs.declared.fault.ReadFault.{ReadFault}
use Rattle.sa_parser.specs.declared.fault.ReadFault.TheVariants.{Left, OutOfMemory}
use Rattle.sa_parser.specs.Form.{Form}
use Rattle.sa_parser.specs.Fault.{Begins, FaultyAt}
use Rattle.sa_parser.specs.inner.Grammar.{tree_of, form_of, read_by}
use Rattle.sa_parser.specs.inner.Judgement.{FaultyBehind, IsJudgement, IsFirstFaulty, whole_or_faulty, Tells, LeavesWithin, first_of}
use Rattle.sa_parser.specs.inner.Reads.{Reads}
use Rattle.sa_parser.proofs.Agreement.{statement-sound, statement-leftover, statement-faulty, setup-sound, setup-leftover, setup-faulty, directive-sound, directive-leftover, directive-faulty}

pub read-sound : (grammar : Grammar) (tokens : List Token) (tree : tree_of grammar) → read_by grammar tokens ≡ Ok (tree, []) → form_of grammar tokens tree
read-sound Session tokens tree e = statement-sound (length tokens) tokens tree e
read-sound Setup tokens tree e = setup-sound tokens tree e
read-sound Script tokens tree e = directive-sound tokens tree e

pub read-leftover : (grammar : Grammar) (tokens : List Token) (tree : tree_of grammar) (token : Token) (behind : List Token)
    → read_by grammar tokens ≡ Ok (tree, token ∷ behind)
    → (before : List Token) × (tokens ≡ before ++ token ∷ behind) × FaultyAt (form_of grammar) before (token ∷ behind)
read-leftover Session tokens tree token behind e = statement-leftover tokens tree token behind e
read-leftover Setup tokens tree token behind e = setup-leftover tokens tree token behind e
read-leftover Script tokens tree token behind e = directive-leftover tokens tree token behind e

pub read-faulty : (grammar : Grammar) (tokens : List Token) (left : ℕ) → read_by grammar tokens ≡ Err left
    → (before behind : List Token) × (tokens ≡ before ++ behind) × (left ≡ length behind) × FaultyAt (form_of grammar) before behind
read-faulty Session tokens left e = statement-faulty tokens left e
read-faulty Setup tokens left e = setup-faulty tokens left e
read-faulty Script tokens left e = directive-faulty tokens left e

-- A fault where the tokens are parted stands behind as many as the first part has.
pub FaultyBehind-parted : {A : Type 0} (Is : Form A) (tokens before behind : List Token) (left : ℕ) → tokens ≡ before ++ behind → left ≡ length behind
    → FaultyAt Is before behind → (left ≤ length tokens) × FaultyBehind Is tokens (length tokens - left)
FaultyBehind-parted Is tokens before behind left parts e faulty =
    let whole : length tokens ≡ length before + length behind = ap length parts ∙ length-append before behind in
    let count : length before ≡ length tokens - left = omega arith in
    let front : take (length tokens - left) tokens ≡ before = ap (take (length tokens - left)) parts ∙ take_at before behind (length tokens - left) count in
    let back : drop (length tokens - left) tokens ≡ behind = ap (drop (length tokens - left)) parts ∙ drop_at before behind (length tokens - left) count in
    (omega arith, rw (front, back) faulty)

-- where tokens are left
some_left : {A : Type 0} (tree : A) (all left : ℕ) → 0 < left → whole_or_faulty tree all left ≡ Faulty (all - left)
some_left tree all left some = grind (arith, nat_tests)

pub judged-found : (grammar : Grammar) (tokens : List Token) (tree : tree_of grammar) (behind : List Token) → read_by grammar tokens ≡ Ok (tree, behind)
    → (length behind ≤ length tokens) × IsJudgement (form_of grammar) tokens (whole_or_faulty tree (length tokens) (length behind))
judged-found grammar tokens tree [] e = (omega arith, read-sound grammar tokens tree e)
judged-found grammar tokens tree (token ∷ behind) e =
    let (before, parts, faulty) = read-leftover grammar tokens tree token behind e in
    let found = FaultyBehind-parted (form_of grammar) tokens before (token ∷ behind) (length (token ∷ behind)) parts refl faulty in
    (found.0, rw (some_left tree (length tokens) (length (token ∷ behind)) (omega arith)) (omega arith, found.1))

pub judged-faulty : (grammar : Grammar) (tokens : List Token) (left : ℕ) → read_by grammar tokens ≡ Err left
    → (left ≤ length tokens) × IsJudgement (form_of grammar) tokens (Faulty (length tokens - left))
judged-faulty grammar tokens left e =
    let (before, behind, parts, count, faulty) = read-faulty grammar tokens left e in
    let found = FaultyBehind-parted (form_of grammar) tokens before behind left parts count faulty in
    (found.0, (omega arith, found.1))

pub Begins-whole : {A : Type 0} (Is : Form A) (tokens : List Token) (tree : A) → Is tokens tree → Begins Is tokens
Begins-whole Is tokens tree is = ([], tree, rw append-nil is)

-- What begins with more tokens begins with fewer.
pub Begins-fewer : {A : Type 0} (Is : Form A) (before behind : List Token) → Begins Is (before ++ behind) → Begins Is before
Begins-fewer Is before behind begins = let (more, tree, is) = begins in (behind ++ more, tree, rw (← append_assoc before behind more) is)

-- Tokens with a fault among them begin nothing.
pub no_begin-faulty : {A : Type 0} (Is : Form A) (before behind : List Token) (token : Token) → FaultyAt Is before (token ∷ behind) → Begins Is (before ++ token ∷ behind) → ⊥
no_begin-faulty Is before behind token faulty begins =
    faulty.1 (Begins-fewer Is (before ++ token ∷ []) behind (rw (append_assoc before (token ∷ []) behind) begins))

pub no_begin-behind : {A : Type 0} (Is : Form A) (before behind : List Token) → 0 < length behind → FaultyAt Is before behind → Begins Is (before ++ behind) → ⊥
no_begin-behind Is before [] some faulty begins = omega arith
no_begin-behind Is before (token ∷ behind) some faulty begins = no_begin-faulty Is before behind token faulty begins

pub Begins-tells : {A : Type 0} (Is : Form A) (tokens : List Token) (place : Option ℕ) (found : Bool) → IsFirstFaulty Is tokens place → is_some place ≡ not found
    → IsTrue found ↔ Begins Is tokens
Begins-tells Is tokens None found begins e = (λ _. begins, λ _. negated found e)
  where
    negated : (found : Bool) → false ≡ not found → found ≡ true
    negated true e = refl
    negated false e = cc
Begins-tells Is tokens (Some count) found faulty e =
    (λ is. absurd (denied found e is), λ begins. absurd (no_begin-behind Is (take count tokens) (drop count tokens) (rw length-drop (omega arith)) faulty.1 (rw (take-append-drop count tokens) begins)))
  where
    denied : (found : Bool) → true ≡ not found → found ≡ true → ⊥
    denied true e is = cc
    denied false e is = cc

-- ---- what a call tells that read

-- It leaves no more tokens than there are.
pub read-within : (grammar : Grammar) (tokens : List Token) (read : Result (tree_of grammar) ReadFault) (behind : List Token) → Reads (read_by grammar tokens) read behind
    → LeavesWithin read (length tokens) (length behind)
read-within grammar tokens (Ok tree) behind e = (judged-found grammar tokens tree behind e).0
read-within grammar tokens (Err (Left left)) behind e = (judged-faulty grammar tokens left e).0
read-within grammar tokens (Err OutOfMemory) behind e = tt

pub read-judged : (grammar : Grammar) (tokens : List Token) (read : Result (tree_of grammar) ReadFault) (behind : List Token) (judgement : Judgement (tree_of grammar))
    → Reads (read_by grammar tokens) read behind → Tells read (length tokens) (length behind) judgement → IsJudgement (form_of grammar) tokens judgement
read-judged grammar tokens (Ok tree) behind judgement e tells = rw tells (judged-found grammar tokens tree behind e).1
read-judged grammar tokens (Err (Left left)) behind judgement e tells = rw tells (judged-faulty grammar tokens left e).1
read-judged grammar tokens (Err OutOfMemory) behind judgement e tells = absurd tells

faulty-first : {A : Type 0} (Is : Form A) (tokens : List Token) (count : ℕ) (b : Bool) → (count == length tokens) ≡ b → count ≤ length tokens → FaultyBehind Is tokens count
    → IsFirstFaulty Is tokens (cond b None (Some count))
faulty-first Is tokens count true all within faulty =
    let same : count ≡ length tokens = eqb-true count (length tokens) all in
    (rw (take_all count tokens (omega arith), drop_all count tokens (omega arith)) at faulty).0
faulty-first Is tokens count false fewer within faulty =
    let other : count ≢ length tokens = eqb-false count (length tokens) fewer in
    (omega arith, faulty)

-- The first fault that a judgement tells is the first.
pub first-is : {A : Type 0} (Is : Form A) (tokens : List Token) (judgement : Judgement A) → IsJudgement Is tokens judgement → IsFirstFaulty Is tokens (first_of judgement (length tokens))
first-is Is tokens (Whole tree) is = Begins-whole Is tokens tree is
first-is Is tokens (Faulty count) is = faulty-first Is tokens count (count == length tokens) refl is.0 is.1
