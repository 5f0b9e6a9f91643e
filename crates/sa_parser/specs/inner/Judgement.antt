-- What reading tells of tokens: that they are a whole, or where their first fault stands.
use Rattle.std.specs.Prelude.{◌≡◌, ℕ, ◌-◌, ◌<◌, ◌≤◌, ◌==◌, ⊤, if◌then◌else◌, List, length, take, drop, Option, Some, None, Result, Ok, Err}
use Rattle.sa_lexer.specs.declared.token.Token.{Token}
use Rattle.sa_parser.specs.declared.fault.ReadFault.{ReadFault}
use Rattle.sa_parser.specs.declared.fault.ReadFault.TheVariants.{Left, OutOfMemory}
use Rattle.sa_parser.specs.declared.judgement.Judgement.{Judgement}
use Rattle.sa_parser.specs.declared.judgement.Judgement.TheVariants.{Whole, Faulty}
use Rattle.sa_parser.specs.Form.{Form}
use Rattle.sa_parser.specs.Fault.{Begins, FaultyAt}

-- so many tokens stand before the fault
abbrev pub FaultyBehind : {A : Type 0} → Form A → List Token → ℕ → Type 0
FaultyBehind Is tokens count = FaultyAt Is (take count tokens) (drop count tokens)

abbrev pub IsJudgement : {A : Type 0} → Form A → List Token → Judgement A → Type 0
IsJudgement Is tokens (Whole tree) = Is tokens tree
IsJudgement Is tokens (Faulty count) = (count ≤ length tokens) × FaultyBehind Is tokens count

-- The first of the tokens with which they begin nothing, if there is one.
abbrev pub IsFirstFaulty : {A : Type 0} → Form A → List Token → Option ℕ → Type 0
IsFirstFaulty Is tokens None = Begins Is tokens
IsFirstFaulty Is tokens (Some count) = (count < length tokens) × FaultyBehind Is tokens count

-- a whole, or the fault behind it where tokens are left
abbrev pub whole_or_faulty : {A : Type 0} → A → ℕ → ℕ → Judgement A
whole_or_faulty tree all left = if left == 0 then Whole tree else Faulty (all - left)

-- What was read of all tokens, where so many are left, tells this.
abbrev pub Tells : {A : Type 0} → Result A ReadFault → ℕ → ℕ → Judgement A → Type 0
Tells (Ok tree) all left judgement = judgement ≡ whole_or_faulty tree all left
Tells (Err (Left left)) all unread judgement = judgement ≡ Faulty (all - left)
Tells (Err OutOfMemory) all left judgement = ⊥

-- No more tokens are left than there are.
abbrev pub LeavesWithin : {A : Type 0} → Result A ReadFault → ℕ → ℕ → Type 0
LeavesWithin (Ok tree) all left = left ≤ all
LeavesWithin (Err (Left left)) all unread = left ≤ all
LeavesWithin (Err OutOfMemory) all left = ⊤

-- where the first fault stands, if a token stands there
abbrev pub first_of : {A : Type 0} → Judgement A → ℕ → Option ℕ
first_of (Whole tree) all = None
first_of (Faulty count) all = if count == all then None else Some count
