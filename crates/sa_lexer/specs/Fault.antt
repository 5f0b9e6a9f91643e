-- Faults of a text, and when a call answers what reading gives.
use Rattle.std.specs.Prelude.{ℕ, ◌≡◌, ⊤, Result, Ok, Err}
use Rattle.sa_lexer.specs.declared.fault.LexKind.{LexKind}
use Rattle.sa_lexer.specs.declared.fault.LexKind.TheVariants.{OpenText, OpenComment}
use Rattle.sa_lexer.specs.declared.fault.LexFault.{LexFault}
use Rattle.sa_lexer.specs.declared.fault.LexFault.TheVariants.{Bad, OutOfMemory}

-- what is wrong, and at which byte
pub record Fault : Type 0 where
  pub kind : LexKind
  pub place : ℕ

abbrev pub fault : LexKind → ℕ → Fault
fault kind place = record { kind = kind; place = place }

infixl 10 ◌>>=◌
abbrev pub ◌>>=◌ : {A B : Type 0} → Result A Fault → (A → Result B Fault) → Result B Fault
(Ok found) >>= next = next found
(Err fault) >>= next = Err fault

-- What a call returned is what reading gives, unless memory ran out.
abbrev pub Gives : {T : Type 0} → Result T LexFault → Result T Fault → Type 0
Gives (Ok found) read = read ≡ Ok found
Gives (Err OutOfMemory) read = ⊤
Gives (Err (Bad kind place)) read = read ≡ Err (fault kind place)

-- What a call that takes no memory returned is what reading gives.
abbrev pub Answers : {T : Type 0} → Result T LexFault → Result T Fault → Type 0
Answers (Ok found) read = read ≡ Ok found
Answers (Err OutOfMemory) read = ⊥
Answers (Err (Bad kind place)) read = read ≡ Err (fault kind place)

-- A part in quotes or a comment has no end.
abbrev pub IsOpen : LexFault → Type 0
IsOpen (Bad OpenText place) = ⊤
IsOpen (Bad OpenComment place) = ⊤
IsOpen fault = ⊥
