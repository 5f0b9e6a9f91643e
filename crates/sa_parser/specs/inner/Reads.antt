-- When a call that reads tokens answers what a reader gives.
use Rattle.std.specs.Prelude.{◌≡◌, ⊤, List, Result, Ok, Err}
use Rattle.sa_lexer.specs.declared.token.Token.{Token}
use Rattle.sa_parser.specs.declared.fault.ReadFault.{ReadFault}
use Rattle.sa_parser.specs.declared.fault.ReadFault.TheVariants.{Left, OutOfMemory}
use Rattle.sa_parser.specs.inner.Reading.{Outcome}

-- What a call returned, and the tokens that it left, are the outcome, unless memory ran out.
abbrev pub Reads : {A : Type 0} → Outcome A → Result A ReadFault → List Token → Type 0
Reads outcome (Ok value) behind = outcome ≡ Ok (value, behind)
Reads outcome (Err (Left left)) behind = outcome ≡ Err left
Reads outcome (Err OutOfMemory) behind = ⊤
