-- What the parts of an answer tell: the first token that goes too deep, and the fault at a place.
use Rattle.std.specs.Prelude.{◌≡◌, ℕ, ◌+◌, ◌<◌, List, length, take, Option, Some, None}
use Rattle.sa_lexer.specs.declared.token.Token.{Token}
use Rattle.sa_parser.specs.declared.answer.ParseFault.{ParseFault}
use Rattle.sa_parser.specs.declared.answer.ParseFault.TheVariants.{Syntax, NotSupported, TooDeep, OutOfMemory}
use Rattle.sa_parser.specs.Form.{Form}
use Rattle.sa_parser.specs.Depth.{depth_of, most_levels, StaysFlat}
use Rattle.sa_parser.specs.Fault.{fault_place, IsUnsupported}

-- The first token that goes too deep, if there is one.
abbrev pub IsFirstTooDeep : List Token → Option ℕ → Type 0
IsFirstTooDeep tokens None = StaysFlat tokens
IsFirstTooDeep tokens (Some place) =
    (place < length tokens) × StaysFlat (take place tokens)
    × (most_levels < depth_of (take (place + 1) tokens))

-- The fault has the kind and the place of what is faulty.
abbrev pub TellsFault : {A : Type 0} → Form A → List Token → List Token → ParseFault → Type 0
TellsFault Is before behind (Syntax place) =
    (IsUnsupported Is before behind → ⊥) × (place ≡ fault_place before behind)
TellsFault Is before behind (NotSupported place) =
    IsUnsupported Is before behind × (place ≡ fault_place before behind)
TellsFault Is before behind (TooDeep place) = ⊥
TellsFault Is before behind OutOfMemory = ⊥
