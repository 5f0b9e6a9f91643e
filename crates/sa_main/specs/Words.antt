-- The words of the command line.
use Rattle.std.specs.Prelude.{◌≡◌, ℕ, List, [], ◌∷◌, codes, String, string_bytes}
use Rattle.std.specs.declared.alloc.Global.{Global}
use Rattle.sa_main.specs.declared.command.Command.{Command}
use Rattle.sa_main.specs.declared.command.Command.TheVariants.{Step, Run}

-- the word of a command
abbrev pub word_of : Command → List ℕ
word_of Step = codes "step"
word_of Run = codes "run"

-- The words are the one word of this command.
abbrev pub IsCommand : Command → List (String Global) → Type 0
IsCommand command [] = ⊥
IsCommand command (word ∷ []) = string_bytes word ≡ word_of command
IsCommand command (word ∷ other ∷ words) = ⊥
