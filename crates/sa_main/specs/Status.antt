-- What a command reads and writes.
use Rattle.std.specs.Prelude.{ℕ, ◌^◌, ◌+◌, List, Option}
use Rattle.sa_source.specs.Source.{IsAtEnd}
use Rattle.sa_source.specs.Transfer.{ReadsUpTo, WritesPart}
use Rattle.sa_source.specs.Sink.{Appends}
use Rattle.sa_main.specs.declared.command.Command.{Command}
use Rattle.sa_main.specs.Answer.{IsJournal, IsRefusal, AnswersInput}

-- The source told its input, to the end or up to byte 16,777,217.
abbrev pub ReadsInput : Option (List ℕ) → Option (List ℕ) → List ℕ → Type 0
ReadsInput before after input = ReadsUpTo (2 ^ 24 + 1) before after input

-- The whole input was read, it is a script, and all that is printed for its journals was written.
pub record Ran (command : Command) (left_before left_after taken_before taken_after : Option (List ℕ)) : Type 0 where
  pub input : List ℕ
  pub text : List ℕ
  pub read : ReadsInput left_before left_after input
  pub at_end : IsAtEnd left_after
  pub answer : IsJournal command input text
  pub written : Appends taken_before taken_after text

-- What was read is no script, and the whole line of its first fault was written.
pub record Refused (left_before left_after taken_before taken_after : Option (List ℕ)) : Type 0 where
  pub input : List ℕ
  pub text : List ℕ
  pub read : ReadsInput left_before left_after input
  pub answer : IsRefusal input text
  pub written : Appends taken_before taken_after text

-- The input was read, and only a beginning of its answer was written.
pub record CutShort (command : Command) (left_before left_after taken_before taken_after : Option (List ℕ)) : Type 0 where
  pub input : List ℕ
  pub text : List ℕ
  pub read : ReadsInput left_before left_after input
  pub answer : AnswersInput command input text
  pub written : WritesPart taken_before taken_after text
