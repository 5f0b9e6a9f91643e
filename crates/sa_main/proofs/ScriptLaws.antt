-- What a command leaves, by what was read, answered and written.
use Rattle.std.proofs.Common.{◌≡◌, ◌⊎◌, ◌↔◌, ℕ, ◌<◌, List, Option, Some, None, inl, inr, sym, ◌∙◌, arith}
use Rattle.std.specs.Prelude.{String}
use Rattle.std.specs.declared.alloc.Global.{Global}
use Rattle.sa_source.specs.Source.{IsAtEnd}
use Rattle.sa_main.specs.Answer.{IsJournal, IsRefusal, AnswersInput}
use Rattle.sa_main.specs.Words.{IsCommand}
use Rattle.sa_main.specs.declared.command.Command.{Command}
use Rattle.sa_main.specs.Status.{ReadsInput}

-- the status tells what the text says
pub answers : (command : Command) (status : ℕ) (input text : List ℕ) → (status ≡ 0) ⊎ (status ≡ 3) → (status ≡ 0 → IsJournal command input text) → (status ≡ 3 → IsRefusal input text)
    → AnswersInput command input text
answers command status input text (inl done) journal refusal = inl (journal done)
answers command status input text (inr refused) journal refusal = inr (refusal refused)

-- an answer has no other status
pub answers_no_more : (status other : ℕ) → (status ≡ 0) ⊎ (status ≡ 3) → 3 < other → status ≡ other → ⊥
answers_no_more status other (inl done) more is = omega arith
answers_no_more status other (inr refused) more is = omega arith

-- A script isn't as long as what is read of an input that goes on.
pub read_to_the_end : (command : Command) (before after : Option (List ℕ)) (input text : List ℕ) → ReadsInput before after input → IsJournal command input text → IsAtEnd after
read_to_the_end command before after input text read journal = elim read.whole [
  | inl at_end ↦ at_end
  | inr cut ↦ absurd (omega (arith, journal.is_script.size))
]

-- no command says that its words are wrong
pub is_no_usage : (status : ℕ) → (status ≡ 0) ⊎ ((status ≡ 3) ⊎ ((status ≡ 4) ⊎ ((status ≡ 5) ⊎ (status ≡ 6)))) → status ≡ 2 → ⊥
is_no_usage status (inl one) is = omega arith
is_no_usage status (inr (inl one)) is = omega arith
is_no_usage status (inr (inr (inl one))) is = omega arith
is_no_usage status (inr (inr (inr (inl one)))) is = omega arith
is_no_usage status (inr (inr (inr (inr one)))) is = omega arith

-- which command the words were found to be
module _ (found : Option Command) (words : List (String Global)) (finds : (command : Command) → (found ≡ Some command) ↔ IsCommand command words) where
  pub is_named : (command : Command) → found ≡ Some command → IsCommand command words
  is_named command is = (finds command).0 is

  pub is_found : (command other : Command) → found ≡ Some other → IsCommand command words → command ≡ other
  is_found command other is named = let same : Some command ≡ Some other = sym ((finds command).1 named) ∙ is in cc

  pub none_is_named : found ≡ None → (command : Command) → IsCommand command words → ⊥
  none_is_named none command named = absurd (let same : None ≡ Some command = sym none ∙ (finds command).1 named in cc)
