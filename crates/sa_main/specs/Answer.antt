-- Which text answers an input to a command: what is printed for legal journals of the script that it
-- is, or the line of its first fault.
use Rattle.std.specs.Prelude.{◌≡◌, ◌⊎◌, ℕ, List}
use Rattle.sa_script.specs.declared.script.Script.{Script}
use Rattle.sa_script.specs.Fault.{Fault}
use Rattle.sa_script.specs.Script.{IsScript, IsFault}
use Rattle.sa_plan.specs.Names.{names_of}
use Rattle.sa_prepare.specs.Prepared.{Prepares}
use Rattle.sa_desk.specs.declared.entry.Entry.{Entry}
use Rattle.sa_desk.specs.Legal.{Sessions, IsLegal}
use Rattle.sa_step.specs.Schedule.{InSchedule}
use Rattle.sa_step.specs.Course.{InCourse}
use Rattle.sa_transcript.specs.Transcript.{transcript}
use Rattle.sa_transcript.specs.FaultLine.{fault_text}
use Rattle.sa_main.specs.declared.command.Command.{Command}
use Rattle.sa_main.specs.declared.command.Command.TheVariants.{Step}

-- the sessions of a script
abbrev pub sessions_of : Script → Sessions
sessions_of script = record {
  tables = script.tables;
  texts = script.sessions;
  quantum = script.quantum;
  turns = script.turns;
}

-- Journals are in the order of a script's schedule, in which waits and killed statements end when they
-- must.
pub record AreInOrder (script : Script) (journals : List (List Entry)) : Type 0 where
  pub in_schedule : InSchedule (sessions_of script) script.schedule journals
  pub in_course : InCourse (Prepares script.tables) (sessions_of script) script.schedule journals

-- The text is what is printed for journals that are legal for the script's sessions, and that are in the
-- order of its schedule where the command is `step`.
pub record TellsJournals (command : Command) (script : Script) (text : List ℕ) : Type 0 where
  pub journals : List (List Entry)
  pub legal : IsLegal (Prepares script.tables) (sessions_of script) journals
  pub in_order : command ≡ Step → AreInOrder script journals
  pub told : text ≡ transcript (names_of script.tables) journals

-- No script has these bytes.
abbrev pub IsNoScript : List ℕ → Type 0
IsNoScript bytes = (script : Script) → IsScript bytes script → ⊥

-- The input is a script, and the text tells its journals.
pub record IsJournal (command : Command) (input text : List ℕ) : Type 0 where
  pub script : Script
  pub is_script : IsScript input script
  pub journals : TellsJournals command script text

-- The input is no script, and the text tells the first fault.
pub record IsRefusal (input text : List ℕ) : Type 0 where
  pub no_script : IsNoScript input
  pub fault : Fault
  pub found : IsFault input fault
  pub refused : text ≡ fault_text fault

-- The text that answers an input: its journals, or the refusal.
abbrev pub AnswersInput : Command → List ℕ → List ℕ → Type 0
AnswersInput command input text = IsJournal command input text ⊎ IsRefusal input text
