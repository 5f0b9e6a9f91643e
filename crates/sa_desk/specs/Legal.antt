-- Which journals are legal for what a script's sessions say.
use Rattle.std.specs.Prelude.{◌≡◌, ℕ, ◌-◌, ◌≤◌, List, [], length, All, slice_index_or}
use Rattle.sa_meaning.specs.Data.{RunData}
use Rattle.sa_desk.specs.declared.entry.Entry.{Entry}
use Rattle.sa_desk.specs.Runs.{IsDeskRun, IsEntryOf}
use Rattle.sa_desk.specs.World.{made_by, standing_on}
use Rattle.sa_desk.specs.program.Course.{Given, Answer}
use Rattle.sa_desk.specs.program.Prepares.{Answers, AreAnswers}
use Rattle.sa_desk.specs.program.SoFar.{terms_of, IsProgram}

-- The sessions of a script: the tables that they read, the texts of their statements, how many
-- steps a turn makes and how many turns a request or a wait lasts.
pub record Sessions : Type 0 where
  pub tables : RunData
  pub texts : List (List (List ℕ))
  pub quantum : ℕ
  pub turns : ℕ

-- what is fixed for the session of this number
abbrev pub given_of : Sessions → ℕ → Given
given_of sessions session = record {
  session = session;
  sessions = length sessions.texts;
  quantum = sessions.quantum;
  turns = sessions.turns;
  tables = sessions.tables;
  texts = slice_index_or sessions.texts (session - 1) [];
}

-- the journal of the desk with this number
abbrev pub journal_at : List (List Entry) → ℕ → List Entry
journal_at journals desk = slice_index_or journals (desk - 1) []

-- These are the entries that a session has made, over all desks: on each desk they stand in the
-- same order.
pub record IsMade (journals : List (List Entry)) (session : ℕ) (mine : List Entry) : Type 0 where
  pub there : All (λ (entry : Entry). (1 ≤ entry.desk) × (entry.desk ≤ length journals)) mine
  pub standing : (desk : ℕ) → 1 ≤ desk → desk ≤ length journals
      → made_by session (journal_at journals desk) ≡ standing_on desk mine

-- What a session has made is its program, where preparation gave these answers to its statements.
pub record HasProgram (gives : Answers) (sessions : Sessions) (journals : List (List Entry))
    (session : ℕ) : Type 0 where
  pub mine : List Entry
  pub made : IsMade journals session mine
  pub answers : List Answer
  pub given : AreAnswers gives (given_of sessions session).texts answers
  pub program : IsProgram (given_of sessions session) (journal_at journals) answers mine

-- Each session has a journal. It is one that the session's desk may write, with entries of the
-- sessions alone, and each session has made the entries of its program.
pub record IsLegal (gives : Answers) (sessions : Sessions) (journals : List (List Entry)) : Type 0 where
  pub one_each : length journals ≡ length sessions.texts
  pub entries : (desk : ℕ) → 1 ≤ desk → desk ≤ length journals
      → All (IsEntryOf desk (length sessions.texts)) (journal_at journals desk)
  pub desks : (desk : ℕ) → 1 ≤ desk → desk ≤ length journals
      → IsDeskRun (terms_of (given_of sessions desk) desk) (journal_at journals desk)
  pub programs : (session : ℕ) → 1 ≤ session → session ≤ length sessions.texts
      → HasProgram gives sessions journals session
