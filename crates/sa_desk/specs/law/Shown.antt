-- Whoever asks is shown the plan that runs, and what it has counted.
use Rattle.std.specs.Prelude.{◌≡◌, ℕ, ◌+◌, ◌≤◌, List, [], ◌∷◌, ◌++◌, Some}
use Rattle.sa_ast.specs.declared.kind.AskKind.{AskKind}
use Rattle.sa_plan.specs.declared.plan.Plan.{Plan}
use Rattle.sa_meaning.specs.Data.{RunData}
use Rattle.sa_count.specs.declared.report.Report.{Report}
use Rattle.sa_meaning.specs.Counts.{counts}
use Rattle.sa_desk.specs.declared.entry.Entry.{Entry}
use Rattle.sa_desk.specs.declared.entry.Event.TheVariants.{Queued}
use Rattle.sa_desk.specs.State.{Terms}
use Rattle.sa_desk.specs.law.On.{IsOn}
use Rattle.sa_desk.specs.law.Talk.{words}

-- The asker's request of this number stands in these entries, queued when so many steps were
-- published, and nothing after it in them answers it or ends it.
pub record IsAsked (since : List Entry) (asker request at : ℕ) : Type 0 where
  pub first : List Entry
  pub queued : Entry
  pub later : List Entry
  pub parts : since ≡ first ++ queued ∷ later
  pub by : queued.actor ≡ asker
  pub kind : AskKind
  pub budget : ℕ
  pub asks : queued.event ≡ Queued request kind at budget
  pub silent : words asker later ≡ []

-- The answer that comes after these entries is the desk's own session's, about its statement that
-- is on: its report is what the plan of that statement's Begin counts over that Begin's tables,
-- after a number of steps that is at least the one at which the request was queued, since that
-- Begin, and at most a quantum more.
pub record IsShown (terms : Terms) (before : List Entry) (answer : Entry) (asker request : ℕ)
    (report : Report) : Type 0 where
  pub own : answer.actor ≡ terms.desk
  pub number : ℕ
  pub on : IsOn terms number before
  pub plan : Plan
  pub tables : RunData
  pub has_plan : on.plan ≡ Some plan
  pub has_tables : on.tables ≡ Some tables
  pub counted : report ≡ counts number plan tables report.steps
  pub at : ℕ
  pub asked : IsAsked on.since asker request at
  pub least : at ≤ report.steps
  pub most : report.steps ≤ at + terms.quantum
