-- Which run an answer to a request shows.
use Rattle.std.specs.Prelude.{◌≡◌, ℕ, ◌⊎◌, List}
use Rattle.sa_count.specs.declared.report.Report.{Report}
use Rattle.sa_plan.specs.declared.plan.Planned.{Planned}
use Rattle.sa_plan.specs.declared.prepared.Work.TheVariants as work
use Rattle.sa_desk.specs.declared.entry.Entry.{Entry}
use Rattle.sa_desk.specs.Legal.{Sessions, given_of}
use Rattle.sa_desk.specs.law.Shown.{IsShown}
use Rattle.sa_desk.specs.program.Prepares.{Answers}
use Rattle.sa_desk.specs.program.SoFar.{terms_of}
use Rattle.sa_legal.specs.Prepared.{IsPrepared}

-- The answer is about the statement that is on at this desk after the entries before: it counts
-- what that statement's plan counts after one number of steps, at most a quantum above the number
-- that stood when the request was queued (`IsShown`). The plan is that which the statement, a
-- SELECT or an ANALYZE, was prepared to, and it runs over the script's tables.
pub record ShowsRun (gives : Answers) (sessions : Sessions) (desk : ℕ) (before : List Entry)
    (answer : Entry)
    (asker request : ℕ) (report : Report) : Type 0 where
  pub shown : IsShown (terms_of (given_of sessions desk) desk) before answer asker request report
  pub planned : Planned
  pub plan_is : shown.plan ≡ planned.plan
  pub tables_are : shown.tables ≡ sessions.tables
  pub prepared :
      IsPrepared gives (given_of sessions desk) shown.number (work.Select planned)
      ⊎ IsPrepared gives (given_of sessions desk) shown.number (work.Analyze planned)
