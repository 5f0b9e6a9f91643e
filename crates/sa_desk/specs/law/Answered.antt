-- Which Served entry of a journal a session's answer comes from.
use Rattle.std.specs.Prelude.{◌≡◌, ℕ, List, ◌∷◌, ◌++◌}
use Rattle.sa_count.specs.declared.report.Report.{Report}
use Rattle.sa_desk.specs.declared.entry.Entry.{Entry}
use Rattle.sa_desk.specs.declared.entry.Event.TheVariants.{Served}
use Rattle.sa_desk.specs.State.{Terms}
use Rattle.sa_desk.specs.law.On.{IsOn}

-- The journal answers the asker's request with this report, while the statement is on whose Begin
-- entry has this number. It stays true of a longer journal.
pub record IsAnswered (terms : Terms) (journal : List Entry) (asker request : ℕ) (report : Report)
    (begin : ℕ) : Type 0 where
  pub before : List Entry
  pub answer : Entry
  pub rest : List Entry
  pub parts : journal ≡ before ++ answer ∷ rest
  pub serves : answer.event ≡ Served asker request report
  pub number : ℕ
  pub on : IsOn terms number before
  pub under : on.begin.seq ≡ begin
