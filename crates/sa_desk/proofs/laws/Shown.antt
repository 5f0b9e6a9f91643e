-- Whoever asks is shown the plan that runs.
use Rattle.std.proofs.Common.{◌≡◌, ℕ, List, [], ◌∷◌, ◌++◌, subst}
use Rattle.std.proofs.lemmas.List.Elements.{All-head}
use Rattle.sa_count.specs.declared.report.Report.{Report}
use Rattle.sa_desk.specs.declared.entry.Entry.{Entry}
use Rattle.sa_desk.specs.declared.entry.Event.TheVariants.{Served}
use Rattle.sa_desk.specs.declared.request.Request.{Request}
use Rattle.sa_desk.specs.State.{Terms, Statement, Execution, Phase, planned, serving, State}
use Rattle.sa_desk.specs.Comes.{ComesIn, ServesFirst}
use Rattle.sa_desk.specs.Runs.{state_of, IsDeskRun}
use Rattle.sa_desk.specs.law.Shown.{IsAsked, IsShown}
use Rattle.sa_desk.proofs.laws.Along.{entry_comes}
use Rattle.sa_desk.proofs.laws.On.{TellsRun, TellsIn, Tells-run}

shown_first : (terms : Terms) (before : List Entry) (statement : Statement) (execution : Execution) (queue : List Request) (entry : Entry) (asker request : ℕ) (report : Report)
    → ServesFirst terms statement execution queue entry asker request report → TellsRun terms before statement execution.plan execution.tables queue
    → IsShown terms before entry asker request report
shown_first terms before statement execution [] entry asker request report comes tells = absurd comes
shown_first terms before statement execution (first ∷ rest) entry asker request report comes tells =
    let since = tells.statement_is.on.since in
    record {
      own = comes.own;
      number = statement.number;
      on = tells.statement_is.on;
      plan = execution.plan;
      tables = execution.tables;
      has_plan = tells.has_plan;
      has_tables = tells.has_tables;
      counted = comes.counted;
      at = first.at;
      asked = subst (λ what. IsAsked since asker what first.at) comes.asked.1 (subst (λ who. IsAsked since who first.request first.at) comes.asked.0
          (All-head (λ (each : Request). IsAsked since each.asker each.request each.at) first rest tells.asked));
      least = comes.least;
      most = comes.most;
    }

shown_in : (terms : Terms) (before : List Entry) (state : State) (entry : Entry) (asker request : ℕ) (report : Report) (phase : Phase)
    → ComesIn terms state entry phase (Served asker request report) → TellsIn terms before phase → IsShown terms before entry asker request report
shown_in terms before state entry asker request report (planned statement execution) comes tells =
    shown_first terms before statement execution execution.queue entry asker request report comes tells
shown_in terms before state entry asker request report (serving statement execution steps turn) comes tells =
    shown_first terms before statement execution execution.queue entry asker request report comes.0 tells
shown_in terms before state entry asker request report phase comes tells = absurd comes

pub plan_shown : (terms : Terms) (journal before rest : List Entry) (entry : Entry) (asker request : ℕ) (report : Report) →
    IsDeskRun terms journal → journal ≡ before ++ entry ∷ rest → entry.event ≡ Served asker request report → IsShown terms before entry asker request report
plan_shown terms journal before rest entry asker request report run parts is =
    let comes = entry_comes terms journal before rest entry run parts in
    let now : State = state_of terms before in
    shown_in terms before now entry asker request report now.phase (subst (ComesIn terms now entry now.phase) is comes.1) (Tells-run terms before comes.0)
