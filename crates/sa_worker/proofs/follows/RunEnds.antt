-- A run ends as the table says.
use Rattle.std.proofs.Common.{◌≡◌, ℕ, ◌+◌, ◌*◌, ◌<◌, ◌≤◌, Bool, true, false, length, inl, inr, refl, sym, subst, ap, ap₂, ◌∙◌, arith}
use Rattle.std.specs.Prelude.{◌⊎◌}
use Rattle.std.proofs.lemmas.Bool.{cases_eq}
use Rattle.sa_plan.specs.declared.plan.Planned.{Planned}
use Rattle.sa_meaning.specs.Items.{items}
use Rattle.sa_meaning.specs.Counts.{counts}
use Rattle.sa_meaning.specs.Output.{output}
use Rattle.sa_meaning.specs.Progress.{Progress}
use Rattle.sa_desk.specs.declared.outcome.Finish.{Finish}
use Rattle.sa_desk.specs.declared.outcome.Finish.TheVariants as finish
use Rattle.sa_desk.specs.declared.outcome.Outcome.{Outcome}
use Rattle.sa_desk.specs.declared.outcome.StepStop.{StepStop}
use Rattle.sa_desk.specs.declared.outcome.StepStop.TheVariants as stop
use Rattle.sa_desk.specs.Serving.{report_of}
use Rattle.sa_desk.specs.call.End.{outcome_of, stopped}
use Rattle.sa_desk.specs.program.RunEnds.{IsLastTurn, IsCut, RunEnds}
use Rattle.sa_desk.specs.program.Turn.{itself}
use Rattle.sa_worker.specs.View.{View, ends_run}
use Rattle.sa_worker.specs.Works.{Breaks, Stops, IsRunOf}
use Rattle.sa_worker.specs.Holds.{HoldsAt}

-- The last turn of a run that made all items, so many points of which came before.
last_turn : (quantum b made steps : ℕ) → 1 ≤ quantum → made * quantum ≤ steps → steps ≤ made * quantum + quantum → (made ≡ 0) ⊎ (made * quantum < steps)
    → IsLastTurn quantum b steps (b + made + 1)
last_turn quantum b made steps least low high before =
    elim (cases_eq steps 0) [
      | inl none ↦
          elim before [
            | inl first ↦ inl (none, omega (arith, first))
            | inr more ↦ absurd (omega (arith, none, more))
          ]
      | inr some ↦
          let below : made * quantum < steps = elim before [
            | inl first ↦ let nothing : made * quantum ≡ 0 = ap (λ made. made * quantum) first ∙ omega arith in omega (arith, nothing, some)
            | inr more ↦ more
          ] in
          inr (omega (arith, some), made + 1, (omega (arith, high), omega (arith, below)), omega arith)
    ]

-- What follows of a run that ends.
pub record EndsAsDue (view : View) (planned : Planned) (run : Progress) (due : Outcome) : Type 0 where
  pub analyze : Bool
  pub of_course : IsRunOf view analyze planned
  pub so : RunEnds view.given view.settings.limit view.number view.began analyze planned run.steps (view.turn + 1) due

module _ (view : View) (planned : Planned) (made : ℕ) (run : Progress) (given : Finish Progress) (keeps : HoldsAt view (ends_run planned made run given)) where
  abbrev quantum : ℕ
  quantum = view.given.quantum

  abbrev steps : ℕ
  steps = run.steps

  statement_is : run.statement ≡ view.number
  statement_is = ap (λ run. run.statement) keeps.holds.2

  plan_is : run.plan ≡ planned.plan
  plan_is = ap (λ run. run.plan) keeps.holds.2

  tables_are : run.data_read ≡ view.given.tables
  tables_are = ap (λ run. run.data_read) keeps.holds.2

  all_items : length (items run.plan run.data_read) ≡ length (items planned.plan view.given.tables)
  all_items = ap₂ (λ plan tables. length (items plan tables)) plan_is tables_are

  turn_is : view.turn + 1 ≡ view.began + made + 1
  turn_is = ap (λ turn. turn + 1) keeps.holds.0.on.turn

  -- before all items were made
  earlier : (all : ℕ) → all ≡ length (items planned.plan view.given.tables) → (made ≡ 0) ⊎ (made * quantum < all)
  earlier all is =
      elim keeps.holds.0.runs_on [
        | inl first ↦ inl first
        | inr on ↦ inr (let below = on.0 in omega (arith, below, is))
      ]

  cut : steps < length (items planned.plan view.given.tables) → steps < made * quantum + quantum → IsCut view.given view.settings.limit view.began planned.plan steps (view.turn + 1)
  cut more below = record { more = more; clear = keeps.holds.5; turns = made; rounded = (keeps.holds.3, below); last = turn_is }

  whole : steps ≡ length (items run.plan run.data_read) → IsLastTurn quantum view.began steps (view.turn + 1)
  whole finished =
      subst (IsLastTurn quantum view.began steps) (sym turn_is)
      (last_turn quantum view.began made steps keeps.given.least_quantum keeps.holds.3 keeps.holds.4 (earlier steps (finished ∙ all_items)))

  counted : report_of run ≡ counts view.number planned.plan view.given.tables steps
  counted = let statement = statement_is in let plan = plan_is in let tables = tables_are in cc

  broken : (fault : StepStop) (analyze : Bool) → steps < length (items planned.plan view.given.tables) → steps < made * quantum + quantum → Breaks view.given view.settings.limit planned fault steps
      → RunEnds view.given view.settings.limit view.number view.began analyze planned steps (view.turn + 1) (stopped fault)
  broken stop.RowLimit false more below breaks = (cut more below, breaks)
  broken stop.RowLimit true more below breaks = (cut more below, breaks)
  broken stop.TooManyRows false more below breaks = (cut more below, breaks.0, breaks.1)
  broken stop.TooManyRows true more below breaks = (cut more below, breaks.0, breaks.1)
  broken stop.OutOfMemory false more below breaks = (cut more below, breaks.0, breaks.1)
  broken stop.OutOfMemory true more below breaks = (cut more below, breaks.0, breaks.1)
  broken stop.Killed analyze more below breaks = absurd breaks

  stopped-as : (analyze : Bool) (due : Finish Progress) → Stops view.given view.settings.limit analyze planned (made * quantum) run due
      → RunEnds view.given view.settings.limit view.number view.began analyze planned steps (view.turn + 1) (outcome_of itself due)
  stopped-as false (finish.Rows names same) so =
      let plan : same.plan ≡ planned.plan = ap (λ run. run.plan) so.0 ∙ plan_is in
      let tables : same.data_read ≡ view.given.tables = ap (λ run. run.data_read) so.0 ∙ tables_are in
      (so.1, ap₂ output plan tables, record { all = so.2 ∙ all_items; clear = keeps.holds.5; last = whole so.2 })
  stopped-as true (finish.Analyzed plan same) so =
      (so.1, ap report_of so.0 ∙ counted, record { all = so.2 ∙ all_items; clear = keeps.holds.5; last = whole so.2 })
  stopped-as false (finish.Broken fault same) so = broken fault false so.1 so.2 so.3
  stopped-as true (finish.Broken fault same) so = broken fault true so.1 so.2 so.3
  stopped-as false due so = absurd so
  stopped-as true due so = absurd so

  killed : (analyze : Bool) → 1 ≤ made → steps ≡ made * quantum
      → RunEnds view.given view.settings.limit view.number view.began analyze planned steps (view.turn + 1) (stopped stop.Killed)
  killed analyze least at =
      let quanta = keeps.given.least_quantum in
      let more : steps < length (items planned.plan view.given.tables) = elim (earlier (length (items planned.plan view.given.tables)) refl) [
        | inl none ↦ absurd (omega (arith, none, least))
        | inr below ↦ omega (arith, below, at)
      ] in
      let below : steps < made * quantum + quantum = omega (arith, at, quanta) in
      elim analyze as (λ analyze. RunEnds view.given view.settings.limit view.number view.began analyze planned steps (view.turn + 1) (stopped stop.Killed)) [
        | false ↦ (cut more below, made, least, at)
        | true ↦ (cut more below, made, least, at)
      ]

  killed-as : (due : Finish Progress) (analyze : Bool) → due ≡ finish.Broken stop.Killed run → 1 ≤ made → steps ≡ made * quantum
      → RunEnds view.given view.settings.limit view.number view.began analyze planned steps (view.turn + 1) (outcome_of itself due)
  killed-as due analyze is least at =
      subst (λ due. RunEnds view.given view.settings.limit view.number view.began analyze planned steps (view.turn + 1) (outcome_of itself due)) (sym is) (killed analyze least at)

  pub run_ends : EndsAsDue view planned run (outcome_of itself given)
  run_ends =
      elim keeps.holds.1 [
        | inl stops ↦ record { analyze = stops.0; of_course = stops.1; so = stopped-as stops.0 given stops.2 }
        | inr by ↦
            record { analyze = keeps.holds.0.analyze; of_course = keeps.holds.0.course_is; so = killed-as given keeps.holds.0.analyze by.0 by.1 by.2 }
      ]
