-- What the private work of a turn has made.
use Rattle.std.proofs.Common.{◌≡◌, ℕ, ◌+◌, ◌-◌, ◌<◌, ◌≤◌, Bool, true, false, List, ◌∷◌, length, drop, refl, sym, subst, ap, ◌∙◌, arith, length-drop, [], ◌⊎◌, inl, inr, slice_index_or}
use Rattle.std.proofs.lemmas.Grind.{common_steps}
use Rattle.std.specs.declared.result.Result.TheVariants.{Ok}
use native.Mathlib.Numerals.{unary_clauses}
use Rattle.sa_plan.specs.declared.prepared.Prepared.{Prepared}
use Rattle.sa_desk.specs.program.Course.{Answer, prepared, starved}
use Rattle.sa_plan.specs.declared.plan.Plan.{Plan}
use Rattle.sa_meaning.specs.Data.{RunData}
use Rattle.sa_meaning.specs.Items.{items}
use Rattle.sa_meaning.specs.Output.{kept}
use Rattle.sa_meaning.specs.Progress.{Progress, EmitsAt}
use Rattle.sa_desk.specs.declared.outcome.Finish.{Finish}
use Rattle.sa_desk.specs.declared.outcome.Finish.TheVariants as finish
use Rattle.sa_desk.specs.declared.outcome.StepStop.{StepStop}
use Rattle.sa_desk.specs.declared.outcome.StepStop.TheVariants.{RowLimit, TooManyRows, OutOfMemory, Killed}
use Rattle.sa_desk.specs.program.RunEnds.{most_rows, IsClear}
use Rattle.sa_worker.specs.declared.opening.Goal.{Goal}
use Rattle.sa_worker.specs.declared.opening.Goal.TheVariants.{Rows, Analyzed}
use Rattle.sa_worker.specs.declared.session.Session.{Session}
use Rattle.sa_worker.specs.declared.stage.Stage.{Stage as StageFields}
use Rattle.sa_worker.specs.declared.steps.Pause.{Pause}
use Rattle.sa_worker.specs.declared.steps.Pause.TheVariants.{Full, Finished, Failed}
use Rattle.sa_worker.specs.View.{View, prepares, makes_steps, points, ends_run}
use Rattle.sa_desk.specs.program.Prepares.{Answers, IsAnswer}
use Rattle.sa_worker.specs.Works.{Breaks, Makes, goes_on, stops, Stops, Comes, IsRunOf, Works, WorksAt}
use Rattle.sa_worker.specs.Holds.{StageHolds}
use Rattle.sa_worker.specs.inner.Fields.{paused, planned_of, stage_of, view_of}
use Rattle.sa_worker.specs.inner.Ties.{IsGoal}
use Rattle.sa_worker.specs.inner.Steps.{MakesSteps}
use Rattle.sa_worker.specs.inner.Steps as inner

-- The steps that were made of a statement's run are those that the work has to make.
module _ (view : View) (run after : Progress) (made : ℕ) (holds : StageHolds view (makes_steps (planned_of run) made run)) (pause : Pause) (steps : MakesSteps run after pause) where
  plan_same : after.plan ≡ run.plan
  plan_same = ap (λ (run : Progress). run.plan) steps.same

  quantum_is : after.quantum ≡ view.given.quantum
  quantum_is = ap (λ (run : Progress). run.quantum) steps.same ∙ ap (λ (run : Progress). run.quantum) holds.1

  limit_is : after.row_limit ≡ view.settings.limit
  limit_is = ap (λ (run : Progress). run.row_limit) steps.same ∙ ap (λ (run : Progress). run.row_limit) holds.1

  tables_are : after.data_read ≡ view.given.tables
  tables_are = ap (λ (run : Progress). run.data_read) steps.same ∙ ap (λ (run : Progress). run.data_read) holds.1

  over : (P : Plan → RunData → Type 0) → P after.plan after.data_read → P run.plan view.given.tables
  over P fact = subst (P run.plan) tables_are (subst (λ plan. P plan after.data_read) plan_same fact)

  comes : Comes view (planned_of run) run after
  comes = record {
    same = steps.same;
    least = steps.least;
    most = subst (λ quantum. after.steps ≤ run.steps + quantum) (ap (λ (run : Progress). run.quantum) holds.1) steps.most;
    clear = subst (λ limit. IsClear limit run.plan view.given.tables after.steps) (ap (λ (run : Progress). run.row_limit) holds.1)
        (subst (λ tables. IsClear run.row_limit run.plan tables after.steps) (ap (λ (run : Progress). run.data_read) holds.1) steps.clear);
  }

  clear_over : (steps : ℕ) → IsClear after.row_limit after.plan after.data_read steps → IsClear view.settings.limit run.plan view.given.tables steps
  clear_over steps clear = over (λ plan tables. IsClear view.settings.limit plan tables steps) (subst (λ limit. IsClear limit after.plan after.data_read steps) limit_is clear)

  breaks : (stop : StepStop) → inner.Breaks after stop → Breaks view.given view.settings.limit (planned_of run) stop after.steps
  breaks RowLimit at = at ∙ limit_is
  breaks TooManyRows at =
      (subst (λ limit. after.steps < limit) limit_is at.0, over (λ plan tables. most_rows < length (kept plan tables (after.steps + 1))) at.1)
  breaks OutOfMemory at = (clear_over (after.steps + 1) at.0, over (λ plan tables. EmitsAt plan tables after.steps) at.1)
  breaks Killed at = absurd at

  goes : (after.steps ≡ run.steps + after.quantum) × (after.steps < length (items after.plan after.data_read)) × (after.failed ≡ false)
      → Makes view (planned_of run) made run (record view { stage = points (planned_of after) made after })
  goes stands =
      goes_on after comes (stands.0 ∙ ap (λ quantum. run.steps + quantum) quantum_is) (over (λ plan tables. after.steps < length (items plan tables)) stands.1)
      (stands.2 ∙ sym (ap (λ (run : Progress). run.failed) holds.1)) (ap (λ plan. record view { stage = points (record { plan = plan }) made after }) plan_same)

  ends_with : (analyze : Bool) (given : Finish Progress) → IsRunOf view analyze (planned_of run) → Stops view.given view.settings.limit analyze (planned_of run) run.steps after given
      → Makes view (planned_of run) made run (record view { stage = ends_run (planned_of after) made after given })
  ends_with analyze given of_course so =
      stops after comes given analyze of_course so (ap (λ plan. record view { stage = ends_run (record { plan = plan }) made after given }) plan_same)

  broken : (stop : StepStop) → (after.steps < length (items after.plan after.data_read)) × (after.steps < run.steps + after.quantum) × inner.Breaks after stop
      → (after ≡ after) × (after.steps < length (items run.plan view.given.tables)) × (after.steps < run.steps + view.given.quantum) × Breaks view.given view.settings.limit (planned_of run) stop after.steps
  broken stop stands = (
    refl,
    over (λ plan tables. after.steps < length (items plan tables)) stands.0,
    subst (λ quantum. after.steps < run.steps + quantum) quantum_is stands.1,
    breaks stop stands.2,
  )

pub makes_of : (view : View) (run after : Progress) (goal : Goal) (made : ℕ) (pause : Pause) → StageHolds view (makes_steps (planned_of run) made run) → IsGoal (record view { turn = 0; began = 0; stage = prepares }) (planned_of run) goal
    → MakesSteps run after pause → Makes view (planned_of run) made run (record view { stage = stage_of (paused after goal made pause) })
makes_of view run after goal made Full holds is steps = goes view run after made holds Full steps steps.stands
makes_of view run after (Rows names) made Finished holds is steps =
    ends_with view run after made holds Finished steps false (finish.Rows names after) is.1 (refl, is.0, steps.stands)
makes_of view run after (Analyzed plan) made Finished holds is steps =
    ends_with view run after made holds Finished steps true (finish.Analyzed plan after) is.1 (refl, is.0, steps.stands)
makes_of view run after (Rows names) made (Failed stop) holds is steps =
    ends_with view run after made holds (Failed stop) steps false (finish.Broken stop after) is.1 (broken view run after made holds (Failed stop) steps stop steps.stands)
makes_of view run after (Analyzed plan) made (Failed stop) holds is steps =
    ends_with view run after made holds (Failed stop) steps true (finish.Broken stop after) is.1 (broken view run after made holds (Failed stop) steps stop steps.stands)

-- Where a text is left the number is one of a statement, and it is that statement's.
shorter : (texts rest : List (List ℕ)) (text : List ℕ) (count : ℕ) → drop count texts ≡ text ∷ rest → count + 1 ≤ length texts
shorter texts rest text count is =
    let left : length texts - count ≡ length rest + 1 = simp unary_clauses (sym (length-drop count texts) ∙ ap length is) in omega (arith, left)

pub there_left : (texts rest : List (List ℕ)) (text : List ℕ) (number : ℕ) → 1 ≤ number → drop (number - 1) texts ≡ text ∷ rest → number ≤ length texts
there_left texts rest text number least is = let there = shorter texts rest text (number - 1) is in omega (arith, least, there)

pub text_left : (texts rest : List (List ℕ)) (text : List ℕ) (number : ℕ) → drop number texts ≡ text ∷ rest → slice_index_or texts number [] ≡ text
text_left texts rest text number is = grind (arith, common_steps, is)

-- A text that was prepared has that answer, or memory ran out.
pub answer_prepared : (gives : Answers) (source text : List ℕ) (given : Prepared) (answer : Answer) → text ≡ source → gives text (Ok given)
    → (answer ≡ prepared given.text given.work) ⊎ (answer ≡ starved given.text) → IsAnswer gives source answer
answer_prepared gives source text given answer same said is =
    let so : gives source (Ok given) = subst (λ text. gives text (Ok given)) same said in
    elim is [ inl is ↦ subst (IsAnswer gives source) (sym is) so | inr is ↦ subst (IsAnswer gives source) (sym is) (inr (given.work, so)) ]

-- The work of a stage is that of the session at it.
pub works_at : (gives : Answers) (session : Session) (later : View) (stage : StageFields) → stage ≡ session.stage
    → WorksAt gives (record (view_of session) { stage = stage_of stage }) (stage_of stage) later → Works gives (view_of session) later
works_at gives session later stage same = subst (λ stage. WorksAt gives (record (view_of session) { stage = stage_of stage }) (stage_of stage) later → Works gives (view_of session) later) (sym same) (λ works. works)
