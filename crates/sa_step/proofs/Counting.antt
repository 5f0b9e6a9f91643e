-- What a desk has published is a quantum for each turn of its session since the Begin that is on.
use Rattle.std.proofs.Common.{◌≡◌, ◌≢◌, ℕ, ◌+◌, ◌*◌, ◌<◌, ◌≤◌, ◌==◌, if◌then◌else◌, true, inl, inr, refl, sym, ap, ◌∙◌, arith}
use Rattle.std.proofs.lemmas.Bool.{eq-eqb, cases_lt}
use Rattle.sa_meaning.specs.Progress.{Progress}
use Rattle.sa_plan.specs.declared.plan.Planned.{Planned}
use Rattle.sa_desk.specs.State.{Statement, Execution, Phase, idle, unplanned, planned, serving, closed, IsSettled, IsLawful}
use Rattle.sa_desk.specs.Contents.{Contents, phase}
use Rattle.sa_desk.specs.Own.{running, outline}
use Rattle.sa_desk.specs.World.{World, Meets}
use Rattle.sa_desk.proofs.program.Own.{outline-met}
use Rattle.sa_worker.specs.View.{View, Stage, prepares, makes_steps, opens, ends_run, done, outline_at}
use Rattle.sa_worker.specs.View as stages
use Rattle.sa_worker.specs.Keeps.{IsRunAt, KeepsAt}
use Rattle.sa_step.specs.Schedule.{IsCounted}

-- So many points of the statement are made.
record ArePointed (view : View) (desk : Contents) (statement : Statement) : Type 0 where
  pub points : ℕ
  pub turn : view.turn ≡ statement.turn + points
  pub published : desk.published ≡ points * view.given.quantum

module _ (world : World) (view : View) (met : Meets world view.given.session view.given.session) where
  abbrev own : Contents
  own = world.contents view.given.session

  -- What a session published is what was counted for it.
  published_is : own.published ≡ (world.quiet view.given.session view.given.session).published
  published_is =
      let same : (view.given.session == own.terms.desk) ≡ true = eq-eqb view.given.session own.terms.desk (sym met.number) in
      let counted : (if view.given.session == own.terms.desk then own.published else 0) ≡ (world.quiet view.given.session view.given.session).published =
      ap (λ quiet. quiet.published) met.counted in
      let here : own.published ≡ (if view.given.session == own.terms.desk then own.published else 0) = rw same refl in
      here ∙ counted

  pointed : (statement : Statement) (execution : Execution) (chosen : Planned) (made : ℕ) (run : Progress) (number begin : ℕ)
      → running statement.number statement.begin statement.turn execution.plan execution.tables ≡ running number begin view.began chosen.plan view.given.tables
      → IsRunAt world view run chosen.plan made → ArePointed view own statement
  pointed statement execution chosen made run number begin is at =
      let began : statement.turn ≡ view.began = cc in record {
        points = made;
        turn = at.turn ∙ ap (λ turn. turn + made) (sym began);
        published = published_is ∙ at.published;
      }

  pointed_at : (stage : Stage) (begin : ℕ) (statement : Statement) (execution : Execution)
      → running statement.number statement.begin statement.turn execution.plan execution.tables ≡ outline_at view begin stage
      → KeepsAt world view stage → ArePointed view own statement
  pointed_at (makes_steps chosen made run) begin statement execution is keeps = pointed statement execution chosen made run view.number begin is keeps.knows.0
  pointed_at (stages.points chosen made run) begin statement execution is keeps = pointed statement execution chosen made run view.number begin is keeps.knows.0
  pointed_at (ends_run chosen made run given) begin statement execution is keeps = pointed statement execution chosen made run view.number begin is keeps.knows.0
  pointed_at prepares begin statement execution is keeps = absurd cc
  pointed_at opens begin statement execution is keeps = absurd cc
  pointed_at stages.closes begin statement execution is keeps = absurd cc
  pointed_at done begin statement execution is keeps = absurd cc
  pointed_at (stages.ends result) begin statement execution is keeps = absurd cc
  pointed_at (stages.asks kind desk) begin statement execution is keeps = absurd cc
  pointed_at (stages.polls kind desk polled) begin statement execution is keeps = absurd cc
  pointed_at (stages.looks_asking kind desk polled) begin statement execution is keeps = absurd cc
  pointed_at (stages.withdraws kind desk polled) begin statement execution is keeps = absurd cc
  pointed_at (stages.kills kind desk) begin statement execution is keeps = absurd cc
  pointed_at (stages.waits desk at looked) begin statement execution is keeps = absurd cc
  pointed_at (stages.looks_waiting desk at looked) begin statement execution is keeps = absurd cc

  module _ (slot : (session turn : ℕ) → ℕ) (place : ℕ) (keeps : KeepsAt world view view.stage)
      (quantum : own.terms.quantum ≡ view.given.quantum)
      (behind : (turn : ℕ) → 1 ≤ turn → turn ≤ view.turn → slot own.terms.desk turn < place)
      (ahead : view.stage ≢ done → (turn : ℕ) → view.turn < turn → place ≤ slot own.terms.desk turn) where
    undone : (statement : Statement) (execution : Execution) → phase own ≡ planned statement execution → view.stage ≢ done
    undone statement execution is over =
        let told : outline (planned statement execution) ≡ outline_at view keeps.begin done =
        ap outline (sym is) ∙ outline-met world view.given.session met ∙ keeps.outline_is ∙ ap (outline_at view keeps.begin) over in absurd cc

    counted_planned : (statement : Statement) (execution : Execution) → phase own ≡ planned statement execution
        → IsCounted slot own.terms (planned statement execution) place own.published
    counted_planned statement execution is =
        let told = ap outline (sym is) ∙ outline-met world view.given.session met ∙ keeps.outline_is in
        let pointed = pointed_at view.stage keeps.begin statement execution told keeps in
        let now = pointed.turn in (
          pointed.points,
          (λ turn later. (
            (λ less. elim (cases_lt view.turn turn) [
              | inl past ↦ let far = ahead (undone statement execution is) turn past in absurd (omega (arith, less, far))
              | inr within ↦ omega (arith, within, now)
            ]),
            (λ within. behind turn (omega (arith, later)) (omega (arith, within, now))),
          )),
          pointed.published ∙ ap (λ quantum. pointed.points * quantum) (sym quantum),
        )

    counted_phase : (found : Phase) → phase own ≡ found → IsSettled found → IsLawful own.terms.quantum found own.published → IsCounted slot own.terms found place own.published
    counted_phase idle is settled lawful = lawful
    counted_phase (unplanned statement) is settled lawful = lawful
    counted_phase (planned statement execution) is settled lawful = counted_planned statement execution is
    counted_phase (serving statement execution steps turn) is settled lawful = absurd settled
    counted_phase closed is settled lawful = lawful

    -- What is published is what is counted.
    pub counted_own : IsCounted slot own.terms (phase own) place own.published
    counted_own = counted_phase (phase own) refl met.sound.run.settled met.sound.lawful
