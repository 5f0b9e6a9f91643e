-- What a session's own entries say of its desk is enough for a point, and for the end of a run.
use Rattle.std.proofs.Common.{◌≡◌, ℕ, ◌+◌, ◌-◌, ◌*◌, ◌/◌, ◌≤◌, ◌==◌, if◌then◌else◌, true, [], ◌∷◌, ◌++◌, length, slice_index, Some, refl, sym, subst, ap, ◌∙◌, arith}
use Rattle.std.specs.Prelude.{IfSome}
use Rattle.std.proofs.Math.Nat.{mul-div_cancel}
use Rattle.std.proofs.lemmas.Bool.{eq-eqb}
use Rattle.sa_plan.specs.declared.plan.Plan.{Plan}
use Rattle.sa_meaning.specs.Data.{RunData}
use Rattle.sa_meaning.specs.Progress.{Progress, IsFinished}
use Rattle.sa_desk.specs.declared.entry.Event.TheVariants as event
use Rattle.sa_desk.specs.declared.outcome.Finish.{Finish}
use Rattle.sa_desk.specs.declared.outcome.Outcome.{Outcome}
use Rattle.sa_desk.specs.declared.outcome.Outcome.TheVariants as outcome
use Rattle.sa_desk.specs.declared.stamp.Caller.{Caller}
use Rattle.sa_desk.specs.declared.stamp.Stamp.{Stamp}
use Rattle.sa_desk.specs.State.{Statement, Execution, Phase, idle, unplanned, planned, serving, closed, IsSettled, queue_of}
use Rattle.sa_desk.specs.Charge.{charge}
use Rattle.sa_desk.specs.Contents.{Contents, phase, later}
use Rattle.sa_desk.specs.Serving.{served_entries, report_of, IsRunOf, begin_turn, is_killed}
use Rattle.sa_desk.specs.World.{World, standing_on, next_stamp}
use Rattle.sa_desk.specs.Own.{free, running, outline, own_from}
use Rattle.sa_desk.specs.call.End.{MayEnd, Fits, IsOn, IsGivenRun, IsTimely, run_of, outcome_of, end_entry, end_entries}
use Rattle.sa_desk.specs.call.Point.{MayPoint}
use Rattle.sa_desk.specs.program.Turn.{itself}
use Rattle.sa_desk.proofs.Append.{charge-append}
use Rattle.sa_desk.proofs.program.Own.{charge-served}
use Rattle.sa_desk.proofs.program.May.{Knows, paid, share, one_most, room, owner, own_caller, told_outline}

-- A statement with a plan is on, and nobody is half served.
pub record IsRunning (phase : Phase) (number begin turn : ℕ) (plan : Plan) (tables : RunData) : Type 0 where
  pub statement : Statement
  pub execution : Execution
  pub phase_is : phase ≡ planned statement execution
  pub number_is : number ≡ statement.number
  pub turn_is : turn ≡ statement.turn
  pub plan_is : plan ≡ execution.plan
  pub tables_are : tables ≡ execution.tables

running_is : (phase : Phase) (number begin turn : ℕ) (plan : Plan) (tables : RunData) → IsSettled phase → outline phase ≡ running number begin turn plan tables
    → IsRunning phase number begin turn plan tables
running_is idle number begin turn plan tables settled is = absurd cc
running_is (unplanned statement) number begin turn plan tables settled is = absurd cc
running_is (planned statement execution) number begin turn plan tables settled is = record {
  statement = statement;
  execution = execution;
  phase_is = refl;
  number_is = cc;
  turn_is = cc;
  plan_is = cc;
  tables_are = cc;
}
running_is (serving statement execution steps at) number begin turn plan tables settled is = absurd settled
running_is closed number begin turn plan tables settled is = absurd cc

-- So many points are so many quanta.
points_of : (points quantum : ℕ) → 1 ≤ quantum → (points * quantum) / quantum ≡ points
points_of points quantum least = mul-div_cancel points least

one_more : (points quantum : ℕ) → points * quantum + quantum ≡ (points + 1) * quantum
one_more points quantum = omega arith

-- The run is of the statement that is on, and so many points of it are made.
pub record RunsAt (world : World) (session : ℕ) (run : Progress) (number : ℕ) (plan : Plan) (tables : RunData) (points : ℕ) : Type 0 where
  pub statement : run.statement ≡ number
  pub plan_is : run.plan ≡ plan
  pub tables_are : run.data_read ≡ tables
  pub published : (world.quiet session session).published ≡ points * (world.terms session).quantum

module _ (world : World) (me : Caller) (knows : Knows world me.actor me.actor) (number begin turn : ℕ) (plan : Plan) (tables : RunData)
    (is_on : own_from free (standing_on me.actor (world.mine me.actor)) ≡ running number begin turn plan tables) (run : Progress) (points : ℕ)
    (at : RunsAt world me.actor run number plan tables points) (now : me.turn ≡ turn + points + 1) where
  abbrev desk : Contents
  desk = world.contents me.actor

  abbrev stamp : Stamp
  stamp = next_stamp world me

  on_own : IsRunning (phase desk) number begin turn plan tables
  on_own = running_is (phase desk) number begin turn plan tables knows.met.sound.run.settled (told_outline world me knows ∙ is_on)

  is_run : IsRunOf (phase desk) run
  is_run = subst (λ phase. IsRunOf phase run) (sym on_own.phase_is)
      (at.statement ∙ on_own.number_is, at.plan_is ∙ on_own.plan_is, at.tables_are ∙ on_own.tables_are)

  begins_at : begin_turn (phase desk) ≡ turn
  begins_at = ap begin_turn on_own.phase_is ∙ sym on_own.turn_is

  -- What is published is what was counted.
  published_is : desk.published ≡ points * desk.terms.quantum
  published_is =
      let own : (me.actor == desk.terms.desk) ≡ true = eq-eqb me.actor desk.terms.desk (owner world me knows) in
      let counted : (if me.actor == desk.terms.desk then desk.published else 0) ≡ (world.quiet me.actor me.actor).published = ap (λ quiet. quiet.published) knows.met.counted in
      let here : desk.published ≡ (if me.actor == desk.terms.desk then desk.published else 0) = rw own refl in
      here ∙ counted ∙ at.published ∙ ap (λ terms. points * terms.quantum) (sym knows.met.terms)

  -- A point, after a quantum of steps more.
  pub may_point : (IsFinished run → ⊥) → run.steps ≡ points * desk.terms.quantum + desk.terms.quantum → paid world me.actor me.actor + 0 ≤ share world me.actor me.actor
      → MayPoint desk stamp run
  may_point unfinished steps left =
      let least = knows.met.sound.quantum in
      let whole : run.steps / desk.terms.quantum ≡ points + 1 =
      ap (λ steps. steps / desk.terms.quantum) (steps ∙ one_more points desk.terms.quantum) ∙ points_of (points + 1) desk.terms.quantum least in
      record {
        caller = own_caller world me knows;
        own = owner world me knows;
        on = is_run;
        unfinished = unfinished;
        steps = steps ∙ ap (λ published. published + desk.terms.quantum) (sym published_is);
        turn = let from = begins_at in omega (arith, now, from, whole);
        room = let none = charge-served me.actor desk (report_of run) stamp (queue_of (phase desk)) in
            room world me me.actor knows (served_entries desk stamp run) 0 (omega (arith, none)) left;
      }

  -- The end of the run, at most a quantum of steps later.
  pub may_end_run : (finish : Finish Progress) → run_of itself finish ≡ Some run → Fits itself (is_killed (phase desk)) finish
      → points * desk.terms.quantum ≤ run.steps → run.steps ≤ points * desk.terms.quantum + desk.terms.quantum
      → paid world me.actor me.actor + 1 ≤ share world me.actor me.actor → MayEnd itself desk stamp number finish
  may_end_run finish given fits least most left =
      let full = points_of points desk.terms.quantum knows.met.sound.quantum in
      let made : desk.published / desk.terms.quantum ≡ points = ap (λ published. published / desk.terms.quantum) published_is ∙ full in
      let timely : IsTimely desk stamp run = record {
        least = let published = published_is in omega (arith, published, least);
        most = let published = published_is in omega (arith, published, most);
        turn = let from = begins_at in omega (arith, now, from, made);
      } in
      let result : Outcome = if is_killed (phase desk) then outcome.Interrupted else outcome_of itself finish in
      let served = served_entries desk stamp run in
      let none = charge-served me.actor desk (report_of run) stamp (queue_of (phase desk)) in
      let one = one_most desk (later (length served) stamp) (event.End number result run.steps) 1 (omega arith) in
      let entries = served ++ end_entry desk stamp number (Some run) (outcome_of itself finish) ∷ [] in
      let price : charge me.actor entries ≤ 1 =
      let both = charge-append me.actor served (end_entry desk stamp number (Some run) (outcome_of itself finish) ∷ []) in omega (arith, both, none, one) in
      record {
        caller = own_caller world me knows;
        own = owner world me knows;
        on = subst (IsOn number) (sym on_own.phase_is) on_own.number_is;
        run = subst (λ run. IsGivenRun (phase desk) run) (sym given)
            (subst (λ phase. IsGivenRun phase (Some run)) (sym on_own.phase_is) (subst (λ phase. IsRunOf phase run) on_own.phase_is is_run));
        timely = subst (λ run. IfSome run (IsTimely desk stamp)) (sym given) timely;
        fits = fits;
        room = subst (λ run. charge me.actor (desk.journal ++ end_entries desk stamp number run (outcome_of itself finish)) ≤ slice_index desk.shares (me.actor - 1)) (sym given)
            (room world me me.actor knows entries 1 price left);
      }
