-- A worker still knows what it has to after its private work.
use Rattle.std.proofs.Common.{◌≡◌, ℕ, ◌+◌, ◌-◌, ◌*◌, ◌<◌, ◌≤◌, Bool, true, false, length, inl, sym, subst, ap, ap₂, ◌∙◌, arith}
use Rattle.std.specs.Prelude.{Some, IfSome}
use Rattle.sa_plan.specs.declared.plan.Planned.{Planned}
use Rattle.sa_plan.specs.Lawful.{IsLawful}
use Rattle.sa_meaning.specs.Items.{items}
use Rattle.sa_meaning.specs.Progress.{Progress, IsFinished}
use Rattle.sa_desk.specs.declared.outcome.Finish.{Finish}
use Rattle.sa_desk.specs.declared.outcome.Finish.TheVariants as finish
use Rattle.sa_desk.specs.declared.outcome.StepStop.{StepStop}
use Rattle.sa_desk.specs.declared.outcome.StepStop.TheVariants as stop
use Rattle.sa_desk.specs.World.{World}
use Rattle.sa_desk.specs.call.End.{run_of}
use Rattle.sa_desk.specs.program.Course.{Given, Answer, Course, says, shows, waits, kills, runs, course_of}
use Rattle.sa_desk.specs.program.Turn.{itself}
use Rattle.sa_worker.specs.View.{Stage, prepares, makes_steps, opens, closes, points, ends_run, View, text_at, left, plan_in, aimed}
use Rattle.sa_worker.specs.Next.{looked_into}
use Rattle.sa_desk.specs.program.Prepares.{Answers, IsAnswer}
use Rattle.sa_worker.specs.Works.{Prepares, is_prepared, is_last, Comes, Breaks, Stops, Makes, goes_on, stops, WorksAt, Works}
use Rattle.sa_worker.specs.Holds.{IsRunning, IsSoundAnswer, run_at}
use Rattle.sa_worker.specs.Keeps.{IsRunAt, FitsSeen, KeepsAt, Keeps}
use Rattle.sa_worker.proofs.Course.{IsFair, course_fair}
use Rattle.sa_worker.proofs.keeps.Goes.{aimed-less}

-- The plan of a fair course is lawful.
plan_lawful : (given : Given) (course : Course) → IsFair given course → IfSome (plan_in course) (IsLawful given.tables)
plan_lawful given (runs analyze planned) fair = fair.lawful
plan_lawful given (says result) fair = tt
plan_lawful given (shows kind desk) fair = tt
plan_lawful given (waits desk at) fair = tt
plan_lawful given (kills kind desk) fair = tt

module _ (world : World) (view : View) where
  abbrev session : ℕ
  session = view.given.session

  module _ (keeps : KeepsAt world view prepares) where
    opened : (answer : Answer) → view.number ≤ length view.given.texts → IsSoundAnswer view.given answer → Keeps world (record view { answer = answer; stage = opens })
    opened answer there sound =
        let statements = length view.given.texts + 1 - view.number in
        let first = keeps.holds.first in
        let early = keeps.holds.holds.1 in
        record {
          session = keeps.session;
          aimed = keeps.session;
          terms = keeps.terms;
          shares = keeps.shares;
          begin = keeps.begin;
          outline_is = keeps.outline_is;
          requests = keeps.requests;
          room = λ desk is.
              let had = keeps.room desk is in
              let same : aimed session desk (2 * statements + 1) ≡ aimed session desk (2 * left view + 3) = ap (aimed session desk) (omega (arith, there, first)) in
              omega (arith, had, same, there, first);
          waiting = keeps.waiting;
          holds = record { given = keeps.holds.given; first = first; limit = keeps.holds.limit; answer = sound; holds = (there, early) };
          knows = plan_lawful view.given (course_of view.given view.settings answer) (course_fair view.given view.settings answer sound);
        }

    closing : length view.given.texts < view.number → Keeps world (record view { stage = closes })
    closing none =
        let statements = length view.given.texts + 1 - view.number in
        let most = keeps.holds.holds.0 in
        let early = keeps.holds.holds.1 in
        record {
          session = keeps.session;
          aimed = keeps.session;
          terms = keeps.terms;
          shares = keeps.shares;
          begin = keeps.begin;
          outline_is = keeps.outline_is;
          requests = keeps.requests;
          room = λ desk is.
              let had = keeps.room desk is in
              let less = aimed-less session desk 1 (2 * statements + 1) (omega arith) in omega (arith, had, less, none);
          waiting = keeps.waiting;
          holds = record {
            given = keeps.holds.given;
            first = keeps.holds.first;
            limit = keeps.holds.limit;
            answer = keeps.holds.answer;
            holds = (most, omega (arith, early));
          };
          knows = tt;
        }

  -- a run but for how far it has come
  abbrev bare : Progress → Progress
  bare run = record run { steps = 0; since_looked = 0; failed = false }

  abbrev come : Progress → (steps : ℕ) → (failed : Bool) → Progress
  come run steps failed = record run { steps = steps; since_looked = 0; failed = failed }

  module _ (planned : Planned) (made : ℕ) (run : Progress) (keeps : KeepsAt world view (makes_steps planned made run)) (after : Progress) (comes : Comes view planned run after) where
    still : (next : Stage) → IsRunning (record view { stage = next }) planned made
    still next =
        let was = keeps.holds.holds.0 in
        record {
          on = record { there = was.on.there; began = was.on.began; turn = was.on.turn };
          analyze = was.analyze;
          course_is = was.course_is;
          can_run = was.can_run;
          runs_on = was.runs_on;
        }

    run_still : (next : Stage) → IsRunAt world (record view { stage = next }) after planned.plan made
    run_still next =
        let was = keeps.knows.0 in
        record {
          statement = ap (λ run. run.statement) comes.same ∙ was.statement;
          plan_is = ap (λ run. run.plan) comes.same ∙ was.plan_is;
          tables_are = ap (λ run. run.data_read) comes.same ∙ was.tables_are;
          published = was.published;
          turn = was.turn;
        }

    -- The items that the run has are those of the plan.
    items_are : length (items after.plan after.data_read) ≡ length (items planned.plan view.given.tables)
    items_are = ap₂ (λ plan tables. length (items plan tables)) (run_still prepares).plan_is (run_still prepares).tables_are

    pointing : after.steps ≡ run.steps + view.given.quantum → after.steps < length (items planned.plan view.given.tables) → after.failed ≡ run.failed
        → Keeps world (record view { stage = points planned made after })
    pointing full more unfailed =
        let next = points planned made after in
        let had = keeps.knows.1 in
        let now : after.steps ≡ made * view.given.quantum + view.given.quantum = full ∙ ap (λ steps. steps + view.given.quantum) had in
        let all : after.steps ≡ (made + 1) * view.given.quantum = now ∙ omega arith in
        let whole : record after { since_looked = 0 } ≡ run_at view planned ((made + 1) * view.given.quantum) =
        ap looked_into comes.same ∙ ap₂ (come run) all unfailed ∙ ap (λ (run : Progress). come run ((made + 1) * view.given.quantum) run.failed) keeps.holds.holds.1 in
        record {
          session = keeps.session;
          aimed = keeps.session;
          terms = keeps.terms;
          shares = keeps.shares;
          begin = keeps.begin;
          outline_is = keeps.outline_is;
          requests = keeps.requests;
          room = keeps.room;
          waiting = keeps.waiting;
          holds = record {
            given = keeps.holds.given;
            first = keeps.holds.first;
            limit = keeps.holds.limit;
            answer = keeps.holds.answer;
            holds = (still next, whole, more, comes.clear);
          };
          knows = (run_still next, (λ finished. let same = items_are in omega (arith, finished, same, more)), now);
        }

    -- What the End is given is the run.
    given_run : (analyze : Bool) (before : ℕ) (given : Finish Progress) → Stops view.given view.settings.limit analyze planned before after given → run_of itself given ≡ Some after
    given_run true before (finish.Analyzed plan same) so = ap Some so.0
    given_run false before (finish.Rows names same) so = ap Some so.0
    given_run true before (finish.Broken fault same) so = ap Some so.0
    given_run false before (finish.Broken fault same) so = ap Some so.0
    given_run true before given so = absurd so
    given_run false before given so = absurd so

    no_kill : (fault : StepStop) → Breaks view.given view.settings.limit planned fault after.steps → fault ≡ stop.Killed → ⊥
    no_kill stop.RowLimit breaks is = cc
    no_kill stop.TooManyRows breaks is = cc
    no_kill stop.OutOfMemory breaks is = cc
    no_kill stop.Killed breaks is = breaks

    fits : (seen : View) (analyze : Bool) (before : ℕ) (given : Finish Progress) → Stops view.given view.settings.limit analyze planned before after given → FitsSeen world seen given
    fits seen true before (finish.Analyzed plan same) so = subst IsFinished (sym so.0) so.2
    fits seen false before (finish.Rows names same) so = subst IsFinished (sym so.0) so.2
    fits seen true before (finish.Broken fault same) so = λ is. absurd (no_kill fault so.3 is)
    fits seen false before (finish.Broken fault same) so = λ is. absurd (no_kill fault so.3 is)
    fits seen true before given so = absurd so
    fits seen false before given so = absurd so

    stopping : (given : Finish Progress) (analyze : Bool) → course_of view.given view.settings view.answer ≡ runs analyze planned
        → Stops view.given view.settings.limit analyze planned run.steps after given → Keeps world (record view { stage = ends_run planned made after given })
    stopping given analyze of_course so =
        let next = ends_run planned made after given in
        let had = keeps.knows.1 in
        let low = comes.least in
        let high = comes.most in
        record {
          session = keeps.session;
          aimed = keeps.session;
          terms = keeps.terms;
          shares = keeps.shares;
          begin = keeps.begin;
          outline_is = keeps.outline_is;
          requests = keeps.requests;
          room = keeps.room;
          waiting = keeps.waiting;
          holds = record {
            given = keeps.holds.given;
            first = keeps.holds.first;
            limit = keeps.holds.limit;
            answer = keeps.holds.answer;
            holds = (
              still next,
              inl (analyze, of_course, subst (λ before. Stops view.given view.settings.limit analyze planned before after given) had so),
              ap bare comes.same ∙ ap bare keeps.holds.holds.1,
              omega (arith, had, low),
              omega (arith, had, high),
              comes.clear,
            );
          };
          knows = (
            run_still next,
            given_run analyze run.steps given so,
            fits (record view { stage = next }) analyze run.steps given so,
            omega (arith, had, low),
            omega (arith, had, high),
          );
        }

  module _ (gives : Answers) (later : View) (sound : (answer : Answer) → IsAnswer gives (text_at view) answer → IsSoundAnswer view.given answer) where
    prepared-as : KeepsAt world view prepares → Prepares gives view later → Keeps world later
    prepared-as keeps (is_prepared answer there given is) = subst (Keeps world) (sym is) (opened keeps answer there (sound answer given))
    prepared-as keeps (is_last none is) = subst (Keeps world) (sym is) (closing keeps none)

    made-as : (planned : Planned) (made : ℕ) (run : Progress) → KeepsAt world view (makes_steps planned made run) → Makes view planned made run later → Keeps world later
    made-as planned made run keeps (goes_on after comes full more unfailed is) = subst (Keeps world) (sym is) (pointing planned made run keeps after comes full more unfailed)
    made-as planned made run keeps (stops after comes given analyze of_course so is) = subst (Keeps world) (sym is) (stopping planned made run keeps after comes given analyze of_course so)

    works-as : (stage : Stage) → KeepsAt world view stage → Keeps world view → WorksAt gives view stage later → Keeps world later
    works-as prepares keeps same work = prepared-as keeps work
    works-as (makes_steps planned made run) keeps same work = made-as planned made run keeps work
    works-as stage keeps same work = subst (Keeps world) (sym work) same

    pub Keeps-works : Keeps world view → Works gives view later → Keeps world later
    Keeps-works keeps work = works-as view.stage keeps keeps work
