-- A worker still knows what it has to where its session may have seen more of a desk.
use Rattle.std.proofs.Common.{◌≡◌, ℕ, ◌+◌, ◌-◌, ◌<◌, ◌≤◌, true, length, slice_index, sym, subst, ap, ◌∙◌}
use Rattle.std.specs.Prelude.{None, IfSome}
use Rattle.sa_plan.specs.declared.plan.Plan.{Plan}
use Rattle.sa_meaning.specs.Progress.{Progress}
use Rattle.sa_desk.specs.declared.outcome.Finish.{Finish}
use Rattle.sa_desk.specs.declared.outcome.Finish.TheVariants as finish
use Rattle.sa_desk.specs.Runs.{state_of}
use Rattle.sa_desk.specs.Serving.{is_killed}
use Rattle.sa_desk.specs.World.{World, standing_on}
use Rattle.sa_desk.specs.Charge.{charge}
use Rattle.sa_desk.specs.Own.{free, own_from, request_from}
use Rattle.sa_desk.specs.call.Look.{looks_of}
use Rattle.sa_board.specs.Pass.{KnowsStill}
use Rattle.sa_worker.specs.View.{Stage, prepares, makes_steps, opens, closes, ends, asks, polls, looks_asking, withdraws, kills, waits, looks_waiting, points, ends_run, done, View, desk_at, owed}
use Rattle.sa_worker.specs.Holds.{HoldsAt}
use Rattle.sa_worker.specs.Keeps.{WasKilled, IsRunAt, FitsSeen, StageKnows, past, IsSession, KeepsAt}
use Rattle.sa_worker.proofs.Course.{aims_ask, aims_wait}
use Rattle.sa_worker.proofs.keeps.Stands.{Begins-more}

module _ (world later : World) (view : View) (still : KnowsStill world later) (own : IsSession view.given view.given.session) where
  abbrev session : ℕ
  session = view.given.session

  mine_same : later.mine session ≡ world.mine session
  mine_same = still.mine session

  killed_still : WasKilled world view → WasKilled later view
  killed_still was = record {
    journal = was.journal;
    seen = Begins-more was.journal (world.seen session session) (later.seen session session) was.seen (still.seen session session own.least);
    own = was.own ∙ ap (standing_on session) (sym mine_same);
    killed = subst (λ terms. is_killed (state_of terms was.journal).phase ≡ true) (sym (still.terms session own.least)) was.killed;
  }

  run_still : (run : Progress) (plan : Plan) (made : ℕ) → IsRunAt world view run plan made → IsRunAt later view run plan made
  run_still run plan made was = record {
    statement = was.statement;
    plan_is = was.plan_is;
    tables_are = was.tables_are;
    published = ap (λ quiet. quiet.published) (still.quiet session session own.least) ∙ was.published;
    turn = was.turn;
  }

  fits_still : (given : Finish Progress) → FitsSeen world view given → FitsSeen later view given
  fits_still (finish.Plain result) fits = fits
  fits_still (finish.Rows names run) fits = fits
  fits_still (finish.Analyzed plan run) fits = fits
  fits_still (finish.Broken fault run) fits = λ is. killed_still (fits is)

  knows_still : (stage : Stage) → HoldsAt view stage → IsSession view.given (desk_at view stage) → StageKnows world view stage → StageKnows later view stage
  knows_still prepares holds aimed knows = tt
  knows_still (makes_steps planned made run) holds aimed knows = (run_still run planned.plan made knows.0, knows.1)
  knows_still opens holds aimed knows = knows
  knows_still closes holds aimed knows = tt
  knows_still (ends result) holds aimed knows = λ is. killed_still (knows is)
  knows_still (asks kind i) holds aimed knows = tt
  knows_still (polls kind i count) holds aimed knows = ap (λ quiet. quiet.polls) (still.quiet session i aimed.least) ∙ knows
  knows_still (looks_asking kind i count) holds aimed knows =
      ap (λ quiet. quiet.polls) (still.quiet session i (aims_ask view kind i holds.answer holds.holds.1.course_is).least) ∙ knows
  knows_still (withdraws kind i count) holds aimed knows = killed_still knows
  knows_still (kills kind i) holds aimed knows = tt
  knows_still (waits i at count) holds aimed knows = ap (λ quiet. looks_of quiet.wait view.number at) (still.quiet session i aimed.least) ∙ knows
  knows_still (looks_waiting i at count) holds aimed knows =
      ap (λ quiet. looks_of quiet.wait view.number at) (still.quiet session i (aims_wait view i at holds.answer holds.holds.1.course_is).least) ∙ knows
  knows_still (points planned made run) holds aimed knows = (run_still run planned.plan made knows.0, knows.1, knows.2)
  knows_still (ends_run planned made run given) holds aimed knows = (run_still run planned.plan made knows.0, knows.1, fits_still given knows.2, knows.3, knows.4)
  knows_still done holds aimed knows = tt

  keeps_still : (stage : Stage) → KeepsAt world view stage → KeepsAt later view stage
  keeps_still stage keeps = record {
    session = keeps.session;
    aimed = keeps.aimed;
    terms = λ desk is. still.terms desk is.least ∙ keeps.terms desk is;
    shares = λ desk is. ap length (still.shares desk is.least) ∙ keeps.shares desk is;
    begin = keeps.begin;
    outline_is = ap (λ mine. own_from free (standing_on session mine)) mine_same ∙ keeps.outline_is;
    requests = λ desk is. ap (λ mine. request_from None (standing_on desk mine)) mine_same ∙ keeps.requests desk is;
    room = λ desk is.
        subst (λ shares. charge session (standing_on desk (later.mine session)) + owed view stage desk ≤ slice_index shares (session - 1)) (sym (still.shares desk is.least))
        (subst (λ mine. charge session (standing_on desk mine) + owed view stage desk ≤ slice_index (world.shares desk) (session - 1)) (sym mine_same) (keeps.room desk is));
    waiting = λ desk is. subst (λ quiet. IfSome quiet.wait (λ wait. wait.statement < past view stage)) (sym (still.quiet session desk is.least)) (keeps.waiting desk is);
    holds = keeps.holds;
    knows = knows_still stage keeps.holds keeps.aimed keeps.knows;
  }

pub Keeps-still : (world later : World) (view : View) (stage : Stage) → KnowsStill world later → KeepsAt world view stage → KeepsAt later view stage
Keeps-still world later view stage still keeps = keeps_still world later view still keeps.session stage keeps
