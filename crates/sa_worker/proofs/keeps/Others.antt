-- What others do leaves a worker with what it has to know.
use Rattle.std.proofs.Common.{◌≡◌, ◌≢◌, ℕ, ◌+◌, ◌-◌, ◌<◌, ◌≤◌, true, List, length, slice_index, sym, subst, ap, ◌∙◌}
use Rattle.std.specs.Prelude.{None, IfSome}
use Rattle.sa_plan.specs.declared.plan.Plan.{Plan}
use Rattle.sa_meaning.specs.Progress.{Progress}
use Rattle.sa_desk.specs.declared.entry.Entry.{Entry}
use Rattle.sa_desk.specs.declared.outcome.Finish.{Finish}
use Rattle.sa_desk.specs.declared.outcome.Finish.TheVariants as finish
use Rattle.sa_desk.specs.Contents.{Contents}
use Rattle.sa_desk.specs.Runs.{state_of}
use Rattle.sa_desk.specs.Serving.{is_killed}
use Rattle.sa_desk.specs.World.{World, IsCall, standing_on}
use Rattle.sa_desk.specs.Charge.{charge}
use Rattle.sa_desk.specs.Own.{free, own_from, request_from}
use Rattle.sa_desk.specs.call.Look.{looks_of}
use Rattle.sa_worker.specs.View.{Stage, prepares, makes_steps, opens, closes, ends, asks, polls, looks_asking, withdraws, kills, waits, looks_waiting, points, ends_run, done, View, owed}
use Rattle.sa_worker.specs.Keeps.{WasKilled, IsRunAt, FitsSeen, StageKnows, past, KeepsAt}
use Rattle.sa_worker.proofs.keeps.Stands.{Begins-more}

module _ (world later : World) (view : View) (desk other : ℕ) (entries : List Entry) (left : Contents) (call : IsCall world later desk other entries left)
    (apart : view.given.session ≢ other) where
  abbrev session : ℕ
  session = view.given.session

  mine_same : later.mine session ≡ world.mine session
  mine_same = call.others_mine session apart

  killed_still : WasKilled world view → WasKilled later view
  killed_still was = record {
    journal = was.journal;
    seen = Begins-more was.journal (world.seen session session) (later.seen session session) was.seen (call.seen_more session session);
    own = was.own ∙ ap (standing_on session) (sym mine_same);
    killed = subst (λ terms. is_killed (state_of terms was.journal).phase ≡ true) (sym (call.same_terms session)) was.killed;
  }

  run_still : (run : Progress) (plan : Plan) (made : ℕ) → IsRunAt world view run plan made → IsRunAt later view run plan made
  run_still run plan made was = record {
    statement = was.statement;
    plan_is = was.plan_is;
    tables_are = was.tables_are;
    published = ap (λ quiet. quiet.published) (call.others_quiet session session apart) ∙ was.published;
    turn = was.turn;
  }

  fits_still : (given : Finish Progress) → FitsSeen world view given → FitsSeen later view given
  fits_still (finish.Plain result) fits = fits
  fits_still (finish.Rows names run) fits = fits
  fits_still (finish.Analyzed plan run) fits = fits
  fits_still (finish.Broken fault run) fits = λ is. killed_still (fits is)

  knows_still : (stage : Stage) → StageKnows world view stage → StageKnows later view stage
  knows_still prepares knows = tt
  knows_still (makes_steps planned made run) knows = (run_still run planned.plan made knows.0, knows.1)
  knows_still opens knows = knows
  knows_still closes knows = tt
  knows_still (ends result) knows = λ is. killed_still (knows is)
  knows_still (asks kind i) knows = tt
  knows_still (polls kind i count) knows = ap (λ quiet. quiet.polls) (call.others_quiet session i apart) ∙ knows
  knows_still (looks_asking kind i count) knows = ap (λ quiet. quiet.polls) (call.others_quiet session i apart) ∙ knows
  knows_still (withdraws kind i count) knows = killed_still knows
  knows_still (kills kind i) knows = tt
  knows_still (waits i at count) knows = ap (λ quiet. looks_of quiet.wait view.number at) (call.others_quiet session i apart) ∙ knows
  knows_still (looks_waiting i at count) knows = ap (λ quiet. looks_of quiet.wait view.number at) (call.others_quiet session i apart) ∙ knows
  knows_still (points planned made run) knows = (run_still run planned.plan made knows.0, knows.1, knows.2)
  knows_still (ends_run planned made run given) knows = (run_still run planned.plan made knows.0, knows.1, fits_still given knows.2, knows.3, knows.4)
  knows_still done knows = tt

  pub Keeps-others : (stage : Stage) → KeepsAt world view stage → KeepsAt later view stage
  Keeps-others stage keeps = record {
    session = keeps.session;
    aimed = keeps.aimed;
    terms = λ desk is. call.same_terms desk ∙ keeps.terms desk is;
    shares = λ desk is. ap length (call.same_shares desk) ∙ keeps.shares desk is;
    begin = keeps.begin;
    outline_is = ap (λ mine. own_from free (standing_on session mine)) mine_same ∙ keeps.outline_is;
    requests = λ desk is. ap (λ mine. request_from None (standing_on desk mine)) mine_same ∙ keeps.requests desk is;
    room = λ desk is.
        subst (λ shares. charge session (standing_on desk (later.mine session)) + owed view stage desk ≤ slice_index shares (session - 1)) (sym (call.same_shares desk))
        (subst (λ mine. charge session (standing_on desk mine) + owed view stage desk ≤ slice_index (world.shares desk) (session - 1)) (sym mine_same) (keeps.room desk is));
    waiting = λ desk is. subst (λ quiet. IfSome quiet.wait (λ wait. wait.statement < past view stage)) (sym (call.others_quiet session desk apart)) (keeps.waiting desk is);
    holds = keeps.holds;
    knows = knows_still stage keeps.knows;
  }
