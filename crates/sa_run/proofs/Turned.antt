-- A session is along again after its turn: private work, and one call of a desk that it takes out and brings home.
use Rattle.std.proofs.Common.{◌≡◌, ℕ, ◌≤◌, length, sym, subst, ap, ◌∙◌}
use Rattle.sa_desk.specs.Contents.{Contents}
use Rattle.sa_desk.specs.Legal.{Sessions, given_of}
use Rattle.sa_desk.specs.World.{IsCall, next_stamp}
use Rattle.sa_desk.specs.program.Course.{Given}
use Rattle.sa_desk.specs.program.Prepares.{Answers}
use Rattle.sa_desk.specs.program.Turn.{made, left}
use Rattle.sa_board.specs.Board.{BoardState}
use Rattle.sa_board.specs.Pass.{PassState, SamePass, HasTaken, KnowsStill, at_home, world_of}
use Rattle.sa_worker.specs.View.{View, text_at, me_of, IsActive, call_at, desk_at}
use Rattle.sa_worker.specs.Next.{next_view}
use Rattle.sa_worker.specs.Works.{Works}
use Rattle.sa_worker.specs.Keeps.{Keeps}
use Rattle.sa_worker.specs.Sound.{GivesSound}
use Rattle.sa_worker.specs.Working.{IsWorking}
use Rattle.sa_worker.proofs.working.All.{IsWorking-works, IsWorking-turn}
use Rattle.sa_worker.proofs.working.Fixed.{given_works, given_next}
use Rattle.sa_run.specs.inner.Along.{IsAlong}
use Rattle.sa_run.proofs.Working.{IsWorking-still}

module _ (gives : Answers) (script : Sessions) (board : BoardState) (first : PassState) (view : View) (along : IsAlong gives script board first view) where
  -- What preparation gives suits its worker.
  pub sound_along : GivesSound gives view.given
  sound_along = subst (GivesSound gives) (sym along.given) (along.sound first.session along.least along.most)

  pub session_along : view.given.session ≡ first.session
  session_along = ap (λ (given : Given). given.session) along.given

  pub sessions_along : view.given.sessions ≡ length board.founded
  sessions_along = ap (λ (given : Given). given.sessions) along.given ∙ sym along.sessions

  module _ (ready : View) (work : Works gives view ready) where
    pub given_ready : ready.given ≡ view.given
    given_ready = given_works view gives ready work

    pub working_ready : IsWorking gives (world_of first) ready
    working_ready = IsWorking-works gives (world_of first) view ready (λ answer is. sound_along.sound (text_at view) answer is) along.working work

    -- the desk that it calls is on the board
    pub desk_least : 1 ≤ desk_at ready ready.stage
    desk_least = working_ready.keeps.aimed.least

    pub desk_most : desk_at ready ready.stage ≤ length board.founded
    desk_most =
        subst (λ (count : ℕ). desk_at ready ready.stage ≤ count) (ap (λ (given : Given). given.sessions) given_ready ∙ sessions_along) working_ready.keeps.aimed.most

    module _ (held : PassState) (still : KnowsStill (world_of first) (world_of held)) where
      pub working_held : IsWorking gives (world_of held) ready
      working_held = IsWorking-still gives (world_of first) (world_of held) ready still working_ready

      pub keeps_held : Keeps (world_of held) ready
      keeps_held = working_held.keeps

      -- The session is the worker's.
      pub own_ready : ready.given.session ≡ first.session
      own_ready = ap (λ (given : Given). given.session) given_ready ∙ session_along

      module _ (desk : ℕ) (taken : HasTaken first held desk) (called later : PassState) (next : View) (active : IsActive ready.stage) where
        abbrev found : Contents
        found = (world_of held).contents (desk_at ready ready.stage)

        pub along_turned : IsCall (world_of held) (world_of called) (desk_at ready ready.stage) ready.given.session
            (made found (next_stamp (world_of held) (me_of ready)) ready.number (call_at ready ready.stage))
            (left found (next_stamp (world_of held) (me_of ready)) ready.number (call_at ready ready.stage))
            → next ≡ next_view ready found (next_stamp (world_of held) (me_of ready)) → SamePass held called → later ≡ at_home called
            → KnowsStill (world_of called) (world_of later) → IsAlong gives script board later next
        along_turned call next_is same home still_home =
            let stamp = next_stamp (world_of held) (me_of ready) in
            let table : later.table ≡ first.table =
            ap (λ (pass : PassState). pass.table) home ∙ ap (λ (pass : PassState). pass.table) same ∙ ap (λ (pass : PassState). pass.table) taken.later_is in
            let session : later.session ≡ first.session =
            ap (λ (pass : PassState). pass.session) home ∙ ap (λ (pass : PassState). pass.session) same ∙ ap (λ (pass : PassState). pass.session) taken.later_is in
            let working : IsWorking gives (world_of called) (next_view ready found stamp) = IsWorking-turn gives (world_of held) (world_of called) ready active working_held call in
            record {
              table = table ∙ along.table;
              idle = ap (λ (pass : PassState). pass.out) home;
              home = ap (λ (pass : PassState). pass.desk) home;
              least = subst (λ (session : ℕ). 1 ≤ session) (sym session) along.least;
              most = subst (λ (session : ℕ). session ≤ length script.texts) (sym session) along.most;
              sessions = along.sessions;
              given = ap (λ (view : View). view.given) next_is ∙ given_next ready ready.stage found stamp ∙ given_ready ∙ along.given ∙ ap (given_of script) (sym session);
              sound = along.sound;
              working = IsWorking-still gives (world_of called) (world_of later) next still_home (subst (IsWorking gives (world_of called)) (sym next_is) working);
            }
