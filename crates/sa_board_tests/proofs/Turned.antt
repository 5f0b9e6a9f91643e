-- A session after its turn.
use Rattle.std.proofs.Common.{◌≡◌, ℕ, sym, subst, ap, ◌∙◌}
use Rattle.sa_desk.specs.program.Course.{Given}
use Rattle.sa_desk.specs.program.Prepares.{Answers}
use Rattle.sa_board.specs.Board.{BoardState}
use Rattle.sa_board.specs.Pass.{PassState, SamePass, HasTaken, KnowsStill, at_home, world_of}
use Rattle.sa_worker.specs.View.{View}
use Rattle.sa_worker.specs.Keeps.{Keeps}
use Rattle.sa_worker.specs.Sound.{GivesSound}
use Rattle.sa_board_tests.specs.Members.{IsMember}
use Rattle.sa_board_tests.proofs.Still.{Keeps-still}

-- It has taken a desk out, its worker has called it, and it is home.
pub member_turned : (gives : Answers) (board : BoardState) (first held left later : PassState) (view next : View) (desk : ℕ) → IsMember gives board first view → HasTaken first held desk → SamePass held left
    → later ≡ at_home left → KnowsStill (world_of left) (world_of later) → next.given ≡ view.given → Keeps (world_of left) next → IsMember gives board later next
member_turned gives board first held left later view next desk member taken same home still given keeps =
    let table : later.table ≡ first.table = ap (λ (pass : PassState). pass.table) home ∙ ap (λ (pass : PassState). pass.table) same ∙ ap (λ (pass : PassState). pass.table) taken.later_is in
    let session : later.session ≡ first.session = ap (λ (pass : PassState). pass.session) home ∙ ap (λ (pass : PassState). pass.session) same ∙ ap (λ (pass : PassState). pass.session) taken.later_is in
    record {
      table = table ∙ member.table;
      idle = ap (λ (pass : PassState). pass.out) home;
      session = ap (λ (given : Given). given.session) given ∙ member.session ∙ sym session;
      sessions = ap (λ (given : Given). given.sessions) given ∙ member.sessions;
      sound = subst (GivesSound gives) (sym given) member.sound;
      keeps = Keeps-still (world_of left) (world_of later) next next.stage still keeps;
    }
