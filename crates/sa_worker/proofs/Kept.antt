-- What the private work of a turn leaves as it was.
use Rattle.std.proofs.Common.{◌≡◌, ℕ, List, subst}
use Rattle.sa_desk.specs.declared.entry.Entry.{Entry}
use Rattle.sa_desk.specs.World.{World}
use Rattle.sa_desk.specs.program.Course.{Answer}
use Rattle.sa_worker.specs.View.{View, text_at}
use Rattle.sa_desk.specs.program.Prepares.{Answers}
use Rattle.sa_worker.specs.Works.{Works}
use Rattle.sa_worker.specs.Keeps.{Keeps}
use Rattle.sa_worker.specs.Follows.{Follows}
use Rattle.sa_worker.specs.Sound.{GivesSound}
use Rattle.sa_worker.proofs.keeps.Works.{Keeps-works}
use Rattle.sa_worker.proofs.follows.Works.{Follows-works}

pub keeps_worked : (gives : Answers) (before later view : View) → before ≡ view → GivesSound gives view.given → Works gives before later
    → (world : World) → Keeps world view → Keeps world later
keeps_worked gives before later view is =
    subst (λ view. GivesSound gives view.given → Works gives before later → (world : World) → Keeps world view → Keeps world later) is
    (λ sound works world keeps. Keeps-works world before gives later (λ answer given. sound.sound (text_at before) answer given) keeps works)

pub follows_worked : (gives : Answers) (before later view : View) → before ≡ view → Works gives before later
    → (journals : ℕ → List Entry) (answers : List Answer) (mine : List Entry) → Follows view journals answers mine → Follows later journals answers mine
follows_worked gives before later view is =
    subst (λ view. Works gives before later → (journals : ℕ → List Entry) (answers : List Answer) (mine : List Entry) → Follows view journals answers mine → Follows later journals answers mine) is
    (λ works journals answers mine follows. Follows-works before journals answers mine gives later follows works)
