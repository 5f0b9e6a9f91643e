-- A worker still knows what it has to after its turn.
use Rattle.sa_desk.specs.World.{World, IsCall, next_stamp}
use Rattle.sa_desk.specs.program.Turn.{made, left}
use Rattle.sa_worker.specs.View.{Stage, prepares, makes_steps, opens, closes, ends, asks, polls, looks_asking, withdraws, kills, waits, looks_waiting, points, ends_run, done, View, me_of, IsActive, call_at, desk_at}
use Rattle.sa_worker.specs.Next.{next_at}
use Rattle.sa_worker.specs.Keeps.{KeepsAt, Keeps}
use Rattle.sa_worker.proofs.keeps.Begin.{Keeps-begin}
use Rattle.sa_worker.proofs.keeps.Close.{Keeps-close}
use Rattle.sa_worker.proofs.keeps.End.{Keeps-end, Keeps-end_run}
use Rattle.sa_worker.proofs.keeps.Ask.{Keeps-ask}
use Rattle.sa_worker.proofs.keeps.Poll.{Keeps-poll}
use Rattle.sa_worker.proofs.keeps.Withdraw.{Keeps-withdraw}
use Rattle.sa_worker.proofs.keeps.Kill.{Keeps-kill}
use Rattle.sa_worker.proofs.keeps.Look.{Keeps-look}
use Rattle.sa_worker.proofs.keeps.LookOwn.{Keeps-look_asking, Keeps-look_waiting}
use Rattle.sa_worker.proofs.keeps.Point.{Keeps-point}

-- The call of each stage leads to the view that follows.
pub Keeps-turn : (world later : World) (view : View) (stage : Stage) → IsActive stage → KeepsAt world view stage
    → (let desk = world.contents (desk_at view stage) in let stamp = next_stamp world (me_of view) in
    IsCall world later (desk_at view stage) view.given.session (made desk stamp view.number (call_at view stage)) (left desk stamp view.number (call_at view stage)))
    → Keeps later (next_at view stage (world.contents (desk_at view stage)) (next_stamp world (me_of view)))
Keeps-turn world later view prepares active keeps call = absurd active
Keeps-turn world later view (makes_steps planned made run) active keeps call = absurd active
Keeps-turn world later view opens active keeps call = Keeps-begin world later view keeps call
Keeps-turn world later view closes active keeps call = Keeps-close world later view keeps call
Keeps-turn world later view (ends result) active keeps call = Keeps-end world later view result keeps call
Keeps-turn world later view (asks kind i) active keeps call = Keeps-ask world later view kind i keeps call
Keeps-turn world later view (polls kind i count) active keeps call = Keeps-poll world later view kind i count keeps call
Keeps-turn world later view (looks_asking kind i count) active keeps call = Keeps-look_asking world later view kind i count keeps call
Keeps-turn world later view (withdraws kind i count) active keeps call = Keeps-withdraw world later view kind i count keeps call
Keeps-turn world later view (kills kind i) active keeps call = Keeps-kill world later view kind i keeps call
Keeps-turn world later view (waits i at count) active keeps call = Keeps-look world later view i at count keeps call
Keeps-turn world later view (looks_waiting i at count) active keeps call = Keeps-look_waiting world later view i at count keeps call
Keeps-turn world later view (points planned made run) active keeps call = Keeps-point world later view planned made run keeps call
Keeps-turn world later view (ends_run planned made run given) active keeps call = Keeps-end_run world later view planned made run given keeps call
Keeps-turn world later view done active keeps call = absurd active
