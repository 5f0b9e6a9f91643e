-- The entries are those of the program so far after a turn.
use Rattle.std.proofs.Common.{List}
use Rattle.sa_desk.specs.World.{World, IsCall, next_stamp}
use Rattle.sa_desk.specs.program.Course.{Answer}
use Rattle.sa_desk.specs.program.Turn.{made, left}
use Rattle.sa_worker.specs.View.{Stage, prepares, makes_steps, opens, closes, ends, asks, polls, looks_asking, withdraws, kills, waits, looks_waiting, points, ends_run, done, View, me_of, IsActive, call_at, desk_at}
use Rattle.sa_worker.specs.Next.{next_at}
use Rattle.sa_worker.specs.Keeps.{KeepsAt}
use Rattle.sa_worker.specs.Follows.{FollowsAt, Follows, ended_with}
use Rattle.sa_worker.proofs.follows.Begin.{Follows-begin}
use Rattle.sa_worker.proofs.follows.Close.{Follows-close}
use Rattle.sa_worker.proofs.follows.End.{Follows-end, Follows-end_run}
use Rattle.sa_worker.proofs.follows.Ask.{Follows-ask}
use Rattle.sa_worker.proofs.follows.Poll.{Follows-poll}
use Rattle.sa_worker.proofs.follows.Withdraw.{Follows-withdraw}
use Rattle.sa_worker.proofs.follows.Kill.{Follows-kill}
use Rattle.sa_worker.proofs.follows.Look.{Follows-look}
use Rattle.sa_worker.proofs.follows.LookOwn.{Follows-look_asking, Follows-look_waiting}
use Rattle.sa_worker.proofs.follows.Point.{Follows-point}

-- The call of each stage leads to the entries of the view that follows.
pub Follows-turn : (world later : World) (view : View) (stage : Stage) (answers : List Answer) → IsActive stage → KeepsAt world view stage
    → FollowsAt view stage (world.seen view.given.session) answers (world.mine view.given.session)
    → (let desk = world.contents (desk_at view stage) in let stamp = next_stamp world (me_of view) in
    IsCall world later (desk_at view stage) view.given.session (made desk stamp view.number (call_at view stage)) (left desk stamp view.number (call_at view stage)))
    → Follows (next_at view stage (world.contents (desk_at view stage)) (next_stamp world (me_of view))) (later.seen view.given.session) (ended_with view stage answers) (later.mine view.given.session)
Follows-turn world later view prepares answers active keeps follows call = absurd active
Follows-turn world later view (makes_steps planned made run) answers active keeps follows call = absurd active
Follows-turn world later view opens answers active keeps follows call = Follows-begin world later view keeps answers follows call
Follows-turn world later view closes answers active keeps follows call = Follows-close world later view answers follows call
Follows-turn world later view (ends result) answers active keeps follows call = Follows-end world later view answers result follows call
Follows-turn world later view (asks kind i) answers active keeps follows call = Follows-ask world later view kind i keeps answers follows call
Follows-turn world later view (polls kind i count) answers active keeps follows call = Follows-poll world later view kind i count keeps answers follows call
Follows-turn world later view (looks_asking kind i count) answers active keeps follows call = Follows-look_asking world later view answers kind i count keeps follows call
Follows-turn world later view (withdraws kind i count) answers active keeps follows call = Follows-withdraw world later view kind i count keeps answers follows call
Follows-turn world later view (kills kind i) answers active keeps follows call = Follows-kill world later view kind i keeps answers follows call
Follows-turn world later view (waits i at count) answers active keeps follows call = Follows-look world later view i at count keeps answers follows call
Follows-turn world later view (looks_waiting i at count) answers active keeps follows call = Follows-look_waiting world later view answers i at count keeps follows call
Follows-turn world later view (points planned made run) answers active keeps follows call = Follows-point world later view planned made run keeps answers follows call
Follows-turn world later view (ends_run planned made run given) answers active keeps follows call = Follows-end_run world later view answers planned made run given keeps follows call
Follows-turn world later view done answers active keeps follows call = absurd active
