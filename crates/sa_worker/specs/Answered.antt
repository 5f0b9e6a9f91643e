-- What a turn answers.
use Rattle.sa_worker.specs.declared.turned.Turned.{Turned}
use Rattle.sa_worker.specs.declared.turned.Turned.TheVariants.{More, Waiting, Done}
use Rattle.sa_worker.specs.View.{Stage, looks_asking, looks_waiting, done}

-- A call that had to wait is followed by a look for a kill, and no other call is. After the last
-- call the session is done.
abbrev pub answer_at : Stage → Turned
answer_at (looks_asking kind desk count) = Waiting
answer_at (looks_waiting desk at count) = Waiting
answer_at done = Done
answer_at stage = More
