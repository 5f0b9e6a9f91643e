-- What preparation answered to a statement of a session.
use Rattle.std.specs.Prelude.{◌≡◌, ℕ, ◌-◌, ◌≤◌, List, Some, slice_get}
use Rattle.std.specs.declared.result.Result.TheVariants.{Ok}
use Rattle.sa_plan.specs.declared.prepared.Work.{Work}
use Rattle.sa_desk.specs.program.Course.{Given}
use Rattle.sa_desk.specs.program.Prepares.{Answers}

-- The session has a statement of this number, from 1 on, and its text was prepared to this work.
pub record IsPrepared (gives : Answers) (given : Given) (number : ℕ) (work : Work) : Type 0 where
  pub least : 1 ≤ number
  pub source : List ℕ
  pub text : slice_get given.texts (number - 1) ≡ Some source
  pub canonical : List ℕ
  pub gives_it : gives source (Ok (record { text = canonical; work = work }))
