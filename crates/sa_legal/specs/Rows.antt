-- What the rows of a statement's End are.
use Rattle.std.specs.Prelude.{◌≡◌, ℕ, List}
use Rattle.sa_value.specs.declared.value.Value.{Value}
use Rattle.sa_plan.specs.declared.plan.Planned.{Planned}
use Rattle.sa_plan.specs.declared.prepared.Work.TheVariants as work
use Rattle.sa_meaning.specs.Output.{output}
use Rattle.sa_desk.specs.program.Course.{Given, names_of}
use Rattle.sa_desk.specs.program.Prepares.{Answers}
use Rattle.sa_legal.specs.Prepared.{IsPrepared}

-- The statement of this number is a SELECT. The rows are all that its plan gives over the tables,
-- with the names of its columns: no request, no answer and no other session has a part in them.
pub record HasRows (gives : Answers) (given : Given) (number : ℕ) (names : List (List ℕ))
    (rows : List (List Value)) : Type 0 where
  pub planned : Planned
  pub prepared : IsPrepared gives given number (work.Select planned)
  pub names_are : names ≡ names_of planned.plan
  pub rows_are : rows ≡ output planned.plan given.tables
