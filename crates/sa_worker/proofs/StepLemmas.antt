-- How far a run may go on.
use Rattle.std.proofs.Common.{◌≡◌, ◌+◌, ◌<◌, ◌≤◌, length, inl, inr, refl, arith}
use Rattle.std.specs.Prelude.{[]}
use Rattle.std.proofs.lemmas.Bool.{cases_lt}
use Rattle.std.proofs.Math.Numerals.{lt_of_le_of_ne}
use Rattle.sa_plan.specs.declared.plan.Plan.{Plan}
use Rattle.sa_meaning.specs.Data.{RunData}
use Rattle.sa_meaning.specs.Output.{kept}
use Rattle.sa_meaning.specs.Progress.{Progress}
use Rattle.sa_exec.specs.Step.{IsAtLimit, IsTooMany}
use Rattle.sa_desk.specs.program.RunEnds.{most_rows, IsClear}

-- Where a step is neither at the limit nor keeps a row too many, the run is clear with it.
pub clear_next : (run : Progress) → IsClear run.row_limit run.plan run.data_read run.steps → (IsAtLimit run → ⊥) → (IsTooMany run → ⊥)
    → IsClear run.row_limit run.plan run.data_read (run.steps + 1)
clear_next run clear below few =
    let less : run.steps < run.row_limit = lt_of_le_of_ne clear.0 below in
    let rows : length (kept run.plan run.data_read (run.steps + 1)) ≤ most_rows =
    elim (cases_lt most_rows (length (kept run.plan run.data_read (run.steps + 1)))) [ inl many ↦ absurd (few (less, many)) | inr rows ↦ rows ] in
    (omega (arith, less), rows)

-- Nothing is kept before the first step.
pub kept_none : (plan : Plan) (tables : RunData) → kept plan tables 0 ≡ []
unfolding kept
kept_none plan tables = refl
