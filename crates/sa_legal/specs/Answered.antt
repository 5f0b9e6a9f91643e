-- Which rows answer a statement of a session.
use Rattle.std.specs.Prelude.{◌≡◌, ℕ, ◌-◌, ◌≤◌, List, Some, slice_get}
use Rattle.sa_value.specs.declared.value.Value.{Value}
use Rattle.sa_prepare.specs.Answered.{AnswersText}
use Rattle.sa_desk.specs.program.Course.{Given}

-- The session has a statement of this number, from 1 on. Its text is a SELECT's that has a query
-- over the tables, and the rows answer that query, under the names of its select list.
pub record AnswersStatement (given : Given) (number : ℕ) (names : List (List ℕ))
    (rows : List (List Value)) : Type 0 where
  pub least : 1 ≤ number
  pub source : List ℕ
  pub text : slice_get given.texts (number - 1) ≡ Some source
  pub answered : AnswersText given.tables source names rows
