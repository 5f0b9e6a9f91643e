-- ORDER BY, LIMIT and OFFSET, at worked examples: which lists of rows answer, and which don't.
use Rattle.std.proofs.Common.{◌≡◌, ℕ, false, List, [], ◌∷◌, take, codes, Some, refl, arith, zero-le, true≢false}
use Rattle.std.proofs.lemmas.List.Sorted.{IsPermutation-refl, IsPermutation-cons, IsPermutation-middle, IsPermutation-reverse}
use Rattle.sa_value.specs.declared.value.Value.{Value}
use Rattle.sa_value.specs.declared.value.Value.TheVariants.{Null}
use Rattle.sa_cond.specs.declared.cond.Cond.{the_lemmas as cond_lemmas}
use Rattle.sa_cond.specs.declared.expr.Expr.{the_lemmas as expr_lemmas}
use Rattle.sa_cond.specs.declared.expr.Expr.TheVariants.{Column}
use Rattle.sa_table.specs.Table.{Table}
use Rattle.sa_query.specs.declared.query.Query.{Query}
use Rattle.sa_query.specs.Answers.{AnswersQuery}
use Rattle.sa_query.specs.Meaning.{ResultRow, meaning}
use Rattle.sa_query.proofs.AnswersLemmas.{answer_in_order, arranged_answer}
use Rattle.sa_query.proofs.Worked.{number, table, used, item, select}

abbrev pair : (a b : Value) → List Value
pair a b = a ∷ b ∷ []

-- `SELECT a, b FROM t ORDER BY a LIMIT 1, 2` over (NULL, 1), (2, 2), (2, 3), (1, 4)

abbrev pub four_pairs : List Table
four_pairs =
    table
    (pair Null (number 1)
    ∷ pair (number 2) (number 2)
    ∷ pair (number 2) (number 3)
    ∷ pair (number 1) (number 4)
    ∷ [])
    ∷ []

abbrev pub second_and_third : Query
second_and_third =
    record (select (item (codes "a") (Column 0 0) ∷ item (codes "b") (Column 0 1) ∷ []) (used 0 (codes "t") ∷ [])) {
      order = record { value = Column 0 0; down = false } ∷ [];
      limit = Some 2;
      offset = 1;
    }

-- a row of this query, ordered by its first value
abbrev ordered : (a b : Value) → ResultRow
ordered a b = record { row = pair a b; order = a ∷ [] }

abbrev null_one : ResultRow
null_one = ordered Null (number 1)

abbrev two_two : ResultRow
two_two = ordered (number 2) (number 2)

abbrev two_three : ResultRow
two_three = ordered (number 2) (number 3)

abbrev one_four : ResultRow
one_four = ordered (number 1) (number 4)

abbrev pub four_results : List ResultRow
four_results = null_one ∷ two_two ∷ two_three ∷ one_four ∷ []

pub four_pairs-results : meaning second_and_third four_pairs ≡ four_results
unfolding meaning
four_pairs-results = simp (cond_lemmas, expr_lemmas)

pub first_of_tie-answers :
    AnswersQuery second_and_third four_pairs (pair (number 1) (number 4) ∷ pair (number 2) (number 2) ∷ [])
first_of_tie-answers =
    arranged_answer second_and_third four_pairs _ four_results
    (null_one ∷ one_four ∷ two_two ∷ two_three ∷ []) four_pairs-results
    (IsPermutation-cons null_one _ _ (IsPermutation-middle (two_two ∷ two_three ∷ []) one_four [])) refl refl

pub second_of_tie-answers :
    AnswersQuery second_and_third four_pairs (pair (number 1) (number 4) ∷ pair (number 2) (number 3) ∷ [])
second_of_tie-answers =
    arranged_answer second_and_third four_pairs _ four_results
    (null_one ∷ one_four ∷ two_three ∷ two_two ∷ []) four_pairs-results
    (IsPermutation-cons null_one _ _ (IsPermutation-reverse (two_two ∷ two_three ∷ one_four ∷ []))) refl refl

-- The ORDER BY values of a row are its first value.
pub falling-refused :
    AnswersQuery second_and_third four_pairs (pair (number 2) (number 2) ∷ pair (number 1) (number 4) ∷ []) → ⊥
falling-refused answers =
    true≢false
    (answer_in_order second_and_third (take 1) four_pairs four_results _ four_pairs-results
    (refl, (refl, (refl, (refl, tt)))) answers 0 [] zero-le (omega arith))

-- `SELECT a FROM t LIMIT ..` over 1, 2, 3

abbrev pub one_to_three : List Table
one_to_three = table ((number 1 ∷ []) ∷ (number 2 ∷ []) ∷ (number 3 ∷ []) ∷ []) ∷ []

abbrev pub page : (limit offset : ℕ) → Query
page limit offset =
    record (select (item (codes "a") (Column 0 0) ∷ []) (used 0 (codes "t") ∷ []))
    { limit = Some limit; offset = offset }

abbrev plain : ℕ → ResultRow
plain n = record { row = number n ∷ []; order = [] }

abbrev pub three_results : List ResultRow
three_results = plain 1 ∷ plain 2 ∷ plain 3 ∷ []

pub one_to_three-results : (limit offset : ℕ) → meaning (page limit offset) one_to_three ≡ three_results
unfolding meaning
one_to_three-results limit offset = simp (cond_lemmas, expr_lemmas)

pub none-answers : AnswersQuery (page 0 0) one_to_three []
none-answers =
    arranged_answer (page 0 0) one_to_three _ three_results three_results (one_to_three-results 0 0)
    (IsPermutation-refl _) refl refl

pub second-answers : AnswersQuery (page 1 1) one_to_three ((number 2 ∷ []) ∷ [])
second-answers =
    arranged_answer (page 1 1) one_to_three _ three_results three_results (one_to_three-results 1 1)
    (IsPermutation-refl _) refl refl
