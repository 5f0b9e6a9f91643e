-- A join that groups and orders, at a worked example: what each customer paid, the greatest sum first.
use Rattle.std.proofs.Common.{◌≡◌, ℕ, pos, Bool, true, List, [], ◌∷◌, map, filter, drop, codes, Some, refl, ap, ◌∙◌, arith, zero-le, true≢false}
use Rattle.std.proofs.lemmas.List.Sorted.{IsPermutation-refl}
use Rattle.sa_ast.specs.declared.expression.AggregateCall.TheVariants.{Sum}
use Rattle.sa_value.specs.declared.truth.CompareOp.TheVariants.{Eq}
use Rattle.sa_value.specs.Compare.{truth_of}
use Rattle.sa_value.specs.declared.value.Value.{Value}
use Rattle.sa_value.specs.declared.value.Value.TheVariants.{Null, Big, Text}
use Rattle.sa_cond.specs.declared.cond.Cond.{the_lemmas as cond_lemmas}
use Rattle.sa_cond.specs.declared.cond.Cond.TheVariants.{Compare, And}
use Rattle.sa_cond.specs.declared.expr.Expr.{the_lemmas as expr_lemmas}
use Rattle.sa_cond.specs.declared.expr.Expr.TheVariants.{Column, Slot}
use Rattle.sa_cond.specs.Choice.{Choice}
use Rattle.sa_cond.specs.Condition.{all_of, holds}
use Rattle.sa_table.specs.Table.{Table}
use Rattle.sa_query.specs.declared.query.Query.{Query}
use Rattle.sa_query.specs.Answers.{AnswersQuery}
use Rattle.sa_query.specs.Choices.{is_true, choice_of_rows, choices, kept_choices}
use Rattle.sa_query.specs.Groups.{groups}
use Rattle.sa_query.specs.Meaning.{ResultRow, passes_having, result_of, meaning}
use Rattle.sa_query.proofs.AnswersLemmas.{answer_in_order, arranged_answer}
use Rattle.sa_query.proofs.Worked.{number, table, used, item, select}

abbrev customer : ℕ → List ℕ → List Value
customer id name = number id ∷ Text name ∷ []

abbrev order : ℕ → Value → ℕ → List Value
order id customer amount = number id ∷ customer ∷ number amount ∷ []

abbrev pub shop : List Table
shop =
    table (customer 1 (codes "Ann") ∷ customer 2 (codes "Bob") ∷ customer 3 (codes "Cy") ∷ [])
    ∷ table (order 10 (number 1) 5 ∷ order 11 (number 1) 7 ∷ order 12 (number 2) 4 ∷ order 13 Null 9 ∷ [])
    ∷ []

-- `SELECT c.name, SUM(o.amount) AS total FROM customers c JOIN orders o ON o.cust = c.id
-- GROUP BY c.name ORDER BY total DESC LIMIT 10`
abbrev pub totals : Query
totals =
    record (select
    (item (codes "name") (Slot 0) ∷ item (codes "total") (Slot 1) ∷ [])
    (used 0 (codes "c") ∷ used 1 (codes "o") ∷ [])) {
      filter = And (Compare Eq (Column 1 1) (Column 0 0) ∷ []);
      group = record { table = 0; column = 1 } ∷ [];
      aggregates = record { call = Sum; argument = Some (Column 1 2) } ∷ [];
      order = record { value = Slot 1; down = true } ∷ [];
      limit = Some 10;
    }

abbrev ann : List Value
ann = Text (codes "Ann") ∷ Big (pos 12) ∷ []

abbrev bob : List Value
bob = Text (codes "Bob") ∷ Big (pos 4) ∷ []

-- a row of this query, ordered by its sum
abbrev by_total : List Value → ResultRow
by_total row = record { row = row; order = drop 1 row }

-- whether an order is of the customer beside it
abbrev is_of_customer : Choice → Bool
is_of_customer choice = is_true (all_of (truth_of Eq (choice.cell 1 1) (choice.cell 0 0) ∷ []))

passed : (choices : List Choice)
    → filter (λ choice. is_true (holds choice totals.filter)) choices ≡ filter is_of_customer choices
passed choices = simp (cond_lemmas, expr_lemmas)

-- Of twelve choices three are kept: no order is of Cy, and the last order of nobody.
abbrev pub paid : List Choice
paid =
    choice_of_rows (customer 1 (codes "Ann") ∷ order 10 (number 1) 5 ∷ [])
    ∷ choice_of_rows (customer 1 (codes "Ann") ∷ order 11 (number 1) 7 ∷ [])
    ∷ choice_of_rows (customer 2 (codes "Bob") ∷ order 12 (number 2) 4 ∷ [])
    ∷ []

pub totals-kept : kept_choices shop totals ≡ paid
totals-kept = passed (choices shop totals.tables)

abbrev pub results : List ResultRow
results = by_total ann ∷ by_total bob ∷ []

paid-results : map (result_of totals) (groups totals paid) ≡ results
paid-results = simp expr_lemmas

pub totals-results : meaning totals shop ≡ results
unfolding meaning
totals-results =
    ap (λ kept. map (result_of totals) (filter (passes_having totals.having) (groups totals kept))) totals-kept
    ∙ paid-results

pub greatest_first-answers : AnswersQuery totals shop (ann ∷ bob ∷ [])
greatest_first-answers = arranged_answer totals shop _ results results totals-results (IsPermutation-refl _) refl refl

-- The ORDER BY value of a row is its second value.
pub least_first-refused : AnswersQuery totals shop (bob ∷ ann ∷ []) → ⊥
least_first-refused answers =
    true≢false
    (answer_in_order totals (drop 1) shop results _ totals-results (refl, (refl, tt)) answers 0 [] zero-le (omega arith))
