-- Groups, aggregates, HAVING and DISTINCT, at worked examples.
use Rattle.std.proofs.Common.{◌≡◌, pos, true, List, [], ◌∷◌, codes, Some, None}
use Rattle.sa_ast.specs.declared.expression.AggregateCall.TheVariants.{CountRows, Sum}
use Rattle.sa_value.specs.declared.truth.CompareOp.TheVariants.{Ge}
use Rattle.sa_value.specs.declared.value.Value.{Value}
use Rattle.sa_value.specs.declared.value.Value.TheVariants.{Null, Big}
use Rattle.sa_cond.specs.declared.cond.Cond.{the_lemmas as cond_lemmas}
use Rattle.sa_cond.specs.declared.cond.Cond.TheVariants.{Compare}
use Rattle.sa_cond.specs.declared.expr.Expr.{the_lemmas as expr_lemmas}
use Rattle.sa_cond.specs.declared.expr.Expr.TheVariants.{Column, Slot, Literal}
use Rattle.sa_table.specs.Table.{Table}
use Rattle.sa_query.specs.declared.query.Query.{Query}
use Rattle.sa_query.specs.Meaning.{ResultRow, meaning}
use Rattle.sa_query.proofs.Worked.{number, table, used, item, select}

-- a row without ORDER BY values
abbrev plain : List Value → ResultRow
plain row = record { row = row; order = [] }

-- `SELECT COUNT(*), SUM(a) FROM t`, which is one group

abbrev pub count_and_sum : Query
count_and_sum =
    record (select
    (item (codes "COUNT(*)") (Slot 0) ∷ item (codes "SUM(a)") (Slot 1) ∷ [])
    (used 0 (codes "t") ∷ [])) {
      aggregates =
          record { call = CountRows; argument = None }
          ∷ record { call = Sum; argument = Some (Column 0 0) }
          ∷ [];
    }

pub of_nothing : meaning count_and_sum (table [] ∷ []) ≡ plain (number 0 ∷ Null ∷ []) ∷ []
unfolding meaning
of_nothing = simp expr_lemmas

pub of_three : meaning count_and_sum (table ((number 1 ∷ []) ∷ (number 2 ∷ []) ∷ (number 3 ∷ []) ∷ []) ∷ [])
    ≡ plain (number 3 ∷ Big (pos 6) ∷ []) ∷ []
unfolding meaning
of_three = simp (cond_lemmas, expr_lemmas)

-- `SELECT DISTINCT a FROM t` over 7, 7, NULL, NULL

abbrev pub twice : List Table
twice = table ((number 7 ∷ []) ∷ (number 7 ∷ []) ∷ (Null ∷ []) ∷ (Null ∷ []) ∷ []) ∷ []

abbrev pub each_once : Query
each_once = record (select (item (codes "a") (Column 0 0) ∷ []) (used 0 (codes "t") ∷ [])) { distinct = true }

pub each_once-rows : meaning each_once twice ≡ plain (number 7 ∷ []) ∷ plain (Null ∷ []) ∷ []
unfolding meaning
each_once-rows = simp (cond_lemmas, expr_lemmas)

-- `SELECT a, COUNT(*) FROM t GROUP BY a HAVING COUNT(*) >= 2` over 7, 7 and NULL

abbrev pub two_groups : List Table
two_groups = table ((number 7 ∷ []) ∷ (Null ∷ []) ∷ (number 7 ∷ []) ∷ []) ∷ []

abbrev pub at_least_two : Query
at_least_two =
    record (select (item (codes "a") (Slot 0) ∷ item (codes "COUNT(*)") (Slot 1) ∷ []) (used 0 (codes "t") ∷ [])) {
      group = record { table = 0; column = 0 } ∷ [];
      aggregates = record { call = CountRows; argument = None } ∷ [];
      having = Some (Compare Ge (Slot 1) (Literal (number 2)));
    }

pub at_least_two-rows : meaning at_least_two two_groups ≡ plain (number 7 ∷ number 2 ∷ []) ∷ []
unfolding meaning
at_least_two-rows = simp (cond_lemmas, expr_lemmas)
