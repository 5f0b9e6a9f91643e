-- Which rows a filter keeps, at worked examples.
use Rattle.std.proofs.Common.{◌≡◌, List, [], ◌∷◌, codes}
use Rattle.sa_value.specs.declared.truth.CompareOp.TheVariants.{Eq, NullEq}
use Rattle.sa_value.specs.declared.value.Value.{Value}
use Rattle.sa_value.specs.declared.value.Value.TheVariants.{Null}
use Rattle.sa_cond.specs.declared.cond.Cond.{Cond, the_lemmas as cond_lemmas}
use Rattle.sa_cond.specs.declared.cond.Cond.TheVariants.{Compare, Among, And, Not}
use Rattle.sa_cond.specs.declared.expr.Expr.{the_lemmas as expr_lemmas}
use Rattle.sa_cond.specs.declared.expr.Expr.TheVariants.{Column, Literal}
use Rattle.sa_table.specs.Table.{Table}
use Rattle.sa_query.specs.declared.query.Query.{Query}
use Rattle.sa_query.specs.Meaning.{ResultRow, meaning}
use Rattle.sa_query.proofs.Worked.{number, table, used, item, select}

-- a row without ORDER BY values
abbrev plain : List Value → ResultRow
plain row = record { row = row; order = [] }

-- `SELECT a FROM t WHERE ..` over NULL and 1

abbrev pub null_and_one : List Table
null_and_one = table ((Null ∷ []) ∷ (number 1 ∷ []) ∷ []) ∷ []

abbrev pub kept_by : Cond → Query
kept_by condition =
    record (select (item (codes "a") (Column 0 0) ∷ []) (used 0 (codes "t") ∷ []))
    { filter = And (condition ∷ []) }

pub not_equal_to_null-rows : meaning (kept_by (Not (Compare Eq (Column 0 0) (Literal Null)))) null_and_one ≡ []
unfolding meaning
not_equal_to_null-rows = simp (cond_lemmas, expr_lemmas)

pub null_safe-rows : meaning (kept_by (Compare NullEq (Column 0 0) (Literal Null))) null_and_one
    ≡ plain (Null ∷ []) ∷ []
unfolding meaning
null_safe-rows = simp (cond_lemmas, expr_lemmas)

pub not_among_null-rows :
    meaning (kept_by (Not (Among (Column 0 0) (Literal (number 1) ∷ Literal Null ∷ [])))) null_and_one ≡ []
unfolding meaning
not_among_null-rows = simp (cond_lemmas, expr_lemmas)

-- `SELECT t.a, u.b FROM t, u WHERE t.a = u.b` over 7, 7 and 7, 7, 7

abbrev pub sevens : List Table
sevens =
    table ((number 7 ∷ []) ∷ (number 7 ∷ []) ∷ [])
    ∷ table ((number 7 ∷ []) ∷ (number 7 ∷ []) ∷ (number 7 ∷ []) ∷ [])
    ∷ []

abbrev pub equal_sevens : Query
equal_sevens =
    record (select
    (item (codes "a") (Column 0 0) ∷ item (codes "b") (Column 1 0) ∷ [])
    (used 0 (codes "t") ∷ used 1 (codes "u") ∷ []))
    { filter = And (Compare Eq (Column 0 0) (Column 1 0) ∷ []) }

abbrev row_of_sevens : ResultRow
row_of_sevens = plain (number 7 ∷ number 7 ∷ [])

pub equal_sevens-rows : meaning equal_sevens sevens
    ≡ row_of_sevens ∷ row_of_sevens ∷ row_of_sevens ∷ row_of_sevens ∷ row_of_sevens ∷ row_of_sevens ∷ []
unfolding meaning
equal_sevens-rows = simp (cond_lemmas, expr_lemmas)
