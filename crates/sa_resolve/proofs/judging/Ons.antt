-- What is kept of ON and WHERE.
use Rattle.std.proofs.Common.{◌≡◌, ℕ, ◌+◌, ◌∷◌, List, [], ◌++◌, take, Option, Some, None, append-nil, sym, subst}
use Rattle.sa_ast.specs.declared.expression.ExprTree.{ExprTree}
use Rattle.sa_ast.specs.declared.select.SelectTree.{SelectTree}
use Rattle.sa_ast.specs.declared.select.TableTree.{TableTree}
use Rattle.sa_table.specs.Table.{Table}
use Rattle.sa_resolve.specs.declared.look.Looked.{Looked}
use Rattle.sa_resolve.specs.Clauses.{clauses_with, option_list}
use Rattle.sa_resolve.specs.Expression.{reading}
use Rattle.sa_resolve.specs.Node.{Slots}
use Rattle.sa_resolve.specs.Reading.{Reading}
use Rattle.sa_resolve.specs.Tables.{on_reading, on_readings, over_rows, sources_of}
use Rattle.sa_resolve.specs.inner.Knowing.{AreLooked}
use Rattle.sa_resolve.specs.inner.Looking.{IsLooked}
use Rattle.sa_resolve.proofs.judging.Lookeds.{AreLooked-push}

module _ (tables : List Table) (from : List TableTree) (number : ℕ) (looked : List Looked) (ones : List Reading) (are : AreLooked looked ones) where
  -- a table without ON
  pub no_on : (on : Option ExprTree) → on ≡ None → AreLooked looked (ones ++ on_reading tables from number on)
  no_on on none =
      subst (λ (on : Option ExprTree). AreLooked looked (ones ++ on_reading tables from number on)) (sym none)
      (subst (AreLooked looked) (sym (append-nil ones)) are)

  -- a table with one
  pub one_on : (on : Option ExprTree) (tree : ExprTree) (x : Looked) (others : List Looked) → on ≡ Some tree
      → IsLooked x (reading tables (over_rows (sources_of tables (take (number + 1) from))) tree)
      → others ≡ looked ++ x ∷ [] → AreLooked others (ones ++ on_reading tables from number on)
  one_on on tree x others some is others_are =
      subst (λ (on : Option ExprTree). AreLooked others (ones ++ on_reading tables from number on)) (sym some)
      (subst (λ (others : List Looked). AreLooked others (ones ++ reading tables (over_rows (sources_of tables (take (number + 1) from))) tree ∷ [])) (sym others_are)
      (AreLooked-push looked x ones (reading tables (over_rows (sources_of tables (take (number + 1) from))) tree) are is))

module _ (tables : List Table) (tree : SelectTree) (slots : Option Slots) (joins : List Looked) (are : AreLooked joins (on_readings tables tree.from)) where
  -- a SELECT without WHERE
  pub no_where : tree.filter ≡ None → AreLooked joins ((clauses_with tables tree slots).on ++ (clauses_with tables tree slots).filter)
  no_where none =
      subst (λ (filter : Option ExprTree). AreLooked joins (on_readings tables tree.from ++ option_list (reading tables (over_rows (sources_of tables tree.from))) filter)) (sym none)
      (subst (AreLooked joins) (sym (append-nil (on_readings tables tree.from))) are)

  -- a SELECT with one
  pub one_where : (filter : ExprTree) (x : Looked) (all : List Looked) → tree.filter ≡ Some filter
      → IsLooked x (reading tables (over_rows (sources_of tables tree.from)) filter) → all ≡ joins ++ x ∷ []
      → AreLooked all ((clauses_with tables tree slots).on ++ (clauses_with tables tree slots).filter)
  one_where filter x all some is all_are =
      subst (λ (one : Option ExprTree). AreLooked all (on_readings tables tree.from ++ option_list (reading tables (over_rows (sources_of tables tree.from))) one)) (sym some)
      (subst (λ (all : List Looked). AreLooked all (on_readings tables tree.from ++ reading tables (over_rows (sources_of tables tree.from)) filter ∷ [])) (sym all_are)
      (AreLooked-push joins x (on_readings tables tree.from) (reading tables (over_rows (sources_of tables tree.from)) filter) are is))
