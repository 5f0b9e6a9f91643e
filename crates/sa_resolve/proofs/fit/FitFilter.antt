-- The conditions over rows of a SELECT without faults.
use Rattle.std.proofs.Common.{false, ℕ, ◌+◌, ◌<◌, List, [], length, get_or, take, Option, Some, None, sym, subst}
use Rattle.std.specs.List.{AllByRecursion, enumerate_from}
use Rattle.sa_ast.specs.declared.expression.ExprTree.{ExprTree}
use Rattle.sa_ast.specs.declared.select.SelectTree.{SelectTree}
use Rattle.sa_ast.specs.declared.select.TableTree.{TableTree}
use Rattle.sa_table.specs.Table.{Table}
use Rattle.sa_query.specs.declared.group.Column.{Column}
use Rattle.sa_query.specs.declared.query.Query.{Query}
use Rattle.sa_query.specs.Kinds.{query_kinds}
use Rattle.sa_query.specs.WellTyped.{IsInSight}
use Rattle.sa_resolve.specs.Clauses.{Clauses, sources}
use Rattle.sa_resolve.specs.Expression.{never, reading}
use Rattle.sa_resolve.specs.Reading.{Reading}
use Rattle.sa_resolve.specs.Resolved.{query_with}
use Rattle.sa_resolve.specs.Sight.{Source}
use Rattle.sa_resolve.specs.Tables.{sources_of, over_rows, on_reading, on_readings}
use Rattle.sa_resolve.proofs.fit.Calls.{without_calls}
use Rattle.sa_resolve.proofs.fit.FitNodes.{fit-reading}
use Rattle.sa_resolve.proofs.fit.Fits.{IsGrouped, IsSlotted}
use Rattle.sa_resolve.proofs.fit.Judged.{IsFilter}
use Rattle.sa_resolve.proofs.fit.Lists.{each-always, each-of}
use Rattle.sa_resolve.proofs.fit.Names.{no_source}
use Rattle.sa_resolve.proofs.fit.Slotted.{knows_rows}
use Rattle.sa_resolve.proofs.fit.Sources.{IsTabled, IsFront, front_itself, front_of}
use Rattle.sa_resolve.proofs.fit.Stands.{Asks}

module _ (tables : List Table) (tree : SelectTree) (clauses : Clauses)
    (tabled : (place : ℕ) → place < length (sources tables tree)
    → IsTabled tables (get_or (sources tables tree) place no_source)) where
  abbrev Asked : Query
  Asked = query_with tables tree clauses

  abbrev AskedRightly : Reading → Type 0
  AskedRightly one =
      IsFilter one → Asks (IsInSight tables Asked false) (query_kinds tables Asked) one.cond

  row_asks : (front : List Source) → IsFront front (sources tables tree) → (value : ExprTree)
      → AskedRightly (reading tables (over_rows front) value)
  row_asks front is_front value filter =
      let plainly = without_calls tables (over_rows front) value filter.uncalled in
      let knows = knows_rows tables tree clauses tabled front [] never is_front tt in
      let fit =
      fit-reading tables Asked (over_rows front) knows value plainly.is_proper
      filter.faultless in
      fit.asks (record {
        grouped =
            each-always (λ (placed : ℕ × Column). IsGrouped None placed.1) (λ placed. tt)
            (reading tables (over_rows front) value).loose;
        slotted = subst (AllByRecursion (IsSlotted None)) (sym plainly.none) tt;
      })

  on_asks : (number : ℕ) (found : Option ExprTree) → AllByRecursion AskedRightly
      (on_reading tables tree.from number found)
  on_asks number None = tt
  on_asks number (Some value) = (
    row_asks (sources_of tables (take (number + 1) tree.from))
        (front_of tables tree.from (number + 1)) value,
    tt,
  )

  -- What ON asks is asked rightly, and what WHERE asks.
  pub ons_ask : AllByRecursion (λ (one : Reading). IsFilter one
      → Asks (IsInSight tables Asked false) (query_kinds tables Asked) one.cond)
      (on_readings tables tree.from)
  ons_ask =
      each-of AskedRightly (λ (numbered : ℕ × TableTree). on_reading tables tree.from numbered.0
      numbered.1.on) (enumerate_from 0 tree.from)
      (each-always (λ (numbered : ℕ × TableTree). AllByRecursion AskedRightly
      (on_reading tables tree.from numbered.0 numbered.1.on))
      (λ numbered. on_asks numbered.0 numbered.1.on) (enumerate_from 0 tree.from))

  pub where_asks : (value : ExprTree)
      → IsFilter (reading tables (over_rows (sources tables tree)) value)
      → Asks (IsInSight tables Asked false) (query_kinds tables Asked)
      (reading tables (over_rows (sources tables tree)) value).cond
  where_asks = row_asks (sources tables tree) (front_itself (sources tables tree))
