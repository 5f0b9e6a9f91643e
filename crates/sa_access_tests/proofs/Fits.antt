-- A query with its filter simplified fits the tables too.
use Rattle.std.proofs.Common.{◌≡◌, Bool, true, false, List, get_or, Option, Some, None, All, subst}
use Rattle.std.specs.List.{Contains}
use Rattle.std.proofs.lemmas.List.{get_or_default}
use Rattle.std.proofs.lemmas.List.Elements.{All-weaker}
use Rattle.sa_ast.specs.declared.expression.AggregateCall.{AggregateCall}
use Rattle.sa_ast.specs.declared.expression.AggregateCall.TheVariants.{CountRows, Count, Sum, Min, Max}
use Rattle.sa_cond.specs.declared.cond.Cond.{Cond}
use Rattle.sa_cond.specs.declared.expr.Expr.{Expr}
use Rattle.sa_cond.specs.Cited.{Name, column, slot, cond_names, expr_names}
use Rattle.sa_cond.specs.Interval.{CellKinds}
use Rattle.sa_cond.specs.Typed.{is_well_typed}
use Rattle.sa_simplify.specs.Simple.{simple}
use Rattle.sa_query.specs.declared.group.Aggregate.{Aggregate}
use Rattle.sa_query.specs.declared.item.Item.{Item}
use Rattle.sa_query.specs.declared.order.OrderKey.{OrderKey}
use Rattle.sa_query.specs.declared.query.Query.{Query}
use Rattle.sa_query.specs.Kinds.{query_kinds}
use Rattle.sa_query.specs.Meaning.{does_group}
use Rattle.sa_query.specs.WellTyped.{IsFitArgument, IsFitCond, IsFitExpr, IsFitHaving, IsInSight, IsWellTyped}
use Rattle.sa_table.specs.Table.{Table}

-- A simplified condition is well-typed with the same kinds, and names no more.
abbrev pub StaysTyped : Type 0
StaysTyped = (kinds : CellKinds) (cond : Cond) → is_well_typed kinds cond ≡ true → is_well_typed kinds (simple cond) ≡ true

abbrev pub NamesNoMore : Type 0
NamesNoMore = (cond : Cond) (name : Name) → Contains (cond_names (simple cond)) name → Contains (cond_names cond) name

module _ (tables : List Table) (query : Query) where
  abbrev pub simplified : Query
  simplified = record query { filter = simple query.filter }

  in_sight : (grouped : Bool) (name : Name) → IsInSight tables query grouped name → IsInSight tables simplified grouped name
  in_sight false (column position number) there = there
  in_sight false (slot number) there = there
  in_sight true (column position number) there = there
  in_sight true (slot number) there = there

  fit_expr : (grouped : Bool) (expr : Expr) → IsFitExpr tables query grouped expr → IsFitExpr tables simplified grouped expr
  fit_expr grouped expr fit = record {
    names = All-weaker (IsInSight tables query grouped) (IsInSight tables simplified grouped) (in_sight grouped) (expr_names expr) fit.names;
    typed = fit.typed;
  }

  fit_cond : (grouped : Bool) (cond : Cond) → IsFitCond tables query grouped cond → IsFitCond tables simplified grouped cond
  fit_cond grouped cond fit = record {
    names = All-weaker (IsInSight tables query grouped) (IsInSight tables simplified grouped) (in_sight grouped) (cond_names cond) fit.names;
    typed = fit.typed;
  }

  fit_argument : (call : AggregateCall) (argument : Option Expr) → IsFitArgument tables query call argument → IsFitArgument tables simplified call argument
  fit_argument CountRows None fit = fit
  fit_argument CountRows (Some argument) fit = fit
  fit_argument Count None fit = fit
  fit_argument Count (Some argument) fit = fit_expr false argument fit
  fit_argument Sum None fit = fit
  fit_argument Sum (Some argument) fit = (fit_expr false argument fit.0, fit.1)
  fit_argument Min None fit = fit
  fit_argument Min (Some argument) fit = fit_expr false argument fit
  fit_argument Max None fit = fit
  fit_argument Max (Some argument) fit = fit_expr false argument fit

  fit_having : (having : Option Cond) → IsFitHaving tables query having → IsFitHaving tables simplified having
  fit_having None fit = fit
  fit_having (Some having) fit = (fit.0, fit_cond true having fit.1)

  fit_filter : StaysTyped → NamesNoMore → IsFitCond tables query false query.filter → IsFitCond tables simplified false (simple query.filter)
  fit_filter typed names fit = record { names = each; typed = typed (query_kinds tables query) query.filter fit.typed }
    where
      each : All (IsInSight tables simplified false) (cond_names (simple query.filter))
      each k d there =
          let name : Name = get_or (cond_names (simple query.filter)) k d in
          let among : Contains (cond_names query.filter) name = names query.filter name (k, there, get_or_default (cond_names (simple query.filter)) k name d there) in
          in_sight false name (subst (IsInSight tables query false) among.2 (fit.names among.0 name among.1))

  pub fits_simplified : StaysTyped → NamesNoMore → IsWellTyped tables query → IsWellTyped tables simplified
  fits_simplified typed names fits = record {
    least = fits.least;
    most = fits.most;
    there = fits.there;
    filter = fit_filter typed names fits.filter;
    group = fits.group;
    aggregates = All-weaker (λ (one : Aggregate). IsFitArgument tables query one.call one.argument) (λ one. IsFitArgument tables simplified one.call one.argument)
        (λ one. fit_argument one.call one.argument) query.aggregates fits.aggregates;
    select = All-weaker (λ (item : Item). IsFitExpr tables query (does_group query) item.value) (λ item. IsFitExpr tables simplified (does_group query) item.value)
        (λ item. fit_expr (does_group query) item.value) query.select fits.select;
    having = fit_having query.having fits.having;
    order = All-weaker (λ (key : OrderKey). IsFitExpr tables query (does_group query) key.value) (λ key. IsFitExpr tables simplified (does_group query) key.value)
        (λ key. fit_expr (does_group query) key.value) query.order fits.order;
    distinct = fits.distinct;
  }
