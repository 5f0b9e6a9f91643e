-- The query of a SELECT in which nothing is that isn't built can be planned.
use Rattle.std.proofs.Common.{◌≡◌, ℕ, ◌≤◌, List, length, None, sym, subst}
use Rattle.sa_lexer.specs.declared.token.Token.{Token}
use Rattle.sa_ast.specs.declared.select.SelectTree.{SelectTree}
use Rattle.sa_table.specs.Table.{Table}
use Rattle.sa_query.specs.declared.query.Query.{Query}
use Rattle.sa_query.specs.Kinds.{query_kinds}
use Rattle.sa_resolve.specs.Resolved.{IsQueryOf}
use Rattle.sa_prepare.specs.PlanFor.{IsPlain}
use Rattle.sa_prepare.specs.Unbuilt.{least_place, unbuilt_places}
use Rattle.sa_prepare.specs.inner.Planned.{CanPlan}
use Rattle.sa_prepare.proofs.Built.{none_least, is_built, query-plain}
use Rattle.sa_prepare.proofs.Fits.{IsFit, query_fits}

-- It is plain and fits the tables.
pub record IsReady (tables : List Table) (query : Query) : Type 0 where
  pub plain : IsPlain query
  pub fit : IsFit tables query

pub is_ready : (tables : List Table) (tokens : List Token) (tree : SelectTree) (query : Query) → 1 ≤ length tree.from
    → least_place (unbuilt_places tokens tree) ≡ None → IsQueryOf tables tree query → IsReady tables query
is_ready tables tokens tree query some none is =
    let built = is_built tokens tree (none_least (unbuilt_places tokens tree) none) in
    record {
      plain = subst IsPlain (sym is.is) (query-plain tables tree some built);
      fit = query_fits tables tree query is;
    }

pub can_plan : (tables : List Table) (tokens : List Token) (tree : SelectTree) (query : Query) → 1 ≤ length tree.from
    → least_place (unbuilt_places tokens tree) ≡ None → IsQueryOf tables tree query → CanPlan tables query
can_plan tables tokens tree query some none is =
    let ready = is_ready tables tokens tree query some none is in
    record {
      one = ready.plain.one;
      there = ready.fit.there;
      filter = record { kinds = query_kinds tables query; typed = ready.fit.filter.typed };
    }
