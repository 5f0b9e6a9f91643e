use Rattle.std.proofs.Common.{sym, subst, ◌∙◌}
use Rattle.sa_resolve.specs.declared.sight.Sight.{Sight}
use Rattle.sa_resolve.specs.Clauses.{select_scope}
use Rattle.sa_resolve.specs.inner.Listing.{IsSelectList}
use Rattle.sa_resolve.specs.inner.Names.{IsSight}
use Rattle.sa_resolve.proofs.judging.Sights.{sources_count}
use Rattle.sa_resolve.proofs.clauses.Reader.new.Goals as goal

pub returns-clause-knows : goal.returns-clause-knows
returns-clause-knows c = λ tables tree slots sight select aliases. record {
  sight = subst (λ (one : Sight). IsSight tables tree.from one) (sym c.rows.ensures.sight) sight;
  count = c.rows.ensures.count ∙ sources_count tables tree.from c.args.sight.now sight;
  seeks = c.rows.ensures.seeks;
  select = subst (λ (one : Sight). IsSelectList tables (select_scope tables tree slots) one tree.items c.args.select.now)
      (sym c.rows.ensures.sight) select;
  aliases = aliases;
}
