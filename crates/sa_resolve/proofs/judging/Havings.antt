-- What is kept of HAVING, if there is one.
use Rattle.std.proofs.Common.{◌≡◌, List, [], ◌∷◌, ◌++◌, Option, Some, None, append-nil, append_assoc, sym, subst, ap, ◌∙◌}
use Rattle.std.proofs.lemmas.List.Concat.{flat_map-append}
use Rattle.sa_ast.specs.declared.expression.ExprTree.{ExprTree}
use Rattle.sa_ast.specs.declared.select.SelectTree.{SelectTree}
use Rattle.sa_table.specs.Table.{Table}
use Rattle.sa_query.specs.declared.group.Aggregate.{Aggregate}
use Rattle.sa_resolve.specs.declared.look.Looked.{Looked}
use Rattle.sa_resolve.specs.Clauses.{option_list, scope_of}
use Rattle.sa_resolve.specs.Expression.{first, reading}
use Rattle.sa_resolve.specs.Node.{Slots}
use Rattle.sa_resolve.specs.Reading.{Reading}
use Rattle.sa_resolve.specs.inner.Judging.{HaveLooked}
use Rattle.sa_resolve.specs.inner.Knowing.{aggregates_in}
use Rattle.sa_resolve.specs.inner.Looking.{LooksUp}

module _ (tables : List Table) (tree : SelectTree) (slots : Option Slots) where
  pub no_having : (before : List Aggregate) (having : Option ExprTree) → having ≡ None
      → HaveLooked before before [] (option_list (reading tables (scope_of tables tree slots first)) having)
  no_having before having none =
      subst (λ (having : Option ExprTree). HaveLooked before before [] (option_list (reading tables (scope_of tables tree slots first)) having))
      (sym none) (record { looked_are = tt; aggregates = sym (append-nil before) })

  pub one_having : (before after : List Aggregate) (looked : Looked) (having : Option ExprTree) (value : ExprTree) → having ≡ Some value
      → LooksUp before after looked (reading tables (scope_of tables tree slots first) value)
      → HaveLooked before after (looked ∷ []) (option_list (reading tables (scope_of tables tree slots first)) having)
  one_having before after looked having value some looks =
      subst (λ (having : Option ExprTree). HaveLooked before after (looked ∷ []) (option_list (reading tables (scope_of tables tree slots first)) having))
      (sym some) (record {
        looked_are = (looks.looked_is, tt);
        aggregates = looks.aggregates ∙ ap (λ more. before ++ more) (sym (append-nil (reading tables (scope_of tables tree slots first) value).aggregates));
      })

-- the aggregates of two clauses
pub aggregates_twice : (old mid new : List Aggregate) (ones others : List Reading) → mid ≡ old ++ aggregates_in ones → new ≡ mid ++ aggregates_in others
    → new ≡ old ++ aggregates_in (ones ++ others)
aggregates_twice old mid new ones others mid_is new_is =
    new_is ∙ ap (λ (mid : List Aggregate). mid ++ aggregates_in others) mid_is
    ∙ append_assoc old (aggregates_in ones) (aggregates_in others)
    ∙ ap (λ (more : List Aggregate). old ++ more) (sym (flat_map-append (λ (one : Reading). one.aggregates) ones others))
