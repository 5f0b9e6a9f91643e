-- What is true of every SELECT.
use Rattle.std.proofs.Common.{◌≡◌, ◌⊎◌, inl, inr, List, [], ◌∷◌, Option, Some, None, IsSome, refl, sym, ap, ◌∙◌, rules}
use Rattle.sa_ast.specs.declared.select.SelectTree.{SelectTree}
use Rattle.sa_table.specs.Table.{Table}
use Rattle.sa_query.specs.declared.query.Query.{Query}
use Rattle.sa_resolve.specs.Fault.{Fault, earlier, least}
use Rattle.sa_resolve.specs.Resolved.{IsQueryOf, faults_of, query_of}

some_earlier : (fault : Fault) (other : Option Fault) → IsSome (earlier fault other)
some_earlier fault None = search rules
some_earlier fault (Some other) = search rules

module _ (tables : List Table) (tree : SelectTree) where
  either_by : (faults : List Fault) → faults_of tables tree ≡ faults
      → IsQueryOf tables tree (query_of tables tree) ⊎ IsSome (least (faults_of tables tree))
  either_by [] is = inl (record { faultless = is; is = refl })
  either_by (fault ∷ faults) is = inr (rw is (some_earlier fault (least faults)))

  pub query_or_fault : IsQueryOf tables tree (query_of tables tree)
      ⊎ IsSome (least (faults_of tables tree))
  query_or_fault = either_by (faults_of tables tree) refl

  pub no_fault : (query : Query) → IsQueryOf tables tree query
      → least (faults_of tables tree) ≡ None
  no_fault query is = ap least is.faultless

  pub one_query : (one other : Query) → IsQueryOf tables tree one → IsQueryOf tables tree other
      → one ≡ other
  one_query one other is also = is.is ∙ sym also.is
