-- What the code knows of a SELECT, clause by clause.
use Rattle.std.specs.Prelude.{◌≡◌, ⊤, List, [], ◌∷◌, ◌++◌, map, length, Option, Some, None}
use Rattle.std.specs.List.{flat_map}
use Rattle.sa_ast.specs.declared.select.SelectTree.{SelectTree}
use Rattle.sa_table.specs.Table.{Table}
use Rattle.sa_query.specs.declared.group.Aggregate.{Aggregate}
use Rattle.sa_resolve.specs.declared.clauses.Clauses.{Clauses as Known}
use Rattle.sa_resolve.specs.declared.clauses.Reader.{Reader}
use Rattle.sa_resolve.specs.declared.look.Looked.{Looked}
use Rattle.sa_resolve.specs.declared.scope.Seeks.TheVariants.{Never}
use Rattle.sa_resolve.specs.declared.sight.Sight.{Sight}
use Rattle.sa_resolve.specs.Clauses.{Clauses, clauses_with, items, select_scope}
use Rattle.sa_resolve.specs.Fault.{Fault}
use Rattle.sa_resolve.specs.Faults.{constant_faults, filter_faults}
use Rattle.sa_resolve.specs.Node.{Slots}
use Rattle.sa_resolve.specs.Reading.{Reading}
use Rattle.sa_resolve.specs.Selected.{Selected, aliases_of}
use Rattle.sa_resolve.specs.inner.Listing.{IsSelectList}
use Rattle.sa_resolve.specs.inner.Looking.{IsLooked}
use Rattle.sa_resolve.specs.inner.Names.{AreAliases, IsSight}

-- These are kept of several expressions.
abbrev pub AreLooked : List Looked → List Reading → Type 0
AreLooked [] [] = ⊤
AreLooked (looked ∷ others) (one ∷ ones) = IsLooked looked one × AreLooked others ones
AreLooked looked ones = ⊥

abbrev pub as_looked : Option Looked → List Looked
as_looked None = []
as_looked (Some looked) = looked ∷ []

-- the aggregates of the select list, HAVING and ORDER BY in the order of their mention
abbrev pub aggregates_in : List Reading → List Aggregate
aggregates_in readings = flat_map (λ (one : Reading). one.aggregates) readings

-- the readings whose aggregates are slots
abbrev pub answer_readings : Clauses → List Reading
answer_readings clauses =
    map (λ (one : Selected). one.item) clauses.select ++ clauses.having ++ clauses.order

-- what is wrong with ON and WHERE
abbrev pub filters_faults : Clauses → List Fault
filters_faults clauses =
    flat_map filter_faults (clauses.on ++ clauses.filter) ++ constant_faults clauses

module _ (tables : List Table) (tree : SelectTree) (slots : Option Slots) where
  -- The reader sees the tables of FROM, the select list and its aliases.
  pub record Knows (reader : Reader) : Type 0 where
    pub sight : IsSight tables tree.from reader.rows.sight.now
    pub count : reader.rows.count ≡ length tree.from
    pub seeks : reader.rows.seeks ≡ Never
    pub select : IsSelectList tables (select_scope tables tree slots) reader.rows.sight.now
        tree.items reader.select.now
    pub aliases : AreAliases (items tables tree slots) (aliases_of (items tables tree slots))
        reader.aliases.now

  -- The code has looked at all clauses of the SELECT.
  pub record AreKnown (sight : Sight) (known : Known) : Type 0 where
    pub filters : AreLooked known.filters.items
        ((clauses_with tables tree slots).on ++ (clauses_with tables tree slots).filter)
    pub select : IsSelectList tables (select_scope tables tree slots) sight tree.items
        known.select.now
    pub group : AreLooked known.group.items (clauses_with tables tree slots).group
    pub having : AreLooked (as_looked known.having) (clauses_with tables tree slots).having
    pub order : AreLooked known.order.items (clauses_with tables tree slots).order
