-- What the judgement of a SELECT stands on, and what is wrong outside its select list.
use Rattle.std.specs.Prelude.{◌≡◌, ℕ, Bool, false, not, List, [], ◌++◌, map, Option, Some, None, is_some, option_map}
use Rattle.sa_ast.specs.declared.select.SelectTree.{SelectTree}
use Rattle.sa_table.specs.Table.{Table}
use Rattle.sa_query.specs.declared.group.Aggregate.{Aggregate}
use Rattle.sa_query.specs.declared.group.Column.{Column}
use Rattle.sa_query.specs.declared.item.Item.{Item}
use Rattle.sa_query.specs.Meaning.{is_empty}
use Rattle.sa_resolve.specs.declared.look.Looked.{Looked}
use Rattle.sa_resolve.specs.declared.resolver.Known.{Known}
use Rattle.sa_resolve.specs.declared.select.Chosen.{Chosen}
use Rattle.sa_resolve.specs.declared.select.Chosen.TheVariants.{Columns, Value}
use Rattle.sa_resolve.specs.declared.select.Part.{Part}
use Rattle.sa_resolve.specs.declared.slots.Slots.{Slots as Held}
use Rattle.sa_resolve.specs.Clauses.{Clauses, clauses_with, slots_of}
use Rattle.sa_resolve.specs.Fault.{Fault}
use Rattle.sa_resolve.specs.Faults.{group_faults, having_faults, order_faults}
use Rattle.sa_resolve.specs.Node.{Slots}
use Rattle.sa_resolve.specs.Reading.{Reading}
use Rattle.sa_resolve.specs.Resolved.{query_item}
use Rattle.sa_resolve.specs.Tables.{from_faults}
use Rattle.sa_resolve.specs.inner.Building.{slots_at}
use Rattle.sa_resolve.specs.inner.Knowing.{AreKnown, AreLooked, Knows, aggregates_in, filters_faults}

-- whether a reading has an aggregate
abbrev pub has_calls : Reading → Bool
has_calls one = not (is_empty one.calls)

-- These are kept of several expressions, and their aggregates stand last among all.
pub record HaveLooked (before after : List Aggregate) (looked : List Looked) (ones : List Reading) : Type 0 where
  pub looked_are : AreLooked looked ones
  pub aggregates : after ≡ before ++ aggregates_in ones

-- what is wrong outside the select list, which is right or not
abbrev pub other_faults : List Table → SelectTree → Clauses → (is_right : Bool) → List Fault
other_faults tables tree clauses is_right =
    from_faults tables tree.from
    ++ filters_faults clauses
    ++ group_faults clauses tree.group
    ++ having_faults clauses tree.having_place
    ++ order_faults clauses tree.distinct is_right tree.order

-- All is known of a SELECT, and these are its slots, which its readings over them have again.
pub record IsReady (tables : List Table) (found : Option Slots) (known : Known) (slots : Option Held) : Type 0 where
  pub reader : Knows tables known.tree.now found known.reader
  pub clauses_are : AreKnown tables known.tree.now found known.reader.rows.sight.now known.clauses
  pub slots_are : option_map slots_at slots ≡ found
  pub settled : slots_of (clauses_with tables known.tree.now found) ≡ found

-- These are the items of the select list.
abbrev pub AreItems : List Table → SelectTree → Option Slots → List Item → Type 0
AreItems tables tree found items = items ≡ map query_item (clauses_with tables tree found).select

-- the GROUP BY columns and the aggregates of a query with these slots
abbrev pub parts_of : Option Slots → List Column × List Aggregate
parts_of None = ([], [])
parts_of (Some slots) = (slots.group, slots.aggregates)

-- the places of the literals of an expression that the code has looked at
abbrev pub literals_at : Looked → List ℕ
literals_at looked = looked.literals.items

-- whether the code has seen an aggregate in a part of a select list
abbrev pub chosen_call : Chosen → Bool
chosen_call (Columns run) = false
chosen_call (Value valued) = is_some valued.looked.facts.call

abbrev pub part_call : Part → Bool
part_call part = chosen_call part.chosen
