-- What the code keeps of a select list.
use Rattle.std.specs.Prelude.{◌≡◌, ⊤, ℕ, ◌+◌, nat_le, nat_lt, ◌&&◌, List, [], ◌∷◌, ◌++◌, map, length, take, drop, slice_get, Option, Some, None, option_map}
use Rattle.std.specs.List.{flat_map}
use Rattle.sa_ast.specs.declared.select.ItemTree.{ItemTree}
use Rattle.sa_table.specs.Table.{Table}
use Rattle.sa_query.specs.declared.group.Aggregate.{Aggregate}
use Rattle.sa_query.specs.declared.group.Column.{Column}
use Rattle.sa_query.specs.declared.item.Item.{Item}
use Rattle.sa_query.specs.declared.refusal.ResolveKind.TheVariants.{TooManyItems}
use Rattle.sa_resolve.specs.declared.select.Chosen.{Chosen}
use Rattle.sa_resolve.specs.declared.select.Chosen.TheVariants.{Columns, Value}
use Rattle.sa_resolve.specs.declared.select.Part.{Part}
use Rattle.sa_resolve.specs.declared.select.Run.{Run}
use Rattle.sa_resolve.specs.declared.select.SelectList.{SelectList}
use Rattle.sa_resolve.specs.declared.select.Valued.{Valued}
use Rattle.sa_resolve.specs.declared.sight.Sight.{Sight}
use Rattle.sa_resolve.specs.declared.sight.Source.{Source}
use Rattle.sa_resolve.specs.Expression.{Scope, column_kind, column_reading, reading}
use Rattle.sa_resolve.specs.Fault.{least, told}
use Rattle.sa_resolve.specs.Faults.{too_many}
use Rattle.sa_resolve.specs.Resolved.{query_item}
use Rattle.sa_resolve.specs.Selected.{Selected, item_name, items_at, selected, star_faults}
use Rattle.sa_resolve.specs.inner.Least.{fault_of, sooner}
use Rattle.sa_resolve.specs.inner.Looking.{IsLooked}
use Rattle.sa_resolve.specs.inner.Meanings.{def_at, def_or, kind_by}

-- These items stand in the list, the first of them at this number.
abbrev pub StandAt : List Selected → (first : ℕ) → List Selected → Type 0
StandAt listed first items =
    (k : ℕ) (one : Selected) → slice_get items k ≡ Some one → slice_get listed (first + k) ≡ Some one

-- the columns of a run
abbrev pub columns_in : Sight → Run → List Column
columns_in sight run = take run.count (drop run.first sight.columns.items)

-- the columns of a table of FROM
abbrev pub run_of_source : Option Source → Run
run_of_source None = record { first = 0; count = 0 }
run_of_source (Some source) = record { first = source.first; count = length source.defs.now }

-- the aggregates of these items, in order of their mention
abbrev pub aggregates_of : List Selected → List Aggregate
aggregates_of items = flat_map (λ (one : Selected). one.item.aggregates) items

-- how many items it is
abbrev pub size_of : Chosen → ℕ
size_of (Columns run) = run.count
size_of (Value valued) = 1

-- The list has this at its end, and tells where that has the item too many.
pub record Puts (old new : SelectList) (at : ℕ) (chosen : Chosen) : Type 0 where
  pub parts : new.parts.items
      ≡ old.parts.items ++ record { place = at; first = old.count; chosen = chosen } ∷ []
  pub count : new.count ≡ old.count + size_of chosen
  pub fault : fault_of new.fault
      ≡ sooner (fault_of old.fault)
      (least (told (nat_le old.count 64 && nat_lt 64 (old.count + size_of chosen)) TooManyItems at))

module _ (tables : List Table) (scope : Scope) (sight : Sight) where
  -- the item that a column of a star is
  abbrev pub starred : (place : ℕ) → Column → Selected
  starred place column = record {
    name = (def_or (def_at sight.sources.items column)).name;
    alias = None;
    place = place;
    item = column_reading tables scope place column;
  }

  -- what is asked for by it
  abbrev pub star_item : (place : ℕ) → Column → Item
  star_item place column = query_item (starred place column)

  -- These items are the columns of a run, whose kinds the code finds.
  pub record IsRun (place : ℕ) (run : Run) (items : List Selected) : Type 0 where
    pub items_are : items ≡ map (starred place) (columns_in sight run)
    pub count : run.count ≡ length items
    pub kinds : map (kind_by sight) (columns_in sight run)
        ≡ map (column_kind tables scope.sources) (columns_in sight run)

  -- This is kept of an item that is an expression.
  pub record IsValued (valued : Valued) (one : Selected) : Type 0 where
    pub item : one.item ≡ reading tables scope valued.tree.now
    pub name : one.name ≡ item_name valued.tree.now (option_map (λ tree. tree.now) valued.alias)
    pub alias : one.alias ≡ option_map (λ tree. tree.now.name) valued.alias
    pub looked : IsLooked valued.looked one.item
    pub row : valued.row ≡ one.item.row

  -- These items are what a part of the select list asks for.
  abbrev pub IsChosen : (place : ℕ) → Chosen → List Selected → Type 0
  IsChosen place (Columns run) items = IsRun place run items
  IsChosen place (Value valued) (one ∷ []) = (one.place ≡ place) × IsValued valued one
  IsChosen place (Value valued) items = ⊥

  -- a part of the list, before which so many items stand
  pub record IsPart (first : ℕ) (part : Part) (tree : ItemTree) : Type 0 where
    pub place : part.place ≡ tree.place
    pub first_is : part.first ≡ first
    pub chosen : IsChosen tree.place part.chosen (items_at tables scope tree.place tree.item)

  abbrev pub AreParts : (first : ℕ) → List Part → List ItemTree → Type 0
  AreParts first [] [] = ⊤
  AreParts first (part ∷ parts) (tree ∷ trees) =
      IsPart first part tree
      × AreParts (first + length (items_at tables scope tree.place tree.item)) parts trees
  AreParts first parts trees = ⊥

  -- This is what an item is that is written, and its aggregates stand last among all.
  pub record Chooses (before after : List Aggregate) (tree : ItemTree) (chosen : Chosen) : Type 0 where
    pub items : IsChosen tree.place chosen (items_at tables scope tree.place tree.item)
    pub aggregates : after
        ≡ before ++ aggregates_of (items_at tables scope tree.place tree.item)

  -- The code has this select list.
  pub record IsSelectList (trees : List ItemTree) (list : SelectList) : Type 0 where
    pub parts : AreParts 0 list.parts.items trees
    pub count : list.count ≡ length (selected tables scope trees)
    pub fault : fault_of list.fault
        ≡ least (flat_map (λ (tree : ItemTree). star_faults tables scope tree.item) trees
        ++ too_many TooManyItems 64 (map (λ (one : Selected). one.place) (selected tables scope trees)))
