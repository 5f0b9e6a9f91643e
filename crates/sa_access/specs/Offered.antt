-- Which accesses a query offers to a table.
-- Source of the kinds: MariaDB Knowledge Base, "EXPLAIN", its column `type`.
use Rattle.std.specs.Prelude.{◌≡◌, ◌≢◌, ℕ, ⊤, Bool, true, false, ◌&&◌, ◌==◌, List, [], ◌∷◌, ◌++◌, map, length, slice_index_or, Option, Some, None, if◌then◌else◌}
use Rattle.std.specs.List.{flat_map, list_all, list_any}
use Rattle.sa_cond.specs.Cited.{Name, column, slot, expr_names, cond_names}
use Rattle.sa_key.specs.declared.cut.Side.TheVariants.{Below, Above}
use Rattle.sa_key.specs.declared.range.KeyRange.{KeyRange}
use Rattle.sa_query.specs.declared.group.Aggregate.{Aggregate}
use Rattle.sa_query.specs.declared.group.Column.{Column as GroupColumn}
use Rattle.sa_query.specs.declared.item.Item.{Item}
use Rattle.sa_query.specs.declared.order.OrderKey.{OrderKey}
use Rattle.sa_query.specs.declared.query.Query.{Query}
use Rattle.sa_range.specs.RangeList.{range_list}
use Rattle.sa_table.specs.declared.def.KeyDef.{KeyDef}
use Rattle.sa_table.specs.Sound.{column_at}
use Rattle.sa_table.specs.Table.{table_at, is_unique}
use Rattle.sa_index.specs.Indexed.{IsKeyOf, no_key}
use Rattle.sa_plan.specs.declared.access.Access.{Access}
use Rattle.sa_plan.specs.declared.access.RefPart.{RefPart}
use Rattle.sa_plan.specs.declared.access.Access.TheVariants.{All, Index, Range, Ref, EqRef, Const}
use Rattle.sa_access.specs.Asked.{Asked, asked_table}
use Rattle.sa_access.specs.Sought.{sought_of, is_literal}

-- the names in what may be there
abbrev pub names_in : {A : Type 0} → (A → List Name) → Option A → List Name
names_in names None = []
names_in names (Some one) = names one

-- all columns and slots that a query names
abbrev pub used_names : Query → List Name
used_names query =
    cond_names query.filter
    ++ flat_map (λ (item : Item). expr_names item.value) query.select
    ++ map (λ (one : GroupColumn). column one.table one.column) query.group
    ++ flat_map (λ (one : Aggregate). names_in expr_names one.argument) query.aggregates
    ++ names_in cond_names query.having
    ++ flat_map (λ (key : OrderKey). expr_names key.value) query.order

-- whether a name isn't of this position's table, or is one of these columns of it
abbrev pub is_held : (position : ℕ) → (numbers : List ℕ) → Name → Bool
is_held position numbers (column other number) =
    if other == position then list_any (λ one. one == number) numbers else true
is_held position numbers (slot number) = true

-- the range of all tuples
abbrev pub all_tuples : KeyRange
all_tuples = record {
  from = record { tuple = []; side = Below };
  to = record { tuple = []; side = Above };
}

module _ (asked : Asked) where
  abbrev pub key_at : ℕ → KeyDef
  key_at key = slice_index_or (table_at asked.tables (asked_table asked)).def.keys key no_key

  -- whether a key holds all columns of its table that the query names
  abbrev pub covers : (key : ℕ) → Bool
  covers key = list_all (is_held asked.position (key_at key).parts) (used_names asked.query)

  -- whether no two rows can be found by what all parts of a key are sought by: it is unique, and
  -- NULL isn't among its values
  abbrev pub finds_one : (key : ℕ) → Bool
  finds_one key =
      is_unique (key_at key)
      && list_all
      (λ number. (column_at (table_at asked.tables (asked_table asked)).def number).not_null)
      (key_at key).parts
      && length (sought_of asked key) == length (key_at key).parts

  -- An equality is there for the first part of a key at least.
  pub record IsSought (key : ℕ) (from : List RefPart) : Type 0 where
    pub there : IsKeyOf asked.tables (asked_table asked) key
    pub from_is : from ≡ sought_of asked key
    pub some : from ≢ []

  -- ALL always is. An index is where it holds all that the query names of its table; a range where
  -- the filter leaves less than all tuples. By equalities of its first parts a key is read as const
  -- or eq_ref where they find one row at most, the former where all are with literals; else as ref.
  abbrev pub IsOffered : Access → Type 0
  IsOffered All = ⊤
  IsOffered (Index key) =
      IsKeyOf asked.tables (asked_table asked) key × (covers key ≡ true)
  IsOffered (Range key list) =
      IsKeyOf asked.tables (asked_table asked) key
      × (list ≡ range_list asked.query.filter asked.position (key_at key).parts)
      × (list.ranges ≢ all_tuples ∷ [])
  IsOffered (Ref key from) = IsSought key from × (finds_one key ≡ false)
  IsOffered (EqRef key from) =
      IsSought key from × (finds_one key ≡ true) × (list_all is_literal from ≡ false)
  IsOffered (Const key from) =
      IsSought key from × (finds_one key ≡ true) × (list_all is_literal from ≡ true)
