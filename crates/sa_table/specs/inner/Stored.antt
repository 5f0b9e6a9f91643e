-- The table that the fields of a stored one stand for.
use Rattle.std.specs.Prelude.{◌≤◌, List, length, All}
use Rattle.sa_table.specs.declared.def.TableDef.{TableDef}
use Rattle.sa_table.specs.declared.index.Index.{Index}
use Rattle.sa_table.specs.declared.store.Store.{Store}
use Rattle.sa_table.specs.declared.stored.StoredTable.TheInside.{Inside}
use Rattle.sa_table.specs.Table.{Table}
use Rattle.sa_table.specs.Sound.{IsSoundTable, IsKey}
use Rattle.sa_table.specs.inner.Store.{rows_in, Fills, HoldKinds}
use Rattle.sa_table.specs.inner.Keys.{AreIndexed}

abbrev pub table_in : Inside → Table
table_in table = record { def = table.def; rows = rows_in table.store }

-- The table is sound, its columns are filled with values of their kinds, and its unique keys are
-- indexed.
pub record Keeps (def : TableDef) (store : Store) (indexes : List Index) : Type 0 where
  pub sound : IsSoundTable (record { def = def; rows = rows_in store })
  pub kinds : HoldKinds def.columns store.columns.items
  pub filled : Fills store
  pub indexed : AreIndexed (rows_in store) def.keys indexes

abbrev pub IsStored : Inside → Type 0
IsStored table = Keeps table.def table.store table.indexes.items

-- A definition keeps its limits.
pub record IsDefinition (def : TableDef) : Type 0 where
  pub few_columns : length def.columns ≤ 32
  pub few_keys : length def.keys ≤ 8
  pub keys : All (IsKey def.columns) def.keys
