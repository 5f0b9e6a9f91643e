-- What a table keeps as its lists get room.
use Rattle.std.proofs.Common.{◌≡◌, ℕ, ◌<◌, List, [], ◌∷◌, ◌++◌, map, length, get_or, take, drop, refl, sym, ap, subst, ◌∙◌, arith}
use Rattle.std.proofs.lemmas.List.{same_lists, length-map, get_or-map, drop_all, take_all, append-nil}
use Rattle.std.specs.List.{range_with_len, slice_index}
use Rattle.sa_value.specs.declared.value.Value.{Value}
use Rattle.sa_table.specs.declared.column.Column.{Column}
use Rattle.sa_table.specs.declared.column.Column.TheVariants.{Numbers, Texts}
use Rattle.sa_table.specs.declared.def.ColumnDef.{ColumnDef}
use Rattle.sa_table.specs.declared.def.ColumnKind.{ColumnKind}
use Rattle.sa_table.specs.declared.def.ColumnKind.TheVariants as kinds
use Rattle.sa_table.specs.declared.def.KeyDef.{KeyDef}
use Rattle.sa_table.specs.declared.def.TableDef.{TableDef}
use Rattle.sa_table.specs.declared.index.Index.{Index}
use Rattle.sa_table.specs.declared.store.Store.{Store}
use Rattle.sa_table.specs.Table.{value_in}
use Rattle.sa_table.specs.Sound.{IsSoundTable}
use Rattle.sa_table.specs.inner.Cells.{cells_of}
use Rattle.sa_table.specs.inner.Column.{values_in, number_value, text_value, SameColumn, HoldsKind}
use Rattle.sa_table.specs.inner.Index.{SameIndex}
use Rattle.sa_table.specs.inner.Keys.{IsAfterLast, IsIndexed, AreIndexed, SameIndexes}
use Rattle.sa_table.specs.inner.Store.{row_in, rows_in, Fills, SameStore, HoldKinds}
use Rattle.sa_table.specs.inner.Stored.{Keeps}

pub written_back : {A : Type 0} (len : ℕ) (old new : List A) → len ≡ length old → length new ≡ length old → take len (new ++ drop (length new) old) ≡ new
written_back len old new is same =
    ap (λ rest. take len (new ++ rest)) (drop_all (length new) old (omega arith)) ∙ ap (take len) (append-nil new) ∙ take_all len new (omega arith)

pub same_values : (old new : Column) → SameColumn old new → values_in new ≡ values_in old
same_values (Numbers old) (Numbers new) same = ap (λ items. map number_value (cells_of new.nulls.items items)) same.items ∙ ap (λ nulls. map number_value (cells_of nulls old.items.items)) same.nulls
same_values (Numbers old) (Texts new) same = absurd same
same_values (Texts old) (Numbers new) same = absurd same
same_values (Texts old) (Texts new) same = ap (λ items. map text_value (cells_of new.nulls.items items)) same.items ∙ ap (λ nulls. map text_value (cells_of nulls old.items.items)) same.nulls

pub same_kind : (kind : ColumnKind) (old new : Column) → SameColumn old new → HoldsKind kind old → HoldsKind kind new
same_kind kinds.Int (Numbers old) (Numbers new) same holds = holds
same_kind kinds.Int (Texts old) (Texts new) same holds = holds
same_kind kinds.BigInt (Numbers old) (Numbers new) same holds = holds
same_kind kinds.BigInt (Texts old) (Texts new) same holds = holds
same_kind (kinds.VarChar characters) (Numbers old) (Numbers new) same holds = holds
same_kind (kinds.VarChar characters) (Texts old) (Texts new) same holds = holds
same_kind kind (Numbers old) (Texts new) same holds = absurd same
same_kind kind (Texts old) (Numbers new) same holds = absurd same

a_column : (columns : List Column) (k : ℕ) → k < length columns → Column
a_column [] k h = absurd (omega arith)
a_column (column ∷ columns) k h = column

same_row : (old new : Store) → SameStore old new → (row : ℕ) → row_in new.columns.items row ≡ row_in old.columns.items row
same_row old new same row =
    same_lists (row_in new.columns.items row) (row_in old.columns.items row)
    (length-map new.columns.items (λ (at : Column). value_in (values_in at) row) ∙ wide ∙ sym (length-map old.columns.items (λ (at : Column). value_in (values_in at) row)))
    (λ k d h.
    let there : k < length old.columns.items = omega (arith, length-map new.columns.items (λ (at : Column). value_in (values_in at) row), wide) in
    let column : Column = a_column old.columns.items k there in
    get_or-map (λ (at : Column). value_in (values_in at) row) new.columns.items k column d (omega (arith, wide))
    ∙ ap (λ values. value_in values row) (same_values (get_or old.columns.items k column) (get_or new.columns.items k column) (same.each k column (omega arith)))
    ∙ sym (get_or-map (λ (at : Column). value_in (values_in at) row) old.columns.items k column d there))
  where
    wide : length new.columns.items ≡ length old.columns.items
    wide = omega (arith, same.wide)

pub same_rows : (old new : Store) → SameStore old new → rows_in new ≡ rows_in old
same_rows old new same =
    ap (λ (at : ℕ → List Value). map at (range_with_len 0 new.count)) (λ i row. same_row old new same row i)
    ∙ ap (λ count. map (row_in old.columns.items) (range_with_len 0 count)) same.count

pub same_filled : (old new : Store) → SameStore old new → Fills old → Fills new
same_filled old new same filled k column there =
    ap length (same_values (get_or old.columns.items k column) (get_or new.columns.items k column) (same.each k column (omega (arith, same.wide))))
    ∙ filled k column (omega (arith, same.wide)) ∙ sym same.count

pub same_kinds : (defs : List ColumnDef) (old new : Store) → SameStore old new → HoldKinds defs old.columns.items → HoldKinds defs new.columns.items
same_kinds defs old new same holds = record {
  wide = omega (arith, same.wide, holds.wide);
  each = λ k def column there. same_kind (get_or defs k def).kind (get_or old.columns.items k column) (get_or new.columns.items k column) (same.each k column (omega (arith, holds.wide))) (holds.each k def column there);
}

same_indexed : (rows : List (List Value)) (key : KeyDef) (old new : Index) → SameIndex old new → IsIndexed rows key old → IsIndexed rows key new
same_indexed rows key old new same indexed = record {
  before_all = omega (arith, ap length same.before, indexed.before_all);
  last = λ digest. subst (λ given. IsAfterLast key.parts rows digest (length rows) given) (sym (same.bounds digest)) (indexed.last digest);
  before = λ row digest there is. subst (λ (items : List ℕ). IsAfterLast key.parts rows digest row (slice_index items row)) (sym same.before) (indexed.before row digest there is);
}

pub all_same_indexed : (rows : List (List Value)) (keys : List KeyDef) (old new : List Index) → SameIndexes old new → AreIndexed rows keys old → AreIndexed rows keys new
all_same_indexed rows keys old new same indexed = record {
  each_one = same.each_one ∙ indexed.each_one;
  each = λ k key index there unique. same_indexed rows (get_or keys k key) (get_or old k index) (get_or new k index) (same.each k index (omega (arith, indexed.each_one))) (indexed.each k key index there unique);
}

pub same_itself : (indexes : List Index) → SameIndexes indexes indexes
same_itself indexes = record { each_one = refl; each = λ k index there. record { bounds = λ digest. refl; before = refl } }

pub same_keeps : (def : TableDef) (old new : Store) (indexes others : List Index) → SameStore old new → SameIndexes indexes others → Keeps def old indexes → Keeps def new others
same_keeps def old new indexes others store index keeps = record {
  sound = subst (λ rows. IsSoundTable record { def = def; rows = rows }) (sym (same_rows old new store)) keeps.sound;
  kinds = same_kinds def.columns old new store keeps.kinds;
  filled = same_filled old new store keeps.filled;
  indexed = all_same_indexed (rows_in new) def.keys indexes others index (subst (λ rows. AreIndexed rows def.keys indexes) (sym (same_rows old new store)) keeps.indexed);
}
