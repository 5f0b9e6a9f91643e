-- The cells of a chosen row are there and meet the kinds of their columns, so that a lawful tree can be evaluated on it.
use Rattle.std.proofs.Common.{◌≡◌, ℕ, ℤ, ◌<◌, ◌≤ℤ◌, ◌==◌, Bool, true, false, not, ◌&&◌, int_le, List, [], ◌∷◌, length, All, slice_index_or, refl, sym, subst, ◌∙◌, arith, zero, suc}
use Rattle.std.specs.Bool.{⊤}
use Rattle.std.proofs.lemmas.Bool.Decides.{Decides-eqb}
use lib.Signed.{le_z_yes}
use lib.Dec.{T}
use Rattle.std.proofs.lemmas.List.Elements.{All-get_or, All-weaker}
use Rattle.sa_value.specs.declared.value.Value.{Value}
use Rattle.sa_value.specs.declared.value.Value.TheVariants.{Null, Int, Big, Text}
use Rattle.sa_cond.specs.declared.cond.Cond.{Cond}
use Rattle.sa_cond.specs.declared.expr.Expr.{Expr}
use Rattle.sa_cond.specs.Cited.{Name, column as named_column, slot as named_slot, IsThere, MeetsName, CanTest, CanEvaluate, cond_names, expr_names}
use Rattle.sa_cond.specs.Typed.{MeetsKind}
use Rattle.sa_query.specs.Kinds.{cells_of}
use Rattle.sa_table.specs.declared.def.ColumnDef.{ColumnDef}
use Rattle.sa_table.specs.declared.def.ColumnKind.{ColumnKind}
use Rattle.sa_table.specs.declared.def.ColumnKind.TheVariants as kinds
use Rattle.sa_table.specs.declared.fault.RowFault.{RowFault}
use Rattle.sa_table.specs.declared.fault.RowFault.TheVariants.{OutOfRange}
use Rattle.sa_table.specs.AddRow.{number_faults, text_faults, value_faults}
use Rattle.sa_table.specs.Create.{told}
use Rattle.sa_table.specs.Sound.{IsKept, IsRow, IsSoundTable, AreSound, column_at}
use Rattle.sa_table.specs.Table.{Table, table_at, no_table, row_at, row_count, column_count, value_in}
use Rattle.sa_plan.specs.declared.plan.Level.{Level}
use Rattle.sa_plan.specs.Chosen.{Chosen, choice_of}
use Rattle.sa_plan.specs.Lawful.{kinds_of, IsInSight, IsLawfulExpr, IsLawfulCond}
use Rattle.sa_meaning.specs.Items.{with_row}
use Rattle.sa_exec.specs.inner.Chosen.{IsCell}

-- A fault that isn't told doesn't stand.
not_told : (faulty : Bool) (fault : RowFault) → told faulty fault ≡ [] → faulty ≡ false
not_told true fault none = cc
not_told false fault none = refl

both_true : (x y : Bool) → not (x && y) ≡ false → (x ≡ true) × (y ≡ true)
both_true true true is = (refl, refl)
both_true true false is = cc
both_true false true is = cc
both_true false false is = cc

-- The only element of a list stands at its only place.
only_first : {A : Type 0} (x : A) (place : ℕ) (y : A) → place < length (x ∷ []) → slice_index_or (x ∷ []) place y ≡ x
only_first x zero y within = refl
only_first x (suc place) y within = absurd (omega arith)

in_order : (a b : ℤ) → int_le a b ≡ true → a ≤ℤ b
in_order a b is = le_z_yes (subst T (sym is) tt)

between : (least number greatest : ℤ) → not (int_le least number && int_le number greatest) ≡ false → (least ≤ℤ number) × (number ≤ℤ greatest)
between least number greatest is =
    let both = both_true (int_le least number) (int_le number greatest) is in
    (in_order least number both.0, in_order number greatest both.1)

-- A number without faults is one of its column.
number_meets : (column : ℕ) (kind : ColumnKind) (number : ℤ) → number_faults column kind number ≡ [] → MeetsKind (cells_of kind) (Int number)
number_meets column kinds.Int number none = between _ number _ (not_told _ (OutOfRange column) none)
number_meets column kinds.BigInt number none = between _ number _ (not_told _ (OutOfRange column) none)
number_meets column (kinds.VarChar characters) number none = cc

-- A text without faults stands in a column of texts.
text_meets : (column : ℕ) (kind : ColumnKind) (text : List ℕ) → text_faults column kind text ≡ [] → MeetsKind (cells_of kind) (Text text)
text_meets column kinds.Int text none = cc
text_meets column kinds.BigInt text none = cc
text_meets column (kinds.VarChar characters) text none = tt

-- NULL meets each kind.
null_meets : (kind : ColumnKind) → MeetsKind (cells_of kind) Null
null_meets kinds.Int = tt
null_meets kinds.BigInt = tt
null_meets (kinds.VarChar characters) = tt

-- A value that stands rightly in its column meets the column's kind.
value_meets : (column : ℕ) (def : ColumnDef) (value : Value) → value_faults column def value ≡ [] → IsKept value → MeetsKind (cells_of def.kind) value
value_meets column def Null none kept = null_meets def.kind
value_meets column def (Int number) none kept = number_meets column def.kind number none
value_meets column def (Big number) none kept = absurd kept
value_meets column def (Text text) none kept = text_meets column def.kind text none

-- So does each cell of sound tables.
cell_meets : (tables : List Table) (table row number : ℕ) → AreSound tables → table < length tables → row < row_count tables table → number < column_count tables table
    → MeetsKind (cells_of (column_at (table_at tables table).def number).kind) (value_in (row_at tables table row) number)
cell_meets tables table row number sound table_there row_there column_there =
    let stored = All-get_or IsSoundTable tables table no_table table_there sound.each in
    let its_row = All-get_or (IsRow (table_at tables table).def) (table_at tables table).rows row [] row_there stored.rows in
    let fits = its_row.fits number column_there in
    value_meets number (column_at (table_at tables table).def number) (value_in (row_at tables table row) number) fits.faultless fits.kept

-- the one that is chosen of the only level
abbrev pub chosen_of : Level → ℕ → List Chosen
chosen_of level row = with_row level [] row

-- A column in sight is one of the only level's table.
in_sight : (tables : List Table) (level : Level) (position number : ℕ) → IsInSight tables (level ∷ []) (named_column position number)
    → (level.position ≡ position) × (number < column_count tables level.table)
in_sight tables level position number sight =
    subst (λ (one : Level). (one.position ≡ position) × (number < column_count tables one.table))
    (sym sight.3 ∙ only_first level sight.0 sight.1 sight.2)
    sight.4

pub name_is_there : (tables : List Table) (level : Level) (row : ℕ) (name : Name) → level.table < length tables → row < row_count tables level.table
    → IsInSight tables (level ∷ []) name → IsThere (IsCell tables level.position level.table row) (λ number. ⊤) name
name_is_there tables level row (named_column position number) table_there row_there sight =
    let seen = in_sight tables level position number sight in
    record { table_there = table_there; row_there = row_there; position_is = sym seen.0; column_there = seen.1 }
name_is_there tables level row (named_slot number) table_there row_there sight = absurd sight

pub name_meets : (tables : List Table) (level : Level) (row : ℕ) (name : Name) → AreSound tables → level.table < length tables → row < row_count tables level.table
    → IsInSight tables (level ∷ []) name → MeetsName (kinds_of tables (level ∷ [])) (choice_of tables (chosen_of level row)) name
name_meets tables level row (named_column position number) sound table_there row_there sight =
    let seen = in_sight tables level position number sight in
    let same : (level.position == position) ≡ true = (Decides-eqb level.position position).1 seen.0 in
    rw same (cell_meets tables level.table row number sound table_there row_there seen.1)
name_meets tables level row (named_slot number) sound table_there row_there sight = absurd sight

-- A lawful condition can be tested on a row that is there.
pub cond_is_there : (tables : List Table) (level : Level) (row : ℕ) (cond : Cond) → level.table < length tables → row < row_count tables level.table
    → IsLawfulCond tables (level ∷ []) cond → All (IsThere (IsCell tables level.position level.table row) (λ number. ⊤)) (cond_names cond)
cond_is_there tables level row cond table_there row_there lawful =
    All-weaker (IsInSight tables (level ∷ [])) (IsThere (IsCell tables level.position level.table row) (λ number. ⊤))
    (λ name sight. name_is_there tables level row name table_there row_there sight) (cond_names cond) lawful.names

pub cond_can_be_tested : (tables : List Table) (level : Level) (row : ℕ) (cond : Cond) → AreSound tables → level.table < length tables → row < row_count tables level.table
    → IsLawfulCond tables (level ∷ []) cond → CanTest (choice_of tables (chosen_of level row)) cond
cond_can_be_tested tables level row cond sound table_there row_there lawful = record {
  kinds = kinds_of tables (level ∷ []);
  met = All-weaker (IsInSight tables (level ∷ [])) (MeetsName (kinds_of tables (level ∷ [])) (choice_of tables (chosen_of level row)))
      (λ name sight. name_meets tables level row name sound table_there row_there sight) (cond_names cond) lawful.names;
  typed = lawful.typed;
}

-- A lawful expression can be evaluated on it.
pub expr_is_there : (tables : List Table) (level : Level) (row : ℕ) (expr : Expr) → level.table < length tables → row < row_count tables level.table
    → IsLawfulExpr tables (level ∷ []) expr → All (IsThere (IsCell tables level.position level.table row) (λ number. ⊤)) (expr_names expr)
expr_is_there tables level row expr table_there row_there lawful =
    All-weaker (IsInSight tables (level ∷ [])) (IsThere (IsCell tables level.position level.table row) (λ number. ⊤))
    (λ name sight. name_is_there tables level row name table_there row_there sight) (expr_names expr) lawful.names

pub expr_can_be_evaluated : (tables : List Table) (level : Level) (row : ℕ) (expr : Expr) → AreSound tables → level.table < length tables → row < row_count tables level.table
    → IsLawfulExpr tables (level ∷ []) expr → CanEvaluate (choice_of tables (chosen_of level row)) expr
expr_can_be_evaluated tables level row expr sound table_there row_there lawful = record {
  kinds = kinds_of tables (level ∷ []);
  met = All-weaker (IsInSight tables (level ∷ [])) (MeetsName (kinds_of tables (level ∷ [])) (choice_of tables (chosen_of level row)))
      (λ name sight. name_meets tables level row name sound table_there row_there sight) (expr_names expr) lawful.names;
  typed = lawful.typed;
}
