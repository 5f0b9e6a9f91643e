-- What a row without a fault is, and what is kept of it.
use Rattle.std.proofs.Common.{◌≡◌, ℕ, ◌<◌, ℤ, List, [], ◌∷◌, map, length, get_or, Bool, true, false, ◌&&◌, not, refl, sym, ap, subst, ◌∙◌, arith}
use Rattle.std.proofs.lemmas.Int.{ints}
use Rattle.std.proofs.lemmas.List.{same_lists, length-map, get_or-map}
use Rattle.std.proofs.lemmas.List.Elements.{All-from_get_or}
use Rattle.std.proofs.lemmas.Slice.Zip.{length-zip, get_or-zip}
use Rattle.std.specs.Int.{w64}
use Rattle.std.specs.Prelude.{FitsSigned, All, int_le}
use Rattle.std.specs.List.{zip}
use Rattle.sa_value.specs.declared.value.Value.{Value}
use Rattle.sa_value.specs.declared.value.Value.TheVariants.{Null, Int, Big, Text}
use Rattle.sa_table.specs.declared.def.ColumnDef.{ColumnDef}
use Rattle.sa_table.specs.declared.def.ColumnKind.{ColumnKind}
use Rattle.sa_table.specs.declared.def.ColumnKind.TheVariants as kinds
use Rattle.sa_table.specs.declared.def.TableDef.{TableDef}
use Rattle.sa_table.specs.declared.column.Column.{Column}
use Rattle.sa_table.specs.declared.column.Column.TheVariants.{Numbers, Texts}
use Rattle.sa_table.specs.Create.{told}
use Rattle.sa_table.specs.AddRow.{least_number, greatest_number, number_faults, value_faults, column_faults, kept_value}
use Rattle.sa_table.specs.Sound.{IsKept, FitsColumn, IsRow, column_at, no_column}
use Rattle.sa_table.specs.inner.Column.{IsRanged, HoldsKind, held_in}
use Rattle.sa_table.specs.inner.Store.{held_row, HoldKinds}
use Rattle.sa_table.proofs.ColumnFaultLemmas.{faults_at, numbered_values, numbered_length, numbered_at}
use Rattle.sa_table.proofs.FirstLemmas.{all_empty}

-- each value of a row without a fault is without a fault
pub value_faultless : (columns : List ColumnDef) (row : List Value) → length row ≡ length columns → column_faults columns row ≡ [] → (i : ℕ) (def : ColumnDef) (value : Value) → i < length columns → value_faults i (get_or columns i def) (get_or row i value) ≡ []
value_faultless columns row wide none i def value there =
    sym (ap faults_at (numbered_at columns row i def value wide there))
    ∙ all_empty faults_at (numbered_values columns row) none i (0, (def, value)) (omega (arith, numbered_length columns row wide))

pub told_false : {A : Type 0} (stands : Bool) (fault : A) → told stands fault ≡ [] → stands ≡ false
told_false true fault e = cc
told_false false fault e = refl

pub not_false : (b : Bool) → not b ≡ false → b ≡ true
not_false true e = refl
not_false false e = cc

both : (a b : Bool) → (a && b) ≡ true → (a ≡ true) × (b ≡ true)
both true b e = (refl, e)
both false b e = cc

int_fits : (number : ℤ) → (int_le (least_number kinds.Int) number && int_le number (greatest_number kinds.Int)) ≡ true → FitsSigned w64 number
int_fits number e =
    let ends : (int_le (least_number kinds.Int) number ≡ true) × (int_le number (greatest_number kinds.Int) ≡ true) = both _ _ e in
    grind (arith, ints)

big_fits : (number : ℤ) → (int_le (least_number kinds.BigInt) number && int_le number (greatest_number kinds.BigInt)) ≡ true → FitsSigned w64 number
big_fits number e =
    let ends : (int_le (least_number kinds.BigInt) number ≡ true) × (int_le number (greatest_number kinds.BigInt) ≡ true) = both _ _ e in
    grind (arith, ints)

ranged_number : (column : ℕ) (kind : ColumnKind) (number : ℤ) → number_faults column kind number ≡ [] → FitsSigned w64 number
ranged_number column kinds.Int number e = int_fits number (not_false _ (told_false _ _ e))
ranged_number column kinds.BigInt number e = big_fits number (not_false _ (told_false _ _ e))
ranged_number column (kinds.VarChar characters) number e = cc

ranged_value : (column : ℕ) (def : ColumnDef) (value : Value) → value_faults column def value ≡ [] → IsRanged value
ranged_value column def Null e = tt
ranged_value column def (Int number) e = tt
ranged_value column def (Big number) e = ranged_number column def.kind number e
ranged_value column def (Text text) e = tt

pub ranged_row : (columns : List ColumnDef) (row : List Value) → length row ≡ length columns → column_faults columns row ≡ [] → All IsRanged row
ranged_row columns row wide none =
    All-from_get_or IsRanged row Null (λ i there. ranged_value i (get_or columns i no_column) (get_or row i Null) (value_faultless columns row wide none i no_column Null (omega arith)))

-- what a column of its kind holds of a value without a fault is what is kept of it
held_number : (column : ℕ) (kind : ColumnKind) (number : ℤ) (at : Column) → number_faults column kind number ≡ [] → HoldsKind kind at → held_in at (Int number) ≡ Int number
held_number column kinds.Int number (Numbers cells) e holds = refl
held_number column kinds.Int number (Texts cells) e holds = absurd holds
held_number column kinds.BigInt number (Numbers cells) e holds = refl
held_number column kinds.BigInt number (Texts cells) e holds = absurd holds
held_number column (kinds.VarChar characters) number at e holds = cc

held_big : (column : ℕ) (kind : ColumnKind) (number : ℤ) (at : Column) → number_faults column kind number ≡ [] → HoldsKind kind at → held_in at (Big number) ≡ Int number
held_big column kinds.Int number (Numbers cells) e holds = refl
held_big column kinds.Int number (Texts cells) e holds = absurd holds
held_big column kinds.BigInt number (Numbers cells) e holds = refl
held_big column kinds.BigInt number (Texts cells) e holds = absurd holds
held_big column (kinds.VarChar characters) number at e holds = cc

held_text : (column : ℕ) (def : ColumnDef) (kind : ColumnKind) (text : List ℕ) (at : Column) → def.kind ≡ kind → value_faults column def (Text text) ≡ [] → HoldsKind kind at → held_in at (Text text) ≡ Text text
held_text column def kinds.Int text at is e holds = let faulty : value_faults column (record def { kind = kinds.Int }) (Text text) ≡ [] = subst (λ kind. value_faults column (record def { kind = kind }) (Text text) ≡ []) is e in cc
held_text column def kinds.BigInt text at is e holds = let faulty : value_faults column (record def { kind = kinds.BigInt }) (Text text) ≡ [] = subst (λ kind. value_faults column (record def { kind = kind }) (Text text) ≡ []) is e in cc
held_text column def (kinds.VarChar characters) text (Numbers cells) is e holds = absurd holds
held_text column def (kinds.VarChar characters) text (Texts cells) is e holds = refl

held_null : (at : Column) → held_in at Null ≡ Null
held_null (Numbers cells) = refl
held_null (Texts cells) = refl

pub held_value : (column : ℕ) (def : ColumnDef) (value : Value) (at : Column) → value_faults column def value ≡ [] → HoldsKind def.kind at → held_in at value ≡ kept_value value
held_value column def Null at e holds = held_null at
held_value column def (Int number) at e holds = held_number column def.kind number at e holds
held_value column def (Big number) at e holds = held_big column def.kind number at e holds
held_value column def (Text text) at e holds = held_text column def def.kind text at refl e holds

abbrev held : Column × Value → Value
held pair = held_in pair.0 pair.1

a_column : (columns : List Column) (k : ℕ) → k < length columns → Column
a_column [] k h = absurd (omega arith)
a_column (column ∷ columns) k h = column

pub held_is_kept : (defs : List ColumnDef) (columns : List Column) (row : List Value) → HoldKinds defs columns → length row ≡ length defs → column_faults defs row ≡ [] → held_row columns row ≡ map kept_value row
held_is_kept defs columns row holds wide none =
    same_lists (held_row columns row) (map kept_value row)
    (omega (arith, length-map (zip columns row) held, length-zip columns row, length-map row kept_value, holds.wide))
    (λ k d h.
    let there : k < length row = omega (arith, length-map (zip columns row) held, length-zip columns row, holds.wide) in
    let column : Column = a_column columns k (omega (arith, holds.wide)) in
    get_or-map held (zip columns row) k (column, Null) d (omega (arith, length-zip columns row, holds.wide))
    ∙ ap held (get_or-zip columns row k (column, Null) (omega (arith, holds.wide)) there)
    ∙ held_value k (get_or defs k no_column) (get_or row k Null) (get_or columns k column) (value_faultless defs row wide none k no_column Null (omega arith)) (holds.each k no_column column (omega arith))
    ∙ sym (get_or-map kept_value row k Null d there))

faults-kept : (column : ℕ) (def : ColumnDef) (value : Value) → value_faults column def (kept_value value) ≡ value_faults column def value
faults-kept column def Null = refl
faults-kept column def (Int number) = refl
faults-kept column def (Big number) = refl
faults-kept column def (Text text) = refl

is_kept : (value : Value) → IsKept (kept_value value)
is_kept Null = tt
is_kept (Int number) = tt
is_kept (Big number) = tt
is_kept (Text text) = tt

pub kept_fits : (def : TableDef) (row : List Value) → length row ≡ length def.columns → column_faults def.columns row ≡ [] → IsRow def (map kept_value row)
kept_fits def row wide none = record {
  wide = length-map row kept_value ∙ wide;
  fits = λ column there. subst (FitsColumn column (column_at def column)) (sym (get_or-map kept_value row column Null Null (omega arith))) record {
    faultless = faults-kept column (column_at def column) (get_or row column Null) ∙ value_faultless def.columns row wide none column no_column Null there;
    kept = is_kept (get_or row column Null);
  };
}
