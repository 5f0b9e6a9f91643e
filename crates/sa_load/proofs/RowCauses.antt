-- The causes of a record against the faults of its row.
use Rattle.std.proofs.Common.{◌≡◌, ◌≢◌, ◌+◌, ℕ, suc, List, [], ◌∷◌, ◌++◌, length, map, Bool, true, false, not, ◌==◌, if◌then◌else◌, refl, sym, ap, ◌∙◌, arith}
use Rattle.std.proofs.lemmas.Bool.{eqb-true}
use Rattle.std.specs.Prelude.{nat_le}
use Rattle.std.specs.List.{flat_map, enumerate_from, zip}
use Rattle.std.specs.Str.{is_utf8}
use Rattle.sa_value.specs.declared.value.Value.{Value}
use Rattle.sa_value.specs.declared.value.Value.TheVariants as values
use Rattle.sa_table.specs.declared.def.ColumnDef.{ColumnDef}
use Rattle.sa_table.specs.declared.def.ColumnKind.{ColumnKind}
use Rattle.sa_table.specs.declared.def.ColumnKind.TheVariants as kinds
use Rattle.sa_table.specs.declared.fault.RowFault.{RowFault}
use Rattle.sa_table.specs.declared.fault.RowFault.TheVariants as row
use Rattle.sa_table.specs.Table.{Table}
use Rattle.sa_table.specs.Create.{told, first_or}
use Rattle.sa_table.specs.AddRow.{column_faults, key_faults, kept_value, row_faults, value_faults, with_row}
use Rattle.sa_load.specs.declared.fault.LoadCause.{LoadCause}
use Rattle.sa_load.specs.declared.fault.LoadCause.TheVariants as causes
use Rattle.sa_load.specs.Csv.{Fields}
use Rattle.sa_load.specs.Field.{cause_of, field_causes, field_value, is_null, is_readable, written_value}
use Rattle.sa_load.specs.Record.{record_causes, row_of}
use Rattle.sa_load.specs.Load.{with_records}
use Rattle.sa_load.specs.inner.Refusal.{TellsFirst, refusal_of}
use Rattle.sa_load.specs.inner.RowParts.{row_causes}
use Rattle.sa_load.proofs.RecordCauses.{causes_from}

-- nothing comes of two lists only where neither has anything
pub append_none : {A : Type 0} (xs ys : List A) → xs ++ ys ≡ [] → (xs ≡ []) × (ys ≡ [])
append_none [] ys e = (refl, e)
append_none (x ∷ xs) ys e = cc e

-- a fault that is a cause, where no cause is told
none_told : (stands : Bool) (fault : RowFault) → cause_of fault ≢ [] → flat_map cause_of (told stands fault) ≡ [] → told stands fault ≡ []
none_told true fault cause e = absurd (cause (append_none _ _ e).0)
none_told false fault cause e = refl

one_told : (fault : RowFault) → cause_of fault ≢ [] → flat_map cause_of (fault ∷ []) ≡ [] → ◌≡◌ {A = List RowFault} (fault ∷ []) []
one_told fault cause e = absurd (cause (append_none _ _ e).0)

-- a value without a cause has no fault
value_faults-none : (column : ℕ) (def : ColumnDef) (kind : ColumnKind) (value : Value) → def.kind ≡ kind
    → flat_map cause_of (value_faults column def value) ≡ [] → value_faults column def value ≡ []
value_faults-none column def kind values.Null k e = none_told _ (row.NullNotAllowed column) (λ f. cc f) e
value_faults-none column def kinds.Int (values.Int number) k e = rw k (none_told _ (row.OutOfRange column) (λ f. cc f) (rw k at e))
value_faults-none column def kinds.BigInt (values.Int number) k e = rw k (none_told _ (row.OutOfRange column) (λ f. cc f) (rw k at e))
value_faults-none column def (kinds.VarChar most) (values.Int number) k e = rw k (one_told (row.TypeMismatch column) (λ f. cc f) (rw k at e))
value_faults-none column def kinds.Int (values.Big number) k e = rw k (none_told _ (row.OutOfRange column) (λ f. cc f) (rw k at e))
value_faults-none column def kinds.BigInt (values.Big number) k e = rw k (none_told _ (row.OutOfRange column) (λ f. cc f) (rw k at e))
value_faults-none column def (kinds.VarChar most) (values.Big number) k e = rw k (one_told (row.TypeMismatch column) (λ f. cc f) (rw k at e))
value_faults-none column def kinds.Int (values.Text text) k e = rw k (one_told (row.TypeMismatch column) (λ f. cc f) (rw k at e))
value_faults-none column def kinds.BigInt (values.Text text) k e = rw k (one_told (row.TypeMismatch column) (λ f. cc f) (rw k at e))
value_faults-none column def (kinds.VarChar most) (values.Text text) k e = rw k (none_told _ (row.TooLong column) (λ f. cc f) (rw k at e))

read_or_not : (readable : Bool) (own : List LoadCause) → (if readable then own else causes.NotNumber ∷ []) ≡ [] → own ≡ []
read_or_not true own e = e
read_or_not false own e = cc e

field_faults-none : (column : ℕ) (def : ColumnDef) (field : List ℕ) → field_causes column def field ≡ []
    → value_faults column def (field_value def.kind field) ≡ []
field_faults-none column def field e =
    value_faults-none column def def.kind (field_value def.kind field) refl (read_or_not (is_readable def.kind field) _ (append_none (told (not (is_utf8 field)) causes.NotUtf8) _ e).1)

-- fields without a cause have values without a fault
column_faults-none : (column : ℕ) (columns : List ColumnDef) (fields : Fields) → causes_from column columns fields ≡ []
    → flat_map (λ numbered. value_faults numbered.0 numbered.1.0 numbered.1.1) (enumerate_from column (zip columns (row_of columns fields))) ≡ []
column_faults-none column [] fields e = refl
column_faults-none column (def ∷ columns) [] e = refl
column_faults-none column (def ∷ columns) (field ∷ fields) e =
    let parts = append_none (field_causes column def field) _ e in
    rw (field_faults-none column def field parts.0) (column_faults-none (column + 1) columns fields parts.1)

-- a record's row has as many values as the record has fields, where there is a column for each
length-row_of : (columns : List ColumnDef) (fields : Fields) → length fields ≡ length columns → length (row_of columns fields) ≡ length fields
length-row_of [] [] e = refl
length-row_of [] (field ∷ fields) e = absurd (omega (arith, e))
length-row_of (def ∷ columns) [] e = refl
length-row_of (def ∷ columns) (field ∷ fields) e =
    let less : length fields ≡ length columns = omega (arith, e) in
    ap suc (length-row_of columns fields less)

-- what a field stands for is kept as it is
kept-field_value : (kind : ColumnKind) (field : List ℕ) → kept_value (field_value kind field) ≡ field_value kind field
kept-field_value kind field = by (is_null field) kind
  where
    by : (null : Bool) (kind : ColumnKind) → kept_value (if null then values.Null else written_value kind field) ≡ (if null then values.Null else written_value kind field)
    by true kind = refl
    by false kinds.Int = refl
    by false kinds.BigInt = refl
    by false (kinds.VarChar most) = refl

kept-row_of : (columns : List ColumnDef) (fields : Fields) → map kept_value (row_of columns fields) ≡ row_of columns fields
kept-row_of [] fields = refl
kept-row_of (def ∷ columns) [] = refl
kept-row_of (def ∷ columns) (field ∷ fields) = rw (kept-field_value def.kind field, kept-row_of columns fields) refl

pub with_row-record : (table : Table) (fields : Fields) → with_row table (row_of table.def.columns fields) ≡ with_records table (fields ∷ [])
with_row-record table fields = rw (kept-row_of table.def.columns fields) refl

-- a test that isn't told
pub untold : {A : Type 0} (stands : Bool) (fault : A) → told stands fault ≡ [] → stands ≡ false
untold true fault e = cc e
untold false fault e = refl

not_not : (b : Bool) → not b ≡ false → b ≡ true
not_not true e = refl
not_not false e = cc e

as_many : (m n : ℕ) → not (m == n) ≡ false → m ≡ n
as_many m n e = eqb-true m n (not_not (m == n) e)

-- the faults of a row are those of keys, where the record has no cause before them
row_faults-keys : (table : Table) (fields : Fields) → row_causes table fields ≡ []
    → row_faults table (row_of table.def.columns fields) ≡ key_faults table.def.keys table.rows (row_of table.def.columns fields)
row_faults-keys table fields e =
    let columns = table.def.columns in
    let first = append_none (told (nat_le 1000000 (length table.rows)) causes.RowFull ++ told (not (length fields == length columns)) causes.Arity) _ e in
    let second = append_none (told (nat_le 1000000 (length table.rows)) causes.RowFull) _ first.0 in
    let full = untold _ causes.RowFull second.0 in
    let wide = untold _ causes.Arity second.1 in
    let same = as_many (length fields) (length columns) wide in
    let none : column_faults columns (row_of columns fields) ≡ [] = column_faults-none 0 columns fields first.1 in
    rw (full, none, length-row_of columns fields same, wide) refl

told_first : (fault : RowFault) (faults : List RowFault) → TellsFirst (flat_map cause_of (fault ∷ faults)) (refusal_of fault)
told_first row.RowFull faults = refl
told_first row.Arity faults = refl
told_first (row.NullNotAllowed column) faults = refl
told_first (row.TypeMismatch column) faults = refl
told_first (row.OutOfRange column) faults = refl
told_first (row.TooLong column) faults = refl
told_first (row.DuplicateKey number) faults = refl
told_first row.OutOfMemory faults = tt

tells_first : (faults : List RowFault) (fault : RowFault) → fault ≡ first_or row.OutOfMemory faults
    → TellsFirst (flat_map cause_of faults) (refusal_of fault)
tells_first [] fault e = rw e tt
tells_first (first ∷ faults) fault e = rw e (told_first first faults)

-- what `add_row` refuses a record's row with tells the record's first cause
pub tells_key : (table : Table) (fields : Fields) (fault : RowFault) → row_causes table fields ≡ []
    → fault ≡ first_or row.OutOfMemory (row_faults table (row_of table.def.columns fields)) → TellsFirst (record_causes table fields) (refusal_of fault)
tells_key table fields fault none e =
    rw (none) (tells_first (key_faults table.def.keys table.rows (row_of table.def.columns fields)) fault (e ∙ ap (first_or row.OutOfMemory) (row_faults-keys table fields none)))

-- a record whose row has no fault has no cause
pub record_causes-none : (table : Table) (fields : Fields) → row_causes table fields ≡ []
    → row_faults table (row_of table.def.columns fields) ≡ [] → record_causes table fields ≡ []
record_causes-none table fields none e =
    rw (none, sym (row_faults-keys table fields none) ∙ e) refl
