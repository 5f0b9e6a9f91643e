-- The fields of a record, column by column.
use Rattle.std.proofs.Common.{◌≡◌, ◌<◌, ◌≤◌, ◌+◌, ℕ, zero, suc, List, [], ◌∷◌, ◌++◌, length, drop, get_or, refl, sym, ap, ◌∙◌, arith, Some, None, Option, append_assoc, drop-cons, add-one, Bor}
use Rattle.std.proofs.lemmas.List.{append-nil, drop_all}
use Rattle.std.proofs.lemmas.Option.{slice_get-get_or, get_or_from_slice_get, none-some}
use Rattle.std.specs.Prelude.{slice_get, option_map, IsSome}
use Rattle.std.specs.List.{flat_map, enumerate_from, zip}
use Rattle.csv.specs.Records.{field_at}
use Rattle.sa_value.specs.declared.value.Value.{Value}
use Rattle.sa_table.specs.declared.def.ColumnDef.{ColumnDef}
use Rattle.sa_load.specs.declared.fault.LoadCause.{LoadCause}
use Rattle.sa_load.specs.declared.refusal.Refusal.{Refusal}
use Rattle.sa_load.specs.declared.refusal.Refusal.TheVariants.{Cause, OutOfMemory}
use Rattle.sa_load.specs.inner.Refusal.{TellsFirst}
use Rattle.sa_load.specs.Csv.{Fields}
use Rattle.sa_load.specs.Field.{field_causes, field_value}
use Rattle.sa_load.specs.Record.{column_causes, row_of}

pub slice_get-field_at : (fields : Fields) (index : ℕ) → field_at fields index ≡ slice_get fields index
unfolding field_at
slice_get-field_at [] index = refl
slice_get-field_at (field ∷ fields) zero = refl
slice_get-field_at (field ∷ fields) (suc index) = slice_get-field_at fields index

-- the causes of the fields from a column on
abbrev pub causes_from : ℕ → List ColumnDef → Fields → List LoadCause
causes_from column columns fields =
    flat_map (λ numbered. field_causes numbered.0 numbered.1.0 numbered.1.1) (enumerate_from column (zip columns fields))

-- The fields before a column have no cause, and these are their values.
pub record IsReadUpTo (column : ℕ) (columns : List ColumnDef) (fields : Fields) (values : List Value) : Type 0 where
  pub faultless : column_causes columns fields ≡ causes_from column (drop column columns) (drop column fields)
  pub values_are : row_of columns fields ≡ values ++ row_of (drop column columns) (drop column fields)

-- the next column and its field
pub record IsNext (column : ℕ) (columns : List ColumnDef) (fields : Fields) (def : ColumnDef) (field : List ℕ) : Type 0 where
  pub column_is : drop column columns ≡ def ∷ drop (column + 1) columns
  pub field_is : drop column fields ≡ field ∷ drop (column + 1) fields

pub read_none : (columns : List ColumnDef) (fields : Fields) → IsReadUpTo 0 columns fields []
read_none columns fields = record { faultless = refl; values_are = refl }

pub first-append : (xs ys : List LoadCause) (cause : LoadCause) → slice_get xs 0 ≡ Some cause → slice_get (xs ++ ys) 0 ≡ Some cause
first-append [] ys cause e = cc e
first-append (x ∷ xs) ys cause e = e

pub read_refused : (column : ℕ) (columns : List ColumnDef) (fields : Fields) (values : List Value) (def : ColumnDef) (field : List ℕ) (cause : LoadCause)
    → IsReadUpTo column columns fields values → IsNext column columns fields def field
    → slice_get (field_causes column def field) 0 ≡ Some cause → slice_get (column_causes columns fields) 0 ≡ Some cause
read_refused column columns fields values def field cause read next e =
    rw (read.faultless, next.column_is, next.field_is) (first-append (field_causes column def field) _ cause e)

pub read_more : (column : ℕ) (columns : List ColumnDef) (fields : Fields) (values : List Value) (def : ColumnDef) (field : List ℕ) (value : Value)
    → IsReadUpTo column columns fields values → IsNext column columns fields def field
    → field_causes column def field ≡ [] → value ≡ field_value def.kind field → IsReadUpTo (column + 1) columns fields (values ++ value ∷ [])
read_more column columns fields values def field value read next none e =
    let rest : causes_from column (drop column columns) (drop column fields) ≡ causes_from (column + 1) (drop (column + 1) columns) (drop (column + 1) fields) =
    rw (next.column_is, next.field_is, none) refl in
    let row : row_of (drop column columns) (drop column fields) ≡ value ∷ row_of (drop (column + 1) columns) (drop (column + 1) fields) =
    rw (next.column_is, next.field_is, e) refl in
    record {
      faultless = read.faultless ∙ rest;
      values_are = read.values_are ∙ rw row (sym (append_assoc values (value ∷ []) _));
    }

pub read_all : (columns : List ColumnDef) (fields : Fields) (values : List Value) (column : ℕ) → length columns ≤ column
    → IsReadUpTo column columns fields values → (column_causes columns fields ≡ []) × (values ≡ row_of columns fields)
read_all columns fields values column end read =
    let none = drop_all column columns end in (
      read.faultless ∙ rw none refl,
      sym (read.values_are ∙ rw none (append-nil values)),
    )

-- a field that is lent, at an index of a record
pub some_there : (lent : Option (Bor (List ℕ))) (fields : Fields) (index : ℕ) → index < length fields
    → option_map (λ (s : Bor (List ℕ)). s.now) lent ≡ slice_get fields index → IsSome lent
some_there None fields index there e = absurd (none-some _ (e ∙ slice_get-get_or fields index [] there))
some_there (Some field) fields index there e = refl

pub some_same : (lent : Option (Bor (List ℕ))) (field : Bor (List ℕ)) (found : Option (List ℕ)) → lent ≡ Some field
    → option_map (λ (s : Bor (List ℕ)). s.now) lent ≡ found → found ≡ Some field.now
some_same lent field found is e = sym e ∙ rw is refl

pub next_is : (column : ℕ) (columns : List ColumnDef) (fields : Fields) (def : ColumnDef) (field : List ℕ) → column < length columns
    → length fields ≡ length columns → def ≡ get_or columns column def → slice_get fields column ≡ Some field
    → IsNext column columns fields def field
next_is column columns fields def field there wide is e =
    let within : column < length fields = omega (arith, wide) in
    record {
      column_is = rw (add-one) (drop-cons columns column def there ∙ ap (λ (d : ColumnDef). d ∷ drop (suc column) columns) (sym is));
      field_is = rw (add-one) (drop-cons fields column [] within ∙ ap (λ (f : List ℕ). f ∷ drop (suc column) fields) (get_or_from_slice_get fields column field [] e));
    }

-- a refusal that tells the first of some causes tells the first of all that begin with them
pub tells_from : (xs ys : List LoadCause) (refusal : Refusal) → ((cause : LoadCause) → slice_get xs 0 ≡ Some cause → slice_get ys 0 ≡ Some cause)
    → TellsFirst xs refusal → TellsFirst ys refusal
tells_from xs ys (Cause cause) more tells = more cause tells
tells_from xs ys OutOfMemory more tells = tt
