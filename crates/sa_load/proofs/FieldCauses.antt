-- When a field has which cause first, and when it has none.
use Rattle.std.proofs.Common.{◌≡◌, ◌<◌, ◌≤◌, ◌-◌, ◌^◌, ℕ, zero, suc, List, [], ◌∷◌, ◌++◌, length, min, Bool, true, false, ◌&&◌, ◌||◌, not, if◌then◌else◌, refl, sym, ap, ◌∙◌, arith, inl, inr, Some, None, Option, ◌==◌, ℤ, pos, negsuc, w64}
use Rattle.std.proofs.lemmas.Bool.{cases_Bool, eqb-true, leb-true, ltb-true, le-ltb}
use Rattle.std.proofs.lemmas.Bool.Decides.{nat_tests}
use Rattle.std.proofs.lemmas.Str.{IsUtf8-from_is_utf8, is_utf8-from_IsUtf8, IsUtf8-from_ascii, length-le-encodes, encodes-chars}
use Rattle.std.specs.Prelude.{nat_lt, int_le}
use mir.Val.{SFits}
use Rattle.std.specs.Char.{is_ascii_digit}
use Rattle.std.specs.List.{slice_get}
use Rattle.std.specs.Str.{IsUtf8, is_utf8, IsAscii, all_ascii_digits, chars}
use Rattle.std.specs.Str.Parse.{digits_value, starts_with_minus}
use Rattle.std.specs.List.{flat_map}
use Rattle.std.proofs.lemmas.Slice.Eq.{bytes_eq-Decides}
use Rattle.std.proofs.lemmas.Str.Ascii.{IsAscii-nil}
use Rattle.sa_value.specs.declared.value.Value.TheVariants as values
use Rattle.sa_table.specs.declared.def.ColumnDef.{ColumnDef}
use Rattle.sa_table.specs.declared.def.ColumnKind.{ColumnKind}
use Rattle.sa_table.specs.declared.def.ColumnKind.TheVariants as kinds
use Rattle.sa_table.specs.declared.fault.RowFault.TheVariants as row
use Rattle.sa_table.specs.Create.{told}
use Rattle.sa_load.specs.declared.fault.LoadCause.{LoadCause}
use Rattle.sa_load.specs.declared.fault.LoadCause.TheVariants as causes
use Rattle.sa_load.specs.Field.{are_digits, digits, is_number, number_of, signed, is_null, is_readable, field_value, field_causes, cause_of}
use Rattle.sa_load.specs.inner.FieldParts.{is_within, number_causes, text_causes}

pub not_utf8 : (bytes : List ℕ) → ¬ (IsUtf8 bytes) → is_utf8 bytes ≡ false
not_utf8 bytes other =
    elim (cases_Bool (is_utf8 bytes)) [ inl utf8 ↦ absurd (other (IsUtf8-from_is_utf8 bytes utf8)) | inr e ↦ e ]

-- ---- numbers

both : (a b : Bool) → (a && b) ≡ true → (a ≡ true) × (b ≡ true)
both true b e = (refl, e)
both false b e = cc e

digit_is_small : (byte : ℕ) → is_ascii_digit byte ≡ true → byte < 128
digit_is_small byte e = grind (arith, nat_tests)

-- digits are ASCII
digits-IsAscii : (bytes : List ℕ) → all_ascii_digits bytes ≡ true → IsAscii bytes
digits-IsAscii [] e i = omega arith
digits-IsAscii (byte ∷ bytes) e zero = digit_is_small byte (both _ _ e).0
digits-IsAscii (byte ∷ bytes) e (suc i) = digits-IsAscii bytes (both _ _ e).1 i

are_digits-IsAscii : (bytes : List ℕ) → are_digits bytes ≡ true → IsAscii bytes
are_digits-IsAscii [] e = cc e
are_digits-IsAscii (byte ∷ bytes) e = digits-IsAscii (byte ∷ bytes) e

cons-IsAscii : (byte : ℕ) (bytes : List ℕ) → byte < 128 → IsAscii bytes → IsAscii (byte ∷ bytes)
cons-IsAscii byte bytes small ascii zero = small
cons-IsAscii byte bytes small ascii (suc i) = ascii i

number-IsAscii : (field : List ℕ) → is_number field ≡ true → IsAscii field
number-IsAscii [] e = cc e
number-IsAscii (byte ∷ bytes) e =
    elim (cases_Bool (byte == 45)) [
      | inl minus ↦ cons-IsAscii byte bytes (omega (arith, eqb-true byte 45 minus)) (are_digits-IsAscii bytes (rw minus at e))
      | inr plain ↦ are_digits-IsAscii (byte ∷ bytes) (rw plain at e)
    ]

-- a number is UTF-8
number-is_utf8 : (field : List ℕ) → is_number field ≡ true → is_utf8 field ≡ true
number-is_utf8 field e = is_utf8-from_IsUtf8 field (IsUtf8-from_ascii field (number-IsAscii field e))

-- what is no number is told for what it is
pub number_causes-unreadable : (column limit : ℕ) (field : List ℕ) → is_number field ≡ false
    → slice_get (number_causes column limit field) 0 ≡ Some (if is_utf8 field then causes.NotNumber else causes.NotUtf8)
number_causes-unreadable column limit field e =
    elim (cases_Bool (is_utf8 field)) [ inl utf8 ↦ rw (utf8, e) refl | inr other ↦ rw (other) refl ]

-- whether a number kept up to the largest one is in a column's range
within-kept : (limit n : ℕ) (minus : Bool) → limit ≤ 2 ^ 63
    → is_within limit minus (min n (2 ^ 64 - 1)) ≡ is_within limit minus n
within-kept limit n true small = grind (arith, nat_tests)
within-kept limit n false small = grind (arith, nat_tests)

kept-within : (limit n : ℕ) (minus : Bool) → limit ≤ 2 ^ 63 → is_within limit minus (min n (2 ^ 64 - 1)) ≡ true
    → min n (2 ^ 64 - 1) ≡ n
kept-within limit n true small e = grind (arith, nat_tests)
kept-within limit n false small e = grind (arith, nat_tests)

-- a number that a column of this limit can hold
chosen : (b : Bool) (number z : ℤ) → ◌≡◌ {A = Option ℤ} (Some number) (if b then Some z else None) → (b ≡ true) × (number ≡ z)
chosen true number z e = (refl, cc e)
chosen false number z e = cc e

left_out : (b : Bool) (z : ℤ) → ◌≡◌ {A = Option ℤ} None (if b then Some z else None) → b ≡ false
left_out true z e = cc e
left_out false z e = refl

signed-fits : (limit magnitude : ℕ) (minus : Bool) → limit ≤ 2 ^ 63 → is_within limit minus magnitude ≡ true
    → SFits w64 (signed minus magnitude)
signed-fits limit zero true small e = record { sfits = omega arith }
signed-fits limit (suc m) true small e = record { sfits = omega (arith, leb-true (suc m) limit e) }
signed-fits limit magnitude false small e = record { sfits = omega (arith, ltb-true magnitude limit e) }

-- what a column of this limit holds has 64 bits
pub within-fits : (limit magnitude : ℕ) (minus : Bool) (number : ℤ) → limit ≤ 2 ^ 63
    → ◌≡◌ {A = Option ℤ} (Some number) (if is_within limit minus magnitude then Some (signed minus magnitude) else None)
    → SFits w64 number
within-fits limit magnitude minus number small e =
    let f = chosen _ _ _ e in
    rw f.1 (signed-fits limit magnitude minus small f.0)

-- A number as it was read: its sign, and its magnitude up to the largest one.
pub record Spells (field : List ℕ) (minus : Bool) (magnitude : ℕ) : Type 0 where
  pub sign : minus ≡ starts_with_minus field
  pub number : is_number field ≡ true
  pub kept : magnitude ≡ min (digits_value 10 (digits field)) (2 ^ 64 - 1)

pub number_causes-none : (column limit magnitude : ℕ) (minus : Bool) (field : List ℕ) (number : ℤ) → limit ≤ 2 ^ 63 → Spells field minus magnitude
    → ◌≡◌ {A = Option ℤ} (Some number) (if is_within limit minus magnitude then Some (signed minus magnitude) else None)
    → (number_causes column limit field ≡ []) × (number ≡ number_of field)
number_causes-none column limit magnitude minus field number small s e =
    let f = chosen _ _ _ e in
    let at_kept = rw (s.sign, s.kept) at f.0 in
    let n = digits_value 10 (digits field) in
    let in_range = sym (within-kept limit n (starts_with_minus field) small) ∙ at_kept in (
      rw (number-is_utf8 field s.number, s.number, in_range) refl,
      f.1 ∙ rw (s.sign) (ap (signed (starts_with_minus field)) (s.kept ∙ kept-within limit n (starts_with_minus field) small at_kept)),
    )

pub number_causes-range : (column limit magnitude : ℕ) (minus : Bool) (field : List ℕ) → limit ≤ 2 ^ 63 → Spells field minus magnitude
    → ◌≡◌ {A = Option ℤ} None (if is_within limit minus magnitude then Some (signed minus magnitude) else None)
    → slice_get (number_causes column limit field) 0 ≡ Some (causes.OutOfRange column)
number_causes-range column limit magnitude minus field small s e =
    let at_kept = rw (s.sign, s.kept) at (left_out _ _ e) in
    let out = sym (within-kept limit (digits_value 10 (digits field)) (starts_with_minus field) small) ∙ at_kept in
    rw (number-is_utf8 field s.number, s.number, out) refl

-- ---- texts

pub text_causes-utf8 : (column characters : ℕ) (field : List ℕ) → is_utf8 field ≡ false
    → slice_get (text_causes column characters field) 0 ≡ Some causes.NotUtf8
text_causes-utf8 column characters field other = rw other refl

pub text_causes-long : (column characters : ℕ) (field : List ℕ) → is_utf8 field ≡ true
    → (nat_lt 255 (length field) || nat_lt characters (length (chars field))) ≡ true
    → slice_get (text_causes column characters field) 0 ≡ Some (causes.TooLong column)
text_causes-long column characters field utf8 long = rw (utf8, long) refl

pub text_causes-none : (column characters : ℕ) (field : List ℕ) → is_utf8 field ≡ true
    → (nat_lt 255 (length field) || nat_lt characters (length (chars field))) ≡ false
    → text_causes column characters field ≡ []
text_causes-none column characters field utf8 short = rw (utf8, short) refl

-- a text has no more characters than bytes
pub few_chars : (text : List ℕ) (characters : ℕ) → IsUtf8 text → length text ≤ characters
    → nat_lt characters (length (chars text)) ≡ false
few_chars text characters utf8 few =
    let fewer = rw (encodes-chars text utf8) at (length-le-encodes (chars text)) in
    le-ltb characters (length (chars text)) (omega (arith, fewer))

-- ---- a field in its column

null-is : (field : List ℕ) → is_null field ≡ true → field ≡ 92 ∷ 78 ∷ []
null-is field e = (bytes_eq-Decides field (92 ∷ 78 ∷ [])).0 e

null-is_utf8 : (field : List ℕ) → is_null field ≡ true → is_utf8 field ≡ true
null-is_utf8 field e =
    let backslash : 92 < 128 = omega arith in
    let letter : 78 < 128 = omega arith in
    let ascii = cons-IsAscii 92 (78 ∷ []) backslash (cons-IsAscii 78 [] letter IsAscii-nil) in
    rw (null-is field e) (is_utf8-from_IsUtf8 _ (IsUtf8-from_ascii _ ascii))

null-is_readable : (kind : ColumnKind) (field : List ℕ) → is_null field ≡ true → is_readable kind field ≡ true
null-is_readable (kinds.VarChar characters) field e = refl
null-is_readable kinds.Int field e = rw e refl
null-is_readable kinds.BigInt field e = rw e refl

pub field_value-null : (kind : ColumnKind) (field : List ℕ) → is_null field ≡ true → field_value kind field ≡ values.Null
field_value-null kind field e = rw e refl

cause_told : (stands : Bool) (column : ℕ) → flat_map cause_of (told stands (row.NullNotAllowed column)) ≡ told stands (causes.NullNotAllowed column)
cause_told true column = refl
cause_told false column = refl

pub field_causes-null : (column : ℕ) (def : ColumnDef) (field : List ℕ) → is_null field ≡ true
    → field_causes column def field ≡ told def.not_null (causes.NullNotAllowed column)
field_causes-null column def field e =
    rw (null-is_utf8 field e, null-is_readable def.kind field e, field_value-null def.kind field e) (cause_told def.not_null column)

cause_range : (stands : Bool) (column : ℕ) → flat_map cause_of (told stands (row.OutOfRange column)) ≡ told stands (causes.OutOfRange column)
cause_range true column = refl
cause_range false column = refl

-- a column's range goes from minus its limit to below its limit
range-is : (greatest magnitude : ℕ) (minus : Bool)
    → (int_le (negsuc greatest) (signed minus magnitude) && int_le (signed minus magnitude) (pos greatest)) ≡ is_within (suc greatest) minus magnitude
range-is greatest zero true = grind (arith, nat_tests)
range-is greatest (suc m) true = grind (arith, nat_tests)
range-is greatest magnitude false = grind (arith, nat_tests)

-- the causes of a column of numbers, where its limit is known
number_causes-of : (column greatest : ℕ) (field : List ℕ)
    → told (not (is_utf8 field)) causes.NotUtf8
    ++ (if is_number field then flat_map cause_of (told (not (int_le (negsuc greatest) (number_of field) && int_le (number_of field) (pos greatest))) (row.OutOfRange column)) else causes.NotNumber ∷ [])
    ≡ number_causes column (suc greatest) field
number_causes-of column greatest field =
    rw (range-is greatest (digits_value 10 (digits field)) (starts_with_minus field))
    (ap (λ (own : List LoadCause). told (not (is_utf8 field)) causes.NotUtf8 ++ (if is_number field then own else causes.NotNumber ∷ []))
    (cause_range _ column))

pub field_causes-int : (column : ℕ) (def : ColumnDef) (field : List ℕ) → def.kind ≡ kinds.Int → is_null field ≡ false
    → field_causes column def field ≡ number_causes column 2147483648 field
field_causes-int column def field kind e = rw (kind, e) (number_causes-of column 2147483647 field)

pub field_causes-bigint : (column : ℕ) (def : ColumnDef) (field : List ℕ) → def.kind ≡ kinds.BigInt → is_null field ≡ false
    → field_causes column def field ≡ number_causes column 9223372036854775808 field
field_causes-bigint column def field kind e = rw (kind, e) (number_causes-of column 9223372036854775807 field)

pub field_value-int : (field : List ℕ) → is_null field ≡ false → field_value kinds.Int field ≡ values.Int (number_of field)
field_value-int field e = rw e refl

pub field_value-bigint : (field : List ℕ) → is_null field ≡ false → field_value kinds.BigInt field ≡ values.Int (number_of field)
field_value-bigint field e = rw e refl
