-- Tuples that are equal part by part are the same once their numbers are kept.
use Rattle.std.proofs.Common.{◌≡◌, ℕ, zero, suc, List, [], ◌∷◌, map, Bool, true, false, ◌&&◌, ◌||◌, not, Some, None, refl, sym, ap, ◌∙◌}
use Rattle.std.proofs.lemmas.Cmp.{int_cmp_total, nat_list_cmp_total, tied_itself}
use Rattle.std.proofs.lemmas.Map.Lookups.{exact_signed, exact_bytes}
use Rattle.std.proofs.lemmas.Map.Views.{tells_apart}
use Rattle.std.specs.List.{list_any}
use Rattle.std.specs.Ordering.{is_eq}
use Rattle.sa_value.specs.declared.value.Value.{Value}
use Rattle.sa_value.specs.declared.value.Value.TheVariants.{Null, Int, Big, Text}
use Rattle.sa_value.specs.Compare.{order_of}
use Rattle.sa_table.specs.declared.def.KeyDef.{KeyDef}
use Rattle.sa_table.specs.Table.{value_in, key_tuple}
use Rattle.sa_table.specs.AddRow.{is_null, same_tuple, kept_value, collides}
use Rattle.sa_table.specs.inner.Digest.{value_digest, digest_from, digest_of}

order_kept : (a b : Value) → order_of (kept_value a) b ≡ order_of a b
order_kept Null b = refl
order_kept (Int a) b = refl
order_kept (Big a) Null = refl
order_kept (Big a) (Int b) = refl
order_kept (Big a) (Big b) = refl
order_kept (Big a) (Text b) = refl
order_kept (Text a) b = refl

order_to_kept : (a b : Value) → order_of a (kept_value b) ≡ order_of a b
order_to_kept a Null = refl
order_to_kept a (Int b) = refl
order_to_kept Null (Big b) = refl
order_to_kept (Int a) (Big b) = refl
order_to_kept (Big a) (Big b) = refl
order_to_kept (Text a) (Big b) = refl
order_to_kept a (Text b) = refl

order_of_itself : (a : Value) → is_eq (order_of a a) ≡ true
order_of_itself Null = refl
order_of_itself (Int a) = ap is_eq (tied_itself int_cmp_total a)
order_of_itself (Big a) = ap is_eq (tied_itself int_cmp_total a)
order_of_itself (Text a) = ap is_eq (tied_itself nat_list_cmp_total a)

kept_from_equal : (a b : Value) → is_eq (order_of a b) ≡ true → kept_value a ≡ kept_value b
kept_from_equal Null Null e = refl
kept_from_equal Null (Int b) e = cc
kept_from_equal Null (Big b) e = cc
kept_from_equal Null (Text b) e = cc
kept_from_equal (Int a) Null e = cc
kept_from_equal (Int a) (Int b) e = ap Int (tells_apart exact_signed a b e)
kept_from_equal (Int a) (Big b) e = ap Int (tells_apart exact_signed a b e)
kept_from_equal (Int a) (Text b) e = cc
kept_from_equal (Big a) Null e = cc
kept_from_equal (Big a) (Int b) e = ap Int (tells_apart exact_signed a b e)
kept_from_equal (Big a) (Big b) e = ap Int (tells_apart exact_signed a b e)
kept_from_equal (Big a) (Text b) e = cc
kept_from_equal (Text a) Null e = cc
kept_from_equal (Text a) (Int b) e = cc
kept_from_equal (Text a) (Big b) e = cc
kept_from_equal (Text a) (Text b) e = ap Text (tells_apart exact_bytes a b e)

equal_from_kept : (a b : Value) → kept_value a ≡ kept_value b → is_eq (order_of a b) ≡ true
equal_from_kept a b e =
    ap is_eq (sym (order_kept a b) ∙ sym (order_to_kept (kept_value a) b))
    ∙ ap (λ other. is_eq (order_of (kept_value a) other)) (sym e)
    ∙ order_of_itself (kept_value a)

both_first : (a b : Bool) → (a && b) ≡ true → a ≡ true
both_first true b e = refl
both_first false b e = cc

both_second : (a b : Bool) → (a && b) ≡ true → b ≡ true
both_second true b e = e
both_second false b e = cc

-- equal tuples are kept as the same
pub kept_from_same : (s t : List Value) → same_tuple s t ≡ true → map kept_value s ≡ map kept_value t
kept_from_same [] [] e = refl
kept_from_same [] (b ∷ t) e = cc
kept_from_same (a ∷ s) [] e = cc
kept_from_same (a ∷ s) (b ∷ t) e =
    ap (λ first. first ∷ map kept_value s) (kept_from_equal a b (both_first (is_eq (order_of a b)) (same_tuple s t) e))
    ∙ ap (λ rest. kept_value b ∷ rest) (kept_from_same s t (both_second (is_eq (order_of a b)) (same_tuple s t) e))

-- tuples that are kept as the same are equal
pub same_from_kept : (s t : List Value) → map kept_value s ≡ map kept_value t → same_tuple s t ≡ true
same_from_kept [] [] e = refl
same_from_kept [] (b ∷ t) e = cc
same_from_kept (a ∷ s) [] e = cc
same_from_kept (a ∷ s) (b ∷ t) e =
    let first : kept_value a ≡ kept_value b = cc in
    let rest : map kept_value s ≡ map kept_value t = cc in
    ap (λ equal. equal && same_tuple s t) (equal_from_kept a b first) ∙ same_from_kept s t rest

pub same-kept : (s t : List Value) → same_tuple (map kept_value s) t ≡ same_tuple s t
same-kept [] t = refl
same-kept (a ∷ s) [] = refl
same-kept (a ∷ s) (b ∷ t) = ap (λ order. is_eq order && same_tuple (map kept_value s) t) (order_kept a b) ∙ ap (λ rest. is_eq (order_of a b) && rest) (same-kept s t)

null-kept : (a : Value) → is_null (kept_value a) ≡ is_null a
null-kept Null = refl
null-kept (Int a) = refl
null-kept (Big a) = refl
null-kept (Text a) = refl

pub nulls-kept : (t : List Value) → list_any is_null (map kept_value t) ≡ list_any is_null t
nulls-kept [] = refl
nulls-kept (a ∷ t) = ap (λ null. null || list_any is_null (map kept_value t)) (null-kept a) ∙ ap (λ rest. is_null a || rest) (nulls-kept t)

value_digest-kept : (a : Value) → value_digest (kept_value a) ≡ value_digest a
value_digest-kept Null = refl
value_digest-kept (Int a) = refl
value_digest-kept (Big a) = refl
value_digest-kept (Text a) = refl

digest_from-kept : (t : List Value) (digest : ℕ) → digest_from digest (map kept_value t) ≡ digest_from digest t
digest_from-kept [] digest = refl
digest_from-kept (Null ∷ t) digest = refl
digest_from-kept (Int a ∷ t) digest = digest_from-kept t _
digest_from-kept (Big a ∷ t) digest = digest_from-kept t _
digest_from-kept (Text a ∷ t) digest = digest_from-kept t _

pub digest_of-kept : (t : List Value) → digest_of (map kept_value t) ≡ digest_of t
digest_of-kept t = digest_from-kept t 0

-- equal tuples have equal digests
pub digest_of-same : (s t : List Value) → same_tuple s t ≡ true → digest_of s ≡ digest_of t
digest_of-same s t e = sym (digest_of-kept s) ∙ ap digest_of (kept_from_same s t e) ∙ digest_of-kept t

null_without_digest : (t : List Value) (digest : ℕ) → digest_from digest t ≡ None → list_any is_null t ≡ true
null_without_digest [] digest e = cc
null_without_digest (Null ∷ t) digest e = refl
null_without_digest (Int a ∷ t) digest e = null_without_digest t _ e
null_without_digest (Big a ∷ t) digest e = null_without_digest t _ e
null_without_digest (Text a ∷ t) digest e = null_without_digest t _ e

whole_with_digest : (t : List Value) (digest found : ℕ) → digest_from digest t ≡ Some found → list_any is_null t ≡ false
whole_with_digest [] digest found e = refl
whole_with_digest (Null ∷ t) digest found e = cc
whole_with_digest (Int a ∷ t) digest found e = whole_with_digest t _ found e
whole_with_digest (Big a ∷ t) digest found e = whole_with_digest t _ found e
whole_with_digest (Text a ∷ t) digest found e = whole_with_digest t _ found e

kept_value_in : (row : List Value) (k : ℕ) → value_in (map kept_value row) k ≡ kept_value (value_in row k)
kept_value_in [] k = refl
kept_value_in (a ∷ row) zero = refl
kept_value_in (a ∷ row) (suc k) = kept_value_in row k

pub kept_tuple : (parts : List ℕ) (row : List Value) → key_tuple parts (map kept_value row) ≡ map kept_value (key_tuple parts row)
kept_tuple [] row = refl
kept_tuple (part ∷ parts) row = ap (λ value. value ∷ key_tuple parts (map kept_value row)) (kept_value_in row part) ∙ ap (λ rest. kept_value (value_in row part) ∷ rest) (kept_tuple parts row)

pub collides-kept : (key : KeyDef) (row other : List Value) → collides key (map kept_value row) other ≡ collides key row other
collides-kept key row other =
    ap (λ tuple. not (list_any is_null tuple) && same_tuple tuple (key_tuple key.parts other)) (kept_tuple key.parts row)
    ∙ ap (λ null. not null && same_tuple (map kept_value (key_tuple key.parts row)) (key_tuple key.parts other)) (nulls-kept (key_tuple key.parts row))
    ∙ ap (λ same. not (list_any is_null (key_tuple key.parts row)) && same) (same-kept (key_tuple key.parts row) (key_tuple key.parts other))

-- a tuple with NULL in it has no digest, and no row stands in its way
pub collides_without_digest : (key : KeyDef) (row other : List Value) → digest_of (key_tuple key.parts row) ≡ None → collides key row other ≡ false
collides_without_digest key row other e = ap (λ null. not null && same_tuple (key_tuple key.parts row) (key_tuple key.parts other)) (null_without_digest (key_tuple key.parts row) 0 e)

pub collides_with_digest : (key : KeyDef) (row other : List Value) (digest : ℕ) → digest_of (key_tuple key.parts row) ≡ Some digest → collides key row other ≡ same_tuple (key_tuple key.parts row) (key_tuple key.parts other)
collides_with_digest key row other digest e = ap (λ null. not null && same_tuple (key_tuple key.parts row) (key_tuple key.parts other)) (whole_with_digest (key_tuple key.parts row) 0 digest e)

-- a row that stands in the way has the same digest
pub digest_of_colliding : (key : KeyDef) (row other : List Value) → collides key row other ≡ true → digest_of (key_tuple key.parts other) ≡ digest_of (key_tuple key.parts row)
digest_of_colliding key row other e = sym (digest_of-same (key_tuple key.parts row) (key_tuple key.parts other) (both_second (not (list_any is_null (key_tuple key.parts row))) (same_tuple (key_tuple key.parts row) (key_tuple key.parts other)) e))

-- two rows that stand in the way of a third stand in the way of each other
pub collides_with_both : (key : KeyDef) (row one other : List Value) → collides key row one ≡ true → collides key row other ≡ true → collides key other one ≡ true
collides_with_both key row one other e f =
    let first : map kept_value (key_tuple key.parts row) ≡ map kept_value (key_tuple key.parts one) = kept_from_same _ _ (both_second (not (list_any is_null (key_tuple key.parts row))) (same_tuple (key_tuple key.parts row) (key_tuple key.parts one)) e) in
    let second : map kept_value (key_tuple key.parts row) ≡ map kept_value (key_tuple key.parts other) = kept_from_same _ _ (both_second (not (list_any is_null (key_tuple key.parts row))) (same_tuple (key_tuple key.parts row) (key_tuple key.parts other)) f) in
    let whole : not (list_any is_null (key_tuple key.parts other)) ≡ true =
    ap not (sym (nulls-kept (key_tuple key.parts other)) ∙ ap (list_any is_null) (sym second) ∙ nulls-kept (key_tuple key.parts row))
    ∙ both_first (not (list_any is_null (key_tuple key.parts row))) (same_tuple (key_tuple key.parts row) (key_tuple key.parts other)) f in
    ap (λ all. all && same_tuple (key_tuple key.parts other) (key_tuple key.parts one)) whole
    ∙ same_from_kept (key_tuple key.parts other) (key_tuple key.parts one) (sym second ∙ first)
