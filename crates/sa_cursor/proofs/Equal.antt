-- The entries with some values in the first parts of a key lie between the two cuts round them.
use Rattle.std.proofs.Common.{◌≡◌, ◌≤◌, List, [], ◌∷◌, length, take, Bool, true, false, not, ◌&&◌, ◌||◌, refl, sym, ap, ◌∙◌, arith}
use Rattle.std.specs.List.{list_any}
use Rattle.std.specs.Ordering.{is_eq, int_cmp, nat_cmp, ordering_then}
use Rattle.std.specs.Cmp.Lexicographic.{slice_cmp}
use Rattle.std.specs.declared.cmp.Ordering.{Ordering}
use Rattle.std.specs.declared.cmp.Ordering.TheVariants.{Less, Equal, Greater}
use Rattle.sa_value.specs.declared.truth.CompareOp.TheVariants.{Eq}
use Rattle.sa_value.specs.declared.value.Value.{Value}
use Rattle.sa_value.specs.declared.value.Value.TheVariants.{Null, Int, Big, Text}
use Rattle.sa_value.specs.Compare.{order_of, holds_at, known, truth_of}
use Rattle.sa_key.specs.declared.cut.Side.TheVariants.{Below, Above}
use Rattle.sa_key.specs.Order.{order_of_tuples, is_before_side, is_before}
use Rattle.sa_query.specs.Choices.{is_true}
use Rattle.sa_table.specs.AddRow.{is_null}
use Rattle.sa_plan.specs.Scan.{have_values}

known_equal : (order : Ordering) → is_true (known (holds_at Eq order)) ≡ is_eq order
known_equal Less = refl
known_equal Equal = refl
known_equal Greater = refl

-- an equality with a value is TRUE of what is equal to it in the order
equal_value : (value wanted : Value) → is_null wanted ≡ false → is_true (truth_of Eq value wanted) ≡ is_eq (order_of value wanted)
equal_value Null Null there = cc
equal_value Null (Int b) there = refl
equal_value Null (Big b) there = refl
equal_value Null (Text b) there = refl
equal_value (Int a) Null there = cc
equal_value (Int a) (Int b) there = known_equal (int_cmp a b)
equal_value (Int a) (Big b) there = known_equal (int_cmp a b)
equal_value (Int a) (Text b) there = refl
equal_value (Big a) Null there = cc
equal_value (Big a) (Int b) there = known_equal (int_cmp a b)
equal_value (Big a) (Big b) there = known_equal (int_cmp a b)
equal_value (Big a) (Text b) there = refl
equal_value (Text a) Null there = cc
equal_value (Text a) (Int b) there = refl
equal_value (Text a) (Big b) there = refl
equal_value (Text a) (Text b) there = known_equal (slice_cmp nat_cmp a b)

-- and of nothing where it is NULL
never_null : (value wanted : Value) → is_null wanted ≡ true → is_true (truth_of Eq value wanted) ≡ false
never_null Null Null there = refl
never_null (Int a) Null there = refl
never_null (Big a) Null there = refl
never_null (Text a) Null there = refl
never_null value (Int b) there = cc
never_null value (Big b) there = cc
never_null value (Text b) there = cc

then_equal : (first second : Ordering) → is_eq (ordering_then first second) ≡ (is_eq first && is_eq second)
then_equal Less second = refl
then_equal Equal second = refl
then_equal Greater second = refl

neither_left : (one other : Bool) → (one || other) ≡ false → one ≡ false
neither_left true other none = cc
neither_left false other none = refl

neither_right : (one other : Bool) → (one || other) ≡ false → other ≡ false
neither_right true other none = cc
neither_right false other none = none

equal_values : (values wanted : List Value) → length wanted ≤ length values → list_any is_null wanted ≡ false → have_values values wanted ≡ is_eq (order_of_tuples (take (length wanted) values) wanted)
equal_values [] [] fits there = refl
equal_values (value ∷ values) [] fits there = refl
equal_values [] (first ∷ wanted) fits there = absurd (omega arith)
equal_values (value ∷ values) (first ∷ wanted) fits there =
    ap (λ b. b && have_values values wanted) (equal_value value first (neither_left (is_null first) (list_any is_null wanted) there))
    ∙ ap (λ b. is_eq (order_of value first) && b) (equal_values values wanted (omega arith) (neither_right (is_null first) (list_any is_null wanted) there))
    ∙ sym (then_equal (order_of value first) (order_of_tuples (take (length wanted) values) wanted))

both_sides : (order : Ordering) → (not (is_before_side order Below) && is_before_side order Above) ≡ is_eq order
both_sides Less = refl
both_sides Equal = refl
both_sides Greater = refl

-- a tuple has these values exactly where it lies between the cuts below and above them
pub between_cuts : (values wanted : List Value) → length wanted ≤ length values → list_any is_null wanted ≡ false
    → have_values values wanted ≡ (not (is_before values (record { tuple = wanted; side = Below })) && is_before values (record { tuple = wanted; side = Above }))
between_cuts values wanted fits there =
    equal_values values wanted fits there ∙ sym (both_sides (order_of_tuples (take (length wanted) values) wanted))

false_and : (b : Bool) → (b && false) ≡ false
false_and true = refl
false_and false = refl

-- and where one of them is NULL no tuple does
pub never_equal : (values wanted : List Value) → length wanted ≤ length values → list_any is_null wanted ≡ true → have_values values wanted ≡ false
never_equal values [] fits there = cc
never_equal [] (first ∷ wanted) fits there = absurd (omega arith)
never_equal (value ∷ values) (first ∷ wanted) fits there =
    elim (is_null first) as (λ b. is_null first ≡ b → (b || list_any is_null wanted) ≡ true → (is_true (truth_of Eq value first) && have_values values wanted) ≡ false) [
      | true ↦ λ null some. ap (λ b. b && have_values values wanted) (never_null value first null)
      | false ↦ λ other some. ap (λ b. is_true (truth_of Eq value first) && b) (never_equal values wanted (omega arith) some)
          ∙ false_and (is_true (truth_of Eq value first))
    ] refl there
