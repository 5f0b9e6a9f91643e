-- The ends of an interval as numbers of 64 bits.
use mir.Syntax.{w64, w128}
use mir.Val.{SFits, to_z, of_z}
use Rattle.std.proofs.Common.{◌≡◌, ℤ, pos, negsuc, ◌*ℤ◌, Bool, true, false, ◌&&◌, if◌then◌else◌, Option, Some, None, option_map, sym, ap, ◌∙◌, arith}
use Rattle.std.proofs.lemmas.Int.{ints, to_z-of_z}
use Rattle.sa_resolve.specs.declared.ends.Ends.{Ends}
use Rattle.sa_cond.specs.Interval.{Interval, number, faulty, is_bigint, number_within, interval_of}
use Rattle.sa_resolve.specs.inner.Ends.{interval_at}
use Rattle.sa_cond.proofs.Arithmetic.{small_test}

abbrev interval_from : ℤ → ℤ → Interval
interval_from least greatest = record { least = least; greatest = greatest }

is_bigint-SFits : (a : ℤ) → SFits w64 a → is_bigint a ≡ true
is_bigint-SFits (pos n) fits = small_test (pos n) (omega (arith, ints)) (omega (arith, ints))
is_bigint-SFits (negsuc n) fits = small_test (negsuc n) (omega (arith, ints)) (omega (arith, ints))

-- what stands behind two numbers of 64 bits
same_ends : (a b : ℤ) → SFits w64 a → SFits w64 b → interval_from (to_z w64 (of_z w64 a)) (to_z w64 (of_z w64 b)) ≡ interval_from a b
same_ends a b left right = ap (λ least. interval_from least (to_z w64 (of_z w64 b))) (to_z-of_z w64 a left) ∙ ap (interval_from a) (to_z-of_z w64 b right)

-- two numbers of 64 bits are the ends of an interval
pub of_small : (a b : ℤ) → SFits w64 a → SFits w64 b → Some (interval_from (to_z w64 (of_z w64 a)) (to_z w64 (of_z w64 b))) ≡ interval_of (number_within (interval_from a b))
of_small a b left right =
    ap (λ interval. Some interval) (same_ends a b left right)
    ∙ sym (ap (λ (test : Bool). interval_of (if test then number (interval_from a b) else faulty)) (ap (λ (test : Bool). test && is_bigint b) (is_bigint-SFits a left) ∙ is_bigint-SFits b right))

both_tests : (p q : Bool) (least greatest a b : ℤ) → Some a ≡ (if p then Some least else None) → Some b ≡ (if q then Some greatest else None)
    → Some (interval_from a b) ≡ interval_of (if p && q then number (interval_from least greatest) else faulty)
both_tests true true least greatest a b left right = let one : a ≡ least = cc in let two : b ≡ greatest = cc in ap (λ least. Some (interval_from least b)) one ∙ ap (λ greatest. Some (interval_from least greatest)) two
both_tests true false least greatest a b left right = cc
both_tests false q least greatest a b left right = cc

-- ends that are in the range of BIGINT
pub within-some : (least greatest a b : ℤ) → SFits w64 a → SFits w64 b → Some a ≡ (if is_bigint least then Some least else None) → Some b ≡ (if is_bigint greatest then Some greatest else None)
    → Some (interval_from (to_z w64 (of_z w64 a)) (to_z w64 (of_z w64 b))) ≡ interval_of (number_within (interval_from least greatest))
within-some least greatest a b left right low high =
    ap (λ interval. Some interval) (same_ends a b left right) ∙ both_tests (is_bigint least) (is_bigint greatest) least greatest a b low high

-- equal ends have the same interval
pub same_within : (known : Option Ends) (least greatest least' greatest' : ℤ) → option_map interval_at known ≡ interval_of (number_within (interval_from least greatest))
    → least ≡ least' → greatest ≡ greatest' → option_map interval_at known ≡ interval_of (number_within (interval_from least' greatest'))
same_within known least greatest least' greatest' is left right =
    is ∙ ap (λ least. interval_of (number_within (interval_from least greatest))) left ∙ ap (λ greatest. interval_of (number_within (interval_from least' greatest))) right

-- one of the four products of the ends, as the code has it
pub corner : (a b result : ℤ) → SFits w64 a → SFits w64 b → result ≡ to_z w64 (of_z w64 a) *ℤ to_z w64 (of_z w64 b) → result ≡ a *ℤ b
corner a b result left right is = is ∙ ap (λ a. a *ℤ to_z w64 (of_z w64 b)) (to_z-of_z w64 a left) ∙ ap (λ b. a *ℤ b) (to_z-of_z w64 b right)

-- a number as it is passed on
abbrev pub passed : ℤ → ℤ
passed a = to_z w128 (of_z w128 a)

pub passed_is : (a : ℤ) → SFits w128 a → passed a ≡ a
passed_is a fits = to_z-of_z w128 a fits

-- the least or the greatest of two, as the code has it
pub extreme : (choose : ℤ → ℤ → ℤ) (a b x y result : ℤ) → SFits w128 a → SFits w128 b → a ≡ x → b ≡ y → result ≡ choose (passed a) (passed b) → result ≡ choose x y
extreme choose a b x y result left right left_is right_is is =
    is ∙ ap (λ a. choose a (passed b)) (passed_is a left ∙ left_is) ∙ ap (choose x) (passed_is b right ∙ right_is)
