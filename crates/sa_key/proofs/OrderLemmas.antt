-- Tuples compared part by part, and what lies before a cut.
use Rattle.std.proofs.Common.{◌≡◌, ◌≢◌, ℕ, ◌+◌, ◌<◌, ◌≤◌, zero, suc, List, [], ◌∷◌, length, take, drop, get_or, true, false, IsTrue, refl, sym, ◌∙◌, ap, subst}
use Rattle.std.proofs.lemmas.Cmp.{alike_right}
use Rattle.std.proofs.lemmas.List.{drop_more, get_or-take, length-take-le}
use Rattle.std.proofs.lemmas.Option.{get_or_from_slice_get}
use Rattle.std.specs.Cmp.{IsTotalOrder}
use Rattle.std.specs.List.{slice_get}
use Rattle.std.specs.Ordering.{is_gt, is_ne, ordering_then}
use Rattle.std.specs.declared.cmp.Ordering.{Ordering}
use Rattle.std.specs.declared.cmp.Ordering.TheVariants.{Less, Equal, Greater}
use Rattle.std.specs.declared.option.Option.TheVariants.{Some}
use Rattle.sa_value.specs.declared.value.Value.{Value}
use Rattle.sa_value.specs.Compare.{order_of}
use Rattle.sa_key.specs.declared.cut.Cut.{Cut}
use Rattle.sa_key.specs.declared.cut.Side.{Side}
use Rattle.sa_key.specs.Order.{order_of_tuples, is_before_side, IsBefore}

order_from : (a b : List Value) (i : ℕ) (x y : Value) → i < length b → length b ≤ length a → slice_get a i ≡ Some x → slice_get b i ≡ Some y → order_of_tuples (drop i (take (length b) a)) (drop i b) ≡ ordering_then (order_of x y) (order_of_tuples (drop (i + 1) (take (length b) a)) (drop (i + 1) b))
order_from a b i x y here long at_a at_b =
    let in_front : i < length (take (length b) a) = rw (length-take-le (length b) a long) here in
    let front_x : get_or (take (length b) a) i x ≡ x = get_or-take (length b) a i x here ∙ get_or_from_slice_get a i x x at_a in
    let other_y : get_or b i y ≡ y = get_or_from_slice_get b i y y at_b in
    rw (drop_more (take (length b) a) i x in_front, drop_more b i y here, front_x, other_y) refl

decides : (first rest : Ordering) → is_ne first ≡ true → first ≡ ordering_then first rest
decides Less rest differ = refl
decides Equal rest differ = cc
decides Greater rest differ = refl

passes_on : (first rest : Ordering) → is_ne first ≡ false → rest ≡ ordering_then first rest
passes_on Less rest same = cc
passes_on Equal rest same = refl
passes_on Greater rest same = cc

-- the first parts that differ decide
pub decided : (a b : List Value) (i : ℕ) (x y : Value) (order : Ordering) → i < length b → length b ≤ length a → slice_get a i ≡ Some x → slice_get b i ≡ Some y → order ≡ order_of x y → is_ne order ≡ true → order ≡ order_of_tuples (drop i (take (length b) a)) (drop i b)
decided a b i x y order here long at_a at_b is differ =
    let rest : Ordering = order_of_tuples (drop (i + 1) (take (length b) a)) (drop (i + 1) b) in
    decides order rest differ ∙ ap (λ (first : Ordering). ordering_then first rest) is ∙ sym (order_from a b i x y here long at_a at_b)

-- parts that are equal leave it to those behind
pub passed_on : (a b : List Value) (i : ℕ) (x y : Value) (order : Ordering) → i < length b → length b ≤ length a → slice_get a i ≡ Some x → slice_get b i ≡ Some y → order ≡ order_of x y → is_ne order ≡ false → order_of_tuples (drop (i + 1) (take (length b) a)) (drop (i + 1) b) ≡ order_of_tuples (drop i (take (length b) a)) (drop i b)
passed_on a b i x y order here long at_a at_b is same =
    let rest : Ordering = order_of_tuples (drop (i + 1) (take (length b) a)) (drop (i + 1) b) in
    passes_on order rest same ∙ ap (λ (first : Ordering). ordering_then first rest) is ∙ sym (order_from a b i x y here long at_a at_b)

-- a tuple that isn't behind another isn't in its first parts
front_not_behind : (n : ℕ) (a b : List Value) → is_gt (order_of_tuples a b) ≡ false → is_gt (order_of_tuples (take n a) (take n b)) ≡ false
front_not_behind zero a b not_behind = refl
front_not_behind (suc n) [] [] not_behind = refl
front_not_behind (suc n) [] (y ∷ b) not_behind = refl
front_not_behind (suc n) (x ∷ a) [] not_behind = not_behind
front_not_behind (suc n) (x ∷ a) (y ∷ b) not_behind =
    elim (order_of x y) as (λ first. is_gt (ordering_then first (order_of_tuples a b)) ≡ false → is_gt (ordering_then first (order_of_tuples (take n a) (take n b))) ≡ false) [
      | Less ↦ λ _. refl
      | Equal ↦ λ rest. front_not_behind n a b rest
      | Greater ↦ λ behind. behind
    ] not_behind

-- what is less than what stands so is less, too, where that isn't greater
less_before : (total : IsTotalOrder order_of_tuples) (a b c : List Value) (side : Side) (second : Ordering) → order_of_tuples a b ≡ Less → order_of_tuples b c ≡ second → IsTrue (is_before_side second side) → order_of_tuples a c ≡ Less
less_before total a b c side Less first second before = total.trans a b c first second
less_before total a b c side Equal first second before = sym (alike_right total b c a second) ∙ first
less_before total a b c side Greater first second before = cc

-- what isn't behind a tuple that lies before a cut lies before it
goes_on : (total : IsTotalOrder order_of_tuples) (a b c : List Value) (side : Side) (first : Ordering) → order_of_tuples a b ≡ first → is_gt first ≡ false → IsTrue (is_before_side (order_of_tuples b c) side) → IsTrue (is_before_side (order_of_tuples a c) side)
goes_on total a b c side Less first not_behind before =
    subst (λ order. IsTrue (is_before_side order side)) (sym (less_before total a b c side (order_of_tuples b c) first refl before)) refl
goes_on total a b c side Equal first not_behind before =
    subst (λ order. IsTrue (is_before_side order side)) (sym (total.congr a b c first)) before
goes_on total a b c side Greater first not_behind before = cc

not_greater : (order : Ordering) → order ≢ Greater → is_gt order ≡ false
not_greater Less other = refl
not_greater Equal other = refl
not_greater Greater other = absurd (other refl)

pub goes_down : IsTotalOrder order_of_tuples → (a b : List Value) (c : Cut) → order_of_tuples a b ≢ Greater → IsBefore b c → IsBefore a c
goes_down total a b c not_behind before =
    let front_a : List Value = take (length c.tuple) a in
    let front_b : List Value = take (length c.tuple) b in
    goes_on total front_a front_b c.tuple c.side (order_of_tuples front_a front_b) refl
    (front_not_behind (length c.tuple) a b (not_greater (order_of_tuples a b) not_behind)) before
