-- Numbers in order: `arranged` has them so, and no other list does.
use Rattle.std.proofs.Common.{◌≡◌, ℕ, ◌+◌, ◌<◌, ◌≤◌, List, [], ◌∷◌, suc, length, get_or, Bool, true, false, cond, count_by, sum_by, refl, sym, ap, ◌∙◌, arith, IsPermutation, IsSortedBy}
use Rattle.std.proofs.lemmas.Cmp.{alike_right}
use Rattle.std.proofs.lemmas.List.Elements.{recursion_from_All, All-from_recursion}
use Rattle.std.proofs.lemmas.List.Kept.{AllPairs-cons}
use Rattle.std.proofs.lemmas.List.Sorted.{ranks_by, sorted_far, sum_by-IsPermutation, IsPermutation-refl, IsPermutation-trans, IsPermutation-cons, IsPermutation-middle}
use Rattle.std.proofs.lemmas.List.Sums.{sum_by-cons}
use Rattle.std.specs.Cmp.{IsTotalOrder}
use Rattle.std.specs.List.{AllByRecursion}
use Rattle.std.specs.Ordering.{is_lt, is_gt, ordering_reverse}
use Rattle.std.specs.declared.cmp.Ordering.{Ordering}
use Rattle.std.specs.declared.cmp.Ordering.TheVariants.{Less, Equal, Greater}
use Rattle.sa_index.specs.Entries.{put, arranged}
use Rattle.sa_index.specs.Law.{IsInOrder}
use Rattle.sa_index.specs.inner.Built.{Rise}

-- A total order in which no two numbers are equal.
pub record Orders (order : ℕ → ℕ → Ordering) : Type 0 where
  pub total : IsTotalOrder order
  pub exact : (x y : ℕ) → order x y ≡ Equal → x ≡ y

-- no member of the list comes before the number
abbrev pub Leads : (ℕ → ℕ → Ordering) → ℕ → List ℕ → Type 0
Leads order x xs = AllByRecursion (λ y. is_lt (order y x) ≡ false) xs

abbrev pub Climbs : (ℕ → ℕ → Ordering) → List ℕ → Type 0
Climbs order [] = Unit {0}
Climbs order (x ∷ xs) = Leads order x xs × Climbs order xs

sum_by-put : (f : ℕ → ℕ) (order : ℕ → ℕ → Ordering) (x : ℕ) (xs : List ℕ) → sum_by f (put order x xs) ≡ f x + sum_by f xs
sum_by-put f order x [] = sum_by-cons f x []
sum_by-put f order x (y ∷ ys) =
    let rest : sum_by f (put order x ys) ≡ f x + sum_by f ys = sum_by-put f order x ys in
    let long : sum_by f (y ∷ put order x ys) ≡ f y + sum_by f (put order x ys) = sum_by-cons f y (put order x ys) in
    let short : sum_by f (y ∷ ys) ≡ f y + sum_by f ys = sum_by-cons f y ys in
    let behind : sum_by f (y ∷ put order x ys) ≡ f x + sum_by f (y ∷ ys) = omega arith in
    elim (is_gt (order x y)) as (λ b. sum_by f (cond b (y ∷ put order x ys) (x ∷ y ∷ ys)) ≡ f x + sum_by f (y ∷ ys)) [
      | true ↦ behind
      | false ↦ sum_by-cons f x (y ∷ ys)
    ]

sum_by-arranged : (f : ℕ → ℕ) (order : ℕ → ℕ → Ordering) (xs : List ℕ) → sum_by f (arranged order xs) ≡ sum_by f xs
sum_by-arranged f order [] = refl
sum_by-arranged f order (x ∷ xs) =
    let rest : sum_by f (arranged order xs) ≡ sum_by f xs = sum_by-arranged f order xs in
    sum_by-put f order x (arranged order xs) ∙ ap (λ n. f x + n) rest ∙ sym (sum_by-cons f x xs)

every_put : (P : ℕ → Type 0) (order : ℕ → ℕ → Ordering) (x : ℕ) (xs : List ℕ) → P x → AllByRecursion P xs → AllByRecursion P (put order x xs)
every_put P order x [] here all = (here, tt)
every_put P order x (y ∷ ys) here all =
    elim (is_gt (order x y)) as (λ b. AllByRecursion P (cond b (y ∷ put order x ys) (x ∷ y ∷ ys))) [
      | true ↦ (all.0, every_put P order x ys here all.1)
      | false ↦ (here, all)
    ]

every_map : (P Q : ℕ → Type 0) → ((z : ℕ) → P z → Q z) → (xs : List ℕ) → AllByRecursion P xs → AllByRecursion Q xs
every_map P Q f [] all = tt
every_map P Q f (x ∷ xs) all = (f x all.0, every_map P Q f xs all.1)

not_less : (o : Ordering) → is_gt o ≡ true → is_lt o ≡ false
not_less Less greater = cc
not_less Equal greater = refl
not_less Greater greater = refl

not_less_back : (o : Ordering) → is_gt o ≡ false → is_lt (ordering_reverse o) ≡ false
not_less_back Less greater = refl
not_less_back Equal greater = refl
not_less_back Greater greater = cc

-- what doesn't come before y doesn't come before x, which isn't greater
earlier : {order : ℕ → ℕ → Ordering} → IsTotalOrder order → (x y z : ℕ) (first second : Ordering) → order x y ≡ first → is_gt first ≡ false → order z x ≡ second → is_lt (order z y) ≡ false → is_lt second ≡ false
earlier total x y z first Equal stands fits is behind = refl
earlier total x y z first Greater stands fits is behind = refl
earlier {order} total x y z Less Less stands fits is behind = ap is_lt (sym (total.trans z x y is stands)) ∙ behind
earlier {order} total x y z Equal Less stands fits is behind =
    ap is_lt (sym is ∙ alike_right total x y z stands) ∙ behind
earlier total x y z Greater Less stands fits is behind = cc

climbs-put : {order : ℕ → ℕ → Ordering} → IsTotalOrder order → (x : ℕ) (xs : List ℕ) → Climbs order xs → Climbs order (put order x xs)
climbs-put total x [] climbs = (tt, tt)
climbs-put {order} total x (y ∷ ys) climbs =
    elim (is_gt (order x y)) as (λ b. is_gt (order x y) ≡ b → Climbs order (cond b (y ∷ put order x ys) (x ∷ y ∷ ys))) [
      | true ↦ λ greater. (
        every_put (λ z. is_lt (order z y) ≡ false) order x ys (not_less (order x y) greater) climbs.0,
        climbs-put total x ys climbs.1,
      )
      | false ↦ λ fits. (
        (
          ap is_lt (total.antisymm y x) ∙ not_less_back (order x y) fits,
          every_map (λ z. is_lt (order z y) ≡ false) (λ z. is_lt (order z x) ≡ false)
              (λ z behind. earlier total x y z (order x y) (order z x) refl fits refl behind) ys climbs.0,
        ),
        climbs,
      )
    ] refl

climbs-arranged : {order : ℕ → ℕ → Ordering} → IsTotalOrder order → (xs : List ℕ) → Climbs order (arranged order xs)
climbs-arranged total [] = tt
climbs-arranged {order} total (x ∷ xs) = climbs-put total x (arranged order xs) (climbs-arranged total xs)

no_self : (o : Ordering) → o ≡ ordering_reverse o → is_lt o ≡ false
no_self Less same = cc
no_self Equal same = refl
no_self Greater same = refl

none_first : (p : ℕ → Bool) (xs : List ℕ) → AllByRecursion (λ z. p z ≡ false) xs → count_by p xs ≡ 0
none_first p [] none = refl
none_first p (x ∷ xs) none =
    sum_by-cons (λ z. cond (p z) 1 0) x xs
    ∙ ap (λ b. cond b 1 0 + count_by p xs) none.0
    ∙ (let rest : count_by p xs ≡ 0 = none_first p xs none.1 in omega arith)

first_fails : (b : Bool) (n : ℕ) → cond b 1 0 + n ≡ 0 → b ≡ false
first_fails true n none = absurd (omega arith)
first_fails false n none = refl

neither : (o : Ordering) → is_lt o ≡ false → is_lt (ordering_reverse o) ≡ false → o ≡ Equal
neither Less one other = cc
neither Equal one other = refl
neither Greater one other = cc

-- the first of one list isn't behind the first of another with the same members
leads : {order : ℕ → ℕ → Ordering} → IsTotalOrder order → (x : ℕ) (xs : List ℕ) (y : ℕ) (ys : List ℕ) → Leads order x xs → ((p : ℕ → Bool) → count_by p (x ∷ xs) ≡ count_by p (y ∷ ys)) → is_lt (order y x) ≡ false
leads {order} total x xs y ys first same =
    let before : ℕ → Bool = λ z. is_lt (order z x) in
    let none : count_by before (x ∷ xs) ≡ 0 = none_first before (x ∷ xs) (no_self (order x x) (total.antisymm x x), first) in
    first_fails (is_lt (order y x)) (count_by before ys)
    (sym (sum_by-cons (λ z. cond (before z) 1 0) y ys) ∙ sym (same before) ∙ none)

less_by : (n m k : ℕ) → n + m ≡ n + k → m ≡ k
less_by n m k same = omega arith

-- two lists that climb and have the same members are the same list
only : {order : ℕ → ℕ → Ordering} → Orders order → (xs ys : List ℕ) → Climbs order xs → Climbs order ys → ((p : ℕ → Bool) → count_by p xs ≡ count_by p ys) → xs ≡ ys
only orders [] [] one other same = refl
only orders [] (y ∷ ys) one other same =
    let more : 0 ≡ 1 + count_by (λ z. true) ys = same (λ z. true) ∙ sum_by-cons (λ z. 1) y ys in absurd (omega arith)
only orders (x ∷ xs) [] one other same =
    let more : 0 ≡ 1 + count_by (λ z. true) xs = sym (same (λ z. true)) ∙ sum_by-cons (λ z. 1) x xs in absurd (omega arith)
only {order} orders (x ∷ xs) (y ∷ ys) one other same =
    let back : is_lt (order y x) ≡ false = leads orders.total x xs y ys one.0 same in
    let forth : is_lt (order x y) ≡ false = leads orders.total y ys x xs other.0 (λ p. sym (same p)) in
    let alike : x ≡ y = orders.exact x y (neither (order x y) forth (ap is_lt (sym (orders.total.antisymm y x)) ∙ back)) in
    let rest : xs ≡ ys = only orders xs ys one.1 other.1 (λ p.
    less_by (cond (p x) 1 0) (count_by p xs) (count_by p ys)
    (sym (sum_by-cons (λ z. cond (p z) 1 0) x xs) ∙ same p ∙ sum_by-cons (λ z. cond (p z) 1 0) y ys
    ∙ ap (λ z. cond (p z) 1 0 + count_by p ys) (sym alike))) in
    cc

strict : {order : ℕ → ℕ → Ordering} → IsTotalOrder order → (xs : List ℕ) → IsSortedBy (λ x y. is_lt (order x y)) xs → (i j : ℕ) (d : ℕ) → i ≤ j → j < length xs → is_lt (order (get_or xs j d) (get_or xs i d)) ≡ false
strict {order} total xs sorted = sorted_far (λ x y. is_lt (order x y)) (ranks_by total (λ (x : ℕ). x)) xs sorted

pub rise_from_sorted : {order : ℕ → ℕ → Ordering} → IsTotalOrder order → (xs : List ℕ) → IsSortedBy (λ x y. is_lt (order x y)) xs → Rise order xs
rise_from_sorted {order} total xs sorted = λ i j d before there. strict total xs sorted i j d (omega arith) there

climbs_from_rise : (order : ℕ → ℕ → Ordering) (xs : List ℕ) → Rise order xs → Climbs order xs
climbs_from_rise order [] rise = tt
climbs_from_rise order (x ∷ xs) rise = (
  recursion_from_All (λ z. is_lt (order z x) ≡ false) xs
      (λ k d there. rise 0 (suc k) d (omega arith) (omega arith)),
  climbs_from_rise order xs (λ i j d before there. rise (suc i) (suc j) d (omega arith) (omega arith)),
)

-- the same numbers, none of which comes before an earlier one, are those numbers in order
pub arranged_from_rise : {order : ℕ → ℕ → Ordering} → Orders order → (xs ys : List ℕ) → IsPermutation xs ys → Rise order ys → ys ≡ arranged order xs
arranged_from_rise {order} orders xs ys moved rise =
    only orders ys (arranged order xs)
    (climbs_from_rise order ys rise)
    (climbs-arranged orders.total xs)
    (λ p. sum_by-IsPermutation (λ z. cond (p z) 1 0) xs ys moved ∙ sym (sum_by-arranged (λ z. cond (p z) 1 0) order xs))

same-put : (order : ℕ → ℕ → Ordering) (x : ℕ) (xs : List ℕ) → IsPermutation (x ∷ xs) (put order x xs)
same-put order x [] = IsPermutation-refl (x ∷ [])
same-put order x (y ∷ ys) =
    elim (is_gt (order x y)) as (λ b. IsPermutation (x ∷ y ∷ ys) (cond b (y ∷ put order x ys) (x ∷ y ∷ ys))) [
      | true ↦ IsPermutation-trans (x ∷ y ∷ ys) (y ∷ x ∷ ys) (y ∷ put order x ys) (IsPermutation-middle (x ∷ []) y ys)
          (IsPermutation-cons y (x ∷ ys) (put order x ys) (same-put order x ys))
      | false ↦ IsPermutation-refl (x ∷ y ∷ ys)
    ]

pub same-arranged : (order : ℕ → ℕ → Ordering) (xs : List ℕ) → IsPermutation xs (arranged order xs)
same-arranged order [] = IsPermutation-refl []
same-arranged order (x ∷ xs) =
    IsPermutation-trans (x ∷ xs) (x ∷ arranged order xs) (put order x (arranged order xs))
    (IsPermutation-cons x xs (arranged order xs) (same-arranged order xs)) (same-put order x (arranged order xs))

rise_from_climbs : (order : ℕ → ℕ → Ordering) (xs : List ℕ) → Climbs order xs → Rise order xs
rise_from_climbs order [] climbs = λ i j d before there. absurd (omega arith)
rise_from_climbs order (x ∷ xs) climbs =
    AllPairs-cons (λ row later. is_lt (order later row) ≡ false) x xs
    (All-from_recursion (λ later. is_lt (order later x) ≡ false) xs climbs.0)
    (rise_from_climbs order xs climbs.1)

-- numbers in order stand in order, and no other list of them does
pub arranged-in_order : {order : ℕ → ℕ → Ordering} → IsTotalOrder order → (xs : List ℕ) → IsInOrder order xs (arranged order xs)
arranged-in_order {order} total xs = record {
  same = same-arranged order xs;
  rises = rise_from_climbs order (arranged order xs) (climbs-arranged total xs);
}
