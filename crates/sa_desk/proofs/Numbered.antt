-- Entries in the order of their numbers, found by filters in longer lists.
use Rattle.std.proofs.Common.{◌≡◌, ◌≢◌, ℕ, zero, suc, ◌+◌, ◌<◌, ◌≤◌, Bool, true, false, inl, inr, List, [], ◌∷◌, ◌++◌, length, map, filter, All, refl, sym, ap, ap₂, ◌∙◌, arith, eqb, append-nil, length-append}
use Rattle.std.specs.List.{flat_map, range_with_len}
use Rattle.std.proofs.lemmas.Grind.{common_steps}
use Rattle.std.proofs.lemmas.Bool.{cases_Bool, eq-eqb, ne_eqb}
use Rattle.std.proofs.lemmas.List.{map-append}
use Rattle.std.proofs.lemmas.List.Elements.{All-head, All-tail, filter-append}
use Rattle.sa_desk.specs.declared.entry.Entry.{Entry}
use Rattle.sa_desk.specs.Plain.{is_numbered}

-- A filter that none passes, and one that all pass.
pub filter-nothing : {X : Type 0} (p : X → Bool) (xs : List X) → All (λ x. p x ≡ false) xs → filter p xs ≡ []
filter-nothing p [] all = refl
filter-nothing p (x ∷ xs) all = rw (All-head (λ x. p x ≡ false) x xs all) (filter-nothing p xs (All-tail (λ x. p x ≡ false) x xs all))

pub filter-everything : {X : Type 0} (p : X → Bool) (xs : List X) → All (λ x. p x ≡ true) xs → filter p xs ≡ xs
filter-everything p [] all = refl
filter-everything p (x ∷ xs) all = rw (All-head (λ x. p x ≡ true) x xs all) (ap (λ more. x ∷ more) (filter-everything p xs (All-tail (λ x. p x ≡ true) x xs all)))

-- What the second filter leaves out, the first would leave out too.
pub filter-finer : {X : Type 0} (p q : X → Bool) → ((x : X) → q x ≡ false → p x ≡ false) → (xs : List X) → filter p (filter q xs) ≡ filter p xs
filter-finer p q finer [] = refl
filter-finer p q finer (x ∷ xs) =
    let rest = filter-finer p q finer xs in
    elim (cases_Bool (q x)) [
      | inl here ↦ rw (here, rest) refl
      | inr here ↦ rw (here, finer x here) rest
    ]

-- What has none of a kind has none of it after another filter.
pub filter-none_left : {X : Type 0} (p q : X → Bool) (xs : List X) → filter p xs ≡ [] → filter p (filter q xs) ≡ []
filter-none_left p q [] none = refl
filter-none_left p q (x ∷ xs) none =
    elim (cases_Bool (p x)) [
      | inl here ↦ let some : filter p (x ∷ xs) ≡ x ∷ filter p xs = rw here refl in absurd (cc (some, none))
      | inr here ↦
          let rest : filter p (filter q xs) ≡ [] = filter-none_left p q xs (rw here at none) in
          elim (cases_Bool (q x)) [
            | inl kept ↦ rw (kept, here) rest
            | inr left ↦ rw left rest
          ]
    ]

-- A list that joins two is empty where both are.
pub append-none : {X : Type 0} (xs ys : List X) → xs ++ ys ≡ [] → (xs ≡ []) × (ys ≡ [])
append-none [] ys none = (refl, none)
append-none (x ∷ xs) ys none = absurd (cc none)

-- One list is another with more elements at some index.
pub record Inserted {X : Type 0} (more before later : List X) : Type 0 where
  pub first : List X
  pub last : List X
  pub before_is : before ≡ first ++ last
  pub later_is : later ≡ first ++ (more ++ last)

module _ {X : Type 0} (p : X → Bool) (more before later : List X) (inserted : Inserted more before later) where
  filter-before : filter p before ≡ filter p inserted.first ++ filter p inserted.last
  filter-before = ap (filter p) inserted.before_is ∙ filter-append p inserted.first inserted.last

  filter-later : filter p later ≡ filter p inserted.first ++ (filter p more ++ filter p inserted.last)
  filter-later =
      ap (filter p) inserted.later_is ∙ filter-append p inserted.first (more ++ inserted.last)
      ∙ ap (λ rest. filter p inserted.first ++ rest) (filter-append p more inserted.last)

  -- Where none of the new elements pass, all is as before. Where none did before, the new ones alone pass.
  pub filter-unchanged : filter p more ≡ [] → filter p later ≡ filter p before
  filter-unchanged none = filter-later ∙ ap (λ new. filter p inserted.first ++ (new ++ filter p inserted.last)) none ∙ sym filter-before

  pub filter-new : filter p before ≡ [] → filter p later ≡ filter p more
  filter-new none =
      let parts = append-none (filter p inserted.first) (filter p inserted.last) (sym filter-before ∙ none) in
      filter-later ∙ ap₂ (λ first last. first ++ (filter p more ++ last)) parts.0 parts.1 ∙ append-nil (filter p more)

pub length-inserted : {X : Type 0} (more before later : List X) → Inserted more before later → length later ≡ length before + length more
length-inserted more before later inserted =
    let old = ap length inserted.before_is ∙ length-append inserted.first inserted.last in
    let new = ap length inserted.later_is ∙ length-append inserted.first (more ++ inserted.last) in
    omega (arith, old, new, length-append more inserted.last)

-- Numbers in a row, in two parts.
pub range-append : (a m k : ℕ) → range_with_len a (m + k) ≡ range_with_len a m ++ range_with_len (a + m) k
range-append a zero k =
    let same : 0 + k ≡ k = omega arith in
    let first : a + 0 ≡ a = omega arith in
    ap₂ (λ from count. range_with_len from count) (sym first) same
range-append a (suc m) k =
    let more : suc m + k ≡ suc (m + k) = omega arith in
    let next : a + 1 + m ≡ a + suc m = omega arith in
    rw more (ap (λ rest. a ∷ rest) (range-append (a + 1) m k ∙ ap (λ from. range_with_len (a + 1) m ++ range_with_len from k) next))

-- What two functions give of numbers in a row is the same where it is for each of them.
pub flat_map-same : {X : Type 0} (f g : ℕ → List X) (a k : ℕ) → ((n : ℕ) → a ≤ n → n < a + k → f n ≡ g n) → flat_map f (range_with_len a k) ≡ flat_map g (range_with_len a k)
flat_map-same f g a zero same = refl
flat_map-same f g a (suc k) same =
    ap₂ ◌++◌ (same a (omega arith) (omega arith)) (flat_map-same f g (a + 1) k (λ n least most. same n (omega arith) (omega arith)))

pub flat_map-nothing : {X : Type 0} (f : ℕ → List X) (a k : ℕ) → ((n : ℕ) → f n ≡ []) → flat_map f (range_with_len a k) ≡ []
flat_map-nothing f a zero none = refl
flat_map-nothing f a (suc k) none = ap₂ ◌++◌ (none a) (flat_map-nothing f (a + 1) k none)

-- the numbers of entries
abbrev pub numbers_of : List Entry → List ℕ
numbers_of entries = map (λ entry. entry.seq) entries

-- The entries are numbered in a row, from this number on.
abbrev pub AreNumbered : ℕ → List Entry → Type 0
AreNumbered start entries = numbers_of entries ≡ range_with_len start (length entries)

AreNumbered-parts : (start : ℕ) (entry : Entry) (rest : List Entry) → AreNumbered start (entry ∷ rest) → (entry.seq ≡ start) × AreNumbered (start + 1) rest
AreNumbered-parts start entry rest numbered =
    let whole : entry.seq ∷ numbers_of rest ≡ start ∷ range_with_len (start + 1) (length rest) = numbered in
    (cc whole, cc whole)

-- Those of two parts, one after the other.
pub AreNumbered-append : (start : ℕ) (first last : List Entry) → AreNumbered start first → AreNumbered (start + length first) last → AreNumbered start (first ++ last)
AreNumbered-append start first last before next =
    map-append (λ entry. entry.seq) first last ∙ ap₂ ◌++◌ before next
    ∙ sym (range-append start (length first) (length last)) ∙ ap (range_with_len start) (sym (length-append first last))

-- A number outside isn't that of any of them.
pub none_numbered : (session n start : ℕ) (entries : List Entry) → AreNumbered start entries → ((k : ℕ) → start ≤ k → k < start + length entries → k ≢ n) → filter (is_numbered session n) entries ≡ []
none_numbered session n start [] numbered outside = refl
none_numbered session n start (entry ∷ rest) numbered outside =
    let parts = AreNumbered-parts start entry rest numbered in
    let other : eqb entry.seq n ≡ false = ne_eqb entry.seq n (λ same. outside start (omega arith) (omega arith) (sym parts.0 ∙ same)) in
    let later = none_numbered session n (start + 1) rest parts.1 (λ k least most. outside k (omega arith) (omega arith)) in
    let fails : is_numbered session n entry ≡ false = grind (arith, common_steps) in
    rw fails later

-- Each number finds its own entry, so all together find all.
pub each_numbered : (session start : ℕ) (entries : List Entry) → All (λ entry. entry.actor ≡ session) entries → AreNumbered start entries
    → flat_map (λ n. filter (is_numbered session n) entries) (range_with_len start (length entries)) ≡ entries
each_numbered session start [] all numbered = refl
each_numbered session start (entry ∷ rest) all numbered =
    let parts = AreNumbered-parts start entry rest numbered in
    let by : eqb entry.actor session ≡ true = eq-eqb entry.actor session (All-head (λ entry. entry.actor ≡ session) entry rest all) in
    let its : eqb entry.seq start ≡ true = eq-eqb entry.seq start parts.0 in
    let passes : is_numbered session start entry ≡ true = grind (arith, common_steps) in
    let later = none_numbered session start (start + 1) rest parts.1 (λ k least most. omega arith) in
    let first : filter (is_numbered session start) (entry ∷ rest) ≡ entry ∷ [] = rw (passes, later) refl in
    let same : flat_map (λ n. filter (is_numbered session n) (entry ∷ rest)) (range_with_len (start + 1) (length rest)) ≡ flat_map (λ n. filter (is_numbered session n) rest) (range_with_len (start + 1) (length rest)) =
    flat_map-same _ _ (start + 1) (length rest) (λ n least most.
    let other : eqb entry.seq n ≡ false = ne_eqb entry.seq n (λ is. absurd (omega arith)) in
    let fails : is_numbered session n entry ≡ false = grind (arith, common_steps) in
    rw fails refl) in
    let rests = each_numbered session (start + 1) rest (All-tail (λ entry. entry.actor ≡ session) entry rest all) parts.1 in
    ap₂ ◌++◌ first (same ∙ rests)
