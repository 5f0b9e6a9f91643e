-- The first literal too many, sought one expression after another.
use Rattle.std.proofs.Common.{◌≡◌, ℕ, suc, zero, ◌+◌, ◌-◌, ◌<◌, ◌≤◌, List, [], ◌∷◌, ◌++◌, length, get_or, map, drop, true, Option, Some, None, option_map, refl, sym, ap, ◌∙◌, arith}
use Rattle.std.proofs.lemmas.List.{at_drop_more, at_drop_all}
use Rattle.std.proofs.lemmas.Option.{slice_get-map, slice_get_past, slice_get_read}
use Rattle.std.specs.List.{flat_map, slice_get}
use Rattle.sa_query.specs.declared.refusal.ResolveKind.{ResolveKind}
use Rattle.sa_resolve.specs.declared.look.Looked.{Looked}
use Rattle.sa_resolve.specs.Fault.{Fault, fault_at, least, told}
use Rattle.sa_resolve.specs.Faults.{too_many}
use Rattle.sa_resolve.specs.Reading.{Reading}
use Rattle.sa_resolve.specs.inner.Judging.{literals_at}
use Rattle.sa_resolve.specs.inner.Knowing.{AreLooked}

-- behind a list there is what stands so much farther in the next
slice_get-behind : {A : Type 0} (xs ys : List A) (n : ℕ) → length xs ≤ n → slice_get (xs ++ ys) n ≡ slice_get ys (n - length xs)
slice_get-behind [] ys n past = let same : n - 0 ≡ n = omega arith in ap (slice_get ys) (sym same)
slice_get-behind (x ∷ xs) ys zero past = absurd (omega arith)
slice_get-behind (x ∷ xs) ys (suc n) past =
    let rest : suc n - suc (length xs) ≡ n - length xs = omega arith in
    slice_get-behind xs ys n (omega arith) ∙ ap (slice_get ys) (sym rest)

slice_get-before : {A : Type 0} (xs ys : List A) (n : ℕ) (x : A) → slice_get xs n ≡ Some x → slice_get (xs ++ ys) n ≡ Some x
slice_get-before [] ys n x is = cc
slice_get-before (y ∷ xs) ys zero x is = is
slice_get-before (y ∷ xs) ys (suc n) x is = slice_get-before xs ys n x is

-- where there is none the list ends before
pub none_past : {A : Type 0} (xs : List A) (n : ℕ) → None ≡ slice_get xs n → length xs ≤ n
none_past [] n is = omega arith
none_past (x ∷ xs) zero is = let no : None ≡ Some x = is in cc
none_past (x ∷ xs) (suc n) is = let rest : length xs ≤ n = none_past xs n is in omega arith

module _ (looked : List Looked) (i left : ℕ) (x : Looked) (place : Option ℕ) (within : i < length looked) (is : x ≡ get_or looked i x)
    (before : slice_get (flat_map literals_at (drop i looked)) left ≡ place) where
  here : slice_get (x.literals.items ++ flat_map literals_at (drop (i + 1) looked)) left ≡ place
  here =
      ap (λ (one : Looked). slice_get (literals_at one ++ flat_map literals_at (drop (i + 1) looked)) left) is
      ∙ sym (at_drop_more (λ (rest : List Looked). slice_get (flat_map literals_at rest) left) looked i x within)
      ∙ before

  -- it is none of this expression
  pub literal_behind : length x.literals.items ≤ left
      → slice_get (flat_map literals_at (drop (i + 1) looked)) (left - length x.literals.items) ≡ place
  literal_behind past =
      sym (slice_get-behind x.literals.items (flat_map literals_at (drop (i + 1) looked)) left past) ∙ here

  -- it is one of this expression
  pub literal_here : (at : ℕ) → slice_get x.literals.items left ≡ Some at → place ≡ Some at
  literal_here at found =
      sym here ∙ slice_get-before x.literals.items (flat_map literals_at (drop (i + 1) looked)) left at found

-- there is none
pub no_literal : (looked : List Looked) (i left : ℕ) (place : Option ℕ) → length looked ≤ i
    → slice_get (flat_map literals_at (drop i looked)) left ≡ place → place ≡ None
no_literal looked i left place end before =
    sym before ∙ at_drop_all (λ (rest : List Looked). slice_get (flat_map literals_at rest) left) looked i end

pub same_literals : (looked : List Looked) (ones : List Reading) → AreLooked looked ones
    → flat_map literals_at looked ≡ flat_map (λ (one : Reading). one.literals) ones
same_literals [] [] are = refl
same_literals [] (one ∷ ones) are = absurd are
same_literals (x ∷ looked) [] are = absurd are
same_literals (x ∷ looked) (one ∷ ones) are =
    ap (λ (first : List ℕ). first ++ flat_map literals_at looked) are.0.literals
    ∙ ap (λ (rest : List ℕ). one.literals ++ rest) (same_literals looked ones are.1)

many_by : (kind : ResolveKind) (limit : ℕ) (places : List ℕ) (place : Option ℕ) → slice_get places limit ≡ place
    → least (too_many kind limit places) ≡ option_map (fault_at kind) place
many_by kind limit places None is = rw is refl
many_by kind limit places (Some place) is = rw is refl

-- what is told of the place past the limit, if there is one
pub least-many : (kind : ResolveKind) (limit : ℕ) (places : List ℕ)
    → least (too_many kind limit places) ≡ option_map (fault_at kind) (slice_get places limit)
least-many kind limit places = many_by kind limit places (slice_get places limit) refl

-- there are no more than the limit allows
pub many_none : {A : Type 0} (place : A → ℕ) (kind : ResolveKind) (limit : ℕ) (trees : List A) → length trees ≤ limit
    → None ≡ least (too_many kind limit (map place trees))
many_none place kind limit trees few =
    sym (least-many kind limit (map place trees)
    ∙ ap (option_map (fault_at kind)) (slice_get-map place trees limit ∙ ap (option_map place) (slice_get_past trees limit few)))

-- this is the first too many
pub many_some : {A : Type 0} (place : A → ℕ) (kind : ResolveKind) (limit : ℕ) (trees : List A) (x : A) (result : Option Fault)
    → limit < length trees → x ≡ get_or trees limit x → result ≡ least (told true kind (place x))
    → result ≡ least (too_many kind limit (map place trees))
many_some place kind limit trees x result within at is =
    is
    ∙ sym (least-many kind limit (map place trees)
    ∙ ap (option_map (fault_at kind)) (slice_get-map place trees limit
    ∙ ap (option_map place) (slice_get_read trees (length trees) limit x refl within at)))

-- what is told of the literal at a place among those of all, or of none
pub literal_told : (kind : ResolveKind) (looked : List Looked) (ones : List Reading) (found : Option ℕ) (result : Option Fault) → AreLooked looked ones
    → slice_get (flat_map literals_at looked) 1024 ≡ found → result ≡ option_map (fault_at kind) found
    → result ≡ least (too_many kind 1024 (flat_map (λ (one : Reading). one.literals) ones))
literal_told kind looked ones found result are found_is is =
    is
    ∙ ap (option_map (fault_at kind)) (sym found_is)
    ∙ ap (λ (places : List ℕ). option_map (fault_at kind) (slice_get places 1024)) (same_literals looked ones are)
    ∙ sym (least-many kind 1024 (flat_map (λ (one : Reading). one.literals) ones))
