-- The item of a select list that is one too many.
use Rattle.std.proofs.Common.{◌≡◌, ℕ, zero, suc, ◌+◌, ◌&&◌, Bool, true, false, List, [], ◌∷◌, ◌++◌, map, length, replicate, Option, Some, None, if◌then◌else◌, refl, sym, ap, ◌∙◌, arith}
use Rattle.std.proofs.lemmas.Bool.Decides.{nat_tests}
use Rattle.std.specs.Prelude.{nat_lt, nat_le, slice_get}
use Rattle.sa_query.specs.declared.refusal.ResolveKind.{ResolveKind}
use Rattle.sa_resolve.specs.Fault.{Fault, fault_at, told}
use Rattle.sa_resolve.specs.Faults.{too_many}

one_told : ResolveKind → Option ℕ → List Fault
one_told kind None = []
one_told kind (Some place) = fault_at kind place ∷ []

too_many-told : (kind : ResolveKind) (limit : ℕ) (places : List ℕ)
    → too_many kind limit places ≡ one_told kind (slice_get places limit)
unfolding one_told
too_many-told kind limit [] = refl
too_many-told kind zero (place ∷ places) = refl
too_many-told kind (suc limit) (place ∷ places) = too_many-told kind limit places

when : (stands : Bool) (place : ℕ) → Option ℕ
when stands place = if stands then Some place else None

told_when : (kind : ResolveKind) (stands : Bool) (place : ℕ)
    → one_told kind (when stands place) ≡ told stands kind place
unfolding one_told when
told_when kind true place = refl
told_when kind false place = refl

replicated : (count limit place : ℕ) → slice_get (replicate count place) limit
    ≡ when (nat_lt limit count) place
unfolding when
replicated zero limit place =
    let no : nat_lt limit 0 ≡ false = grind (arith, nat_tests) in rw no refl
replicated (suc count) zero place =
    let yes : nat_lt 0 (suc count) ≡ true = grind (arith, nat_tests) in rw yes refl
replicated (suc count) (suc limit) place =
    let same : nat_lt (suc limit) (suc count) ≡ nat_lt limit count = grind (arith, nat_tests) in
    replicated count limit place ∙ ap (λ stands. when stands place) (sym same)

-- Places more, which are all the same.
pub too_many_more : (kind : ResolveKind) (limit count place : ℕ) (places : List ℕ)
    → too_many kind limit (places ++ replicate count place)
    ≡ too_many kind limit places ++ told (nat_le (length places) limit && nat_lt limit
    (length places + count)) kind place
too_many_more kind limit count place [] =
    let first : nat_le 0 limit ≡ true = grind (arith, nat_tests) in
    let sum : 0 + count ≡ count = omega arith in
    too_many-told kind limit (replicate count place)
    ∙ ap (one_told kind) (replicated count limit place)
    ∙ told_when kind (nat_lt limit count) place
    ∙ ap (λ n. told (nat_lt limit n) kind place) (sym sum)
    ∙ ap (λ b. told (b && nat_lt limit (0 + count)) kind place) (sym first)
too_many_more kind zero count place (one ∷ places) =
    let past : nat_le (suc (length places)) 0 ≡ false = grind (arith, nat_tests) in
    ap (λ b. too_many kind 0 (one ∷ places) ++ told (b && nat_lt 0 (suc (length places) + count)) kind place)
    (sym past)
too_many_more kind (suc limit) count place (one ∷ places) =
    let le : nat_le (suc (length places)) (suc limit) ≡ nat_le (length places) limit = grind
    (arith, nat_tests) in
    let lt : nat_lt (suc limit) (suc (length places) + count) ≡ nat_lt limit (length places + count) = grind
    (arith, nat_tests) in
    too_many_more kind limit count place places
    ∙ ap (λ b. too_many kind limit places ++ told (b && nat_lt limit (length places + count)) kind place)
    (sym le)
    ∙ ap (λ b. too_many kind limit places ++ told (nat_le (suc (length places)) (suc limit) && b) kind place)
    (sym lt)

pub map_same : {A : Type 0} (f : A → ℕ) (place : ℕ) (xs : List A) → ((x : A) → f x ≡ place)
    → map f xs ≡ replicate (length xs) place
map_same f place [] same = refl
map_same f place (x ∷ xs) same =
    ap (λ y. y ∷ map f xs) (same x) ∙ ap (λ rest. place ∷ rest) (map_same f place xs same)
