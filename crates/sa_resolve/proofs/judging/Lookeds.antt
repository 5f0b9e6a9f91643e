-- What is kept of several expressions, one by one.
use Rattle.std.proofs.Common.{◌≡◌, ℕ, suc, zero, ◌+◌, ◌<◌, List, [], ◌∷◌, ◌++◌, length, get_or, take, Option, Some, append-nil, refl, sym, ap, subst, ◌∙◌, arith}
use Rattle.std.proofs.lemmas.List.{take_more}
use Rattle.std.proofs.lemmas.List.Concat.{flat_map-append}
use Rattle.std.proofs.lemmas.Option.{slice_get_within, get_or_from_slice_get}
use Rattle.std.specs.List.{flat_map, slice_get}
use Rattle.sa_resolve.specs.declared.look.Looked.{Looked}
use Rattle.sa_resolve.specs.Fault.{Fault, least}
use Rattle.sa_resolve.specs.Reading.{Reading}
use Rattle.sa_resolve.specs.inner.Knowing.{AreLooked}
use Rattle.sa_resolve.specs.inner.Least.{sooner}
use Rattle.sa_resolve.specs.inner.Looking.{IsLooked}
use Rattle.sa_resolve.proofs.LeastLemmas.{least-append, sooner-assoc}

pub AreLooked-append : (looked others : List Looked) (ones more : List Reading) → AreLooked looked ones → AreLooked others more
    → AreLooked (looked ++ others) (ones ++ more)
AreLooked-append [] others [] more first second = second
AreLooked-append [] others (one ∷ ones) more first second = absurd first
AreLooked-append (x ∷ looked) others [] more first second = absurd first
AreLooked-append (x ∷ looked) others (one ∷ ones) more first second =
    (first.0, AreLooked-append looked others ones more first.1 second)

pub AreLooked-push : (looked : List Looked) (x : Looked) (ones : List Reading) (one : Reading) → AreLooked looked ones → IsLooked x one
    → AreLooked (looked ++ x ∷ []) (ones ++ one ∷ [])
AreLooked-push looked x ones one first second =
    AreLooked-append looked (x ∷ []) ones (one ∷ []) first (second, tt)

pub looked_length : (looked : List Looked) (ones : List Reading) → AreLooked looked ones → length looked ≡ length ones
looked_length [] [] are = refl
looked_length [] (one ∷ ones) are = absurd are
looked_length (x ∷ looked) [] are = absurd are
looked_length (x ∷ looked) (one ∷ ones) are = ap suc (looked_length looked ones are.1)

-- the expression at a place
pub looked_at : (looked : List Looked) (ones : List Reading) (i : ℕ) (x : Looked) → AreLooked looked ones → i < length looked → x ≡ get_or looked i x
    → (one : Reading) × (slice_get ones i ≡ Some one) × IsLooked x one
looked_at [] ones i x are within is = absurd (omega arith)
looked_at (y ∷ looked) [] i x are within is = absurd are
looked_at (y ∷ looked) (one ∷ ones) zero x are within is =
    (one, refl, subst (λ (z : Looked). IsLooked z one) (sym is) are.0)
looked_at (y ∷ looked) (one ∷ ones) (suc i) x are within is =
    looked_at looked ones i x are.1 (omega arith) is

take_turn : {A : Type 0} (xs : List A) (i : ℕ) (x : A) → slice_get xs i ≡ Some x → take (i + 1) xs ≡ take i xs ++ x ∷ []
take_turn xs i x is =
    take_more xs i x (slice_get_within xs i x is)
    ∙ ap (λ last. take i xs ++ last ∷ []) (get_or_from_slice_get xs i x x is)

least_turn : {A : Type 0} (f : A → List Fault) (xs : List A) (i : ℕ) (x : A) → slice_get xs i ≡ Some x
    → least (flat_map f (take (i + 1) xs)) ≡ sooner (least (flat_map f (take i xs))) (least (f x))
least_turn f xs i x is =
    ap (λ ys. least (flat_map f ys)) (take_turn xs i x is)
    ∙ ap least (flat_map-append f (take i xs) (x ∷ []))
    ∙ least-append (flat_map f (take i xs)) (f x ++ [])
    ∙ ap (λ last. sooner (least (flat_map f (take i xs))) (least last)) (append-nil (f x))

-- one turn of a loop that keeps the fault of so many of a list
pub fault_turn : {A : Type 0} (f : A → List Fault) (xs : List A) (i : ℕ) (x : A) (first fault own next : Option Fault) → slice_get xs i ≡ Some x
    → fault ≡ sooner first (least (flat_map f (take i xs))) → own ≡ least (f x) → next ≡ sooner fault own
    → next ≡ sooner first (least (flat_map f (take (i + 1) xs)))
fault_turn f xs i x first fault own next is before own_is next_is =
    next_is
    ∙ ap (λ one. sooner one own) before
    ∙ ap (sooner (sooner first (least (flat_map f (take i xs))))) own_is
    ∙ sooner-assoc first (least (flat_map f (take i xs))) (least (f x))
    ∙ ap (sooner first) (sym (least_turn f xs i x is))
