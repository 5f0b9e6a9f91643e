-- The order in which faults are told is of no matter: the sooner of two is the same either way.
use Rattle.std.proofs.Common.{◌≡◌, ℕ, Bool, true, false, ◌==◌, List, [], ◌∷◌, ◌++◌, Option, Some, None, if◌then◌else◌, refl, sym, ap, ◌∙◌, arith}
use Rattle.std.proofs.lemmas.Bool.Decides.{nat_tests}
use Rattle.std.specs.List.{flat_map}
use Rattle.sa_query.specs.declared.refusal.ResolveKind.{ResolveKind}
use Rattle.sa_query.specs.declared.refusal.ResolveKind.TheVariants.{UnknownTable, UnknownColumn, Ambiguous, DuplicateAlias, TypeMismatch, ExprRange, GroupRule, TooManyTables, TooManyItems, TooManyConstants}
use Rattle.sa_resolve.specs.Fault.{Fault, comes_first, earlier, fault_at, least, rank}
use Rattle.sa_resolve.specs.inner.Least.{sooner}
use Rattle.sa_resolve.proofs.LeastLemmas.{least-append, sooner-assoc, sooner-none}

-- the kind at this place in the list of kinds
kind_at_rank : ℕ → ResolveKind
kind_at_rank n =
    if n == 0 then UnknownTable else (if n == 1 then UnknownColumn else (if n == 2 then Ambiguous else
    (if n == 3 then DuplicateAlias else (if n == 4 then TypeMismatch else (if n == 5 then ExprRange else
    (if n == 6 then GroupRule else (if n == 7 then TooManyTables else (if n == 8 then TooManyItems else
    TooManyConstants))))))))

kind_of_rank : (kind : ResolveKind) → kind_at_rank (rank kind) ≡ kind
unfolding kind_at_rank
kind_of_rank UnknownTable = refl
kind_of_rank UnknownColumn = refl
kind_of_rank Ambiguous = refl
kind_of_rank DuplicateAlias = refl
kind_of_rank TypeMismatch = refl
kind_of_rank ExprRange = refl
kind_of_rank GroupRule = refl
kind_of_rank TooManyTables = refl
kind_of_rank TooManyItems = refl
kind_of_rank TooManyConstants = refl

-- two kinds at one place are the same
same_kind : (x y : ResolveKind) → rank x ≡ rank y → x ≡ y
same_kind x y same = sym (kind_of_rank x) ∙ ap kind_at_rank same ∙ kind_of_rank y

same_fault : (x y : Fault) → x.place ≡ y.place → rank x.kind ≡ rank y.kind → x ≡ y
same_fault x y place kind =
    ap (λ (at : ℕ). fault_at x.kind at) place ∙ ap (λ (is : ResolveKind). fault_at is y.place) (same_kind x.kind y.kind kind)

module _ (x y : Fault) where
  both_places : comes_first x y ≡ true → comes_first y x ≡ true → x.place ≡ y.place
  both_places one other = grind (arith, nat_tests)

  both_ranks : comes_first x y ≡ true → comes_first y x ≡ true → rank x.kind ≡ rank y.kind
  both_ranks one other = grind (arith, nat_tests)

  one_first : comes_first x y ≡ false → comes_first y x ≡ true
  one_first other = grind (arith, nat_tests)

  both_ways : (p q : Bool) → comes_first x y ≡ p → comes_first y x ≡ q
      → earlier x (Some y) ≡ earlier y (Some x)
  both_ways true true xy yx = rw (xy, yx) (ap (λ fault. Some fault) (same_fault x y (both_places xy yx) (both_ranks xy yx)))
  both_ways true false xy yx = rw (xy, yx) refl
  both_ways false true xy yx = rw (xy, yx) refl
  both_ways false false xy yx = let other : comes_first y x ≡ true = one_first xy in cc

pub sooner-comm : (x y : Option Fault) → sooner x y ≡ sooner y x
sooner-comm None y = sym (sooner-none y)
sooner-comm (Some x) None = refl
sooner-comm (Some x) (Some y) = both_ways x y (comes_first x y) (comes_first y x) refl refl

-- the middle two of four change places
pub sooner-swap : (a b c d : Option Fault)
    → sooner (sooner a b) (sooner c d) ≡ sooner (sooner a c) (sooner b d)
sooner-swap a b c d =
    sooner-assoc a b (sooner c d)
    ∙ ap (sooner a) (sym (sooner-assoc b c d) ∙ ap (λ first. sooner first d) (sooner-comm b c) ∙ sooner-assoc c b d)
    ∙ sym (sooner-assoc a c (sooner b d))

-- the faults of two kinds of each of a list
pub least-both : {A : Type 0} (f g : A → List Fault) (xs : List A)
    → least (flat_map (λ x. f x ++ g x) xs) ≡ sooner (least (flat_map f xs)) (least (flat_map g xs))
least-both f g [] = refl
least-both f g (x ∷ xs) =
    least-append (f x ++ g x) (flat_map (λ x. f x ++ g x) xs)
    ∙ ap (λ first. sooner first (least (flat_map (λ x. f x ++ g x) xs))) (least-append (f x) (g x))
    ∙ ap (sooner (sooner (least (f x)) (least (g x)))) (least-both f g xs)
    ∙ sooner-swap (least (f x)) (least (g x)) (least (flat_map f xs)) (least (flat_map g xs))
    ∙ ap (λ first. sooner first (sooner (least (g x)) (least (flat_map g xs)))) (sym (least-append (f x) (flat_map f xs)))
    ∙ ap (sooner (least (f x ++ flat_map f xs))) (sym (least-append (g x) (flat_map g xs)))

-- where nothing is told there is nothing
pub none_least : (faults : List Fault) → least faults ≡ None → faults ≡ []
none_least [] is = refl
none_least (fault ∷ faults) is = some_earlier fault (least faults) is
  where
    some_earlier : (fault : Fault) (other : Option Fault) → earlier fault other ≡ None → fault ∷ faults ≡ []
    some_earlier fault None is = cc
    some_earlier fault (Some other) is = cc
