-- Of two faults the sooner one is told, in whatever order they are found.
use Rattle.std.proofs.Common.{◌≡◌, ℕ, ◌==◌, Bool, true, false, List, [], ◌∷◌, ◌++◌, Option, Some, None, if◌then◌else◌, refl, sym, ap, ◌∙◌, arith, append-nil}
use Rattle.std.proofs.lemmas.Bool.Decides.{nat_tests}
use Rattle.std.proofs.lemmas.List.Concat.{flat_map-append}
use Rattle.std.specs.List.{flat_map}
use Rattle.sa_query.specs.declared.refusal.ResolveKind.{ResolveKind}
use Rattle.sa_query.specs.declared.refusal.ResolveKind.TheVariants.{UnknownTable, UnknownColumn, Ambiguous, DuplicateAlias, TypeMismatch, ExprRange, GroupRule, TooManyTables, TooManyItems, TooManyConstants}
use Rattle.sa_resolve.specs.Fault.{Fault, comes_first, least, rank}
use Rattle.sa_resolve.specs.inner.Least.{sooner}
use Rattle.sa_resolve.proofs.LeastLemmas.{least-append, sooner-assoc}

-- the kind that stands there in the list of kinds
kind_of_rank : ℕ → ResolveKind
kind_of_rank n =
    if n == 0 then UnknownTable
    else if n == 1 then UnknownColumn
    else if n == 2 then Ambiguous
    else if n == 3 then DuplicateAlias
    else if n == 4 then TypeMismatch
    else if n == 5 then ExprRange
    else if n == 6 then GroupRule
    else if n == 7 then TooManyTables
    else if n == 8 then TooManyItems
    else TooManyConstants

ranked : (kind : ResolveKind) → kind_of_rank (rank kind) ≡ kind
unfolding kind_of_rank
ranked UnknownTable = refl
ranked UnknownColumn = refl
ranked Ambiguous = refl
ranked DuplicateAlias = refl
ranked TypeMismatch = refl
ranked ExprRange = refl
ranked GroupRule = refl
ranked TooManyTables = refl
ranked TooManyItems = refl
ranked TooManyConstants = refl

same_kind : (one other : ResolveKind) → rank one ≡ rank other → one ≡ other
same_kind one other same = sym (ranked one) ∙ ap kind_of_rank same ∙ ranked other

made : (kind : ResolveKind) (place : ℕ) → Fault
made kind place = record { kind = kind; place = place }

same_fault : (x y : Fault) → x.kind ≡ y.kind → x.place ≡ y.place → x ≡ y
unfolding made
same_fault x y kinds places =
    ap (λ kind. made kind x.place) kinds ∙ ap (λ place. made y.kind place) places

both_first : (x y : Fault) → comes_first x y ≡ true → comes_first y x ≡ true → x ≡ y
both_first x y one other =
    let ranks : rank x.kind ≡ rank y.kind = grind (arith, nat_tests) in
    let places : x.place ≡ y.place = grind (arith, nat_tests) in
    same_fault x y (same_kind x.kind y.kind ranks) places

one_first : (x y : Fault) → comes_first x y ≡ false → comes_first y x ≡ true
one_first x y behind = grind (arith, nat_tests)

sooner-comm_by : (x y : Fault) (p q : Bool) → comes_first x y ≡ p → comes_first y x ≡ q
    → (p ≡ true → q ≡ true → x ≡ y) → (p ≡ false → q ≡ true)
    → sooner (Some x) (Some y) ≡ sooner (Some y) (Some x)
sooner-comm_by x y true true xy yx both one = rw (xy, yx) (ap (λ fault. Some fault) (both refl refl))
sooner-comm_by x y true false xy yx both one = rw (xy, yx) refl
sooner-comm_by x y false true xy yx both one = rw (xy, yx) refl
sooner-comm_by x y false false xy yx both one = let other : false ≡ true = one refl in cc

pub sooner-comm : (x y : Option Fault) → sooner x y ≡ sooner y x
sooner-comm None None = refl
sooner-comm None (Some y) = refl
sooner-comm (Some x) None = refl
sooner-comm (Some x) (Some y) =
    sooner-comm_by x y (comes_first x y) (comes_first y x) refl refl (both_first x y) (one_first x y)

-- what stands between two others may be told last
pub sooner-swap : (x y z : Option Fault) → sooner (sooner x y) z ≡ sooner (sooner x z) y
sooner-swap x y z =
    sooner-assoc x y z ∙ ap (sooner x) (sooner-comm y z) ∙ sym (sooner-assoc x z y)

-- the least fault of a list, of one member more
pub least-push : {A : Type 0} (f : A → List Fault) (xs : List A) (x : A)
    → least (flat_map f (xs ++ x ∷ [])) ≡ sooner (least (flat_map f xs)) (least (f x))
least-push f xs x =
    ap least (flat_map-append f xs (x ∷ []))
    ∙ least-append (flat_map f xs) (f x ++ [])
    ∙ ap (λ faults. sooner (least (flat_map f xs)) (least faults)) (append-nil (f x))

-- Two lists of faults that grow: what comes to each may be told in turn.
pub least-both : (a b more other : List Fault) (fault : Option Fault) → fault ≡ least (a ++ b)
    → sooner (sooner fault (least more)) (least other) ≡ least ((a ++ more) ++ (b ++ other))
least-both a b more other fault is =
    ap (λ one. sooner (sooner one (least more)) (least other)) (is ∙ least-append a b)
    ∙ ap (λ one. sooner one (least other)) (sooner-swap (least a) (least b) (least more))
    ∙ sooner-assoc (sooner (least a) (least more)) (least b) (least other)
    ∙ ap (λ one. sooner one (sooner (least b) (least other))) (sym (least-append a more))
    ∙ ap (sooner (least (a ++ more))) (sym (least-append b other))
    ∙ sym (least-append (a ++ more) (b ++ other))

-- Of three lists the second may be told last.
pub least-three : (a b c : List Fault)
    → sooner (least (a ++ c)) (least b) ≡ least (a ++ (b ++ c))
least-three a b c =
    ap (λ one. sooner one (least b)) (least-append a c)
    ∙ sooner-assoc (least a) (least c) (least b)
    ∙ ap (sooner (least a)) (sooner-comm (least c) (least b) ∙ sym (least-append b c))
    ∙ sym (least-append a (b ++ c))
