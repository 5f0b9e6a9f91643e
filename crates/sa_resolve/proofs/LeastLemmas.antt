-- The least fault of two lists is the sooner one of the least of each.
use Rattle.std.proofs.Common.{◌≡◌, ℕ, min, nat_lt, nat_le, ◌==◌, Bool, true, false, ◌&&◌, ◌||◌, List, [], ◌∷◌, ◌++◌, map, Option, Some, None, option_map, if◌then◌else◌, refl, sym, ap, ◌∙◌, arith}
use Rattle.std.proofs.lemmas.Bool.Decides.{nat_tests}
use Rattle.sa_query.specs.declared.refusal.ResolveKind.{ResolveKind}
use Rattle.sa_resolve.specs.Fault.{Fault, fault_at, comes_first, rank, earlier, least}
use Rattle.sa_resolve.specs.inner.Least.{sooner, nearer, nearest}

comes_first-trans : (x y w : Fault) → comes_first x y ≡ true → comes_first y w ≡ true
    → comes_first x w ≡ true
comes_first-trans x y w one other = grind (arith, nat_tests)

comes_behind-trans : (x y w : Fault) → comes_first x y ≡ false → comes_first y w ≡ false
    → comes_first x w ≡ false
comes_behind-trans x y w one other = grind (arith, nat_tests)

-- the sooner one of three, by how they stand to one another
sooner_by : (x y w : Fault) (p q r : Bool) → comes_first x y ≡ p → comes_first y w ≡ q
    → comes_first x w ≡ r → (p ≡ true → q ≡ true → r ≡ true) → (p ≡ false → q ≡ false → r ≡ false)
    → earlier x (earlier y (Some w)) ≡ sooner (earlier x (Some y)) (Some w)
sooner_by x y w true true true xy yw xw first behind = rw (yw, xy, xw) refl
sooner_by x y w true true false xy yw xw first behind =
    let other : false ≡ true = first refl refl in cc
sooner_by x y w true false r xy yw xw first behind = rw (yw, xy) refl
sooner_by x y w false true r xy yw xw first behind = rw (yw, xy, yw) refl
sooner_by x y w false false false xy yw xw first behind = rw (yw, xy, xw, yw) refl
sooner_by x y w false false true xy yw xw first behind =
    let other : true ≡ false = behind refl refl in cc

earlier-sooner : (x y : Fault) (other : Option Fault)
    → earlier x (earlier y other) ≡ sooner (earlier x (Some y)) other
earlier-sooner x y None = refl
earlier-sooner x y (Some w) =
    sooner_by x y w (comes_first x y) (comes_first y w) (comes_first x w) refl refl refl
    (comes_first-trans x y w) (comes_behind-trans x y w)

earlier_least : (x : Fault) (least others : Option Fault)
    → earlier x (sooner least others) ≡ sooner (earlier x least) others
earlier_least x None others = refl
earlier_least x (Some y) others = earlier-sooner x y others

pub least-append : (xs ys : List Fault) → least (xs ++ ys) ≡ sooner (least xs) (least ys)
least-append [] ys = refl
least-append (x ∷ xs) ys =
    ap (earlier x) (least-append xs ys) ∙ earlier_least x (least xs) (least ys)

pub sooner-assoc : (x y z : Option Fault) → sooner (sooner x y) z ≡ sooner x (sooner y z)
sooner-assoc None y z = refl
sooner-assoc (Some x) y z = sym (earlier_least x y z)

pub sooner-none : (x : Option Fault) → sooner x None ≡ x
sooner-none None = refl
sooner-none (Some x) = refl

-- the least of five lists of faults, as a node's are written
pub least-five : (a b c d e : List Fault)
    → least (a ++ b ++ c ++ d ++ e)
    ≡ sooner (least a) (sooner (least b) (sooner (least c) (sooner (least d) (least e))))
least-five a b c d e =
    least-append (a ++ b ++ c ++ d) e
    ∙ ap (λ first. sooner first (least e)) (least-append (a ++ b ++ c) d)
    ∙ ap (λ first. sooner (sooner first (least d)) (least e)) (least-append (a ++ b) c)
    ∙ ap (λ first. sooner (sooner (sooner first (least c)) (least d)) (least e)) (least-append a b)
    ∙ sooner-assoc (sooner (sooner (least a) (least b)) (least c)) (least d) (least e)
    ∙ sooner-assoc (sooner (least a) (least b)) (least c) (sooner (least d) (least e))
    ∙ sooner-assoc (least a) (least b) (sooner (least c) (sooner (least d) (least e)))

nearer-assoc : (x y z : Option ℕ) → nearer (nearer x y) z ≡ nearer x (nearer y z)
nearer-assoc None y z = refl
nearer-assoc (Some x) None z = refl
nearer-assoc (Some x) (Some y) None = refl
nearer-assoc (Some x) (Some y) (Some z) =
    let one : min (min x y) z ≡ min x (min y z) = omega arith in ap (λ place. Some place) one

-- the first place of two lists is the first of the first places of each
pub nearest-append : (xs ys : List ℕ) → nearest (xs ++ ys) ≡ nearer (nearest xs) (nearest ys)
nearest-append [] ys = refl
nearest-append (x ∷ xs) ys =
    ap (nearer (Some x)) (nearest-append xs ys)
    ∙ sym (nearer-assoc (Some x) (nearest xs) (nearest ys))

-- the least fault of this kind at one of these places
lesser : (p q rank : ℕ) → (nat_lt p q || (p == q && nat_le rank rank)) ≡ true → p ≡ min p q
lesser p q rank is = grind (arith, nat_tests)

greater : (p q rank : ℕ) → (nat_lt p q || (p == q && nat_le rank rank)) ≡ false → q ≡ min p q
greater p q rank is = grind (arith, nat_tests)

first_by : (kind : ResolveKind) (p q : ℕ) (is_first : Bool)
    → comes_first (fault_at kind p) (fault_at kind q) ≡ is_first
    → (if is_first then fault_at kind p else fault_at kind q) ≡ fault_at kind (min p q)
first_by kind p q true is = ap (fault_at kind) (lesser p q (rank kind) is)
first_by kind p q false is = ap (fault_at kind) (greater p q (rank kind) is)

first_call : (kind : ResolveKind) (place : ℕ) (other : Option ℕ)
    → earlier (fault_at kind place) (option_map (fault_at kind) other)
    ≡ option_map (fault_at kind) (nearer (Some place) other)
first_call kind place None = refl
first_call kind place (Some other) =
    let one = first_by kind place other (comes_first (fault_at kind place) (fault_at kind other)) refl in
    ap (λ fault. Some fault) one

pub least-calls : (kind : ResolveKind) (places : List ℕ)
    → least (map (fault_at kind) places) ≡ option_map (fault_at kind) (nearest places)
least-calls kind [] = refl
least-calls kind (place ∷ places) =
    ap (earlier (fault_at kind place)) (least-calls kind places) ∙ first_call kind place (nearest places)
