-- The first of lists that are joined, as a loop goes over them.
use Rattle.std.proofs.Common.{◌≡◌, ℕ, ◌+◌, ◌<◌, List, [], ◌∷◌, ◌++◌, length, get_or, drop, Bool, true, false, cond, Some, None, zero, suc, refl, ap, ◌∙◌, arith}
use Rattle.std.proofs.lemmas.List.{at_drop_more}
use Rattle.std.specs.List.{flat_map, filter}
use Rattle.sa_table.specs.inner.First.{first}

pub first_before : {A : Type 0} (xs ys : List A) (x : A) → first xs ≡ Some x → first (xs ++ ys) ≡ Some x
first_before [] ys x e = cc
first_before (y ∷ xs) ys x e = e

pub first_after : {A : Type 0} (xs ys : List A) → first xs ≡ None → first (xs ++ ys) ≡ first ys
first_after [] ys e = refl
first_after (y ∷ xs) ys e = cc

pub first_here : {A B : Type 0} (f : A → List B) (xs : List A) (i : ℕ) (d : A) (b : B) → i < length xs → first (f (get_or xs i d)) ≡ Some b → first (flat_map f (drop i xs)) ≡ Some b
first_here f xs i d b h e = at_drop_more (λ rest. first (flat_map f rest)) xs i d h ∙ first_before (f (get_or xs i d)) (flat_map f (drop (i + 1) xs)) b e

pub first_later : {A B : Type 0} (f : A → List B) (xs : List A) (i : ℕ) (d : A) → i < length xs → first (f (get_or xs i d)) ≡ None → first (flat_map f (drop i xs)) ≡ first (flat_map f (drop (i + 1) xs))
first_later f xs i d h e = at_drop_more (λ rest. first (flat_map f rest)) xs i d h ∙ first_after (f (get_or xs i d)) (flat_map f (drop (i + 1) xs)) e

flat_map_cond : {A B : Type 0} (f : A → List B) (x : A) (xs : List A) (b : Bool) → flat_map f (cond b (x ∷ xs) xs) ≡ cond b (f x) [] ++ flat_map f xs
flat_map_cond f x xs true = refl
flat_map_cond f x xs false = refl

pub flat_map_filter : {A B : Type 0} (p : A → Bool) (f : A → List B) (xs : List A) → flat_map f (filter p xs) ≡ flat_map (λ x. cond (p x) (f x) []) xs
flat_map_filter p f [] = refl
flat_map_filter p f (x ∷ xs) = flat_map_cond f x (filter p xs) (p x) ∙ ap (λ rest. cond (p x) (f x) [] ++ rest) (flat_map_filter p f xs)

pub nil_left : {A : Type 0} (xs ys : List A) → xs ++ ys ≡ [] → xs ≡ []
nil_left [] ys e = refl
nil_left (x ∷ xs) ys e = cc

pub nil_right : {A : Type 0} (xs ys : List A) → xs ++ ys ≡ [] → ys ≡ []
nil_right [] ys e = e
nil_right (x ∷ xs) ys e = cc

pub nil_from_first : {A : Type 0} (xs : List A) → first xs ≡ None → xs ≡ []
nil_from_first [] e = refl
nil_from_first (x ∷ xs) e = cc

-- lists that are joined to none are all without an element
pub all_empty : {A B : Type 0} (f : A → List B) (xs : List A) → flat_map f xs ≡ [] → (i : ℕ) (d : A) → i < length xs → f (get_or xs i d) ≡ []
all_empty f [] e i d h = absurd (omega arith)
all_empty f (x ∷ xs) e zero d h = nil_left (f x) (flat_map f xs) e
all_empty f (x ∷ xs) e (suc i) d h = all_empty f xs (nil_right (f x) (flat_map f xs) e) i d (omega arith)
