-- The sign that is found is the longest.
use Rattle.std.proofs.Common.{◌≡◌, ℕ, zero, suc, ◌≤◌, List, [], ◌∷◌, length, Some, Bool, true, false, cond, refl, sym, ap, ◌∙◌, subst, arith}
use Rattle.std.specs.Prelude.{find, nat_le, slice_get, ◌&&◌}
use Rattle.std.specs.List.{list_all}
use Rattle.std.proofs.lemmas.Bool.{and_parts, leb-true}
use Rattle.sa_lexer.specs.declared.sign.Sign.{Sign}
use Rattle.sa_lexer.specs.declared.sign.Sign.TheVariants.{NullSafeEqual, NotEqual, BangEqual, LessEqual, GreaterEqual, AndAnd, OrOr, LeftParen, RightParen, Comma, Dot, Star, Plus, Minus, Slash, Percent, Equal, Less, Greater}
use Rattle.sa_lexer.specs.Opening.{begins_with}
use Rattle.sa_lexer.specs.Sign.{spelling, signs, sign_at}

-- each sign has its place among all
place_of : (sign : Sign) → (k : ℕ) × (slice_get signs k ≡ Some sign)
place_of NullSafeEqual = (0, refl)
place_of NotEqual = (1, refl)
place_of BangEqual = (2, refl)
place_of LessEqual = (3, refl)
place_of GreaterEqual = (4, refl)
place_of AndAnd = (5, refl)
place_of OrOr = (6, refl)
place_of LeftParen = (7, refl)
place_of RightParen = (8, refl)
place_of Comma = (9, refl)
place_of Dot = (10, refl)
place_of Star = (11, refl)
place_of Plus = (12, refl)
place_of Minus = (13, refl)
place_of Slash = (14, refl)
place_of Percent = (15, refl)
place_of Equal = (16, refl)
place_of Less = (17, refl)
place_of Greater = (18, refl)

abbrev no_longer_than : ℕ → Sign → Bool
no_longer_than len sign = nat_le (length (spelling sign)) len

abbrev longest_first : List Sign → Bool
longest_first [] = true
longest_first (sign ∷ rest) = list_all (no_longer_than (length (spelling sign))) rest && longest_first rest

passes_at : (p : Sign → Bool) (xs : List Sign) (k : ℕ) (x : Sign) → list_all p xs ≡ true → slice_get xs k ≡ Some x → p x ≡ true
passes_at p [] k x all at = absurd cc
passes_at p (y ∷ ys) zero x all at = let same : y ≡ x = cc in subst (λ z. p z ≡ true) same (and_parts (p y) (list_all p ys) all).0
passes_at p (y ∷ ys) (suc k) x all at = passes_at p ys k x (and_parts (p y) (list_all p ys) all).1 at

first_passes : (p : Sign → Bool) (y : Sign) (ys : List Sign) (k : ℕ) (found other : Sign) (b : Bool) → p y ≡ b → list_all (no_longer_than (length (spelling y))) ys ≡ true
    → ((j : ℕ) → find p ys ≡ Some found → slice_get ys j ≡ Some other → length (spelling other) ≤ length (spelling found)) → cond b (Some y) (find p ys) ≡ Some found → slice_get (y ∷ ys) k ≡ Some other → p other ≡ true
    → length (spelling other) ≤ length (spelling found)
first_passes p y ys zero found other true test all later e at passes =
    let one : y ≡ found = cc in
    let two : y ≡ other = cc in
    subst (λ s. length (spelling other) ≤ length (spelling s)) one (subst (λ s. length (spelling s) ≤ length (spelling y)) two (omega arith))
first_passes p y ys (suc k) found other true test all later e at passes =
    let one : y ≡ found = cc in
    subst (λ s. length (spelling other) ≤ length (spelling s)) one (leb-true (length (spelling other)) (length (spelling y)) (passes_at (no_longer_than (length (spelling y))) ys k other all at))
first_passes p y ys zero found other false test all later e at passes =
    let two : y ≡ other = cc in
    absurd (let clash : true ≡ false = sym passes ∙ ap p (sym two) ∙ test in cc)
first_passes p y ys (suc k) found other false test all later e at passes = later k e at

-- what is found is no shorter than anything that passes
no_shorter : (p : Sign → Bool) (xs : List Sign) (k : ℕ) (found other : Sign) → longest_first xs ≡ true → find p xs ≡ Some found → slice_get xs k ≡ Some other → p other ≡ true → length (spelling other) ≤ length (spelling found)
no_shorter p [] k found other sorted e at passes = absurd cc
no_shorter p (y ∷ ys) k found other sorted e at passes =
    let both = and_parts (list_all (no_longer_than (length (spelling y))) ys) (longest_first ys) sorted in
    first_passes p y ys k found other (p y) refl both.0 (λ j f g. no_shorter p ys j found other both.1 f g passes) e at passes

pub longest_sign : (bytes : List ℕ) (sign other : Sign) → sign_at bytes ≡ Some sign → begins_with (spelling other) bytes ≡ true → length (spelling other) ≤ length (spelling sign)
unfolding sign_at
longest_sign bytes sign other e begins =
    let place = place_of other in
    no_shorter (λ s. begins_with (spelling s) bytes) signs place.0 sign other refl e place.1 begins

found_passing : (p : Sign → Bool) (y : Sign) (ys : List Sign) (k : ℕ) (x : Sign) (b : Bool) → p y ≡ b → ((j : ℕ) → slice_get ys j ≡ Some x → (found : Sign) × (find p ys ≡ Some found)) → slice_get (y ∷ ys) k ≡ Some x → p x ≡ true → (found : Sign) × (cond b (Some y) (find p ys) ≡ Some found)
found_passing p y ys k x true test later at passes = (y, refl)
found_passing p y ys zero x false test later at passes =
    let same : y ≡ x = cc in
    absurd (let clash : true ≡ false = sym passes ∙ ap p (sym same) ∙ test in cc)
found_passing p y ys (suc k) x false test later at passes = later k at

finds : (p : Sign → Bool) (xs : List Sign) (k : ℕ) (x : Sign) → slice_get xs k ≡ Some x → p x ≡ true → (found : Sign) × (find p xs ≡ Some found)
finds p [] k x at passes = absurd cc
finds p (y ∷ ys) k x at passes = found_passing p y ys k x (p y) refl (λ j g. finds p ys j x g passes) at passes

-- where a sign begins, a sign is found
pub sign_found : (bytes : List ℕ) (sign : Sign) → begins_with (spelling sign) bytes ≡ true → (found : Sign) × (sign_at bytes ≡ Some found)
unfolding sign_at
sign_found bytes sign begins =
    let place = place_of sign in
    finds (λ s. begins_with (spelling s) bytes) signs place.0 sign place.1 begins
