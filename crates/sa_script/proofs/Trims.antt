-- White space at the front and at the end of a text.
use Rattle.std.proofs.Common.{◌≡◌, ℕ, ◌+◌, ◌-◌, ◌<◌, ◌≤◌, Bool, true, false, List, [], ◌∷◌, ◌++◌, length, get_or, take, drop, refl, sym, ap, ◌∙◌, arith, add-one}
use Rattle.std.specs.Prelude.{if◌then◌else◌, ◌||◌}
use Rattle.std.specs.List.{list_any}
use Rattle.std.proofs.lemmas.List.{drop_more, take_more}
use Rattle.std.proofs.lemmas.Bool.Decides.{nat_tests}
use Rattle.sa_lexer.specs.Byte.{is_space}
use Rattle.sa_script.specs.Piece.{front_space, trimmed_front, trimmed_end}

-- a byte of white space is ASCII
pub space_ascii : (byte : ℕ) → is_space byte ≡ true → byte < 128
space_ascii byte space = grind (arith, nat_tests)

space_first : (byte : ℕ) (bytes : List ℕ) → is_space byte ≡ true → front_space (byte ∷ bytes) ≡ front_space bytes + 1
space_first byte bytes space = rw space refl

other_first : (byte : ℕ) (bytes : List ℕ) → is_space byte ≡ false → front_space (byte ∷ bytes) ≡ 0
other_first byte bytes other = rw other refl

-- one more byte of white space was passed
pub more_space : (bytes : List ℕ) (count : ℕ) → count < length bytes → is_space (get_or bytes count 0) ≡ true → front_space bytes ≡ count + front_space (drop count bytes) → front_space bytes ≡ (count + 1) + front_space (drop (count + 1) bytes)
more_space bytes count within space all =
    let next = ap front_space (drop_more bytes count 0 within) ∙ space_first (get_or bytes count 0) (drop (count + 1) bytes) space in
    let whole : count + front_space (drop count bytes) ≡ (count + 1) + front_space (drop (count + 1) bytes) = omega (arith, next) in
    all ∙ whole

-- here the white space ends
pub space_ends : (bytes : List ℕ) (count : ℕ) → count < length bytes → is_space (get_or bytes count 0) ≡ false → front_space bytes ≡ count + front_space (drop count bytes) → front_space bytes ≡ count
space_ends bytes count within other all =
    let next = ap front_space (drop_more bytes count 0 within) ∙ other_first (get_or bytes count 0) (drop (count + 1) bytes) other in
    omega (arith, next, all)

front_case : (byte : ℕ) (bytes : List ℕ) (space : Bool) → is_space byte ≡ space → drop (front_space bytes) bytes ≡ trimmed_front bytes → drop (front_space (byte ∷ bytes)) (byte ∷ bytes) ≡ trimmed_front (byte ∷ bytes)
front_case byte bytes true e rest = rw (e, add-one) rest
front_case byte bytes false e rest = rw e refl

-- the text behind the white space at its front
pub front_dropped : (bytes : List ℕ) → drop (front_space bytes) bytes ≡ trimmed_front bytes
front_dropped [] = refl
front_dropped (byte ∷ bytes) = front_case byte bytes (is_space byte) refl (front_dropped bytes)

abbrev is_other : ℕ → Bool
is_other byte = if is_space byte then false else true

any_space : (bytes : List ℕ) (byte : ℕ) → is_space byte ≡ true → list_any is_other (bytes ++ byte ∷ []) ≡ list_any is_other bytes
any_space [] byte space = rw space refl
any_space (first ∷ bytes) byte space = ap (λ (more : Bool). is_other first || more) (any_space bytes byte space)

or_true : (x : Bool) → (x || true) ≡ true
or_true true = refl
or_true false = refl

any_other : (bytes : List ℕ) (byte : ℕ) → is_space byte ≡ false → list_any is_other (bytes ++ byte ∷ []) ≡ true
any_other [] byte other = rw other refl
any_other (first ∷ bytes) byte other = ap (λ (more : Bool). is_other first || more) (any_other bytes byte other) ∙ or_true (is_other first)

abbrev chosen : ℕ → List ℕ → Bool → List ℕ
chosen first rest some = if some then first ∷ rest else []

-- a byte of white space at the end is left out
pub end_space : (bytes : List ℕ) (byte : ℕ) → is_space byte ≡ true → trimmed_end (bytes ++ byte ∷ []) ≡ trimmed_end bytes
end_space [] byte space = rw space refl
end_space (first ∷ bytes) byte space =
    ap (chosen first (trimmed_end (bytes ++ byte ∷ []))) (any_space (first ∷ bytes) byte space)
    ∙ ap (λ (rest : List ℕ). chosen first rest (list_any is_other (first ∷ bytes))) (end_space bytes byte space)

-- behind any other byte nothing is left out
pub end_other : (bytes : List ℕ) (byte : ℕ) → is_space byte ≡ false → trimmed_end (bytes ++ byte ∷ []) ≡ bytes ++ byte ∷ []
end_other [] byte other = rw other refl
end_other (first ∷ bytes) byte other =
    ap (chosen first (trimmed_end (bytes ++ byte ∷ []))) (any_other (first ∷ bytes) byte other)
    ∙ ap (λ (rest : List ℕ). first ∷ rest) (end_other bytes byte other)

-- the last of the bytes up to a place is white space
pub less_end : (bytes : List ℕ) (end : ℕ) → 0 < end → end ≤ length bytes → is_space (get_or bytes (end - 1) 0) ≡ true → trimmed_end (take end bytes) ≡ trimmed_end (take (end - 1) bytes)
less_end bytes end some within space =
    let before : end - 1 < length bytes = omega arith in
    let back : end ≡ (end - 1) + 1 = omega arith in
    ap (λ (n : ℕ). trimmed_end (take n bytes)) back ∙ ap trimmed_end (take_more bytes (end - 1) 0 before) ∙ end_space (take (end - 1) bytes) (get_or bytes (end - 1) 0) space

-- the last of the bytes up to a place is none
pub end_stays : (bytes : List ℕ) (end : ℕ) → 0 < end → end ≤ length bytes → is_space (get_or bytes (end - 1) 0) ≡ false → trimmed_end (take end bytes) ≡ take end bytes
end_stays bytes end some within other =
    let before : end - 1 < length bytes = omega arith in
    let back : end ≡ (end - 1) + 1 = omega arith in
    let last = take_more bytes (end - 1) 0 before in
    ap (λ (n : ℕ). trimmed_end (take n bytes)) back ∙ ap trimmed_end last ∙ end_other (take (end - 1) bytes) (get_or bytes (end - 1) 0) other
    ∙ sym last ∙ ap (λ (n : ℕ). take n bytes) (sym back)
