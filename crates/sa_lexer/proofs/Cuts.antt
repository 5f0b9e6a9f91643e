-- Where a text may be cut: after a run of digits, and after a sign.
use Rattle.std.proofs.Common.{◌≡◌, ℕ, zero, suc, ◌<◌, ◌+◌, Bool, true, false, cond, List, [], ◌∷◌, ◌++◌, length, get_or, drop, Option, Some, refl, sym, ap, subst, ◌∙◌, arith, add-one, length-append}
use Rattle.std.specs.Prelude.{find, nat_eq}
use Rattle.std.specs.Char.{is_ascii_digit}
use Rattle.std.specs.List.{prefix_len, starts_with}
use Rattle.std.specs.Str.{IsUtf8, IsCharBoundary}
use Rattle.std.proofs.lemmas.Str.{IsCharBoundary-start, IsCharBoundary-after_ascii}
use Rattle.std.proofs.lemmas.List.Sums.{prefix_len_passes, prefix_len-le-length}
use Rattle.std.proofs.lemmas.List.Prefix.{front_reads}
use Rattle.std.proofs.lemmas.Slice.Eq.{starts_is}
use Rattle.std.proofs.lemmas.Bool.Decides.{Decides-eqb, nat_tests}
use Rattle.sa_lexer.specs.declared.sign.Sign.{Sign}
use Rattle.sa_lexer.specs.declared.sign.Sign.TheVariants.{NullSafeEqual, NotEqual, BangEqual, LessEqual, GreaterEqual, AndAnd, OrOr, LeftParen, RightParen, Comma, Dot, Star, Plus, Minus, Slash, Percent, Equal, Less, Greater}
use Rattle.sa_lexer.specs.Sign.{spelling, signs, sign_at}

after_bytes : (bytes : List ℕ) (n : ℕ) → prefix_len is_ascii_digit bytes ≡ n → IsUtf8 bytes → IsCharBoundary bytes n
after_bytes bytes zero e utf8 = IsCharBoundary-start bytes utf8
after_bytes bytes (suc k) e utf8 =
    let within = prefix_len-le-length is_ascii_digit bytes in
    let here = prefix_len_passes is_ascii_digit bytes k 0 (omega arith) in
    subst (λ (n : ℕ). IsCharBoundary bytes n) (add-one k) (IsCharBoundary-after_ascii bytes k utf8 (omega arith) (grind (arith, nat_tests)))

-- a text may be cut after a run of digits
pub after_digits : (bytes : List ℕ) → IsUtf8 bytes → IsCharBoundary bytes (prefix_len is_ascii_digit bytes)
after_digits bytes utf8 = after_bytes bytes (prefix_len is_ascii_digit bytes) refl utf8

picked : {X : Type 0} (p : X → Bool) (y x : X) (rest : Option X) → (rest ≡ Some x → p x ≡ true) → (b : Bool) → p y ≡ b → cond b (Some y) rest ≡ Some x → p x ≡ true
picked p y x rest later true passes e = let same : y ≡ x = cc in subst (λ z. p z ≡ true) same passes
picked p y x rest later false fails e = later e

found_passes : {X : Type 0} (p : X → Bool) (xs : List X) (x : X) → find p xs ≡ Some x → p x ≡ true
found_passes p [] x e = absurd cc
found_passes p (y ∷ ys) x e = picked p y x (find p ys) (found_passes p ys x) (p y) refl e

-- the sign that was found stands there
pub sign_begins : (bytes : List ℕ) (sign : Sign) → sign_at bytes ≡ Some sign → starts_with nat_eq bytes (spelling sign) ≡ true
unfolding sign_at
sign_begins bytes sign e = found_passes (λ s. starts_with nat_eq bytes (spelling s)) signs sign e

pub sign_stands : (bytes : List ℕ) (sign : Sign) → sign_at bytes ≡ Some sign → bytes ≡ spelling sign ++ drop (length (spelling sign)) bytes
sign_stands bytes sign e = (starts_is Decides-eqb bytes (spelling sign) (starts_with nat_eq bytes (spelling sign)) refl).0 (sign_begins bytes sign e)

-- the last byte of a sign is ASCII
pub last_of_sign : (sign : Sign) → (last : ℕ) × (length (spelling sign) ≡ last + 1) × (get_or (spelling sign) last 0 < 128)
last_of_sign NullSafeEqual = (2, refl, omega arith)
last_of_sign NotEqual = (1, refl, omega arith)
last_of_sign BangEqual = (1, refl, omega arith)
last_of_sign LessEqual = (1, refl, omega arith)
last_of_sign GreaterEqual = (1, refl, omega arith)
last_of_sign AndAnd = (1, refl, omega arith)
last_of_sign OrOr = (1, refl, omega arith)
last_of_sign LeftParen = (0, refl, omega arith)
last_of_sign RightParen = (0, refl, omega arith)
last_of_sign Comma = (0, refl, omega arith)
last_of_sign Dot = (0, refl, omega arith)
last_of_sign Star = (0, refl, omega arith)
last_of_sign Plus = (0, refl, omega arith)
last_of_sign Minus = (0, refl, omega arith)
last_of_sign Slash = (0, refl, omega arith)
last_of_sign Percent = (0, refl, omega arith)
last_of_sign Equal = (0, refl, omega arith)
last_of_sign Less = (0, refl, omega arith)
last_of_sign Greater = (0, refl, omega arith)

-- a text may be cut after a sign
pub after_sign : (bytes : List ℕ) (sign : Sign) → IsUtf8 bytes → sign_at bytes ≡ Some sign → IsCharBoundary bytes (length (spelling sign))
after_sign bytes sign utf8 e =
    let stands = sign_stands bytes sign e in
    let last = last_of_sign sign in
    let here = front_reads 0 bytes (spelling sign) (drop (length (spelling sign)) bytes) stands last.0 (omega arith) in
    let long : length bytes ≡ length (spelling sign) + length (drop (length (spelling sign)) bytes) = ap length stands ∙ length-append _ _ in
    subst (λ (n : ℕ). IsCharBoundary bytes n) (sym last.1) (IsCharBoundary-after_ascii bytes last.0 utf8 (omega arith) (omega arith))
