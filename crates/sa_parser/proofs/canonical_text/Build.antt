-- How tokens of a form are put together.
use Rattle.std.proofs.Common.{◌≡◌, ℕ, List, [], ◌∷◌, ◌++◌, Option, Some, None, refl, subst, append-nil, inl, inr}
use Rattle.std.specs.Prelude.{fold}
use Rattle.sa_lexer.specs.declared.token.Token.{Token}
use Rattle.sa_parser.specs.Form.{Form, One, Made, Then, Either, Perhaps, Many, Chain, Placed}
use Rattle.sa_parser.specs.Token.{first_place}

pub one : {A : Type 0} (told : Token → Option A) (token : Token) (value : A) → told token ≡ Some value → One told (token ∷ []) value
unfolding One
one told token value e = (token, refl, e)

module _ {A : Type 0} (Is : Form A) where
  pub made : {B : Type 0} (make : A → B) {tokens : List Token} {part : A} → Is tokens part → Made make Is tokens (make part)
  unfolding Made
  made make {part} is = (part, is, refl)

  pub placed : {B : Type 0} (make : ℕ → A → B) (tokens : List Token) {part : A} → Is tokens part → Placed make Is tokens (make (first_place tokens) part)
  unfolding Placed
  placed make tokens {part} is = (part, is, refl)

  pub first : (Second : Form A) {tokens : List Token} {value : A} → Is tokens value → Either Is Second tokens value
  unfolding Either
  first Second is = inl is

  pub second : (First : Form A) {tokens : List Token} {value : A} → Is tokens value → Either First Is tokens value
  unfolding Either
  second First is = inr is

  pub nothing : Perhaps Is [] None
  unfolding Perhaps
  nothing = refl

  pub some : {tokens : List Token} {value : A} → Is tokens value → Perhaps Is tokens (Some value)
  unfolding Perhaps
  some is = is

  pub no_more : Many Is [] []
  unfolding Many
  no_more = refl

  pub more : {before : List Token} (after : List Token) {value : A} (values : List A) → Is before value → Many Is after values
      → Many Is (before ++ after) (value ∷ values)
  unfolding Many
  more {before} after values is are = (before, after, refl, is, are)

  -- once
  pub only : {tokens : List Token} {value : A} → Is tokens value → Many Is tokens (value ∷ [])
  only {tokens} {value} is =
      let Once : List Token → Type 0 = λ some. Many Is some (value ∷ []) in
      subst Once (append-nil tokens) (more [] [] is no_more)

module _ {A B : Type 0} (First : Form (A → B)) (Second : Form A) where
  pub then : {before after : List Token} {make : A → B} {part : A} → First before make → Second after part → Then First Second (before ++ after) (make part)
  unfolding Then
  then {before} {after} {make} {part} first second = (before, after, make, part, refl, first, second, refl)

module _ {A B : Type 0} (First : Form A) (take : A → B → A) (Next : Form B) where
  pub chained : {before : List Token} (after : List Token) {begun : A} (parts : List B) → First before begun → Many Next after parts
      → Chain First take Next (before ++ after) (fold take begun parts)
  chained after parts begins goes_on = then (Made (fold take) First) (Many Next) (made First (fold take) begins) goes_on

  -- a chain of its beginning alone
  pub alone : {tokens : List Token} {begun : A} → First tokens begun → Chain First take Next tokens begun
  alone {tokens} {begun} begins =
      let Is : List Token → Type 0 = λ some. Chain First take Next some begun in
      subst Is (append-nil tokens) (chained [] [] begins (no_more Next))
