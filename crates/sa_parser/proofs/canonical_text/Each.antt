-- What holds of each value of a form whose tokens are those of a text.
use Rattle.std.proofs.Common.{◌≡◌, ℕ, ◌^◌, ◌<◌, ◌≤◌, false, List, [], ◌∷◌, ◌++◌, length, get_or, Option, Some, None, subst, sym, inl, inr}
use Rattle.std.specs.Prelude.{fold}
use Rattle.std.specs.Char.{is_ascii_digit}
use Rattle.std.specs.List.{AllPass, AllByRecursion}
use Rattle.sa_lexer.specs.declared.token.Token.{Token}
use Rattle.sa_lexer.specs.declared.token.TokenKind.{TokenKind}
use Rattle.sa_lexer.specs.declared.token.TokenKind.TheVariants.{Word, QuotedName, Text, Number, Sign}
use Rattle.sa_lexer.specs.Byte.{is_word_byte}
use Rattle.sa_parser.specs.Form.{Form, One, Made, Then, Either, Perhaps, Many, Chain, Placed}
use Rattle.sa_parser.specs.Token.{first_place}

-- what the text of a token is made of
abbrev pub IsRead : TokenKind → Type 0
IsRead (Word word) = (0 < length word) × AllPass is_word_byte word × (is_ascii_digit (get_or word 0 0) ≡ false)
IsRead (QuotedName name) = 0 < length name
IsRead (Text text) = length text ≤ 255
IsRead (Number number) = number < 10 ^ 38
IsRead (Sign sign) = Unit {0}

abbrev pub AreRead : List Token → Type 0
AreRead tokens = AllByRecursion (λ token. IsRead token.kind) tokens

-- a fact of each value of a form
abbrev pub Each : {A : Type 0} → (A → Type 0) → Form A → Type 0
Each {A} Fact Is = (tokens : List Token) (value : A) → AreRead tokens → Is tokens value → Fact value

-- nothing is told of a value
abbrev pub Any : {A : Type 0} → A → Type 0
Any value = Unit {0}

-- a fact of what a function makes of a part
abbrev pub Makes : {A B : Type 0} → (A → Type 0) → (B → Type 0) → (A → B) → Type 0
Makes {A} Part Whole make = (part : A) → Part part → Whole (make part)

-- a fact of a value, where there is one
abbrev pub IfThere : {A : Type 0} → (A → Type 0) → Option A → Type 0
IfThere Fact None = Unit {0}
IfThere Fact (Some value) = Fact value

read_parts : (before after : List Token) → AreRead (before ++ after) → AreRead before × AreRead after
read_parts [] after are = (tt, are)
read_parts (token ∷ before) after are = let (front, back) = read_parts before after are.1 in ((are.0, front), back)

pub each-any : {A : Type 0} (Is : Form A) → Each Any Is
each-any Is tokens value are is = tt

pub each-one : {A : Type 0} (told : Token → Option A) (Fact : A → Type 0) → ((token : Token) (value : A) → IsRead token.kind → told token ≡ Some value → Fact value)
    → Each Fact (One told)
unfolding One
each-one told Fact known tokens value are (token, only, e) =
    known token value (let Read : List Token → Type 0 = λ some. AreRead some in (subst Read only are)).0 e

module _ {A B : Type 0} (make : A → B) (Part : A → Type 0) (Whole : B → Type 0) (Is : Form A) where
  pub each-made : Each Part Is → Makes Part Whole make → Each Whole (Made make Is)
  unfolding Made
  each-made parts makes tokens value are (part, is, e) =
      subst Whole (sym e) (makes part (parts tokens part are is))

module _ {A B : Type 0} (Part : A → Type 0) (Whole : B → Type 0) (First : Form (A → B)) (Second : Form A) where
  pub each-then : Each (Makes Part Whole) First → Each Part Second → Each Whole (Then First Second)
  unfolding Then
  each-then makes parts tokens value are (before, after, make, part, whole, is, also, e) =
      let Read : List Token → Type 0 = λ some. AreRead some in
      let (front, back) = read_parts before after (subst Read whole are) in
      subst Whole (sym e) (makes before make front is part (parts after part back also))

module _ {A : Type 0} (Fact : A → Type 0) (First Second : Form A) where
  pub each-either : Each Fact First → Each Fact Second → Each Fact (Either First Second)
  unfolding Either
  each-either one other tokens value are is = elim is [ inl here ↦ one tokens value are here | inr here ↦ other tokens value are here ]

module _ {A : Type 0} (Fact : A → Type 0) (Is : Form A) (each : Each Fact Is) where
  pub each-perhaps : Each (IfThere Fact) (Perhaps Is)
  unfolding Perhaps
  each-perhaps tokens None are is = tt
  each-perhaps tokens (Some value) are is = each tokens value are is

  pub each-many : Each (AllByRecursion Fact) (Many Is)
  unfolding Many
  each-many tokens [] are is = tt
  each-many tokens (value ∷ values) are (before, after, whole, is, also) =
      let Read : List Token → Type 0 = λ some. AreRead some in
      let (front, back) = read_parts before after (subst Read whole are) in
      (each before value front is, each-many after values back also)

  pub each-placed : {B : Type 0} (make : ℕ → A → B) (Whole : B → Type 0) → ((place : ℕ) → Makes Fact Whole (make place)) → Each Whole (Placed make Is)
  unfolding Placed
  each-placed make Whole makes tokens value are (part, is, e) = subst Whole (sym e) (makes (first_place tokens) part (each tokens part are is))

folded : {A B : Type 0} (Whole : A → Type 0) (Part : B → Type 0) (take : A → B → A) → ((whole : A) → Whole whole → Makes Part Whole (take whole))
    → (parts : List B) → AllByRecursion Part parts → Makes Whole Whole (λ whole. fold take whole parts)
folded Whole Part take takes [] are whole is = is
folded Whole Part take takes (part ∷ parts) are whole is = folded Whole Part take takes parts are.1 (take whole part) (takes whole is part are.0)

module _ {A B : Type 0} (Whole : A → Type 0) (Part : B → Type 0) (First : Form A) (take : A → B → A) (Next : Form B) where
  pub each-chain : Each Whole First → Each Part Next → ((whole : A) → Whole whole → Makes Part Whole (take whole)) → Each Whole (Chain First take Next)
  each-chain begins parts takes =
      each-then (AllByRecursion Part) Whole (Made (fold take) First) (Many Next)
      (each-made (fold take) Whole (Makes (AllByRecursion Part) Whole) First begins
      (λ whole is more are. folded Whole Part take takes more are whole is))
      (each-many Part Next parts)
