-- What holds of each name, list and value in brackets.
use Rattle.std.proofs.Common.{◌≡◌, ℕ, ◌<◌, ◌^◌, Bool, true, false, List, [], ◌∷◌, ◌++◌, Some, None, option_map, cond, nat_lt, refl, subst}
use Rattle.std.specs.List.{AllByRecursion}
use Rattle.std.proofs.lemmas.Bool.{ltb-true}
use Rattle.sa_lexer.specs.declared.sign.Sign.TheVariants as signs
use Rattle.sa_lexer.specs.declared.token.TokenKind.{TokenKind}
use Rattle.sa_lexer.specs.declared.token.TokenKind.TheVariants as kinds
use Rattle.sa_ast.specs.declared.name.NameTree.{NameTree}
use Rattle.sa_lexer.specs.Reserved.{is_reserved}
use Rattle.sa_parser.specs.Token.{name_of, name_in, number_of, number_in, any_number_of, any_number_in}
use Rattle.sa_parser.specs.Form.{Form, Sign, Name, Number, NumberBelow, Brackets, Commas, ◌<$>◌, ◌<*>◌}
use Rattle.sa_parser.proofs.canonical_text.Columns.{IsName}
use Rattle.sa_parser.proofs.canonical_text.Each.{Each, IsRead, Any, Makes, each-any, each-one, each-made, each-then, each-chain}

pub same_some : {A : Type 0} (x y : A) → Some x ≡ Some y → x ≡ y
same_some x y e = cc

abbrev pub IsNamed : NameTree → Type 0
IsNamed name = IsName name.name

word_named : (reserved : Bool) (word : List ℕ) (place : ℕ) (value : NameTree) → IsName word
    → option_map (λ name. record { name = name; place = place }) (cond reserved None (Some word)) ≡ Some value → IsNamed value
word_named true word place value is e = absurd cc
word_named false word place value is e = subst IsNamed (same_some (record { name = word; place = place }) value e) is

named : (kind : TokenKind) (place : ℕ) (value : NameTree) → IsRead kind → option_map (λ name. record { name = name; place = place }) (name_of kind) ≡ Some value → IsNamed value
unfolding name_of
named (kinds.Word word) place value is e = word_named (is_reserved word) word place value is.0 e
named (kinds.QuotedName name) place value is e = subst IsNamed (same_some (record { name = name; place = place }) value e) is
named (kinds.Text text) place value is e = absurd cc
named (kinds.Number number) place value is e = absurd cc
named (kinds.Sign sign) place value is e = absurd cc

pub each-name : Each IsNamed Name
each-name = each-one name_in IsNamed (λ token value is e. named token.kind token.start value is e)

module _ {A : Type 0} (Fact : A → Type 0) (Is : Form A) (each : Each Fact Is) where
  pub each-brackets : Each Fact (Brackets Is)
  each-brackets =
      each-then Any Fact ((λ _ value _. value) <$> Sign signs.LeftParen <*> Is) (Sign signs.RightParen)
      (each-then Fact (Makes Any Fact) ((λ _ value _. value) <$> Sign signs.LeftParen) Is
      (each-made (λ _ value _. value) Any (Makes Fact (Makes Any Fact)) (Sign signs.LeftParen) (each-any (Sign signs.LeftParen)) (λ before there value is behind also. is))
      each)
      (each-any (Sign signs.RightParen))

  -- a form behind something that tells nothing
  pub each-behind : (Before : Form ℕ) → Each Fact ((λ _ value. value) <$> Before <*> Is)
  each-behind Before =
      each-then Fact Fact ((λ _ value. value) <$> Before) Is
      (each-made (λ _ value. value) Any (Makes Fact Fact) Before (each-any Before) (λ place there value is. is)) each

-- two things one after another
pub each-both : {A B : Type 0} (Left : A → Type 0) (Right : B → Type 0) (One : Form A) (Other : Form B) → Each Left One → Each Right Other
    → Each {A = A × B} (λ pair. Left pair.0 × Right pair.1) ((λ left right. (left, right)) <$> One <*> Other)
each-both {A} {B} Left Right One Other one other =
    let pair : A → B → A × B = λ left right. (left, right) in
    let Both : A × B → Type 0 = λ pair. Left pair.0 × Right pair.1 in
    each-then Right Both (pair <$> One) Other (each-made pair Left (Makes Right Both) One one (λ left is right also. (is, also))) other

-- at least one
abbrev pub IsFull : {A : Type 0} → List A → Type 0
IsFull [] = ⊥
IsFull (value ∷ values) = Unit {0}

pub all-append : {A : Type 0} (Fact : A → Type 0) (before after : List A) → AllByRecursion Fact before → AllByRecursion Fact after → AllByRecursion Fact (before ++ after)
all-append Fact [] after front back = back
all-append Fact (value ∷ before) after front back = (front.0, all-append Fact before after front.1 back)

full-append : {A : Type 0} (before after : List A) → IsFull before → IsFull (before ++ after)
full-append [] after is = absurd is
full-append (value ∷ before) after is = tt

-- each value of a list that isn't empty
abbrev pub AllOf : {A : Type 0} → (A → Type 0) → List A → Type 0
AllOf Fact values = AllByRecursion Fact values × IsFull values

module _ {A : Type 0} (Fact : A → Type 0) (Is : Form A) (each : Each Fact Is) where
  pub each-commas : Each (AllOf Fact) (Commas Is)
  each-commas =
      each-chain (AllOf Fact) Fact ((λ first. first ∷ []) <$> Is) (λ found next. found ++ next ∷ []) ((λ _ next. next) <$> Sign signs.Comma <*> Is)
      (each-made (λ first. first ∷ []) Fact (AllOf Fact) Is each (λ value is. ((is, tt), tt)))
      (each-behind Fact Is each (Sign signs.Comma))
      (λ found are value is. (all-append Fact found (value ∷ []) are.0 (is, tt), full-append found (value ∷ []) are.1))

-- numbers

small_told : (fits : Bool) (bound number value : ℕ) → nat_lt number bound ≡ fits → cond fits (Some number) None ≡ Some value → value < bound
small_told true bound number value test e = subst (λ (n : ℕ). n < bound) (same_some number value e) (ltb-true number bound test)
small_told false bound number value test e = absurd cc

pub small : (bound : ℕ) (kind : TokenKind) (value : ℕ) → number_of bound kind ≡ Some value → value < bound
small bound (kinds.Number number) value e = small_told (nat_lt number bound) bound number value refl e
small bound (kinds.Word word) value e = absurd cc
small bound (kinds.QuotedName name) value e = absurd cc
small bound (kinds.Text text) value e = absurd cc
small bound (kinds.Sign sign) value e = absurd cc

pub each-number_below : (bound : ℕ) → Each (λ number. number < bound) (NumberBelow bound)
each-number_below bound = each-one (number_in bound) (λ number. number < bound) (λ token value is e. small bound token.kind value e)

-- a number of up to 38 digits
abbrev pub IsNumber : ℕ → Type 0
IsNumber number = number < 10 ^ 38

number_told : (kind : TokenKind) (value : ℕ) → IsRead kind → any_number_of kind ≡ Some value → IsNumber value
number_told (kinds.Number number) value is e = subst IsNumber (same_some number value e) is
number_told (kinds.Word word) value is e = absurd cc
number_told (kinds.QuotedName name) value is e = absurd cc
number_told (kinds.Text text) value is e = absurd cc
number_told (kinds.Sign sign) value is e = absurd cc

pub each-number : Each IsNumber Number
each-number = each-one any_number_in IsNumber (λ token value is e. number_told token.kind value is e)
