-- The pieces that a grammar is made of. A form tells which tokens are one thing, and what that
-- thing is.
use Rattle.std.specs.Prelude.{◌≡◌, ℕ, ◌⊎◌, List, [], ◌∷◌, ◌++◌, Option, Some, None, fold}
use Rattle.sa_lexer.specs.declared.token.Token.{Token}
use Rattle.sa_lexer.specs.declared.sign.Sign as sign
use Rattle.sa_lexer.specs.declared.sign.Sign.TheVariants as signs
use Rattle.sa_ast.specs.declared.name.NameTree.{NameTree}
use Rattle.sa_parser.specs.Token.{first_place, word_in, sign_in, name_in, number_in, any_number_in}

abbrev pub Form : Type 0 → Type 1
Form A = List Token → A → Type 0

-- One token, of which something is told.
unfoldable pub One : {A : Type 0} → (Token → Option A) → Form A
One told tokens value = (token : Token) × (tokens ≡ token ∷ []) × (told token ≡ Some value)

-- A form, of whose value something is made.
unfoldable pub Made : {A B : Type 0} → (A → B) → Form A → Form B
Made {A} make Is tokens value = (part : A) × Is tokens part × (value ≡ make part)

-- A form and another one behind it. The value of the first takes that of the second.
unfoldable pub Then : {A B : Type 0} → Form (A → B) → Form A → Form B
Then {A} {B} First Second tokens value =
    (before after : List Token) × (make : A → B) × (part : A) × (tokens ≡ before ++ after)
    × First before make × Second after part × (value ≡ make part)

-- One form or another.
unfoldable pub Either : {A : Type 0} → Form A → Form A → Form A
Either First Second tokens value = First tokens value ⊎ Second tokens value

-- A form or nothing.
unfoldable pub Perhaps : {A : Type 0} → Form A → Form (Option A)
Perhaps Is tokens None = tokens ≡ []
Perhaps Is tokens (Some value) = Is tokens value

-- A form any number of times, one after another.
unfoldable pub Many : {A : Type 0} → Form A → Form (List A)
Many Is tokens [] = tokens ≡ []
Many Is tokens (value ∷ values) = (before after : List Token) × (tokens ≡ before ++ after)
    × Is before value × Many Is after values

-- A form with the place of its first token.
unfoldable pub Placed : {A B : Type 0} → (ℕ → A → B) → Form A → Form B
Placed {A} make Is tokens value = (part : A) × Is tokens part × (value ≡ make (first_place tokens) part)

infixl 11 ◌<$>◌
abbrev pub ◌<$>◌ : {A B : Type 0} → (A → B) → Form A → Form B
make <$> Is = Made make Is

infixl 11 ◌<*>◌
abbrev pub ◌<*>◌ : {A B : Type 0} → Form (A → B) → Form A → Form B
First <*> Second = Then First Second

infixl 10 ◌<|>◌
abbrev pub ◌<|>◌ : {A : Type 0} → Form A → Form A → Form A
First <|> Second = Either First Second

-- A beginning, and then any number of further parts, each of which is taken into what stands before it.
abbrev pub Chain : {A B : Type 0} → Form A → (A → B → A) → Form B → Form A
Chain First take Next = fold take <$> First <*> Many Next

-- a word or a sign, of which the place is told
abbrev pub Word : List ℕ → Form ℕ
Word text = One (word_in text)

abbrev pub Sign : sign.Sign → Form ℕ
Sign which = One (sign_in which)

abbrev pub Name : Form NameTree
Name = One name_in

abbrev pub Number : Form ℕ
Number = One any_number_in

abbrev pub NumberBelow : ℕ → Form ℕ
NumberBelow bound = One (number_in bound)

-- A form in brackets.
abbrev pub Brackets : {A : Type 0} → Form A → Form A
Brackets Is = (λ _ value _. value) <$> Sign signs.LeftParen <*> Is <*> Sign signs.RightParen

-- One or more of a form, with commas between them.
abbrev pub Commas : {A : Type 0} → Form A → Form (List A)
Commas Is = Chain ((λ first. first ∷ []) <$> Is) (λ found next. found ++ next ∷ [])
    ((λ _ next. next) <$> Sign signs.Comma <*> Is)

-- a form behind a word
abbrev pub After : {A : Type 0} → List ℕ → Form A → Form A
After text Is = (λ _ value. value) <$> Word text <*> Is
