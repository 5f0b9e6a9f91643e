-- How tokens are read, from left to right. A reading gives a value and the tokens behind it, or how
-- many tokens are left from the first one on that it can't read.
use Rattle.std.specs.Prelude.{ℕ, zero, suc, Bool, false, is_some, List, [], ◌∷◌, ◌++◌, length, if◌then◌else◌, Option, Some, None, Result, Ok, Err}
use Rattle.sa_lexer.specs.declared.token.Token.{Token}
use Rattle.sa_lexer.specs.declared.sign.Sign.{Sign}
use Rattle.sa_lexer.specs.declared.sign.Sign.TheVariants as signs
use Rattle.sa_ast.specs.declared.name.NameTree.{NameTree}
use Rattle.sa_parser.specs.Token.{first_place, is_word, is_sign, word_in, sign_in, name_of, name_in, number_in, any_number_in}

abbrev pub Outcome : Type 0 → Type 0
Outcome A = Result (A × List Token) ℕ

abbrev pub Reader : Type 0 → Type 0
Reader A = List Token → Outcome A

abbrev pub and_then : {A B : Type 0} → Outcome A → (A → Reader B) → Outcome B
and_then (Ok found) next = next found.0 found.1
and_then (Err left) next = Err left

abbrev pub given : {A : Type 0} → A → Reader A
given value tokens = Ok (value, tokens)

-- the first token isn't what has to stand here
abbrev pub refuse : {A : Type 0} → Reader A
refuse tokens = Err (length tokens)

abbrev pub told_or_refused : {A : Type 0} → Option A → Token → Reader A
told_or_refused (Some value) token rest = Ok (value, rest)
told_or_refused None token rest = refuse (token ∷ rest)

-- one token, of which something is told
unfoldable pub one : {A : Type 0} → (Token → Option A) → Reader A
one told [] = refuse []
one told (token ∷ rest) = told_or_refused (told token) token rest

-- a reading, of whose value something is made
unfoldable pub made : {A B : Type 0} → (A → B) → Reader A → Reader B
made make read tokens = and_then (read tokens) (λ part. given (make part))

-- a reading and then another one
unfoldable pub then_read : {A B : Type 0} → Reader (A → B) → Reader A → Reader B
then_read first second tokens =
    and_then (first tokens) (λ make rest. and_then (second rest) (λ part. given (make part)))

infixl 11 ◌<$>◌
abbrev pub ◌<$>◌ : {A B : Type 0} → (A → B) → Reader A → Reader B
make <$> read = made make read

infixl 11 ◌<*>◌
abbrev pub ◌<*>◌ : {A B : Type 0} → Reader (A → B) → Reader A → Reader B
first <*> second = then_read first second

-- one reading or another, by a look at the tokens
unfoldable pub either : {A : Type 0} → (List Token → Bool) → Reader A → Reader A → Reader A
either looks first second tokens = if looks tokens then first tokens else second tokens

-- a reading or nothing
unfoldable pub perhaps : {A : Type 0} → (List Token → Bool) → Reader A → Reader (Option A)
perhaps looks read tokens =
    if looks tokens then and_then (read tokens) (λ part. given (Some part)) else Ok (None, tokens)

-- As many further parts as there are. The number bounds them: each takes a token at least.
unfoldable pub more : {A B : Type 0} → (List Token → Bool) → (A → B → A) → Reader B → ℕ → A → Reader A
more looks take read zero so_far tokens = Ok (so_far, tokens)
more looks take read (suc turns) so_far tokens =
    if looks tokens
    then and_then (read tokens) (λ part. more looks take read turns (take so_far part))
    else Ok (so_far, tokens)

-- a beginning and further parts
unfoldable pub chain : {A B : Type 0} → Reader A → (List Token → Bool) → (A → B → A) → Reader B
    → Reader A
chain first looks take next tokens =
    and_then (first tokens) (λ begun rest. more looks take next (length rest) begun rest)

-- a reading with the place of its first token
unfoldable pub placed : {A B : Type 0} → (ℕ → A → B) → Reader A → Reader B
placed make read tokens = and_then (read tokens) (λ part. given (make (first_place tokens) part))

-- whether the first token is this word
unfoldable pub sees_word : List ℕ → List Token → Bool
sees_word text [] = false
sees_word text (token ∷ rest) = is_word text token.kind

-- whether the first token is this sign
unfoldable pub sees_sign : Sign → List Token → Bool
sees_sign sign [] = false
sees_sign sign (token ∷ rest) = is_sign sign token.kind

-- whether the first token is a name
unfoldable pub sees_name : List Token → Bool
sees_name [] = false
sees_name (token ∷ rest) = is_some (name_of token.kind)

abbrev pub word : List ℕ → Reader ℕ
word text = one (word_in text)

abbrev pub sign : Sign → Reader ℕ
sign which = one (sign_in which)

abbrev pub name : Reader NameTree
name = one name_in

abbrev pub number : Reader ℕ
number = one any_number_in

abbrev pub number_below : ℕ → Reader ℕ
number_below bound = one (number_in bound)

-- a reading in brackets
abbrev pub brackets : {A : Type 0} → Reader A → Reader A
brackets read = (λ _ value _. value) <$> sign signs.LeftParen <*> read <*> sign signs.RightParen

-- one or more readings, with commas between them
abbrev pub commas : {A : Type 0} → Reader A → Reader (List A)
commas read =
    chain ((λ first. first ∷ []) <$> read) (sees_sign signs.Comma)
    (λ found next. found ++ next ∷ []) ((λ _ next. next) <$> sign signs.Comma <*> read)

-- a reading behind a word
abbrev pub after : {A : Type 0} → List ℕ → Reader A → Reader A
after text read = (λ _ value. value) <$> word text <*> read
