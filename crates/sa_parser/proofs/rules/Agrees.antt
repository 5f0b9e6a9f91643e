-- All that is shown of a reader: it agrees with its form, looks one token ahead at most, and a deeper one keeps what it answers.
use Rattle.std.proofs.Common.{◌≡◌, ℕ, suc, Bool, true, false, List, [], ◌∷◌, Option, nat_lt, refl}
use Rattle.std.proofs.Math.Bool.{and-false, or-true}
use Rattle.std.specs.List.{list_all}
use Rattle.sa_lexer.specs.declared.sign.Sign as sign_of
use Rattle.sa_lexer.specs.declared.sign.Sign.TheVariants as signs
use Rattle.sa_lexer.specs.declared.token.Token.{Token}
use Rattle.sa_parser.specs.Form.{Form, One, Made, Then, Either, Perhaps, Chain, Placed, Word, Sign, Name, NumberBelow, Brackets, Commas, After}
use Rattle.sa_parser.specs.inner.Reading.{Reader, one, made, then_read, either, perhaps, chain, placed, word, sign, name, number_below, brackets, commas, after}
use Rattle.sa_parser.specs.Token.{word_in, sign_in, name_in, number_in}
use Rattle.sa_parser.proofs.Heads.{Heads, or, none, only_word, only_sign, only_names, only_numbers, apart, within}
use Rattle.sa_parser.proofs.Law.{Shape, Law, Ahead, Deeper}
use Rattle.sa_parser.proofs.Looks.{Looks, sees_sign-Looks}
use Rattle.sa_parser.proofs.laws.Chain.{chain_shape, chain-Law, chain-Ahead, chain-Deeper}
use Rattle.sa_parser.proofs.laws.Either.{either_shape, either-Law, either-Ahead, either-Deeper}
use Rattle.sa_parser.proofs.laws.Made.{made-Law, made-Ahead, made-Deeper}
use Rattle.sa_parser.proofs.laws.One.{one_shape, one-Ahead}
use Rattle.sa_parser.proofs.laws.Perhaps.{perhaps_shape, perhaps-Law, perhaps-Ahead, perhaps-Deeper}
use Rattle.sa_parser.proofs.laws.Placed.{placed-Law, placed-Ahead, placed-Deeper}
use Rattle.sa_parser.proofs.laws.Levels.{same-Deeper}
use Rattle.sa_parser.proofs.laws.Reshaped.{reshaped-Law}
use Rattle.sa_parser.proofs.laws.Then.{then_shape, then-Law, then-Ahead, then-Deeper, then-Deeper_down}
use Rattle.sa_parser.proofs.laws.Words.{word-Law, sign-Law, name-Law, number-Law}

pub record Agrees {A : Type 0} (Is Wide : Form A) (shape : Shape) (levels : ℕ) (read deeper : Reader A) : Type 0 where
  pub law : Law Is Wide shape read
  pub ahead : Ahead read
  pub keeps : Deeper levels read deeper

pub one-Agrees : {A : Type 0} (told : Token → Option A) {shape : Shape} {levels : ℕ} → Law (One told) (One told) shape (one told)
    → Agrees (One told) (One told) shape levels (one told) (one told)
one-Agrees told {levels = levels} law = record { law = law; ahead = one-Ahead told; keeps = same-Deeper levels (one told) }

pub word-Agrees : (text : List ℕ) {levels : ℕ} → Agrees (Word text) (Word text) (one_shape (only_word text)) levels (word text) (word text)
word-Agrees text = one-Agrees (word_in text) (word-Law text)

pub sign-Agrees : (which : sign_of.Sign) {levels : ℕ} → Agrees (Sign which) (Sign which) (one_shape (only_sign which)) levels (sign which) (sign which)
sign-Agrees which = one-Agrees (sign_in which) (sign-Law which)

pub name-Agrees : {levels : ℕ} → Agrees Name Name (one_shape only_names) levels name name
name-Agrees = one-Agrees name_in name-Law

pub number_below-Agrees : (bound : ℕ) {levels : ℕ} → nat_lt 0 bound ≡ true
    → Agrees (NumberBelow bound) (NumberBelow bound) (one_shape only_numbers) levels (number_below bound) (number_below bound)
number_below-Agrees bound positive = one-Agrees (number_in bound) (number-Law bound positive)

module _ {A : Type 0} {Is Wide : Form A} {shape : Shape} {levels : ℕ} {read deeper : Reader A} (part : Agrees Is Wide shape levels read deeper) where
  pub reshaped-Agrees : (larger : Shape) → shape.blank ≡ larger.blank → within shape.opens larger.opens ≡ true → within shape.goes_on larger.goes_on ≡ true
      → Agrees Is Wide larger levels read deeper
  reshaped-Agrees larger blank opens goes_on =
      record { law = reshaped-Law larger part.law blank opens goes_on; ahead = part.ahead; keeps = part.keeps }

module _ {A B : Type 0} {Is Wide : Form A} {shape : Shape} {levels : ℕ} {read deeper : Reader A} where
  pub made-Agrees : (make : A → B) → Agrees Is Wide shape levels read deeper
      → Agrees (Made make Is) (Made make Wide) shape levels (made make read) (made make deeper)
  made-Agrees make part = record { law = made-Law make part.law; ahead = made-Ahead make part.ahead; keeps = made-Deeper make part.keeps }

  pub placed-Agrees : (make : ℕ → A → B) → Agrees Is Wide shape levels read deeper → shape.blank ≡ false
      → Agrees (Placed make Is) (Placed make Wide) shape levels (placed make read) (placed make deeper)
  placed-Agrees make part full =
      record { law = placed-Law make part.law full; ahead = placed-Ahead make part.ahead; keeps = placed-Deeper make part.keeps }

module _ {A : Type 0} {Is Wide : Form A} {shape : Shape} {levels : ℕ} {read deeper : Reader A} {heads : Heads} {looks : List Token → Bool} where
  pub perhaps-Agrees : Looks heads looks → Agrees Is Wide shape levels read deeper → shape.blank ≡ false → within shape.opens heads ≡ true
      → Agrees (Perhaps Is) (Perhaps Wide) (perhaps_shape heads shape) levels (perhaps looks read) (perhaps looks deeper)
  perhaps-Agrees look part full w =
      record { law = perhaps-Law look part.law full w; ahead = perhaps-Ahead look part.ahead; keeps = perhaps-Deeper looks part.keeps }

module _ {A B : Type 0} {First AlsoFirst : Form (A → B)} {Second AlsoSecond : Form A} {start end : Shape} {levels : ℕ}
    {first deep : Reader (A → B)} {second down : Reader A} where
  pub then-Agrees : Agrees First AlsoFirst start levels first deep → Agrees Second AlsoSecond end levels second down
      → apart end.opens start.goes_on ≡ true
      → Agrees (Then First Second) (Then AlsoFirst AlsoSecond) (then_shape start end) levels (then_read first second) (then_read deep down)
  then-Agrees begins ends a = record {
    law = then-Law begins.law ends.law a;
    ahead = then-Ahead begins.law ends.law begins.ahead ends.ahead;
    keeps = then-Deeper begins.law begins.keeps ends.keeps;
  }

  -- the second part is one level further in
  pub then-Agrees_inside : Agrees First AlsoFirst start (suc levels) first deep → Agrees Second AlsoSecond end levels second down
      → start.blank ≡ false → apart end.opens start.goes_on ≡ true
      → Agrees (Then First Second) (Then AlsoFirst AlsoSecond) (then_shape start end) (suc levels) (then_read first second) (then_read deep down)
  then-Agrees_inside begins ends full a = record {
    law = then-Law begins.law ends.law a;
    ahead = then-Ahead begins.law ends.law begins.ahead ends.ahead;
    keeps = then-Deeper_down begins.law full begins.keeps ends.keeps;
  }

pub either-Agrees : {A : Type 0} {First AlsoFirst Second AlsoSecond : Form A} {one two : Shape} {levels : ℕ} {heads : Heads} {looks : List Token → Bool}
    {first deep second down : Reader A} → Looks heads looks → Agrees First AlsoFirst one levels first deep → Agrees Second AlsoSecond two levels second down
    → one.blank ≡ false → two.blank ≡ false → within one.opens heads ≡ true → apart two.opens heads ≡ true
    → Agrees (Either First Second) (Either AlsoFirst AlsoSecond) (either_shape one two) levels (either looks first second) (either looks deep down)
either-Agrees {looks} look part other full also_full w a = record {
  law = either-Law look part.law other.law full also_full w a;
  ahead = either-Ahead look part.ahead other.ahead;
  keeps = either-Deeper looks part.keeps other.keeps;
}

pub chain-Agrees : {A B : Type 0} {First AlsoFirst : Form A} {Next AlsoNext : Form B} {one part : Shape} {levels : ℕ} {heads : Heads} {looks : List Token → Bool}
    {first deep : Reader A} {next down : Reader B}
    (take : A → B → A) → Looks heads looks
    → Agrees First AlsoFirst one levels first deep → Agrees Next AlsoNext part levels next down → part.blank ≡ false
    → within part.opens heads ≡ true → apart part.opens one.goes_on ≡ true → apart part.opens part.goes_on ≡ true
    → Agrees (Chain First take Next) (Chain AlsoFirst take AlsoNext) (chain_shape heads one part) levels (chain first looks take next) (chain deep looks take down)
chain-Agrees {looks} take look begins further full w a b = record {
  law = chain-Law take look begins.law further.law full w a b;
  ahead = chain-Ahead take look begins.law further.law full begins.ahead further.ahead;
  keeps = chain-Deeper looks take begins.law further.law begins.keeps further.keeps;
}

abbrev pub brackets_shape : Shape
brackets_shape = record { opens = only_sign signs.LeftParen; blank = false; goes_on = none }

always : {X : Type 0} (xs : List X) → list_all (λ x. true) xs ≡ true
always [] = refl
always (x ∷ xs) = always xs

pub apart-none : (heads : Heads) → apart heads none ≡ true
unfolding apart
apart-none heads = simp (always, and-false, or-true)

module _ {A : Type 0} {Is Wide : Form A} {opens goes_on : Heads} {levels : ℕ} {read deeper : Reader A}
    (part : Agrees Is Wide (record { opens = opens; blank = false; goes_on = goes_on }) levels read deeper)
    (a : apart (only_sign signs.RightParen) goes_on ≡ true) where
  pub brackets-Agrees : Agrees (Brackets Is) (Brackets Wide) brackets_shape levels (brackets read) (brackets deeper)
  brackets-Agrees =
      then-Agrees (then-Agrees (made-Agrees _ (sign-Agrees signs.LeftParen)) part (apart-none opens)) (sign-Agrees signs.RightParen) a

  -- what is in brackets may be one level further in
  pub brackets-Agrees_inside : Agrees (Brackets Is) (Brackets Wide) brackets_shape (suc levels) (brackets read) (brackets deeper)
  brackets-Agrees_inside =
      then-Agrees (then-Agrees_inside (made-Agrees _ (sign-Agrees signs.LeftParen)) part refl (apart-none opens)) (sign-Agrees signs.RightParen) a

pub after-Agrees : {A : Type 0} {Is Wide : Form A} {shape : Shape} {levels : ℕ} {read deeper : Reader A} (text : List ℕ)
    → Agrees Is Wide shape levels read deeper → Agrees (After text Is) (After text Wide) (then_shape (one_shape (only_word text)) shape) levels (after text read) (after text deeper)
after-Agrees {shape} text part = then-Agrees (made-Agrees _ (word-Agrees text)) part (apart-none shape.opens)

abbrev pub commas_shape : Heads → Heads → Shape
commas_shape opens goes_on = record { opens = opens; blank = false; goes_on = or (or (only_sign signs.Comma) goes_on) goes_on }

pub commas-Agrees : {A : Type 0} {Is Wide : Form A} {opens goes_on : Heads} {levels : ℕ} {read deeper : Reader A}
    → Agrees Is Wide (record { opens = opens; blank = false; goes_on = goes_on }) levels read deeper → apart (only_sign signs.Comma) goes_on ≡ true
    → Agrees (Commas Is) (Commas Wide) (commas_shape opens goes_on) levels (commas read) (commas deeper)
unfolding within
commas-Agrees {opens} part a =
    chain-Agrees _ (sees_sign-Looks signs.Comma) (made-Agrees _ part)
    (then-Agrees (made-Agrees _ (sign-Agrees signs.Comma)) part (apart-none opens)) refl refl a a
