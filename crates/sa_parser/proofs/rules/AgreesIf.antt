-- What is shown of a reader that looks one token ahead only if something holds.
use Rattle.std.proofs.Common.{◌≡◌, ℕ, suc, Bool, true, false, List, ◌++◌, [], ◌∷◌, refl}
use Rattle.sa_lexer.specs.declared.sign.Sign.TheVariants as signs
use Rattle.sa_lexer.specs.declared.token.Token.{Token}
use Rattle.sa_parser.specs.Form.{Form, Made, Then, Either, Commas}
use Rattle.sa_parser.specs.inner.Reading.{Reader, made, then_read, either, commas}
use Rattle.sa_parser.proofs.Heads.{Heads, only_sign, apart, within}
use Rattle.sa_parser.proofs.Law.{Shape, Law, Ahead, Deeper}
use Rattle.sa_parser.proofs.Looks.{Looks, sees_sign-Looks}
use Rattle.sa_parser.proofs.laws.Chain.{chain-Law, chain-Ahead, chain-Deeper}
use Rattle.sa_parser.proofs.laws.Either.{either_shape, either-Law, either-Ahead, either-Deeper}
use Rattle.sa_parser.proofs.laws.Made.{made-Law, made-Ahead, made-Deeper}
use Rattle.sa_parser.proofs.laws.Reshaped.{reshaped-Law}
use Rattle.sa_parser.proofs.laws.Then.{then_shape, then-Law, then-Ahead, then-Deeper, then-Deeper_down}
use Rattle.sa_parser.proofs.rules.Agrees.{Agrees, sign-Agrees, made-Agrees, apart-none, commas_shape}

pub record AgreesIf {A : Type 0} (Sure : Type 0) (Is Wide : Form A) (shape : Shape) (levels : ℕ) (read deeper : Reader A) : Type 0 where
  pub law : Law Is Wide shape read
  pub ahead : Sure → Ahead read
  pub keeps : Deeper levels read deeper

module _ {A : Type 0} {Sure : Type 0} {Is Wide : Form A} {shape : Shape} {levels : ℕ} {read deeper : Reader A} where
  pub always-AgreesIf : Agrees Is Wide shape levels read deeper → AgreesIf Sure Is Wide shape levels read deeper
  always-AgreesIf part = record { law = part.law; ahead = λ _. part.ahead; keeps = part.keeps }

  -- where the condition holds
  pub sure-Agrees : AgreesIf Sure Is Wide shape levels read deeper → Sure → Agrees Is Wide shape levels read deeper
  sure-Agrees part sure = record { law = part.law; ahead = part.ahead sure; keeps = part.keeps }

  pub reshaped-AgreesIf : AgreesIf Sure Is Wide shape levels read deeper → (larger : Shape) → shape.blank ≡ larger.blank
      → within shape.opens larger.opens ≡ true → within shape.goes_on larger.goes_on ≡ true → AgreesIf Sure Is Wide larger levels read deeper
  reshaped-AgreesIf part larger blank opens goes_on =
      record { law = reshaped-Law larger part.law blank opens goes_on; ahead = part.ahead; keeps = part.keeps }

  pub made-AgreesIf : {B : Type 0} (make : A → B) → AgreesIf Sure Is Wide shape levels read deeper
      → AgreesIf Sure (Made make Is) (Made make Wide) shape levels (made make read) (made make deeper)
  made-AgreesIf make part =
      record { law = made-Law make part.law; ahead = λ sure. made-Ahead make (part.ahead sure); keeps = made-Deeper make part.keeps }

module _ {A B : Type 0} {Sure : Type 0} {First AlsoFirst : Form (A → B)} {Second AlsoSecond : Form A} {start end : Shape} {levels : ℕ}
    {first deep : Reader (A → B)} {second down : Reader A} where
  pub then-AgreesIf : AgreesIf Sure First AlsoFirst start levels first deep → AgreesIf Sure Second AlsoSecond end levels second down
      → apart end.opens start.goes_on ≡ true
      → AgreesIf Sure (Then First Second) (Then AlsoFirst AlsoSecond) (then_shape start end) levels (then_read first second) (then_read deep down)
  then-AgreesIf begins ends a = record {
    law = then-Law begins.law ends.law a;
    ahead = λ sure. then-Ahead begins.law ends.law (begins.ahead sure) (ends.ahead sure);
    keeps = then-Deeper begins.law begins.keeps ends.keeps;
  }

  -- the second part is one level further in
  pub then-AgreesIf_inside : AgreesIf Sure First AlsoFirst start (suc levels) first deep → AgreesIf Sure Second AlsoSecond end levels second down
      → start.blank ≡ false → apart end.opens start.goes_on ≡ true
      → AgreesIf Sure (Then First Second) (Then AlsoFirst AlsoSecond) (then_shape start end) (suc levels) (then_read first second) (then_read deep down)
  then-AgreesIf_inside begins ends full a = record {
    law = then-Law begins.law ends.law a;
    ahead = λ sure. then-Ahead begins.law ends.law (begins.ahead sure) (ends.ahead sure);
    keeps = then-Deeper_down begins.law full begins.keeps ends.keeps;
  }

pub either-AgreesIf : {A : Type 0} {Sure : Type 0} {First AlsoFirst Second AlsoSecond : Form A} {one two : Shape} {levels : ℕ} {heads : Heads}
    {looks : List Token → Bool} {first deep second down : Reader A} → Looks heads looks → AgreesIf Sure First AlsoFirst one levels first deep
    → AgreesIf Sure Second AlsoSecond two levels second down
    → one.blank ≡ false → two.blank ≡ false → within one.opens heads ≡ true → apart two.opens heads ≡ true
    → AgreesIf Sure (Either First Second) (Either AlsoFirst AlsoSecond) (either_shape one two) levels (either looks first second) (either looks deep down)
either-AgreesIf {looks} look part other full also_full w a = record {
  law = either-Law look part.law other.law full also_full w a;
  ahead = λ sure. either-Ahead look (part.ahead sure) (other.ahead sure);
  keeps = either-Deeper looks part.keeps other.keeps;
}

module _ {A : Type 0} {Sure : Type 0} {Is Wide : Form A} {opens goes_on : Heads} {levels : ℕ} {read deeper : Reader A}
    (part : AgreesIf Sure Is Wide (record { opens = opens; blank = false; goes_on = goes_on }) levels read deeper)
    (a : apart (only_sign signs.Comma) goes_on ≡ true) where
  pub commas-AgreesIf : AgreesIf Sure (Commas Is) (Commas Wide) (commas_shape opens goes_on) levels (commas read) (commas deeper)
  unfolding within
  commas-AgreesIf =
      let begins = made-AgreesIf (λ first. first ∷ []) part in
      let further = then-AgreesIf (always-AgreesIf (made-Agrees (λ _ next. next) (sign-Agrees signs.Comma))) part (apart-none opens) in
      let look = sees_sign-Looks signs.Comma in
      record {
        law = chain-Law (λ found next. found ++ next ∷ []) look begins.law further.law refl refl a a;
        ahead = λ sure. chain-Ahead (λ found next. found ++ next ∷ []) look begins.law further.law refl (begins.ahead sure) (further.ahead sure);
        keeps = chain-Deeper _ (λ found next. found ++ next ∷ []) begins.law further.law begins.keeps further.keeps;
      }
