-- A value that is put into a table.
use Rattle.std.proofs.Common.{◌≡◌, ℕ, ◌^◌, Bool, true, false, codes, [], ◌∷◌, Some, None, if◌then◌else◌, refl}
use Rattle.std.proofs.Math.Bool.{or-false}
use Rattle.sa_lexer.specs.declared.sign.Sign.TheVariants as signs
use Rattle.sa_lexer.specs.declared.token.TokenKind.{TokenKind}
use Rattle.sa_lexer.specs.declared.token.TokenKind.TheVariants as kinds
use Rattle.sa_value.specs.declared.value.Value.{Value}
use Rattle.sa_value.specs.declared.value.Value.TheVariants as value_of
use Rattle.sa_parser.specs.Form.{One}
use Rattle.sa_parser.specs.inner.Reading.{one}
use Rattle.sa_parser.specs.Token.{is_word}
use Rattle.sa_parser.specs.SetupTree.{literal_of, literal_in}
use Rattle.sa_parser.specs.SetupGrammar.{Literal}
use Rattle.sa_parser.specs.inner.SetupReading.{literal}
use Rattle.sa_parser.proofs.Heads.{Heads, has, apart, within}
use Rattle.sa_parser.proofs.Looks.{sees_sign-Looks}
use Rattle.sa_parser.proofs.laws.One.{one_shape, one-Law}
use Rattle.sa_parser.proofs.rules.Agrees.{Agrees, one-Agrees, sign-Agrees, number_below-Agrees, made-Agrees, reshaped-Agrees, then-Agrees, either-Agrees}

-- the values of one token
abbrev plain : Heads
plain = record { names = false; numbers = true; texts = true; words = codes "NULL" ∷ []; signs = [] }

passes : {X : Type 0} (test : Bool) (found value : X) → (if test then Some found else None) ≡ Some value → test ≡ true
passes true found value e = refl
passes false found value e = cc

literal_of-has : (kind : TokenKind) (value : Value) → literal_of kind ≡ Some value → has plain kind ≡ true
unfolding literal_of has is_word
literal_of-has (kinds.Number number) value e = refl
literal_of-has (kinds.Text text) value e = refl
literal_of-has (kinds.Word word) value e = simp or-false (passes (is_word (codes "NULL") (kinds.Word word)) value_of.Null value e)
literal_of-has (kinds.QuotedName name) value e = cc
literal_of-has (kinds.Sign sign) value e = cc

plain-Agrees : {levels : ℕ} → Agrees (One literal_in) (One literal_in) (one_shape plain) levels (one literal_in) (one literal_in)
unfolding literal_of
plain-Agrees =
    one-Agrees literal_in
    (one-Law literal_in plain (λ token value e. literal_of-has token.kind value e) (record { kind = kinds.Text []; start = 0; end = 0 }) (value_of.Text []) refl)

abbrev pub literals : Heads
literals = record plain { signs = signs.Minus ∷ signs.Plus ∷ [] }

pub literal-Agrees : {levels : ℕ} → Agrees Literal Literal (one_shape literals) levels literal literal
unfolding Literal literal apart within
literal-Agrees =
    reshaped-Agrees
    (either-Agrees (sees_sign-Looks signs.Minus) (then-Agrees (made-Agrees _ (sign-Agrees signs.Minus)) (number_below-Agrees (2 ^ 127) refl) refl)
    (either-Agrees (sees_sign-Looks signs.Plus) (then-Agrees (made-Agrees _ (sign-Agrees signs.Plus)) (number_below-Agrees (2 ^ 127) refl) refl)
    plain-Agrees refl refl refl refl)
    refl refl refl refl)
    (one_shape literals) refl refl refl
