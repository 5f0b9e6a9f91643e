-- Numbers of any size, numbers of steps, and the switch of the trace.
use Rattle.std.proofs.Common.{◌≡◌, ℕ, ◌+◌, ◌^◌, Bool, true, codes, Some, refl, ◌∙◌}
use Rattle.sa_lexer.specs.declared.token.TokenKind.{TokenKind}
use Rattle.sa_lexer.specs.declared.token.TokenKind.TheVariants as kinds
use Rattle.sa_parser.specs.Form.{One, Number}
use Rattle.sa_parser.specs.inner.Reading.{one, number}
use Rattle.sa_parser.specs.Token.{any_number_of, any_number_in, number_of}
use Rattle.sa_parser.specs.StatementGrammar.{positive, steps_in, switch_of, switch_in}
use Rattle.sa_parser.proofs.Heads.{is_number, is_text, only_numbers, only_texts, only_numbers-has, only_texts-has}
use Rattle.sa_parser.proofs.laws.One.{one_shape, one-Law}
use Rattle.sa_parser.proofs.rules.Agrees.{Agrees, one-Agrees}
use Rattle.sa_parser.proofs.rules.Examples.{first_token}

any_number_of-is : (kind : TokenKind) (value : ℕ) → any_number_of kind ≡ Some value → is_number kind ≡ true
any_number_of-is (kinds.Number number) value e = refl
any_number_of-is (kinds.Word word) value e = cc
any_number_of-is (kinds.QuotedName name) value e = cc
any_number_of-is (kinds.Text text) value e = cc
any_number_of-is (kinds.Sign sign) value e = cc

pub any_number-Agrees : {levels : ℕ} → Agrees Number Number (one_shape only_numbers) levels number number
any_number-Agrees =
    one-Agrees any_number_in
    (one-Law any_number_in only_numbers (λ token value e. only_numbers-has token.kind ∙ any_number_of-is token.kind value e)
    (first_token (kinds.Number 0)) 0 refl)

steps-is : (kind : TokenKind) (value : ℕ) → positive (number_of (2 ^ 40 + 1) kind) ≡ Some value → is_number kind ≡ true
steps-is (kinds.Number number) value e = refl
steps-is (kinds.Word word) value e = cc
steps-is (kinds.QuotedName name) value e = cc
steps-is (kinds.Text text) value e = cc
steps-is (kinds.Sign sign) value e = cc

pub steps-Agrees : {levels : ℕ} → Agrees (One steps_in) (One steps_in) (one_shape only_numbers) levels (one steps_in) (one steps_in)
unfolding steps_in
steps-Agrees =
    one-Agrees steps_in
    (one-Law steps_in only_numbers (λ token value e. only_numbers-has token.kind ∙ steps-is token.kind value e)
    (first_token (kinds.Number 1)) 1 refl)

switch_of-is : (kind : TokenKind) (on : Bool) → switch_of kind ≡ Some on → is_text kind ≡ true
unfolding switch_of
switch_of-is (kinds.Text text) on e = refl
switch_of-is (kinds.Word word) on e = cc
switch_of-is (kinds.QuotedName name) on e = cc
switch_of-is (kinds.Number number) on e = cc
switch_of-is (kinds.Sign sign) on e = cc

pub switch-Agrees : {levels : ℕ} → Agrees (One switch_in) (One switch_in) (one_shape only_texts) levels (one switch_in) (one switch_in)
unfolding switch_of
switch-Agrees =
    one-Agrees switch_in
    (one-Law switch_in only_texts (λ token on e. only_texts-has token.kind ∙ switch_of-is token.kind on e)
    (first_token (kinds.Text (codes "enabled=on"))) true refl)
