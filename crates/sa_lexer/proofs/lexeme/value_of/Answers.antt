use Rattle.std.proofs.Common.{◌≡◌, Ok, arith, refl, true}
use Rattle.std.specs.Str.{all_ascii_digits}
use Rattle.std.specs.Str.Parse.{digits_value}
use Rattle.std.proofs.lemmas.Str.Parse.{IsNumeralModel, tells_all_ascii_digits, numerals_by_value, parse_gives, digits_value_short}
use Rattle.sa_lexer.proofs.lexeme.value_of.Goals as goal

own : IsNumeralModel (λ ds. all_ascii_digits ds ≡ true) (digits_value 10)
own = numerals_by_value (λ ds. all_ascii_digits ds ≡ true) tells_all_ascii_digits

pub unwrap-requires : goal.unwrap-requires
unwrap-requires c =
    let digits = c.args.digits.now in
    let below = digits_value_short own digits 38 c.requires.digits c.requires.short in
    let parsed : c.parse.result ≡ Ok (digits_value 10 digits) = parse_gives own 128 digits c.parse.result c.parse.ensures.value.0 c.requires.digits c.requires.some (omega arith) in
    rw parsed refl
