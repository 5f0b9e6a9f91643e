-- A number for each tuple without NULL, by which rows are searched.
use Rattle.std.specs.Prelude.{ℕ, ◌+◌, ◌*◌, ◌%◌, ◌^◌, List, [], ◌∷◌, fold, Option, Some, None}
use Rattle.std.specs.Option.{option_and_then}
use Rattle.std.specs.Int.{cast_unsigned, w64}
use Rattle.sa_value.specs.declared.value.Value.{Value}
use Rattle.sa_value.specs.declared.value.Value.TheVariants.{Null, Int, Big, Text}

unfoldable pub mixed : ℕ → ℕ → ℕ
mixed digest number = (digest * 11400714819323198485 % 2 ^ 64 + number) % 2 ^ 64

abbrev pub text_digest : List ℕ → ℕ
text_digest text = fold mixed 0 text

abbrev pub value_digest : Value → Option ℕ
value_digest Null = None
value_digest (Int number) = Some (cast_unsigned w64 number)
value_digest (Big number) = Some (cast_unsigned w64 number)
value_digest (Text text) = Some (text_digest text)

-- the digest of the values from here on
abbrev pub digest_from : ℕ → List Value → Option ℕ
digest_from digest [] = Some digest
digest_from digest (value ∷ values) =
    option_and_then (λ number. digest_from (mixed digest number) values) (value_digest value)

abbrev pub digest_of : List Value → Option ℕ
digest_of = digest_from 0
