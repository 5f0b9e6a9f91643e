-- A number of decimal digits, read byte by byte and kept up to the largest one of 64 bits.
use Rattle.std.proofs.Common.{◌≡◌, ◌<◌, ◌+◌, ◌-◌, ◌*◌, ◌^◌, ℕ, List, [], ◌∷◌, length, take, drop, get_or, min, true, false, ◌&&◌, refl, sym, ◌∙◌, arith, drop-cons, add-one}
use Rattle.std.proofs.lemmas.Int.Digits.{digits_value_more}
use Rattle.std.proofs.lemmas.Str.{digit_value_digit}
use Rattle.std.specs.Char.{is_ascii_digit, digit_value}
use Rattle.std.specs.Int.{IsInRange}
use Rattle.std.specs.Str.{all_ascii_digits}
use Rattle.std.specs.Str.Parse.{digits_value}
use Rattle.sa_load.specs.Field.{are_digits}

-- Of the bytes below the index each was a digit, and this is their number, or the largest one that is kept.
pub record IsReadUpTo (index : ℕ) (digits : List ℕ) (number : ℕ) : Type 0 where
  pub rest : all_ascii_digits (drop index digits) ≡ all_ascii_digits digits
  pub number_is : number ≡ min (digits_value 10 (take index digits)) (2 ^ 64 - 1)

pub are_digits-some : (digits : List ℕ) → 0 < length digits → are_digits digits ≡ all_ascii_digits digits
are_digits-some [] some = absurd (omega arith)
are_digits-some (byte ∷ bytes) some = refl

all_ascii_digits-from : (digits : List ℕ) (index : ℕ) → index < length digits
    → all_ascii_digits (drop index digits) ≡ (is_ascii_digit (get_or digits index 0) && all_ascii_digits (drop (index + 1) digits))
all_ascii_digits-from digits index there = rw (drop-cons digits index 0, add-one) refl

pub not_digits : (digits : List ℕ) (index number : ℕ) → index < length digits → IsReadUpTo index digits number
    → is_ascii_digit (get_or digits index 0) ≡ false → are_digits digits ≡ false
not_digits digits index number there read other =
    are_digits-some digits (omega arith) ∙ sym read.rest ∙ all_ascii_digits-from digits index there ∙ rw other refl

-- one more digit, where the number is kept up to the largest one
kept : (n number value byte more next : ℕ) → number ≡ min n (2 ^ 64 - 1) → value + 48 ≡ byte → more ≡ n * 10 + value
    → next ≡ min (min (number * 10) (2 ^ 64 - 1) + (byte - 48)) (2 ^ 64 - 1) → next ≡ min more (2 ^ 64 - 1)
kept n number value byte more next a b c d = omega arith

pub read-more : (digits : List ℕ) (index number byte next : ℕ) → index < length digits → IsReadUpTo index digits number
    → get_or digits index 0 ≡ byte → is_ascii_digit byte ≡ true → IsInRange 48 57 byte
    → next ≡ min (min (number * 10) (2 ^ 64 - 1) + (byte - 48)) (2 ^ 64 - 1) → IsReadUpTo (index + 1) digits next
read-more digits index number byte next there read at digit range e =
    record {
      rest = sym (all_ascii_digits-from digits index there ∙ rw (at, digit) refl) ∙ read.rest;
      number_is =
          kept (digits_value 10 (take index digits)) number (digit_value byte) byte (digits_value 10 (take (index + 1) digits)) next
          read.number_is (digit_value_digit byte range) (rw at at (digits_value_more 10 digits index there)) e;
    }
