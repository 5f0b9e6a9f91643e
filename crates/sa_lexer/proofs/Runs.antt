-- Runs of bytes at the front of a text.
use Rattle.std.proofs.Common.{◌≡◌, ℕ, suc, ◌+◌, Bool, true, false, cond, List, [], ◌∷◌, take, refl, arith}
use Rattle.std.specs.Char.{is_ascii_digit}
use Rattle.std.specs.List.{prefix_len, AllPass}
use Rattle.std.proofs.lemmas.List.Elements.{All-nil, All-cons}
use Rattle.std.specs.Str.{all_ascii_digits}

digits_step : (byte : ℕ) (bytes : List ℕ) (b : Bool) → is_ascii_digit byte ≡ b → all_ascii_digits (take (prefix_len is_ascii_digit bytes) bytes) ≡ true → all_ascii_digits (take (cond b (1 + prefix_len is_ascii_digit bytes) 0) (byte ∷ bytes)) ≡ true
digits_step byte bytes true passes rest =
    let one : 1 + prefix_len is_ascii_digit bytes ≡ suc (prefix_len is_ascii_digit bytes) = omega arith in
    rw (one, passes) rest
digits_step byte bytes false fails rest = refl

-- a run of digits is digits alone
pub digits_of_run : (bytes : List ℕ) → all_ascii_digits (take (prefix_len is_ascii_digit bytes) bytes) ≡ true
digits_of_run [] = refl
digits_of_run (byte ∷ bytes) = digits_step byte bytes (is_ascii_digit byte) refl (digits_of_run bytes)

run_step : (p : ℕ → Bool) (byte : ℕ) (bytes : List ℕ) (b : Bool) → p byte ≡ b → AllPass p (take (prefix_len p bytes) bytes) → AllPass p (take (cond b (1 + prefix_len p bytes) 0) (byte ∷ bytes))
run_step p byte bytes true passes rest =
    let one : 1 + prefix_len p bytes ≡ suc (prefix_len p bytes) = omega arith in
    rw one (All-cons (λ b. p b ≡ true) byte (take (prefix_len p bytes) bytes) passes rest)
run_step p byte bytes false fails rest = All-nil (λ b. p b ≡ true)

-- each byte of a run passes its test
pub run_passes : (p : ℕ → Bool) (bytes : List ℕ) → AllPass p (take (prefix_len p bytes) bytes)
run_passes p [] = All-nil (λ b. p b ≡ true)
run_passes p (byte ∷ bytes) = run_step p byte bytes (p byte) refl (run_passes p bytes)
