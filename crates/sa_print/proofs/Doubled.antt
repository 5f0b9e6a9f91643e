-- How bytes are written between quotes, one front after another.
use Rattle.std.proofs.Common.{◌≡◌, ◌⊎◌, ℕ, suc, ◌+◌, ◌<◌, ◌≤◌, List, [], ◌∷◌, ◌++◌, length, take, drop, get_or, Bool, true, false, cond, refl, ap, arith}
use Rattle.std.specs.Prelude.{not}
use Rattle.std.specs.List.{prefix_len}
use Rattle.std.specs.Str.{IsCharBoundary}
use Rattle.std.proofs.lemmas.Bool.{not-true, not-false}
use Rattle.std.proofs.lemmas.Bool.Decides.{nat_tests}
use Rattle.std.proofs.lemmas.List.Sums.{prefix_len-le-length, prefix_len_stops}
use Rattle.sa_print.specs.Quoted.{is_doubled, byte_between, between_quotes}

-- what is written once
abbrev pub is_single : ℕ → ℕ → Bool
is_single quote byte = not (is_doubled quote byte)

single_one : (quote first : ℕ) → is_single quote first ≡ true → byte_between quote first ≡ first ∷ []
single_one quote first e = rw (not-true (is_doubled quote first) e) refl

run_step : (quote first : ℕ) (rest : List ℕ) (b : Bool) → is_single quote first ≡ b → between_quotes quote rest ≡ take (prefix_len (is_single quote) rest) rest ++ between_quotes quote (drop (prefix_len (is_single quote) rest) rest)
    → between_quotes quote (first ∷ rest) ≡ take (cond b (1 + prefix_len (is_single quote) rest) 0) (first ∷ rest) ++ between_quotes quote (drop (cond b (1 + prefix_len (is_single quote) rest) 0) (first ∷ rest))
unfolding between_quotes
run_step quote first rest true e later =
    let one : 1 + prefix_len (is_single quote) rest ≡ suc (prefix_len (is_single quote) rest) = omega arith in
    rw (one, single_one quote first e) (ap (λ (written : List ℕ). first ∷ written) later)
run_step quote first rest false e later = refl

-- a run of bytes that are written once is written as it is
pub single_run : (quote : ℕ) (bytes : List ℕ) → between_quotes quote bytes ≡ take (prefix_len (is_single quote) bytes) bytes ++ between_quotes quote (drop (prefix_len (is_single quote) bytes) bytes)
unfolding between_quotes
single_run quote [] = refl
single_run quote (first ∷ rest) = run_step quote first rest (is_single quote first) refl (single_run quote rest)

-- the byte after such a run is doubled
pub after_run : (quote : ℕ) (bytes : List ℕ) → prefix_len (is_single quote) bytes < length bytes → is_doubled quote (get_or bytes (prefix_len (is_single quote) bytes) 0) ≡ true
after_run quote bytes lt = not-false (is_doubled quote (get_or bytes (prefix_len (is_single quote) bytes) 0)) (prefix_len_stops (is_single quote) bytes 0 lt)

-- a byte that is doubled is a quote or a backslash
pub doubled_byte : (quote byte : ℕ) → (quote ≡ 39) ⊎ (quote ≡ 96) → is_doubled quote byte ≡ true → (byte ≡ 39) ⊎ (byte ≡ 92) ⊎ (byte ≡ 96)
doubled_byte quote byte q e = grind (arith, nat_tests)

pub doubled_one : (quote : ℕ) (bytes : List ℕ) → 0 < length bytes → is_doubled quote (get_or bytes 0 0) ≡ true → between_quotes quote bytes ≡ (get_or bytes 0 0 ∷ get_or bytes 0 0 ∷ []) ++ between_quotes quote (drop 1 bytes)
unfolding between_quotes
doubled_one quote [] some e = absurd (omega arith)
doubled_one quote (first ∷ rest) some e = rw e refl

pub doubled_small : (quote byte : ℕ) → (quote ≡ 39) ⊎ (quote ≡ 96) → is_doubled quote byte ≡ true → byte < 128
doubled_small quote byte q e = grind (arith, nat_tests)

-- a text may be cut after such a run
pub cut_after : (quote : ℕ) (bytes : List ℕ) → (quote ≡ 39) ⊎ (quote ≡ 96) → IsCharBoundary bytes (prefix_len (is_single quote) bytes)
cut_after quote bytes q =
    (prefix_len-le-length (is_single quote) bytes, λ within past. absurd (omega (arith, doubled_small quote (get_or bytes (prefix_len (is_single quote) bytes) 0) q (after_run quote bytes within))))

-- where there is no such run, the first byte is doubled
pub first_doubled : (quote : ℕ) (bytes : List ℕ) → prefix_len (is_single quote) bytes ≤ 0 → 0 < length bytes → is_doubled quote (get_or bytes 0 0) ≡ true
first_doubled quote bytes none some =
    let zero : prefix_len (is_single quote) bytes ≡ 0 = omega arith in
    rw zero at (after_run quote bytes (omega arith))
