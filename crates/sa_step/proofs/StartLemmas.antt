-- What the sessions of a script begin with, one after another.
use Rattle.std.proofs.Common.{◌≡◌, ℕ, ◌+◌, List, [], ◌∷◌, ◌++◌, ◌-◌, map, length, drop, sym, ap, ◌∙◌, ◌≤◌, arith, length-drop}
use native.Mathlib.Numerals.{unary_clauses}
use Rattle.std.proofs.lemmas.List.{drop-drop}
use Rattle.std.specs.List.{range_with_len}
use Rattle.std.proofs.lemmas.List.FromFn.{map-range_with_len_more}

-- One more of what a function gives to 1, 2 and so on.
pub one_more : {X : Type 0} (f : ℕ → X) (items : List X) (count : ℕ) (item : X) → items ≡ map f (range_with_len 1 count) → item ≡ f (count + 1)
    → items ++ item ∷ [] ≡ map f (range_with_len 1 (count + 1))
one_more f items count item are is = rw (are, is) (sym (map-range_with_len_more f 1 count (count + 1) (omega arith)))

-- All are made where the loop has come to its end.
pub all_made : {X Y : Type 0} (f : ℕ → X) (items : List X) (whole : List Y) (count : ℕ) → length whole ≤ count → count ≤ length whole → items ≡ map f (range_with_len 1 count)
    → items ≡ map f (range_with_len 1 (length whole))
all_made f items whole count low high are = let same : count ≡ length whole = omega (arith, low, high) in are ∙ ap (λ count. map f (range_with_len 1 count)) same

-- What is left of a list behind one of its members.
pub drop_one : {X : Type 0} (xs rest : List X) (x : X) (count : ℕ) → drop count xs ≡ x ∷ rest → rest ≡ drop (count + 1) xs
drop_one xs rest x count is = ap (drop 1) (sym is) ∙ drop-drop 1 count xs

pub member_left : {X : Type 0} (xs rest : List X) (x : X) (count : ℕ) → drop count xs ≡ x ∷ rest → count + 1 ≤ length xs
member_left xs rest x count is =
    let left : length xs - count ≡ length rest + 1 = simp unary_clauses (sym (length-drop count xs) ∙ ap length is) in omega (arith, left)

pub none_left : {X : Type 0} (xs left : List X) (count : ℕ) → count ≤ length xs → left ≡ drop count xs → length left ≡ 0 → count ≡ length xs
none_left xs left count within is none = let rest : length xs - count ≡ 0 = sym (length-drop count xs) ∙ ap length (sym is) ∙ none in omega (arith, rest, within)
