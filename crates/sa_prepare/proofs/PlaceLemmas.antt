-- Lists of places: the least of them, and where a word stands first.
use Rattle.std.proofs.Common.{◌≡◌, ℕ, zero, suc, ◌≤◌, Bool, true, false, cond, List, [], ◌∷◌, ◌++◌, length, take, Option, Some, None, refl, ap, ◌∙◌, arith}
use Rattle.std.specs.Prelude.{min, find}
use Rattle.std.proofs.Math.Seq.{take-length}
use Rattle.sa_lexer.specs.declared.token.Token.{Token}
use Rattle.sa_parser.specs.Token.{is_word}
use Rattle.sa_prepare.specs.Unbuilt.{word_place, earlier_of, least_place}

swapped : (x place : ℕ) (least : Option ℕ) → earlier_of x (earlier_of place least) ≡ earlier_of place (earlier_of x least)
swapped x place None = let same : min x place ≡ min place x = omega arith in ap Some same
swapped x place (Some least) = let same : min x (min place least) ≡ min place (min x least) = omega arith in ap Some same

pub least_place-push : (places : List ℕ) (place : ℕ) → least_place (places ++ place ∷ []) ≡ earlier_of place (least_place places)
least_place-push [] place = refl
least_place-push (x ∷ places) place = ap (earlier_of x) (least_place-push places place) ∙ swapped x place (least_place places)

-- nothing is left past the end
pub take_whole : {A : Type 0} (n : ℕ) (xs : List A) → length xs ≤ n → take n xs ≡ xs
take_whole zero [] done = refl
take_whole (suc n) [] done = refl
take_whole zero (x ∷ xs) done = absurd (omega arith)
take_whole (suc n) (x ∷ xs) done = ap (λ ys. x ∷ ys) (take_whole n xs (omega arith))

-- where a token stands, if there is one
abbrev pub start_of : Option Token → ℕ
start_of None = 0
start_of (Some token) = token.start

tested : (token : Token) (rest : ℕ) (found : Option Token) (test : Bool) → rest ≡ start_of found → cond test token.start rest ≡ start_of (cond test (Some token) found)
tested token rest found true is = refl
tested token rest found false is = is

-- A word stands first at the first token that it is.
pub word_place-find : (word : List ℕ) (tokens : List Token) → word_place word tokens ≡ start_of (find (λ (one : Token). is_word word one.kind) tokens)
word_place-find word [] = refl
word_place-find word (token ∷ tokens) = tested token (word_place word tokens) _ (is_word word token.kind) (word_place-find word tokens)
