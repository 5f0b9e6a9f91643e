-- What holds of two writes, one after another.
use Rattle.std.proofs.Common.{◌≡◌, ℕ, ◌+◌, ◌-◌, List, ◌++◌, length, take, drop, ap, ◌∙◌, append_assoc, subst, arith}
use Rattle.std.specs.Prelude.{Option, Some, None}
use Rattle.std.proofs.lemmas.List.{take_rest, drop-take, take-take, take-append-drop}
use Rattle.sa_source.specs.Sink.{Appends}

-- one write after another
pub Appends-append : (a b c : Option (List ℕ)) (xs ys : List ℕ) → Appends a b xs → Appends b c ys → Appends a c (xs ++ ys)
Appends-append (Some a) (Some b) (Some c) xs ys p q = q ∙ ap (λ front. front ++ ys) p ∙ append_assoc a xs ys
Appends-append (Some a) (Some b) None xs ys p q = q
Appends-append (Some a) None c xs ys p q = absurd p
Appends-append None (Some b) c xs ys p q = absurd p
Appends-append None None (Some c) xs ys p q = q
Appends-append None None None xs ys p q = tt

-- the front of a text, and then bytes of the rest
append-take-rest : (text : List ℕ) (done count : ℕ) → take done text ++ take count (take (length text - done) (drop done text)) ≡ take (done + count) text
append-take-rest text done count =
    rw (take_rest text done, ← drop-take done count text, ← take-take done (done + count) text (omega arith))
    (take-append-drop done (take (done + count) text))

-- the front of a text was written, and then bytes of the rest
pub Appends-take : (a b c : Option (List ℕ)) (text : List ℕ) (done count : ℕ) → Appends a b (take done text) → Appends b c (take count (take (length text - done) (drop done text))) → Appends a c (take (done + count) text)
Appends-take a b c text done count p q = subst (λ written. Appends a c written) (append-take-rest text done count) (Appends-append a b c _ _ p q)

pub ruleset appended = (Appends-take)
