-- Whether two members of a list are alike, as a loop goes over it.
use Rattle.std.proofs.Common.{◌≡◌, ℕ, ◌+◌, ◌<◌, List, length, get_or, drop, Bool, true, false, ◌||◌, ap, ◌∙◌}
use Rattle.std.proofs.lemmas.List.{at_drop_more}
use Rattle.std.specs.List.{list_any}
use Rattle.sa_table.specs.Create.{any_alike}

pub alike_here : {A : Type 0} (alike : A → A → Bool) (xs : List A) (i : ℕ) (d : A) → i < length xs → list_any (alike (get_or xs i d)) (drop (i + 1) xs) ≡ true → any_alike alike (drop i xs) ≡ true
alike_here alike xs i d h e = at_drop_more (any_alike alike) xs i d h ∙ ap (λ here. here || any_alike alike (drop (i + 1) xs)) e

pub alike_later : {A : Type 0} (alike : A → A → Bool) (xs : List A) (i : ℕ) (d : A) → i < length xs → list_any (alike (get_or xs i d)) (drop (i + 1) xs) ≡ false → any_alike alike (drop i xs) ≡ any_alike alike (drop (i + 1) xs)
alike_later alike xs i d h e = at_drop_more (any_alike alike) xs i d h ∙ ap (λ here. here || any_alike alike (drop (i + 1) xs)) e
