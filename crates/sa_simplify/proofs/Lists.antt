-- Lists that are taken from the end and put together in reverse.
use Rattle.std.proofs.Common.{◌≡◌, List, [], ◌∷◌, ◌++◌, map, reverse, ap, sym, ◌∙◌}
use Rattle.std.proofs.lemmas.List.{reverse-append, append_assoc, map-append}

-- one element more, taken from the end
pub mapped_more : {A B : Type 0} (f : A → B) (xs rest : List A) (x : A) (turned : List B) (whole : List B) →
    xs ≡ rest ++ x ∷ [] → map f xs ++ reverse turned ≡ whole → map f rest ++ reverse (turned ++ f x ∷ []) ≡ whole
mapped_more f xs rest x turned whole is so_far =
    ap (λ ys. map f rest ++ ys) (reverse-append turned (f x ∷ [])) ∙ sym (append_assoc (map f rest) (f x ∷ []) (reverse turned))
    ∙ ap (λ ys. ys ++ reverse turned) (sym (map-append f rest (x ∷ []))) ∙ ap (λ ys. map f ys ++ reverse turned) (sym is) ∙ so_far

-- the same, with what was put at the end
pub mapped_next : {A B : Type 0} (f : A → B) (xs rest : List A) (x : A) (turned more : List B) (y : B) (whole : List B) →
    xs ≡ rest ++ x ∷ [] → more ≡ turned ++ y ∷ [] → y ≡ f x → map f xs ++ reverse turned ≡ whole → map f rest ++ reverse more ≡ whole
mapped_next f xs rest x turned more y whole taken put is so_far =
    ap (λ ys. map f rest ++ reverse ys) (put ∙ ap (λ z. turned ++ z ∷ []) is) ∙ mapped_more f xs rest x turned whole taken so_far

-- none left
pub mapped_all : {A B : Type 0} (f : A → B) (xs : List A) (turned whole : List B) → xs ≡ [] → map f xs ++ reverse turned ≡ whole → reverse turned ≡ whole
mapped_all f xs turned whole is so_far = ap (λ ys. map f ys ++ reverse turned) (sym is) ∙ so_far
