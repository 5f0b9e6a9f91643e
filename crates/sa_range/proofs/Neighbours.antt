-- Ranges that are put behind others one by one are those that are united from the end.
use Rattle.std.proofs.Common.{◌≡◌, ℕ, ◌+◌, ◌<◌, Bool, true, false, cond, List, [], ◌∷◌, ◌++◌, length, map, take, get_or, refl, sym, ap, ap₂, ◌∙◌}
use Rattle.std.proofs.lemmas.List.{map_more}
use Rattle.std.specs.Ordering.{is_eq}
use Rattle.sa_key.specs.declared.range.KeyRange.{KeyRange}
use Rattle.sa_key.specs.Range.{order_of_cuts}
use Rattle.sa_range.specs.RangeList.{joined, united}
use Rattle.sa_range.specs.inner.Joined.{put_last}

abbrev touch : KeyRange → KeyRange → Bool
touch first second = is_eq (order_of_cuts first.to second.from)

abbrev both : KeyRange → KeyRange → KeyRange
both first second = record { from = first.from; to = second.to }

-- three ranges, by whether the first two touch, and the last two
abbrev Three : (x u y : KeyRange) (first second : Bool) → Type 0
Three x u y first second =
    cond second (cond first (both x (both u y) ∷ []) (x ∷ both u y ∷ [])) (cond first (both x u ∷ y ∷ []) (x ∷ u ∷ y ∷ []))
    ≡ cond first (cond second (both (both x u) y ∷ []) (both x u ∷ y ∷ [])) (x ∷ cond second (both u y ∷ []) (u ∷ y ∷ []))

three : (x u y : KeyRange) (first second : Bool) → Three x u y first second
three x u y true true = refl
three x u y true false = refl
three x u y false true = refl
three x u y false false = refl

left_side : (x u y : KeyRange) (second : Bool) → joined x (cond second (both u y ∷ []) (u ∷ y ∷ [])) ≡ cond second (cond (touch x u) (both x (both u y) ∷ []) (x ∷ both u y ∷ [])) (cond (touch x u) (both x u ∷ y ∷ []) (x ∷ u ∷ y ∷ []))
left_side x u y true = refl
left_side x u y false = refl

right_side : (x u y : KeyRange) (first : Bool) → put_last (cond first (both x u ∷ []) (x ∷ u ∷ [])) y ≡ cond first (cond (touch u y) (both (both x u) y ∷ []) (both x u ∷ y ∷ [])) (x ∷ cond (touch u y) (both u y ∷ []) (u ∷ y ∷ []))
right_side x u y true = refl
right_side x u y false = refl

two : (x u y : KeyRange) → joined x (joined u (y ∷ [])) ≡ put_last (joined x (u ∷ [])) y
two x u y = left_side x u y (touch u y) ∙ three x u y (touch x u) (touch u y) ∙ sym (right_side x u y (touch x u))

joined_last : (x : KeyRange) (us : List KeyRange) (y : KeyRange) → joined x (put_last us y) ≡ put_last (joined x us) y
joined_last x [] y = refl
joined_last x (u ∷ []) y = two x u y
joined_last x (u ∷ next ∷ us) y =
    elim (touch x u) as (λ first. cond first (both x u ∷ put_last (next ∷ us) y) (x ∷ u ∷ put_last (next ∷ us) y) ≡ put_last (cond first (both x u ∷ next ∷ us) (x ∷ u ∷ next ∷ us)) y) [
      | true ↦ refl
      | false ↦ refl
    ]

pub united_last : (xs : List KeyRange) (y : KeyRange) → united (xs ++ y ∷ []) ≡ put_last (united xs) y
united_last [] y = refl
united_last (x ∷ xs) y = ap (joined x) (united_last xs y) ∙ joined_last x (united xs) y

pub put_last-front : (front : List KeyRange) (last y : KeyRange) → put_last (front ++ last ∷ []) y ≡ front ++ joined last (y ∷ [])
put_last-front [] last y = refl
put_last-front (x ∷ []) last y = refl
put_last-front (x ∷ next ∷ front) last y = ap (λ rest. x ∷ rest) (put_last-front (next ∷ front) last y)

-- one more range of a list that is united as it is made
pub united_more : {A : Type 0} (f : A → KeyRange) (xs : List A) (i : ℕ) (x : A) → i < length xs → x ≡ get_or xs i x → (ranges new : List KeyRange) (range : KeyRange)
    → ranges ≡ united (map f (take i xs)) → new ≡ put_last ranges range → range ≡ f x → new ≡ united (map f (take (i + 1) xs))
united_more f xs i x here is ranges new range before made same =
    made ∙ ap₂ put_last before same ∙ sym (united_last (map f (take i xs)) (f x))
    ∙ ap united (ap (λ item. map f (take i xs) ++ f item ∷ []) is ∙ sym (map_more f xs i x here))
