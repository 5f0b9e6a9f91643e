-- One turn of a loop that looks at one expression after another.
use Rattle.std.proofs.Common.{◌≡◌, ℕ, ◌+◌, ◌<◌, ◌≤◌, List, [], ◌∷◌, ◌++◌, length, get_or, map, take, append-nil, append_assoc, sym, ap, subst, ◌∙◌}
use Rattle.std.proofs.lemmas.List.{map_more, take_all}
use Rattle.std.proofs.lemmas.List.Concat.{flat_map-append}
use Rattle.sa_query.specs.declared.group.Aggregate.{Aggregate}
use Rattle.sa_resolve.specs.declared.look.Looked.{Looked}
use Rattle.sa_resolve.specs.Reading.{Reading}
use Rattle.sa_resolve.specs.inner.Judging.{HaveLooked}
use Rattle.sa_resolve.specs.inner.Knowing.{AreLooked, aggregates_in}
use Rattle.sa_resolve.specs.inner.Looking.{IsLooked, LooksUp}
use Rattle.sa_resolve.proofs.judging.Lookeds.{AreLooked-push}

module _ {A : Type 0} (f : A → Reading) (xs : List A) (i : ℕ) where
  module _ (x : A) (within : i < length xs) (is : x ≡ get_or xs i x) where
    read_more : map f (take i xs) ++ f x ∷ [] ≡ map f (take (i + 1) xs)
    read_more = ap (λ x. map f (take i xs) ++ f x ∷ []) is ∙ sym (map_more f xs i x within)

    -- what is kept of one more
    pub looked_more : (looked next : List Looked) (one : Looked) → AreLooked looked (map f (take i xs)) → IsLooked one (f x) → next ≡ looked ++ one ∷ []
        → AreLooked next (map f (take (i + 1) xs))
    looked_more looked next one are one_is next_is =
        subst (AreLooked next) read_more
        (subst (λ (next : List Looked). AreLooked next (map f (take i xs) ++ f x ∷ [])) (sym next_is)
        (AreLooked-push looked one (map f (take i xs)) (f x) are one_is))

    -- the same, with its aggregates
    pub have_more : (first before after : List Aggregate) (looked next : List Looked) (one : Looked) → HaveLooked first before looked (map f (take i xs))
        → LooksUp before after one (f x) → next ≡ looked ++ one ∷ [] → HaveLooked first after next (map f (take (i + 1) xs))
    have_more first before after looked next one have looks next_is = record {
      looked_are = looked_more looked next one have.looked_are looks.looked_is next_is;
      aggregates =
          looks.aggregates
          ∙ ap (λ before. before ++ (f x).aggregates) have.aggregates
          ∙ append_assoc first (aggregates_in (map f (take i xs))) (f x).aggregates
          ∙ ap (λ more. first ++ (aggregates_in (map f (take i xs)) ++ more)) (sym (append-nil (f x).aggregates))
          ∙ ap (λ more. first ++ more) (sym (flat_map-append (λ (one : Reading). one.aggregates) (map f (take i xs)) (f x ∷ [])))
          ∙ ap (λ ones. first ++ aggregates_in ones) read_more;
    }

  module _ (all : length xs ≤ i) where
    pub looked_all : (looked : List Looked) → AreLooked looked (map f (take i xs)) → AreLooked looked (map f xs)
    looked_all looked are = subst (λ (xs : List A). AreLooked looked (map f xs)) (take_all i xs all) are

    pub have_all : (first after : List Aggregate) (looked : List Looked) → HaveLooked first after looked (map f (take i xs)) → HaveLooked first after looked (map f xs)
    have_all first after looked have = subst (λ (xs : List A). HaveLooked first after looked (map f xs)) (take_all i xs all) have
