-- The literals of an AND and of an OR are those of its members.
use Rattle.std.proofs.Common.{◌≡◌, ℕ, List, [], ◌∷◌, ◌++◌, map, flat_map, refl, sym, ap, ◌∙◌}
use Rattle.sa_cond.specs.declared.cond.Cond.{Cond}
use Rattle.sa_cond.specs.declared.cond.Cond.TheVariants.{And, Or}
use Rattle.sa_range.specs.Atom.{literals_of}
use Rattle.sa_range.proofs.Agreeing.{literals-And, literals-Or}

flat_map-map : {A B : Type 0} (f : A → List B) (xs : List A) → flat_map (λ one. one) (map f xs) ≡ flat_map f xs
flat_map-map f [] = refl
flat_map-map f (x ∷ xs) = ap (λ rest. f x ++ rest) (flat_map-map f xs)

module _ (table column : ℕ) (condition : Cond) (members given : List Cond) (same : given ≡ members) where
  pub and_gathered : condition ≡ And members → flat_map (literals_of table column) given ≡ literals_of table column condition
  and_gathered is =
      ap (flat_map (literals_of table column)) same ∙ sym (flat_map-map (literals_of table column) members)
      ∙ sym (literals-And table column members) ∙ ap (literals_of table column) (sym is)

  pub or_gathered : condition ≡ Or members → flat_map (literals_of table column) given ≡ literals_of table column condition
  or_gathered is =
      ap (flat_map (literals_of table column)) same ∙ sym (flat_map-map (literals_of table column) members)
      ∙ sym (literals-Or table column members) ∙ ap (literals_of table column) (sym is)
