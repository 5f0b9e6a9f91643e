-- Where two ways of parting one list agree.
use Rattle.std.proofs.Common.{◌≡◌, List, [], ◌∷◌, ◌++◌, refl, sym}

-- One list parted in two ways: at the same place, or the first time before the second, or behind it.
pub data Parting {A : Type 0} (front back other rest : List A) : Type 0 where
  Same : front ≡ other → back ≡ rest → Parting front back other rest
  Sooner : (next : A) (more : List A) → other ≡ front ++ next ∷ more → back ≡ next ∷ (more ++ rest) → Parting front back other rest
  Later : (next : A) (more : List A) → front ≡ other ++ next ∷ more → rest ≡ next ∷ (more ++ back) → Parting front back other rest

pub parting : {A : Type 0} (front back other rest : List A) → front ++ back ≡ other ++ rest → Parting front back other rest
parting [] back [] rest e = Same refl e
parting [] back (y ∷ other) rest e = Sooner y other refl e
parting (x ∷ front) back [] rest e = Later x front refl (sym e)
parting {A} (x ∷ front) back (y ∷ other) rest e =
    let first : x ≡ y = cc in
    let further : front ++ back ≡ other ++ rest = cc in
    elim (parting front back other rest further) [
      | Same one two ↦ Same (cc) two
      | Sooner next more one two ↦ Sooner next more (cc) two
      | Later next more one two ↦ Later next more (cc) two
    ]
