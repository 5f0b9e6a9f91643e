-- Each conjunct of a condition that is TRUE is TRUE.
use Rattle.std.proofs.Common.{◌≡◌, List, [], ◌∷◌, map, refl, sym, ap, ◌∙◌}
use Rattle.std.specs.List.{AllByRecursion}
use Rattle.sa_value.specs.declared.truth.Truth.{Truth}
use Rattle.sa_value.specs.declared.truth.Truth.TheVariants.{False, Unknown, True}
use Rattle.sa_value.specs.Logic.{conjunction}
use Rattle.sa_cond.specs.Choice.{Choice}
use Rattle.sa_cond.specs.Condition.{all_of, holds, node_truth}
use Rattle.sa_cond.specs.declared.cond.Cond.{Cond, Cond-F, fold_out-Cond, map-Cond, out-Cond}
use Rattle.sa_simplify.specs.Flatten.{and_members, conjuncts_of}
use Rattle.sa_simplify.proofs.Truths.{all_of-cons}

both_true : (a b : Truth) → conjunction a b ≡ True → (a ≡ True) × (b ≡ True)
both_true False False told = cc
both_true False Unknown told = cc
both_true False True told = cc
both_true Unknown False told = cc
both_true Unknown Unknown told = cc
both_true Unknown True told = cc
both_true True False told = cc
both_true True Unknown told = cc
both_true True True told = (refl, refl)

-- a condition as its outermost node tells it
pub holds-out : (choice : Choice) (cond : Cond) (node : Cond-F Cond) → out-Cond cond ≡ node → holds choice cond ≡ node_truth choice (map-Cond Cond Truth (holds choice) node)
holds-out choice cond node is =
    fold_out-Cond Truth (node_truth choice) cond ∙ ap (λ (one : Cond-F Cond). node_truth choice (map-Cond Cond Truth (holds choice) one)) is

module _ (choice : Choice) where
  abbrev pub IsTold : Cond → Type 0
  IsTold cond = holds choice cond ≡ True

  each_told : (members : List Cond) → all_of (map (holds choice) members) ≡ True → AllByRecursion IsTold members
  each_told [] told = tt
  each_told (cond ∷ conds) told =
      let both : (holds choice cond ≡ True) × (all_of (map (holds choice) conds) ≡ True) =
      both_true (holds choice cond) (all_of (map (holds choice) conds)) (sym (all_of-cons (holds choice cond) (map (holds choice) conds)) ∙ told) in
      (both.0, each_told conds both.1)

  pub conjuncts_told : (cond : Cond) → IsTold cond → AllByRecursion IsTold (conjuncts_of cond)
  conjuncts_told cond told = at (out-Cond cond) refl
    where
      at : (node : Cond-F Cond) → out-Cond cond ≡ node → AllByRecursion IsTold (and_members node cond)
      at (Cond-F.And members) is = each_told members (sym (holds-out choice cond (Cond-F.And members) is) ∙ told)
      at node is = (told, tt)
