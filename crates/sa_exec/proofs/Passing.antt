-- Conditions that are tested one after another.
use Rattle.std.proofs.Common.{◌≡◌, ℕ, ◌+◌, ◌<◌, ◌≤◌, Bool, true, false, ◌&&◌, List, length, take, get_or, refl, sym, ap, ◌∙◌}
use Rattle.std.specs.List.{list_all}
use Rattle.std.proofs.lemmas.List.{take_all}
use Rattle.std.proofs.lemmas.List.Folds.{list_all_more, list_all_at}
use Rattle.sa_cond.specs.declared.cond.Cond.{Cond}
use Rattle.sa_cond.specs.Condition.{holds}
use Rattle.sa_plan.specs.Chosen.{Chosen, choice_of}
use Rattle.sa_meaning.specs.Data.{RunData}
use Rattle.sa_query.specs.Choices.{is_true}
use Rattle.sa_meaning.specs.Items.{passes}

abbrev pub is_passed : RunData → List Chosen → Cond → Bool
is_passed tables chosen cond = is_true (holds (choice_of tables chosen) cond)

both : (x y : Bool) → x ≡ true → y ≡ true → (x && y) ≡ true
both true true x_is y_is = refl
both true false x_is y_is = y_is
both false y x_is y_is = x_is

module _ (tables : RunData) (conditions : List Cond) (chosen : List Chosen) (index : ℕ) where
  pub one_more : (cond : Cond) → index < length conditions → cond ≡ get_or conditions index cond
      → list_all (is_passed tables chosen) (take index conditions) ≡ true → is_passed tables chosen cond ≡ true
      → list_all (is_passed tables chosen) (take (index + 1) conditions) ≡ true
  one_more cond within here before passed =
      list_all_more (is_passed tables chosen) conditions index cond within
      ∙ both _ _ before (ap (is_passed tables chosen) (sym here) ∙ passed)

  pub one_fails : (cond : Cond) → index < length conditions → cond ≡ get_or conditions index cond
      → is_passed tables chosen cond ≡ false → passes tables conditions chosen ≡ false
  unfolding passes
  one_fails cond within here failed =
      list_all_at (is_passed tables chosen) conditions index cond within (ap (is_passed tables chosen) (sym here) ∙ failed)

  pub all_pass : length conditions ≤ index → list_all (is_passed tables chosen) (take index conditions) ≡ true
      → passes tables conditions chosen ≡ true
  unfolding passes
  all_pass past before = ap (list_all (is_passed tables chosen)) (sym (take_all index conditions past)) ∙ before
