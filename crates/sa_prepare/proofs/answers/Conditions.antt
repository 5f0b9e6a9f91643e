-- All conditions of a simplified filter are TRUE exactly where the filter is.
use Rattle.std.proofs.Common.{◌≡◌, Bool, true, false, if◌then◌else◌, ◌&&◌, ◌↔◌, List, [], ◌∷◌, map, refl, ap, sym, ◌∙◌}
use Rattle.std.specs.Cmp.{IsTotalOrder}
use Rattle.std.specs.List.{list_all}
use Rattle.sa_value.specs.declared.truth.Truth.{Truth}
use Rattle.sa_value.specs.declared.truth.Truth.TheVariants.{False, Unknown, True}
use Rattle.sa_value.specs.Compare.{order_of}
use Rattle.sa_value.specs.Logic.{conjunction}
use Rattle.sa_cond.specs.declared.cond.Cond.{Cond, Cond-F, out-Cond}
use Rattle.sa_cond.specs.Choice.{Choice}
use Rattle.sa_cond.specs.Condition.{all_of, holds}
use Rattle.sa_cond.proofs.CondForms.{holds-Known, holds-And}
use Rattle.sa_simplify.specs.Flatten.{is_true as is_always, and_members, conjuncts_of}
use Rattle.sa_simplify.specs.Node.{of_node}
use Rattle.sa_simplify.specs.Simple.{simple}
use Rattle.sa_simplify.proofs.FlattenLemmas.{true_is}
use Rattle.sa_simplify.proofs.NodeLemmas.{of_node-out}
use Rattle.sa_simplify.proofs.SimpleLemmas.{simple_true}
use Rattle.sa_simplify.proofs.Truths.{all_of-cons}
use Rattle.sa_query.specs.Choices.{is_true}
use Rattle.sa_prepare.specs.PlanFor.{conditions_of}

both_true : (one other : Truth) → is_true (conjunction one other) ≡ (is_true one && is_true other)
both_true False False = refl
both_true False Unknown = refl
both_true False True = refl
both_true Unknown False = refl
both_true Unknown Unknown = refl
both_true Unknown True = refl
both_true True False = refl
both_true True Unknown = refl
both_true True True = refl

all_true : (truths : List Truth) → is_true (all_of truths) ≡ list_all is_true truths
all_true [] = refl
all_true (truth ∷ truths) =
    ap is_true (all_of-cons truth truths) ∙ both_true truth (all_of truths)
    ∙ ap (λ others. is_true truth && others) (all_true truths)

and_nothing : (one : Bool) → (one && true) ≡ one
and_nothing true = refl
and_nothing false = refl

module _ (choice : Choice) where
  abbrev pub holds_so : Cond → Bool
  holds_so cond = is_true (holds choice cond)

  each_true : (members : List Cond)
      → list_all holds_so members ≡ list_all is_true (map (holds choice) members)
  each_true [] = refl
  each_true (member ∷ members) = ap (λ others. holds_so member && others) (each_true members)

  members_true : (node : Cond-F Cond) (whole : Cond) → whole ≡ of_node node
      → list_all holds_so (and_members node whole) ≡ holds_so whole
  members_true (Cond-F.And members) whole is =
      each_true members ∙ sym (all_true (map (holds choice) members))
      ∙ ap is_true (sym (holds-And choice members)) ∙ ap holds_so (sym is)
  members_true node whole is = and_nothing (holds_so whole)

  conjuncts_true : (cond : Cond) → list_all holds_so (conjuncts_of cond) ≡ holds_so cond
  conjuncts_true cond = members_true (out-Cond cond) cond (of_node-out cond)

  conditions_true : (cond : Cond) → list_all holds_so (conditions_of cond) ≡ holds_so cond
  conditions_true cond = at (is_always cond) refl
    where
      at : (test : Bool) → is_always cond ≡ test
          → list_all holds_so (if test then [] else conjuncts_of cond) ≡ holds_so cond
      at true is = sym (ap holds_so (true_is cond is) ∙ ap is_true (holds-Known choice True))
      at false is = conjuncts_true cond

alike : (one other : Truth) → (one ≡ True) ↔ (other ≡ True) → is_true one ≡ is_true other
alike True other same = sym (ap is_true (same.0 refl))
alike one True same = ap is_true (same.1 refl)
alike False False same = refl
alike False Unknown same = refl
alike Unknown False same = refl
alike Unknown Unknown same = refl

pub simple_conditions : IsTotalOrder order_of → (choice : Choice) (cond : Cond)
    → list_all (λ one. is_true (holds choice one)) (conditions_of (simple cond))
    ≡ is_true (holds choice cond)
simple_conditions total choice cond =
    conditions_true choice (simple cond)
    ∙ alike (holds choice (simple cond)) (holds choice cond) (simple_true total choice cond)
