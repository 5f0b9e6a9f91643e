-- The simplified condition: what its seven steps keep.
use Rattle.std.proofs.Common.{◌≡◌, true, ap, sym, ◌∙◌}
use Rattle.std.specs.Prelude.{◌↔◌, Contains}
use Rattle.std.specs.Cmp.{IsTotalOrder}
use Rattle.sa_value.specs.declared.truth.Truth.TheVariants.{True}
use Rattle.sa_value.specs.Compare.{order_of}
use Rattle.sa_cond.specs.declared.cond.Cond.{Cond}
use Rattle.sa_cond.specs.Choice.{Choice}
use Rattle.sa_cond.specs.Cited.{Name, cond_names}
use Rattle.sa_cond.specs.Condition.{holds}
use Rattle.sa_cond.specs.Interval.{CellKinds}
use Rattle.sa_cond.specs.Typed.{is_well_typed}
use Rattle.sa_simplify.specs.declared.push.Sense.TheVariants.{Plain}
use Rattle.sa_simplify.specs.Expand.{expanded}
use Rattle.sa_simplify.specs.Push.{pushed}
use Rattle.sa_simplify.specs.Fold.{folded}
use Rattle.sa_simplify.specs.Turn.{turned}
use Rattle.sa_simplify.specs.Decide.{decided}
use Rattle.sa_simplify.specs.Flatten.{flattened}
use Rattle.sa_simplify.specs.Simple.{simple, IsWellTyped}
use Rattle.sa_simplify.proofs.Refines.{Refines, Refines-trans}
use Rattle.sa_simplify.proofs.ExpandLemmas.{expanded_refines}
use Rattle.sa_simplify.proofs.PushLemmas.{pushed_refines}
use Rattle.sa_simplify.proofs.FoldLemmas.{folded_refines}
use Rattle.sa_simplify.proofs.TurnLemmas.{turned-refines}
use Rattle.sa_simplify.proofs.DecideLemmas.{decided_refines}
use Rattle.sa_simplify.proofs.FlattenLemmas.{flattened_refines}
use Rattle.sa_simplify.proofs.PropagateLemmas.{propagated_alike, propagated_typed, propagated_names}

-- after each step

pub inward_refines : (cond : Cond) → Refines (pushed (expanded cond) Plain) cond
inward_refines cond = Refines-trans (pushed_refines (expanded cond)) (expanded_refines cond)

pub computed_refines : (cond : Cond) → Refines (folded (pushed (expanded cond) Plain)) cond
computed_refines cond = Refines-trans (folded_refines (pushed (expanded cond) Plain)) (inward_refines cond)

pub sided_refines : (cond : Cond) → Refines (turned (folded (pushed (expanded cond) Plain))) cond
sided_refines cond = Refines-trans (turned-refines (folded (pushed (expanded cond) Plain))) (computed_refines cond)

pub settled_refines : (cond : Cond) → Refines (decided (turned (folded (pushed (expanded cond) Plain)))) cond
settled_refines cond = Refines-trans (decided_refines (turned (folded (pushed (expanded cond) Plain)))) (sided_refines cond)

pub flat_refines : (cond : Cond) → Refines (flattened (decided (turned (folded (pushed (expanded cond) Plain))))) cond
flat_refines cond = Refines-trans (flattened_refines (decided (turned (folded (pushed (expanded cond) Plain))))) (settled_refines cond)

-- and after the last one

pub simple_true : IsTotalOrder order_of → (choice : Choice) (cond : Cond) → (holds choice (simple cond) ≡ True) ↔ (holds choice cond ≡ True)
unfolding simple
simple_true total choice cond =
    let flat : Cond = flattened (decided (turned (folded (pushed (expanded cond) Plain)))) in
    let last = propagated_alike total choice flat in
    (λ is. sym ((flat_refines cond).truth choice) ∙ last.0 is, λ is. last.1 ((flat_refines cond).truth choice ∙ is))

pub simple_typed : (kinds : CellKinds) (cond : Cond) → is_well_typed kinds cond ≡ true → is_well_typed kinds (simple cond) ≡ true
unfolding simple
simple_typed kinds cond typed =
    propagated_typed kinds (flattened (decided (turned (folded (pushed (expanded cond) Plain))))) ((flat_refines cond).typed kinds typed)

pub simple_named : (cond : Cond) (name : Name) → Contains (cond_names (simple cond)) name → Contains (cond_names cond) name
unfolding simple
simple_named cond name named =
    (flat_refines cond).named.at name ((propagated_names (flattened (decided (turned (folded (pushed (expanded cond) Plain)))))).at name named)

-- what each step asks

typed_after : (x y done : Cond) → done ≡ x → Refines x y → IsWellTyped y → IsWellTyped done
typed_after x y done is refines typed = record {
  kinds = typed.kinds;
  typed = ap (is_well_typed typed.kinds) is ∙ refines.typed typed.kinds typed.typed;
}

pub after_expand : (x done : Cond) → done ≡ expanded x → IsWellTyped x → IsWellTyped done
after_expand x done is typed = typed_after (expanded x) x done is (expanded_refines x) typed

pub after_push : (x done : Cond) → done ≡ pushed x Plain → IsWellTyped x → IsWellTyped done
after_push x done is typed = typed_after (pushed x Plain) x done is (pushed_refines x) typed

pub after_fold : (x done : Cond) → done ≡ folded x → IsWellTyped x → IsWellTyped done
after_fold x done is typed = typed_after (folded x) x done is (folded_refines x) typed

pub after_turn : (x done : Cond) → done ≡ turned x → IsWellTyped x → IsWellTyped done
after_turn x done is typed = typed_after (turned x) x done is (turned-refines x) typed

pub after_decide : (x done : Cond) → done ≡ decided x → IsWellTyped x → IsWellTyped done
after_decide x done is typed = typed_after (decided x) x done is (decided_refines x) typed
