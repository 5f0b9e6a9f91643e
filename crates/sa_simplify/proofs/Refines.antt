-- A condition that says the same as another, is well-typed where that is, and names no more. A step that makes such a condition
-- of each node makes one of every condition.
use Rattle.std.proofs.Common.{◌≡◌, Bool, true, false, ◌&&◌, List, [], ◌∷◌, map, refl, ap, sym, ◌∙◌, subst}
use Rattle.std.specs.List.{AllByRecursion, list_all, flat_map}
use Rattle.sa_value.specs.declared.truth.Truth.{Truth}
use Rattle.sa_value.specs.Logic.{negation}
use Rattle.sa_cond.specs.declared.cond.Cond.{Cond, Cond-F, map-Cond, fold-Cond}
use Rattle.sa_cond.specs.declared.cond.Cond.TheVariants.{And, Or, Not}
use Rattle.sa_cond.specs.Choice.{Choice}
use Rattle.sa_cond.specs.Cited.{Name, cond_names, cond_node_names}
use Rattle.sa_cond.specs.Condition.{holds, node_truth, all_of, any_of}
use Rattle.sa_cond.specs.Interval.{CellKinds}
use Rattle.sa_cond.specs.Typed.{is_well_typed, node_typed}
use Rattle.sa_simplify.specs.Node.{of_node}
use Rattle.sa_simplify.proofs.Within.{Within, Within-itself, Within-none, Within-trans, Within-append, Within-same}
use Rattle.sa_simplify.proofs.NodeLemmas.{fold-of_node, along}

pub record Refines (x y : Cond) : Type 0 where
  pub truth : (choice : Choice) → holds choice x ≡ holds choice y
  pub typed : (kinds : CellKinds) → is_well_typed kinds y ≡ true → is_well_typed kinds x ≡ true
  pub named : Within (cond_names x) (cond_names y)

pub Refines-itself : (x : Cond) → Refines x x
Refines-itself x = record { truth = λ choice. refl; typed = λ kinds typed. typed; named = Within-itself (cond_names x) }

pub Refines-same : {x y : Cond} → x ≡ y → Refines x y
Refines-same {x} {y} is = subst (λ z. Refines x z) is (Refines-itself x)

pub Refines-trans : {x y z : Cond} → Refines x y → Refines y z → Refines x z
Refines-trans first second = record {
  truth = λ choice. first.truth choice ∙ second.truth choice;
  typed = λ kinds typed. first.typed kinds (second.typed kinds typed);
  named = Within-trans first.named second.named;
}

-- what the three are of AND, OR and NOT

pub holds-of_node : (choice : Choice) (node : Cond-F Cond) → holds choice (of_node node) ≡ node_truth choice (map-Cond Cond Truth (holds choice) node)
holds-of_node choice = fold-of_node Truth (node_truth choice)

pub typed-of_node : (kinds : CellKinds) (node : Cond-F Cond) → is_well_typed kinds (of_node node) ≡ node_typed kinds (map-Cond Cond Bool (is_well_typed kinds) node)
typed-of_node kinds = fold-of_node Bool (node_typed kinds)

pub names-of_node : (node : Cond-F Cond) → cond_names (of_node node) ≡ cond_node_names (map-Cond Cond (List Name) cond_names node)
names-of_node = fold-of_node (List Name) cond_node_names

pub both_true : (a b : Bool) → a && b ≡ true → (a ≡ true) × (b ≡ true)
both_true true b both = (refl, both)
both_true false b both = cc

pub true_both : (a b : Bool) → a ≡ true → b ≡ true → a && b ≡ true
true_both true b first second = second
true_both false b first second = cc

pub each_true : {A : Type 0} (f : A → Bool) (xs : List A) → list_all (λ b. b) (map f xs) ≡ true → AllByRecursion (λ x. f x ≡ true) xs
each_true f [] all = tt
each_true f (x ∷ xs) all = let both = both_true (f x) (list_all (λ b. b) (map f xs)) all in (both.0, each_true f xs both.1)

pub true_each : {A : Type 0} (f : A → Bool) (xs : List A) → AllByRecursion (λ x. f x ≡ true) xs → list_all (λ b. b) (map f xs) ≡ true
true_each f [] all = refl
true_each f (x ∷ xs) all = true_both (f x) (list_all (λ b. b) (map f xs)) all.0 (true_each f xs all.1)

-- Conditions whose truths, types and names can be told from those of their members: AND and OR.
pub record Joins (join : List Cond → Cond) : Type 0 where
  pub truths : List Truth → Truth
  pub holds_is : (choice : Choice) (xs : List Cond) → holds choice (join xs) ≡ truths (map (holds choice) xs)
  pub typed_is : (kinds : CellKinds) (xs : List Cond) → is_well_typed kinds (join xs) ≡ list_all (λ b. b) (map (is_well_typed kinds) xs)
  pub names_is : (xs : List Cond) → cond_names (join xs) ≡ flat_map (λ names. names) (map cond_names xs)

abbrev pub And-joins : Joins And
And-joins = record {
  truths = all_of;
  holds_is = λ choice xs. holds-of_node choice (Cond-F.And xs);
  typed_is = λ kinds xs. typed-of_node kinds (Cond-F.And xs);
  names_is = λ xs. names-of_node (Cond-F.And xs);
}

abbrev pub Or-joins : Joins Or
Or-joins = record {
  truths = any_of;
  holds_is = λ choice xs. holds-of_node choice (Cond-F.Or xs);
  typed_is = λ kinds xs. typed-of_node kinds (Cond-F.Or xs);
  names_is = λ xs. names-of_node (Cond-F.Or xs);
}

same_truths : (choice : Choice) {A : Type 0} (g h : A → Cond) (xs : List A) → AllByRecursion (λ x. Refines (g x) (h x)) xs → map (holds choice) (map g xs) ≡ map (holds choice) (map h xs)
same_truths choice g h [] all = refl
same_truths choice g h (x ∷ xs) all =
    ap (λ t. t ∷ map (holds choice) (map g xs)) (all.0.truth choice) ∙ ap (λ ts. holds choice (h x) ∷ ts) (same_truths choice g h xs all.1)

typed_all : (kinds : CellKinds) {A : Type 0} (g h : A → Cond) (xs : List A) → AllByRecursion (λ x. Refines (g x) (h x)) xs →
    AllByRecursion (λ x. is_well_typed kinds x ≡ true) (map h xs) → AllByRecursion (λ x. is_well_typed kinds x ≡ true) (map g xs)
typed_all kinds g h [] all typed = tt
typed_all kinds g h (x ∷ xs) all typed = (all.0.typed kinds typed.0, typed_all kinds g h xs all.1 typed.1)

named_all : {A : Type 0} (g h : A → Cond) (xs : List A) → AllByRecursion (λ x. Refines (g x) (h x)) xs →
    Within (flat_map (λ names. names) (map cond_names (map g xs))) (flat_map (λ names. names) (map cond_names (map h xs)))
named_all g h [] all = Within-none []
named_all g h (x ∷ xs) all = Within-append all.0.named (named_all g h xs all.1)

pub Refines-join : (join : List Cond → Cond) → Joins join → {A : Type 0} (g h : A → Cond) (xs : List A) → AllByRecursion (λ x. Refines (g x) (h x)) xs → Refines (join (map g xs)) (join (map h xs))
Refines-join join joins g h xs all = record {
  truth = λ choice. joins.holds_is choice (map g xs) ∙ ap joins.truths (same_truths choice g h xs all) ∙ sym (joins.holds_is choice (map h xs));
  typed = λ kinds typed. joins.typed_is kinds (map g xs)
      ∙ true_each (is_well_typed kinds) (map g xs) (typed_all kinds g h xs all (each_true (is_well_typed kinds) (map h xs) (sym (joins.typed_is kinds (map h xs)) ∙ typed)));
  named = Within-same (joins.names_is (map g xs)) (joins.names_is (map h xs)) (named_all g h xs all);
}

pub Refines-Not : {x y : Cond} → Refines x y → Refines (Not x) (Not y)
Refines-Not {x} {y} refines = record {
  truth = λ choice. holds-of_node choice (Cond-F.Not x) ∙ ap negation (refines.truth choice) ∙ sym (holds-of_node choice (Cond-F.Not y));
  typed = λ kinds typed. typed-of_node kinds (Cond-F.Not x) ∙ refines.typed kinds (sym (typed-of_node kinds (Cond-F.Not y)) ∙ typed);
  named = Within-same (names-of_node (Cond-F.Not x)) (names-of_node (Cond-F.Not y)) refines.named;
}

map-same : {A : Type 0} (xs : List A) → map (λ x. x) xs ≡ xs
map-same [] = refl
map-same (x ∷ xs) = ap (λ ys. x ∷ ys) (map-same xs)

-- a step from the inside out
module _ (step : Cond-F Cond → Cond) (at : (node : Cond-F Cond) → Refines (step node) (of_node node)) where
  at_leaf : (node : Cond-F Cond) → map-Cond Cond Cond (fold-Cond Cond step) node ≡ node → Refines (fold-Cond Cond step (of_node node)) (of_node node)
  at_leaf node same = Refines-trans (Refines-same (fold-of_node Cond step node ∙ ap step same)) (at node)

  at_join : (join : List Cond → Cond) → Joins join → (members : List Cond) → AllByRecursion (λ x. Refines (fold-Cond Cond step x) x) members →
      Refines (join (map (fold-Cond Cond step) members)) (join members)
  at_join join joins members all =
      Refines-trans (Refines-join join joins (fold-Cond Cond step) (λ x. x) members all) (Refines-same (ap join (map-same members)))

  pub Refines-fold : (cond : Cond) → Refines (fold-Cond Cond step cond) cond
  Refines-fold = along (λ cond. Refines (fold-Cond Cond step cond) cond) (record {
    known = λ truth. at_leaf (Cond-F.Known truth) refl;
    compare = λ op left right. at_leaf (Cond-F.Compare op left right) refl;
    is_null = λ x. at_leaf (Cond-F.IsNull x) refl;
    not_null = λ x. at_leaf (Cond-F.NotNull x) refl;
    between = λ value low high. at_leaf (Cond-F.Between value low high) refl;
    among = λ value list. at_leaf (Cond-F.Among value list) refl;
    all = λ members all. Refines-trans (Refines-same (fold-of_node Cond step (Cond-F.And members)))
        (Refines-trans (at (Cond-F.And (map (fold-Cond Cond step) members))) (at_join And And-joins members all));
    any = λ members all. Refines-trans (Refines-same (fold-of_node Cond step (Cond-F.Or members)))
        (Refines-trans (at (Cond-F.Or (map (fold-Cond Cond step) members))) (at_join Or Or-joins members all));
    not = λ x inner. Refines-trans (Refines-same (fold-of_node Cond step (Cond-F.Not x)))
        (Refines-trans (at (Cond-F.Not (fold-Cond Cond step x))) (Refines-Not inner));
  })
