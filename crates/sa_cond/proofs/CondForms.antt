-- What the definitions say of a condition of each form, and an induction over the forms.
use Rattle.std.proofs.Common.{◌≡◌, not, ◌&&◌, List, [], ◌++◌, get_or, map, flat_map, All, sym, subst}
use Rattle.std.specs.List.{list_all}
use Rattle.std.proofs.lemmas.List.Elements.{All-map}
use Rattle.sa_value.specs.declared.truth.CompareOp.{CompareOp}
use Rattle.sa_value.specs.declared.truth.Truth.{Truth}
use Rattle.sa_value.specs.Compare.{known, truth_of}
use Rattle.sa_value.specs.Logic.{negation}
use Rattle.sa_cond.specs.declared.cond.Cond.{Cond, Cond-F, map-Cond, ind-Cond, roll-Cond, the_lemmas}
use Rattle.sa_cond.specs.declared.cond.Cond.TheVariants as node
use Rattle.sa_cond.specs.declared.expr.Expr.{Expr}
use Rattle.sa_cond.specs.Choice.{Choice}
use Rattle.sa_cond.specs.Cited.{expr_names, cond_names}
use Rattle.sa_cond.specs.Condition.{is_null, all_of, any_of, between, among, holds}
use Rattle.sa_cond.specs.Expression.{expr_value}
use Rattle.sa_cond.specs.Interval.{CellKinds, expr_kind}
use Rattle.sa_cond.specs.Typed.{is_proper, can_compare, is_well_typed}

-- what holds of each condition without conditions below it, and of a node where it holds of those below, holds of each condition
pub record Cases (P : Cond → Type 0) : Type 0 where
  pub at_known : (truth : Truth) → P (node.Known truth)
  pub at_compare : (op : CompareOp) (left right : Expr) → P (node.Compare op left right)
  pub at_is_null : (x : Expr) → P (node.IsNull x)
  pub at_not_null : (x : Expr) → P (node.NotNull x)
  pub at_between : (value low high : Expr) → P (node.Between value low high)
  pub at_among : (value : Expr) (list : List Expr) → P (node.Among value list)
  pub at_and : (members : List Cond) → All P members → P (node.And members)
  pub at_or : (members : List Cond) → All P members → P (node.Or members)
  pub at_not : (x : Cond) → P x → P (node.Not x)

module _ (P : Cond → Type 0) (cases : Cases P) where
  abbrev At : Cond-F Cond → Type 0
  At layer = P (roll-Cond layer)

  abbrev With : Type 0
  With = (x : Cond) × P x

  each : (members : List With) → All P (map (λ e. e.0) members)
  each members = All-map P (λ (e : With). e.0) members (λ k d lt. (get_or members k d).1)

  at_layer : (y : Cond-F With) → (x : Cond-F Cond) → map-Cond With Cond (λ e. e.0) y ≡ x → At x
  at_layer (Cond-F.Known truth) x is = subst At is (subst P (sym (node.rolls-Known truth)) (cases.at_known truth))
  at_layer (Cond-F.Compare op left right) x is = subst At is (subst P (sym (node.rolls-Compare op left right)) (cases.at_compare op left right))
  at_layer (Cond-F.IsNull value) x is = subst At is (subst P (sym (node.rolls-IsNull value)) (cases.at_is_null value))
  at_layer (Cond-F.NotNull value) x is = subst At is (subst P (sym (node.rolls-NotNull value)) (cases.at_not_null value))
  at_layer (Cond-F.Between value low high) x is = subst At is (subst P (sym (node.rolls-Between value low high)) (cases.at_between value low high))
  at_layer (Cond-F.Among value list) x is = subst At is (subst P (sym (node.rolls-Among value list)) (cases.at_among value list))
  at_layer (Cond-F.And members) x is =
      subst At is (subst P (sym (node.rolls-And (map (λ e. e.0) members))) (cases.at_and (map (λ e. e.0) members) (each members)))
  at_layer (Cond-F.Or members) x is =
      subst At is (subst P (sym (node.rolls-Or (map (λ e. e.0) members))) (cases.at_or (map (λ e. e.0) members) (each members)))
  at_layer (Cond-F.Not e) x is = subst At is (subst P (sym (node.rolls-Not e.0)) (cases.at_not e.0 e.1))

  pub by_forms : (cond : Cond) → P cond
  by_forms = ind-Cond P (λ x y is. at_layer y x is)

-- truths

pub holds-Known : (choice : Choice) (truth : Truth) → holds choice (node.Known truth) ≡ truth
holds-Known choice truth = simp the_lemmas

pub holds-Compare : (choice : Choice) (op : CompareOp) (left right : Expr)
    → holds choice (node.Compare op left right) ≡ truth_of op (expr_value choice left) (expr_value choice right)
holds-Compare choice op left right = simp the_lemmas

pub holds-IsNull : (choice : Choice) (x : Expr) → holds choice (node.IsNull x) ≡ known (is_null (expr_value choice x))
holds-IsNull choice x = simp the_lemmas

pub holds-NotNull : (choice : Choice) (x : Expr) → holds choice (node.NotNull x) ≡ known (not (is_null (expr_value choice x)))
holds-NotNull choice x = simp the_lemmas

pub holds-Between : (choice : Choice) (value low high : Expr)
    → holds choice (node.Between value low high) ≡ between (expr_value choice value) (expr_value choice low) (expr_value choice high)
holds-Between choice value low high = simp the_lemmas

pub holds-Among : (choice : Choice) (value : Expr) (list : List Expr)
    → holds choice (node.Among value list) ≡ among (expr_value choice value) (map (expr_value choice) list)
holds-Among choice value list = simp the_lemmas

pub holds-And : (choice : Choice) (members : List Cond) → holds choice (node.And members) ≡ all_of (map (holds choice) members)
holds-And choice members = simp the_lemmas

pub holds-Or : (choice : Choice) (members : List Cond) → holds choice (node.Or members) ≡ any_of (map (holds choice) members)
holds-Or choice members = simp the_lemmas

pub holds-Not : (choice : Choice) (x : Cond) → holds choice (node.Not x) ≡ negation (holds choice x)
holds-Not choice x = simp the_lemmas

-- names

pub names-Known : (truth : Truth) → cond_names (node.Known truth) ≡ []
names-Known truth = simp the_lemmas

pub names-Compare : (op : CompareOp) (left right : Expr) → cond_names (node.Compare op left right) ≡ expr_names left ++ expr_names right
names-Compare op left right = simp the_lemmas

pub names-IsNull : (x : Expr) → cond_names (node.IsNull x) ≡ expr_names x
names-IsNull x = simp the_lemmas

pub names-NotNull : (x : Expr) → cond_names (node.NotNull x) ≡ expr_names x
names-NotNull x = simp the_lemmas

pub names-Between : (value low high : Expr) → cond_names (node.Between value low high) ≡ expr_names value ++ expr_names low ++ expr_names high
names-Between value low high = simp the_lemmas

pub names-Among : (value : Expr) (list : List Expr) → cond_names (node.Among value list) ≡ expr_names value ++ flat_map expr_names list
names-Among value list = simp the_lemmas

pub names-And : (members : List Cond) → cond_names (node.And members) ≡ flat_map (λ names. names) (map cond_names members)
names-And members = simp the_lemmas

pub names-Or : (members : List Cond) → cond_names (node.Or members) ≡ flat_map (λ names. names) (map cond_names members)
names-Or members = simp the_lemmas

pub names-Not : (x : Cond) → cond_names (node.Not x) ≡ cond_names x
names-Not x = simp the_lemmas

-- types

pub typed-Compare : (kinds : CellKinds) (op : CompareOp) (left right : Expr)
    → is_well_typed kinds (node.Compare op left right) ≡ can_compare (expr_kind kinds left) (expr_kind kinds right)
typed-Compare kinds op left right = simp the_lemmas

pub typed-IsNull : (kinds : CellKinds) (x : Expr) → is_well_typed kinds (node.IsNull x) ≡ is_proper (expr_kind kinds x)
typed-IsNull kinds x = simp the_lemmas

pub typed-NotNull : (kinds : CellKinds) (x : Expr) → is_well_typed kinds (node.NotNull x) ≡ is_proper (expr_kind kinds x)
typed-NotNull kinds x = simp the_lemmas

pub typed-Between : (kinds : CellKinds) (value low high : Expr)
    → is_well_typed kinds (node.Between value low high)
    ≡ (can_compare (expr_kind kinds value) (expr_kind kinds low) && can_compare (expr_kind kinds value) (expr_kind kinds high))
typed-Between kinds value low high = simp the_lemmas

pub typed-Among : (kinds : CellKinds) (value : Expr) (list : List Expr)
    → is_well_typed kinds (node.Among value list)
    ≡ (is_proper (expr_kind kinds value) && list_all (λ member. can_compare (expr_kind kinds value) (expr_kind kinds member)) list)
typed-Among kinds value list = simp the_lemmas

pub typed-And : (kinds : CellKinds) (members : List Cond) → is_well_typed kinds (node.And members) ≡ list_all (λ typed. typed) (map (is_well_typed kinds) members)
typed-And kinds members = simp the_lemmas

pub typed-Or : (kinds : CellKinds) (members : List Cond) → is_well_typed kinds (node.Or members) ≡ list_all (λ typed. typed) (map (is_well_typed kinds) members)
typed-Or kinds members = simp the_lemmas

pub typed-Not : (kinds : CellKinds) (x : Cond) → is_well_typed kinds (node.Not x) ≡ is_well_typed kinds x
typed-Not kinds x = simp the_lemmas
