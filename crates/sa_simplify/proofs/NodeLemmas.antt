-- Folds at a node, and induction over conditions.
use Rattle.std.proofs.Common.{◌≡◌, List, [], ◌∷◌, map, ap, sym, ◌∙◌, subst}
use Rattle.std.specs.List.{AllByRecursion}
use Rattle.sa_cond.specs.declared.cond.Cond.{Cond, Cond-F, out-Cond, roll-out-Cond, roll-Cond, map-Cond, fold-Cond, fold-roll-Cond, ind-Cond}
use Rattle.sa_cond.specs.declared.cond.Cond.TheVariants.{Known, Compare, IsNull, NotNull, Between, Among, And, Or, Not, rolls-Known, rolls-Compare, rolls-IsNull, rolls-NotNull, rolls-Between, rolls-Among, rolls-And, rolls-Or, rolls-Not}
use Rattle.sa_simplify.specs.Node.{of_node}

pub of_node-roll : (node : Cond-F Cond) → roll-Cond node ≡ of_node node
of_node-roll (Cond-F.Known truth) = rolls-Known truth
of_node-roll (Cond-F.Compare op left right) = rolls-Compare op left right
of_node-roll (Cond-F.IsNull x) = rolls-IsNull x
of_node-roll (Cond-F.NotNull x) = rolls-NotNull x
of_node-roll (Cond-F.Between value low high) = rolls-Between value low high
of_node-roll (Cond-F.Among value list) = rolls-Among value list
of_node-roll (Cond-F.And members) = rolls-And members
of_node-roll (Cond-F.Or members) = rolls-Or members
of_node-roll (Cond-F.Not x) = rolls-Not x

-- every condition has a node
pub of_node-out : (x : Cond) → x ≡ of_node (out-Cond x)
of_node-out x = sym (roll-out-Cond x) ∙ of_node-roll (out-Cond x)

-- a fold at a node
pub fold-of_node : (A : Type 0) (step : Cond-F A → A) (node : Cond-F Cond) → fold-Cond A step (of_node node) ≡ step (map-Cond Cond A (fold-Cond A step) node)
fold-of_node A step node = ap (fold-Cond A step) (sym (of_node-roll node)) ∙ fold-roll-Cond A step node

-- What holds of a condition without inner ones, and of one whose inner ones have it, holds of every condition.
pub record Carries (P : Cond → Type 0) : Type 0 where
  pub known : (truth : _) → P (Known truth)
  pub compare : (op : _) (left right : _) → P (Compare op left right)
  pub is_null : (x : _) → P (IsNull x)
  pub not_null : (x : _) → P (NotNull x)
  pub between : (value low high : _) → P (Between value low high)
  pub among : (value : _) (list : _) → P (Among value list)
  pub all : (members : List Cond) → AllByRecursion P members → P (And members)
  pub any : (members : List Cond) → AllByRecursion P members → P (Or members)
  pub not : (x : Cond) → P x → P (Not x)

seconds : (P : Cond → Type 0) (all : List ((cond : Cond) × P cond)) → AllByRecursion P (map (λ e. e.0) all)
seconds P [] = tt
seconds P (e ∷ all) = (e.1, seconds P all)

at_node : (P : Cond → Type 0) → Carries P → (y : Cond-F ((cond : Cond) × P cond)) → P (of_node (map-Cond ((cond : Cond) × P cond) Cond (λ e. e.0) y))
at_node P carries (Cond-F.Known truth) = carries.known truth
at_node P carries (Cond-F.Compare op left right) = carries.compare op left right
at_node P carries (Cond-F.IsNull x) = carries.is_null x
at_node P carries (Cond-F.NotNull x) = carries.not_null x
at_node P carries (Cond-F.Between value low high) = carries.between value low high
at_node P carries (Cond-F.Among value list) = carries.among value list
at_node P carries (Cond-F.And all) = carries.all (map (λ e. e.0) all) (seconds P all)
at_node P carries (Cond-F.Or all) = carries.any (map (λ e. e.0) all) (seconds P all)
at_node P carries (Cond-F.Not e) = carries.not e.0 e.1

pub along : (P : Cond → Type 0) → Carries P → (cond : Cond) → P cond
along P carries = ind-Cond P (λ x y is. subst P (sym (of_node-roll x)) (subst (λ z. P (of_node z)) is (at_node P carries y)))
