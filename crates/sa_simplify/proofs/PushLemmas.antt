-- NOT pushed inward, node by node; it says the same.
use Rattle.std.proofs.Common.{◌≡◌, Bool, true, false, not, List, [], ◌∷◌, map, refl, ap, sym, ◌∙◌}
use Rattle.std.specs.Prelude.{⊤}
use Rattle.std.specs.List.{AllByRecursion, list_all, flat_map}
use Rattle.sa_value.specs.declared.truth.Truth.{Truth}
use Rattle.sa_value.specs.declared.truth.CompareOp.{CompareOp}
use Rattle.sa_value.specs.declared.truth.CompareOp.TheVariants.{Eq, NullEq, Ne, Lt, Le, Gt, Ge}
use Rattle.sa_value.specs.declared.value.Value.{Value}
use Rattle.sa_value.specs.declared.value.Value.TheVariants.{Null}
use Rattle.sa_value.specs.Compare.{known, truth_of, holds_at, order_of}
use Rattle.sa_value.specs.Logic.{negation}
use Rattle.std.specs.declared.cmp.Ordering.{Ordering}
use Rattle.std.specs.declared.cmp.Ordering.TheVariants.{Less, Equal, Greater}
use Rattle.sa_cond.specs.declared.cond.Cond.{Cond, Cond-F, out-Cond, map-Cond}
use Rattle.sa_cond.specs.declared.cond.Cond.TheVariants.{Known, Compare, IsNull, NotNull, Between, Among, And, Or, Not}
use Rattle.sa_cond.specs.declared.expr.Expr.{Expr}
use Rattle.sa_cond.specs.Choice.{Choice}
use Rattle.sa_cond.specs.Cited.{cond_names}
use Rattle.sa_cond.specs.Condition.{holds, all_of, any_of, is_null}
use Rattle.sa_cond.specs.Expression.{expr_value}
use Rattle.sa_cond.specs.Interval.{CellKinds}
use Rattle.sa_cond.specs.Typed.{is_well_typed}
use Rattle.sa_simplify.specs.declared.push.Sense.{Sense}
use Rattle.sa_simplify.specs.declared.push.Sense.TheVariants.{Plain, Denied}
use Rattle.sa_simplify.specs.Node.{of_node}
use Rattle.sa_simplify.specs.Push.{pushed, node_pushed, comparison_denied}
use Rattle.sa_simplify.specs.inner.Leaf.{leaf_denied}
use Rattle.sa_simplify.proofs.Truths.{negation-negation, any_of-not, all_of-not}
use Rattle.sa_simplify.proofs.Within.{Within-itself, Within-same}
use Rattle.sa_simplify.proofs.NodeLemmas.{of_node-out, fold-of_node, along}
use Rattle.sa_simplify.proofs.Refines.{Refines, Refines-itself, Refines-same, Refines-trans, Refines-join, And-joins, Or-joins, Joins, holds-of_node, typed-of_node, names-of_node}

pub pushed-of_node : (node : Cond-F Cond) (sense : Sense) → pushed (of_node node) sense ≡ node_pushed (map-Cond Cond (Sense → Cond) pushed node) sense
unfolding pushed
pushed-of_node node sense = ap (λ (f : Sense → Cond). f sense) (fold-of_node (Sense → Cond) node_pushed node)

pub pushed-Known : (truth : Truth) (sense : Sense) → pushed (Known truth) sense ≡ node_pushed (Cond-F.Known truth) sense
pushed-Known truth = pushed-of_node (Cond-F.Known truth)

pub pushed-Compare : (op : CompareOp) (left right : Expr) (sense : Sense) → pushed (Compare op left right) sense ≡ node_pushed (Cond-F.Compare op left right) sense
pushed-Compare op left right = pushed-of_node (Cond-F.Compare op left right)

pub pushed-IsNull : (x : Expr) (sense : Sense) → pushed (IsNull x) sense ≡ node_pushed (Cond-F.IsNull x) sense
pushed-IsNull x = pushed-of_node (Cond-F.IsNull x)

pub pushed-NotNull : (x : Expr) (sense : Sense) → pushed (NotNull x) sense ≡ node_pushed (Cond-F.NotNull x) sense
pushed-NotNull x = pushed-of_node (Cond-F.NotNull x)

pub pushed-Between : (value low high : Expr) (sense : Sense) → pushed (Between value low high) sense ≡ node_pushed (Cond-F.Between value low high) sense
pushed-Between value low high = pushed-of_node (Cond-F.Between value low high)

pub pushed-Among : (value : Expr) (list : List Expr) (sense : Sense) → pushed (Among value list) sense ≡ node_pushed (Cond-F.Among value list) sense
pushed-Among value list = pushed-of_node (Cond-F.Among value list)

pub pushed-And : (members : List Cond) (sense : Sense) → pushed (And members) sense ≡ node_pushed (Cond-F.And (map pushed members)) sense
pushed-And members = pushed-of_node (Cond-F.And members)

pub pushed-Or : (members : List Cond) (sense : Sense) → pushed (Or members) sense ≡ node_pushed (Cond-F.Or (map pushed members)) sense
pushed-Or members = pushed-of_node (Cond-F.Or members)

pub pushed-Not : (x : Cond) (sense : Sense) → pushed (Not x) sense ≡ node_pushed (Cond-F.Not (pushed x)) sense
pushed-Not x = pushed-of_node (Cond-F.Not x)

pub ruleset pushing = (pushed-Known, pushed-Compare, pushed-IsNull, pushed-NotNull, pushed-Between, pushed-Among, pushed-And, pushed-Or, pushed-Not)

-- the comparison that is the opposite of another but `<=>`
abbrev opposite : CompareOp → CompareOp
opposite Eq = Ne
opposite NullEq = NullEq
opposite Ne = Eq
opposite Lt = Ge
opposite Le = Gt
opposite Gt = Le
opposite Ge = Lt

abbrev OrderDenied : CompareOp → Ordering → Type 0
OrderDenied NullEq order = ⊤
OrderDenied op order = known (holds_at (opposite op) order) ≡ negation (known (holds_at op order))

order_denied : (op : CompareOp) (order : Ordering) → OrderDenied op order
order_denied NullEq order = tt
order_denied op Less = refl
order_denied op Equal = refl
order_denied op Greater = refl

abbrev ValuesDenied : CompareOp → Value → Value → Type 0
ValuesDenied NullEq a b = ⊤
ValuesDenied op a b = truth_of (opposite op) a b ≡ negation (truth_of op a b)

values_denied : (op : CompareOp) (a b : Value) → ValuesDenied op a b
values_denied NullEq a b = tt
values_denied op Null b = refl
values_denied op a Null = refl
values_denied op a b = order_denied op (order_of a b)

denied_truth : (op : CompareOp) (left right : Expr) (choice : Choice) → ValuesDenied op (expr_value choice left) (expr_value choice right) →
    holds choice (comparison_denied op left right) ≡ negation (holds choice (Compare op left right))
denied_truth NullEq left right choice denied = holds-of_node choice (Cond-F.Not (Compare NullEq left right))
denied_truth op left right choice denied =
    holds-of_node choice (Cond-F.Compare (opposite op) left right) ∙ denied ∙ ap negation (sym (holds-of_node choice (Cond-F.Compare op left right)))

denied_typed : (op : CompareOp) (left right : Expr) (kinds : CellKinds) → is_well_typed kinds (comparison_denied op left right) ≡ is_well_typed kinds (Compare op left right)
denied_typed NullEq left right kinds = typed-of_node kinds (Cond-F.Not (Compare NullEq left right))
denied_typed op left right kinds = typed-of_node kinds (Cond-F.Compare (opposite op) left right) ∙ sym (typed-of_node kinds (Cond-F.Compare op left right))

denied_named : (op : CompareOp) (left right : Expr) → cond_names (comparison_denied op left right) ≡ cond_names (Compare op left right)
denied_named NullEq left right = names-of_node (Cond-F.Not (Compare NullEq left right))
denied_named op left right = names-of_node (Cond-F.Compare (opposite op) left right) ∙ sym (names-of_node (Cond-F.Compare op left right))

-- a condition that is the NOT of another, in the three
refines_not : (x y : Cond) → ((choice : Choice) → holds choice x ≡ negation (holds choice y)) → ((kinds : CellKinds) → is_well_typed kinds x ≡ is_well_typed kinds y) →
    cond_names x ≡ cond_names y → Refines x (Not y)
refines_not x y truth typed named = record {
  truth = λ choice. truth choice ∙ sym (holds-of_node choice (Cond-F.Not y));
  typed = λ kinds is. typed kinds ∙ sym (typed-of_node kinds (Cond-F.Not y)) ∙ is;
  named = Within-same named (names-of_node (Cond-F.Not y)) (Within-itself (cond_names y));
}

comparison_refines : (op : CompareOp) (left right : Expr) → Refines (comparison_denied op left right) (Not (Compare op left right))
comparison_refines op left right =
    refines_not (comparison_denied op left right) (Compare op left right)
    (λ choice. denied_truth op left right choice (values_denied op (expr_value choice left) (expr_value choice right)))
    (denied_typed op left right) (denied_named op left right)

null_denied : (b : Bool) → known (not b) ≡ negation (known b)
null_denied true = refl
null_denied false = refl

null_denied_back : (b : Bool) → known b ≡ negation (known (not b))
null_denied_back true = refl
null_denied_back false = refl

pub not_null_refines : (x : Expr) → Refines (NotNull x) (Not (IsNull x))
not_null_refines x = refines_not (NotNull x) (IsNull x)
    (λ choice. holds-of_node choice (Cond-F.NotNull x) ∙ null_denied (is_null (expr_value choice x)) ∙ ap negation (sym (holds-of_node choice (Cond-F.IsNull x))))
    (λ kinds. typed-of_node kinds (Cond-F.NotNull x) ∙ sym (typed-of_node kinds (Cond-F.IsNull x)))
    (names-of_node (Cond-F.NotNull x) ∙ sym (names-of_node (Cond-F.IsNull x)))

is_null_refines : (x : Expr) → Refines (IsNull x) (Not (NotNull x))
is_null_refines x = refines_not (IsNull x) (NotNull x)
    (λ choice. holds-of_node choice (Cond-F.IsNull x) ∙ null_denied_back (is_null (expr_value choice x)) ∙ ap negation (sym (holds-of_node choice (Cond-F.NotNull x))))
    (λ kinds. typed-of_node kinds (Cond-F.IsNull x) ∙ sym (typed-of_node kinds (Cond-F.NotNull x)))
    (names-of_node (Cond-F.IsNull x) ∙ sym (names-of_node (Cond-F.NotNull x)))

not_not_refines : (x : Cond) → Refines x (Not (Not x))
not_not_refines x = refines_not x (Not x)
    (λ choice. sym (negation-negation (holds choice x)) ∙ ap negation (sym (holds-of_node choice (Cond-F.Not x))))
    (λ kinds. sym (typed-of_node kinds (Cond-F.Not x))) (sym (names-of_node (Cond-F.Not x)))

-- De Morgan

nots_truths : (choice : Choice) (xs : List Cond) → map (holds choice) (map Not xs) ≡ map negation (map (holds choice) xs)
nots_truths choice [] = refl
nots_truths choice (x ∷ xs) =
    ap (λ t. t ∷ map (holds choice) (map Not xs)) (holds-of_node choice (Cond-F.Not x)) ∙ ap (λ ts. negation (holds choice x) ∷ ts) (nots_truths choice xs)

nots_typed : (kinds : CellKinds) (xs : List Cond) → map (is_well_typed kinds) (map Not xs) ≡ map (is_well_typed kinds) xs
nots_typed kinds [] = refl
nots_typed kinds (x ∷ xs) =
    ap (λ b. b ∷ map (is_well_typed kinds) (map Not xs)) (typed-of_node kinds (Cond-F.Not x)) ∙ ap (λ bs. is_well_typed kinds x ∷ bs) (nots_typed kinds xs)

nots_named : (xs : List Cond) → map cond_names (map Not xs) ≡ map cond_names xs
nots_named [] = refl
nots_named (x ∷ xs) = ap (λ n. n ∷ map cond_names (map Not xs)) (names-of_node (Cond-F.Not x)) ∙ ap (λ ns. cond_names x ∷ ns) (nots_named xs)

or_refines : (xs : List Cond) → Refines (Or (map Not xs)) (Not (And xs))
or_refines xs = refines_not (Or (map Not xs)) (And xs)
    (λ choice. holds-of_node choice (Cond-F.Or (map Not xs)) ∙ ap any_of (nots_truths choice xs) ∙ any_of-not (map (holds choice) xs)
    ∙ ap negation (sym (holds-of_node choice (Cond-F.And xs))))
    (λ kinds. typed-of_node kinds (Cond-F.Or (map Not xs)) ∙ ap (list_all (λ b. b)) (nots_typed kinds xs) ∙ sym (typed-of_node kinds (Cond-F.And xs)))
    (names-of_node (Cond-F.Or (map Not xs)) ∙ ap (flat_map (λ n. n)) (nots_named xs) ∙ sym (names-of_node (Cond-F.And xs)))

and_refines : (xs : List Cond) → Refines (And (map Not xs)) (Not (Or xs))
and_refines xs = refines_not (And (map Not xs)) (Or xs)
    (λ choice. holds-of_node choice (Cond-F.And (map Not xs)) ∙ ap all_of (nots_truths choice xs) ∙ all_of-not (map (holds choice) xs)
    ∙ ap negation (sym (holds-of_node choice (Cond-F.Or xs))))
    (λ kinds. typed-of_node kinds (Cond-F.And (map Not xs)) ∙ ap (list_all (λ b. b)) (nots_typed kinds xs) ∙ sym (typed-of_node kinds (Cond-F.Or xs)))
    (names-of_node (Cond-F.And (map Not xs)) ∙ ap (flat_map (λ n. n)) (nots_named xs) ∙ sym (names-of_node (Cond-F.Or xs)))

-- the whole condition, plain and under NOT

record BothRefine (cond : Cond) : Type 0 where
  plain : Refines (pushed cond Plain) cond
  denied : Refines (pushed cond Denied) (Not cond)

members_of_pushed : (sense : Sense) (xs : List Cond) → map (λ member. member sense) (map pushed xs) ≡ map (λ x. pushed x sense) xs
members_of_pushed sense [] = refl
members_of_pushed sense (x ∷ xs) = ap (λ ys. pushed x sense ∷ ys) (members_of_pushed sense xs)

map-same : (xs : List Cond) → map (λ x. x) xs ≡ xs
map-same [] = refl
map-same (x ∷ xs) = ap (λ ys. x ∷ ys) (map-same xs)

all_plain : (xs : List Cond) → AllByRecursion BothRefine xs → AllByRecursion (λ x. Refines (pushed x Plain) x) xs
all_plain [] all = tt
all_plain (x ∷ xs) all = (all.0.plain, all_plain xs all.1)

all_denied : (xs : List Cond) → AllByRecursion BothRefine xs → AllByRecursion (λ x. Refines (pushed x Denied) (Not x)) xs
all_denied [] all = tt
all_denied (x ∷ xs) all = (all.0.denied, all_denied xs all.1)

join_plain : (join : List Cond → Cond) → Joins join → (xs : List Cond) → AllByRecursion BothRefine xs → Refines (join (map (λ member. member Plain) (map pushed xs))) (join xs)
join_plain join joins xs all =
    Refines-trans (Refines-same (ap join (members_of_pushed Plain xs)))
    (Refines-trans (Refines-join join joins (λ x. pushed x Plain) (λ x. x) xs (all_plain xs all)) (Refines-same (ap join (map-same xs))))

join_denied : (join : List Cond → Cond) → Joins join → (xs : List Cond) → AllByRecursion BothRefine xs → Refines (join (map (λ member. member Denied) (map pushed xs))) (join (map Not xs))
join_denied join joins xs all =
    Refines-trans (Refines-same (ap join (members_of_pushed Denied xs))) (Refines-join join joins (λ x. pushed x Denied) Not xs (all_denied xs all))

leaf : (node : Cond-F Cond) → Refines (node_pushed (map-Cond Cond (Sense → Cond) pushed node) Plain) (of_node node) →
    Refines (node_pushed (map-Cond Cond (Sense → Cond) pushed node) Denied) (Not (of_node node)) → BothRefine (of_node node)
leaf node plain denied = record {
  plain = Refines-trans (Refines-same (pushed-of_node node Plain)) plain;
  denied = Refines-trans (Refines-same (pushed-of_node node Denied)) denied;
}

both_refine : (cond : Cond) → BothRefine cond
both_refine = along BothRefine (record {
  known = λ truth. leaf (Cond-F.Known truth) (Refines-itself (Known truth)) (Refines-itself (Not (Known truth)));
  compare = λ op left right. leaf (Cond-F.Compare op left right) (Refines-itself (Compare op left right)) (comparison_refines op left right);
  is_null = λ x. leaf (Cond-F.IsNull x) (Refines-itself (IsNull x)) (not_null_refines x);
  not_null = λ x. leaf (Cond-F.NotNull x) (Refines-itself (NotNull x)) (is_null_refines x);
  between = λ value low high. leaf (Cond-F.Between value low high) (Refines-itself (Between value low high)) (Refines-itself (Not (Between value low high)));
  among = λ value list. leaf (Cond-F.Among value list) (Refines-itself (Among value list)) (Refines-itself (Not (Among value list)));
  all = λ members all. leaf (Cond-F.And members) (join_plain And And-joins members all) (Refines-trans (join_denied Or Or-joins members all) (or_refines members));
  any = λ members all. leaf (Cond-F.Or members) (join_plain Or Or-joins members all) (Refines-trans (join_denied And And-joins members all) (and_refines members));
  not = λ x inner. leaf (Cond-F.Not x) inner.denied (Refines-trans inner.plain (not_not_refines x));
})

pub pushed_refines : (cond : Cond) → Refines (pushed cond Plain) cond
pushed_refines cond = (both_refine cond).plain

-- what the code has in hand at a node

pub pushed_at : (node : Cond-F Cond) (cond : Cond) (sense sense' : Sense) (done : Cond) → cond ≡ of_node node → sense ≡ sense' →
    done ≡ node_pushed (map-Cond Cond (Sense → Cond) pushed node) sense' → done ≡ pushed cond sense
pushed_at node cond sense sense' done is in_sense done_is =
    done_is ∙ sym (pushed-of_node node sense') ∙ ap (λ c. pushed c sense') (sym is) ∙ ap (pushed cond) (sym in_sense)

pub members_pushed : (members done : List Cond) (sense sense' : Sense) → sense ≡ sense' → done ≡ map (λ member. pushed member sense) members →
    done ≡ map (λ member. member sense') (map pushed members)
members_pushed members done sense sense' in_sense all = all ∙ ap (λ s. map (λ m. pushed m s) members) in_sense ∙ sym (members_of_pushed sense' members)

-- A condition that is no AND, no OR and no NOT.
pub record IsLeaf (cond : Cond) : Type 0 where
  pub no_and : (members : List Cond) → cond ≡ And members → ⊥
  pub no_or : (members : List Cond) → cond ≡ Or members → ⊥
  pub no_not : (x : Cond) → cond ≡ Not x → ⊥

plain_at : (node : Cond-F Cond) (cond : Cond) → cond ≡ of_node node → IsLeaf cond → cond ≡ pushed cond Plain
plain_at (Cond-F.Known truth) cond is leaf = pushed_at (Cond-F.Known truth) cond Plain Plain cond is refl is
plain_at (Cond-F.Compare op left right) cond is leaf = pushed_at (Cond-F.Compare op left right) cond Plain Plain cond is refl is
plain_at (Cond-F.IsNull x) cond is leaf = pushed_at (Cond-F.IsNull x) cond Plain Plain cond is refl is
plain_at (Cond-F.NotNull x) cond is leaf = pushed_at (Cond-F.NotNull x) cond Plain Plain cond is refl is
plain_at (Cond-F.Between value low high) cond is leaf = pushed_at (Cond-F.Between value low high) cond Plain Plain cond is refl is
plain_at (Cond-F.Among value list) cond is leaf = pushed_at (Cond-F.Among value list) cond Plain Plain cond is refl is
plain_at (Cond-F.And members) cond is leaf = absurd (leaf.no_and members is)
plain_at (Cond-F.Or members) cond is leaf = absurd (leaf.no_or members is)
plain_at (Cond-F.Not x) cond is leaf = absurd (leaf.no_not x is)

denied_at : (node : Cond-F Cond) (cond : Cond) → cond ≡ of_node node → IsLeaf cond → leaf_denied cond ≡ pushed cond Denied
denied_at (Cond-F.Known truth) cond is leaf = pushed_at (Cond-F.Known truth) cond Denied Denied (leaf_denied cond) is refl (ap leaf_denied is)
denied_at (Cond-F.Compare op left right) cond is leaf = pushed_at (Cond-F.Compare op left right) cond Denied Denied (leaf_denied cond) is refl (ap leaf_denied is)
denied_at (Cond-F.IsNull x) cond is leaf = pushed_at (Cond-F.IsNull x) cond Denied Denied (leaf_denied cond) is refl (ap leaf_denied is)
denied_at (Cond-F.NotNull x) cond is leaf = pushed_at (Cond-F.NotNull x) cond Denied Denied (leaf_denied cond) is refl (ap leaf_denied is)
denied_at (Cond-F.Between value low high) cond is leaf = pushed_at (Cond-F.Between value low high) cond Denied Denied (leaf_denied cond) is refl (ap leaf_denied is)
denied_at (Cond-F.Among value list) cond is leaf = pushed_at (Cond-F.Among value list) cond Denied Denied (leaf_denied cond) is refl (ap leaf_denied is)
denied_at (Cond-F.And members) cond is leaf = absurd (leaf.no_and members is)
denied_at (Cond-F.Or members) cond is leaf = absurd (leaf.no_or members is)
denied_at (Cond-F.Not x) cond is leaf = absurd (leaf.no_not x is)

pub leaf_plain : (cond : Cond) (sense : Sense) → IsLeaf cond → sense ≡ Plain → cond ≡ pushed cond sense
leaf_plain cond sense leaf is = plain_at (out-Cond cond) cond (of_node-out cond) leaf ∙ ap (pushed cond) (sym is)

pub leaf_is_denied : (cond done : Cond) (sense : Sense) → IsLeaf cond → sense ≡ Denied → done ≡ leaf_denied cond → done ≡ pushed cond sense
leaf_is_denied cond done sense leaf is done_is = done_is ∙ denied_at (out-Cond cond) cond (of_node-out cond) leaf ∙ ap (pushed cond) (sym is)
