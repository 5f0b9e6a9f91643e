-- Conditions that are simplified up to the equalities that are handed on: each of the first six steps leaves them as they are.
use Rattle.std.proofs.Common.{◌≡◌, Bool, false, not, ◌||◌, ◌&&◌, cond, if◌then◌else◌, List, [], ◌∷◌, ◌++◌, map, filter, refl, ap, ◌∙◌, inl, inr}
use Rattle.std.specs.Prelude.{⊤, is_some}
use Rattle.std.specs.List.{AllByRecursion, list_any, flat_map}
use Rattle.sa_value.specs.declared.truth.CompareOp.{CompareOp}
use Rattle.sa_value.specs.declared.truth.CompareOp.TheVariants.{NullEq}
use Rattle.sa_value.specs.declared.truth.Truth.{Truth}
use Rattle.sa_value.specs.declared.truth.Truth.TheVariants.{False, True}
use Rattle.sa_cond.specs.declared.cond.Cond.{Cond, Cond-F, fold-Cond}
use Rattle.sa_cond.specs.declared.cond.Cond.TheVariants.{Known, Compare, IsNull, NotNull, And, Or, Not}
use Rattle.sa_cond.specs.declared.expr.Expr.{Expr}
use Rattle.sa_simplify.specs.declared.push.Sense.{Sense}
use Rattle.sa_simplify.specs.declared.push.Sense.TheVariants.{Plain, Denied}
use Rattle.sa_simplify.specs.Node.{is_literal}
use Rattle.sa_simplify.specs.Expand.{node_expanded, expanded}
use Rattle.sa_simplify.specs.Push.{pushed}
use Rattle.sa_simplify.specs.Fold.{folded_expr, node_folded_within, folded}
use Rattle.sa_simplify.specs.Turn.{mirrored, node_turned, turned}
use Rattle.sa_simplify.specs.Decide.{null_decided, not_null_decided, node_decided, decided}
use Rattle.sa_simplify.specs.Flatten.{is_true, is_false, conjuncts_of, disjuncts_of, and_or_alone, or_or_alone, node_flattened, flattened}
use Rattle.sa_simplify.proofs.Amidst.{IsIn}
use Rattle.sa_simplify.proofs.NodeLemmas.{fold-of_node}
use Rattle.sa_simplify.proofs.PushLemmas.{pushed-Known, pushed-Compare, pushed-IsNull, pushed-NotNull, pushed-And, pushed-Or, pushed-Not}
use Rattle.sa_simplify.proofs.Settled.{IsOpen, IsSettled, IsAtom, truth, compared, null, not_null, unequal, settled_stands}

-- A member of a flat AND or OR: no AND or OR of its own, and no truth that would vanish or decide.
pub record IsMember (members_of : Cond → List Cond) (x : Cond) : Type 0 where
  pub alone : members_of x ≡ x ∷ []
  pub not_true : is_true x ≡ false
  pub not_false : is_false x ≡ false

-- at least two
abbrev pub AreSeveral : List Cond → Type 0
AreSeveral [] = ⊥
AreSeveral (x ∷ []) = ⊥
AreSeveral (x ∷ y ∷ xs) = ⊤

pub record AreFlat (members_of : Cond → List Cond) (xs : List Cond) : Type 0 where
  pub several : AreSeveral xs
  pub each : AllByRecursion (IsMember members_of) xs

pub data IsNormal : Cond → Type 0 where
  atom : {x : Cond} → IsAtom x → IsNormal x
  all : (members : List Cond) → AreFlat conjuncts_of members → ((x : Cond) → IsIn x members → IsNormal x) → IsNormal (And members)
  any : (members : List Cond) → AreFlat disjuncts_of members → ((x : Cond) → IsIn x members → IsNormal x) → IsNormal (Or members)

pub map-stays : (f : Cond → Cond) (xs : List Cond) → ((x : Cond) → IsIn x xs → f x ≡ x) → map f xs ≡ xs
map-stays f [] stays = refl
map-stays f (x ∷ xs) stays = ap (λ y. y ∷ map f xs) (stays x (inl refl)) ∙ ap (λ ys. x ∷ ys) (map-stays f xs (λ y here. stays y (inr here)))

-- A step that leaves what is left of a leaf, and flat members.
record Leaves (step : Cond-F Cond → Cond) : Type 0 where
  at_truth : (truth : Truth) → step (Cond-F.Known truth) ≡ Known truth
  at_compared : (op : CompareOp) (left right : Expr) → IsSettled left right → step (Cond-F.Compare op left right) ≡ Compare op left right
  at_null : (x : Expr) → IsOpen x → step (Cond-F.IsNull x) ≡ IsNull x
  at_not_null : (x : Expr) → IsOpen x → step (Cond-F.NotNull x) ≡ NotNull x
  at_unequal : (left right : Expr) → IsSettled left right → step (Cond-F.Not (Compare NullEq left right)) ≡ Not (Compare NullEq left right)
  at_all : (members : List Cond) → AreFlat conjuncts_of members → step (Cond-F.And members) ≡ And members
  at_any : (members : List Cond) → AreFlat disjuncts_of members → step (Cond-F.Or members) ≡ Or members

module _ (step : Cond-F Cond → Cond) (leaves : Leaves step) where
  atom_left : {x : Cond} → IsAtom x → fold-Cond Cond step x ≡ x
  atom_left (truth t) = fold-of_node Cond step (Cond-F.Known t) ∙ leaves.at_truth t
  atom_left (compared op left right settled) = fold-of_node Cond step (Cond-F.Compare op left right) ∙ leaves.at_compared op left right settled
  atom_left (null x free) = fold-of_node Cond step (Cond-F.IsNull x) ∙ leaves.at_null x free
  atom_left (not_null x free) = fold-of_node Cond step (Cond-F.NotNull x) ∙ leaves.at_not_null x free
  atom_left (unequal left right settled) =
      fold-of_node Cond step (Cond-F.Not (Compare NullEq left right))
      ∙ ap (λ x. step (Cond-F.Not x)) (fold-of_node Cond step (Cond-F.Compare NullEq left right) ∙ leaves.at_compared NullEq left right settled)
      ∙ leaves.at_unequal left right settled

  normal_left : {x : Cond} → IsNormal x → fold-Cond Cond step x ≡ x
  normal_left (atom is) = atom_left is
  normal_left (all members flat each) =
      fold-of_node Cond step (Cond-F.And members)
      ∙ ap (λ xs. step (Cond-F.And xs)) (map-stays (fold-Cond Cond step) members (λ x here. normal_left (each x here))) ∙ leaves.at_all members flat
  normal_left (any members flat each) =
      fold-of_node Cond step (Cond-F.Or members)
      ∙ ap (λ xs. step (Cond-F.Or xs)) (map-stays (fold-Cond Cond step) members (λ x here. normal_left (each x here))) ∙ leaves.at_any members flat

expanding : Leaves node_expanded
expanding = record {
  at_truth = λ t. refl;
  at_compared = λ op left right settled. refl;
  at_null = λ x free. refl;
  at_not_null = λ x free. refl;
  at_unequal = λ left right settled. refl;
  at_all = λ members flat. refl;
  at_any = λ members flat. refl;
}

folding : Leaves node_folded_within
folding = record {
  at_truth = λ t. refl;
  at_compared = λ op left right settled. ap (λ x. Compare op x (folded_expr right)) settled.open_left.done ∙ ap (Compare op left) settled.done_right;
  at_null = λ x free. ap IsNull free.done;
  at_not_null = λ x free. ap NotNull free.done;
  at_unequal = λ left right settled. refl;
  at_all = λ members flat. refl;
  at_any = λ members flat. refl;
}

turning : Leaves node_turned
turning = record {
  at_truth = λ t. refl;
  at_compared = λ op left right settled.
      ap (λ o. if is_some o && not (is_literal right) then Compare (mirrored op) right left else Compare op left right) settled.open_left.no_literal;
  at_null = λ x free. refl;
  at_not_null = λ x free. refl;
  at_unequal = λ left right settled. refl;
  at_all = λ members flat. refl;
  at_any = λ members flat. refl;
}

deciding : Leaves node_decided
deciding = record {
  at_truth = λ t. refl;
  at_compared = settled_stands;
  at_null = λ x free. ap (λ o. null_decided o x) free.no_literal;
  at_not_null = λ x free. ap (λ o. not_null_decided o x) free.no_literal;
  at_unequal = λ left right settled. refl;
  at_all = λ members flat. refl;
  at_any = λ members flat. refl;
}

-- flat members are as they were

none_among : (test : Cond → Bool) (xs : List Cond) → AllByRecursion (λ x. test x ≡ false) xs → list_any test xs ≡ false
none_among test [] each = refl
none_among test (x ∷ xs) each = ap (λ b. b || list_any test xs) each.0 ∙ none_among test xs each.1

all_kept : (test : Cond → Bool) (xs : List Cond) → AllByRecursion (λ x. test x ≡ false) xs → filter (λ x. not (test x)) xs ≡ xs
all_kept test [] each = refl
all_kept test (x ∷ xs) each =
    ap (λ b. cond (not b) (x ∷ filter (λ y. not (test y)) xs) (filter (λ y. not (test y)) xs)) each.0 ∙ ap (λ ys. x ∷ ys) (all_kept test xs each.1)

module _ (members_of : Cond → List Cond) where
  each_alone : (xs : List Cond) → AllByRecursion (IsMember members_of) xs → flat_map members_of xs ≡ xs
  each_alone [] each = refl
  each_alone (x ∷ xs) each = ap (λ ys. ys ++ flat_map members_of xs) each.0.alone ∙ ap (λ ys. x ∷ ys) (each_alone xs each.1)

  each_not_true : (xs : List Cond) → AllByRecursion (IsMember members_of) xs → AllByRecursion (λ x. is_true x ≡ false) xs
  each_not_true [] each = tt
  each_not_true (x ∷ xs) each = (each.0.not_true, each_not_true xs each.1)

  each_not_false : (xs : List Cond) → AllByRecursion (IsMember members_of) xs → AllByRecursion (λ x. is_false x ≡ false) xs
  each_not_false [] each = tt
  each_not_false (x ∷ xs) each = (each.0.not_false, each_not_false xs each.1)

several_and : (xs : List Cond) → AreSeveral xs → and_or_alone xs ≡ And xs
several_and [] several = absurd several
several_and (x ∷ []) several = absurd several
several_and (x ∷ y ∷ xs) several = refl

several_or : (xs : List Cond) → AreSeveral xs → or_or_alone xs ≡ Or xs
several_or [] several = absurd several
several_or (x ∷ []) several = absurd several
several_or (x ∷ y ∷ xs) several = refl

flattening : Leaves node_flattened
flattening = record {
  at_truth = λ t. refl;
  at_compared = λ op left right settled. refl;
  at_null = λ x free. refl;
  at_not_null = λ x free. refl;
  at_unequal = λ left right settled. refl;
  at_all = λ members flat.
      ap (λ b. if b then Known False else and_or_alone (flat_map conjuncts_of (filter (λ x. not (is_true x)) members)))
      (none_among is_false members (each_not_false conjuncts_of members flat.each))
      ∙ ap (λ xs. and_or_alone (flat_map conjuncts_of xs)) (all_kept is_true members (each_not_true conjuncts_of members flat.each))
      ∙ ap and_or_alone (each_alone conjuncts_of members flat.each) ∙ several_and members flat.several;
  at_any = λ members flat.
      ap (λ b. if b then Known True else or_or_alone (flat_map disjuncts_of (filter (λ x. not (is_false x)) members)))
      (none_among is_true members (each_not_true disjuncts_of members flat.each))
      ∙ ap (λ xs. or_or_alone (flat_map disjuncts_of xs)) (all_kept is_false members (each_not_false disjuncts_of members flat.each))
      ∙ ap or_or_alone (each_alone disjuncts_of members flat.each) ∙ several_or members flat.several;
}

-- NOT stands only where it has to

plain_left : (sense : Sense) (xs : List Cond) → ((x : Cond) → IsIn x xs → pushed x sense ≡ x) → map (λ member. member sense) (map pushed xs) ≡ xs
plain_left sense [] stays = refl
plain_left sense (x ∷ xs) stays =
    ap (λ y. y ∷ map (λ member. member sense) (map pushed xs)) (stays x (inl refl)) ∙ ap (λ ys. x ∷ ys) (plain_left sense xs (λ y here. stays y (inr here)))

atom_pushed : {x : Cond} → IsAtom x → pushed x Plain ≡ x
atom_pushed (truth t) = pushed-Known t Plain
atom_pushed (compared op left right settled) = pushed-Compare op left right Plain
atom_pushed (null x free) = pushed-IsNull x Plain
atom_pushed (not_null x free) = pushed-NotNull x Plain
atom_pushed (unequal left right settled) = pushed-Not (Compare NullEq left right) Plain ∙ pushed-Compare NullEq left right Denied

normal_pushed : {x : Cond} → IsNormal x → pushed x Plain ≡ x
normal_pushed (atom is) = atom_pushed is
normal_pushed (all members flat each) = pushed-And members Plain ∙ ap And (plain_left Plain members (λ x here. normal_pushed (each x here)))
normal_pushed (any members flat each) = pushed-Or members Plain ∙ ap Or (plain_left Plain members (λ x here. normal_pushed (each x here)))

-- the six steps one after another

normal_expanded : {x : Cond} → IsNormal x → expanded x ≡ x
unfolding expanded
normal_expanded normal = normal_left node_expanded expanding normal

normal_folded : {x : Cond} → IsNormal x → folded x ≡ x
unfolding folded
normal_folded normal = normal_left node_folded_within folding normal

normal_turned : {x : Cond} → IsNormal x → turned x ≡ x
unfolding turned
normal_turned normal = normal_left node_turned turning normal

normal_decided : {x : Cond} → IsNormal x → decided x ≡ x
unfolding decided
normal_decided normal = normal_left node_decided deciding normal

pub normal_flattened : {x : Cond} → IsNormal x → flattened x ≡ x
unfolding flattened
normal_flattened normal = normal_left node_flattened flattening normal

pub normal_stays : (x : Cond) → IsNormal x → flattened (decided (turned (folded (pushed (expanded x) Plain)))) ≡ x
normal_stays x normal =
    ap (λ y. flattened (decided (turned (folded (pushed y Plain))))) (normal_expanded normal)
    ∙ ap (λ y. flattened (decided (turned (folded y)))) (normal_pushed normal)
    ∙ ap (λ y. flattened (decided (turned y))) (normal_folded normal)
    ∙ ap (λ y. flattened (decided y)) (normal_turned normal)
    ∙ ap flattened (normal_decided normal)
    ∙ normal_flattened normal
