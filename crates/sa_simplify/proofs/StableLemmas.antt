-- The simplified condition is simplified: simplifying it again changes nothing.
use Rattle.std.proofs.Common.{◌≡◌, ℕ, zero, suc, Bool, true, false, not, ◌||◌, cond, if◌then◌else◌, Some, None, List, [], ◌∷◌, ◌++◌, map, filter, refl, ap, sym, ◌∙◌, subst, inl, inr}
use Rattle.std.specs.List.{AllByRecursion, list_any, flat_map}
use Rattle.std.specs.Option.{option_map_or}
use Rattle.sa_value.specs.declared.truth.CompareOp.{CompareOp}
use Rattle.sa_value.specs.declared.truth.CompareOp.TheVariants.{Eq, NullEq, Ne, Lt, Le, Gt, Ge}
use Rattle.sa_value.specs.declared.truth.Truth.{Truth}
use Rattle.sa_value.specs.declared.truth.Truth.TheVariants.{False, True}
use Rattle.sa_value.specs.declared.value.Value.TheVariants.{Null}
use Rattle.sa_cond.specs.declared.cond.Cond.{Cond, Cond-F, out-Cond}
use Rattle.sa_cond.specs.declared.cond.Cond.TheVariants.{Known, Compare, IsNull, NotNull, And, Or, Not, outs-Known, outs-Compare, outs-IsNull, outs-NotNull, outs-And, outs-Or, outs-Not}
use Rattle.sa_cond.specs.declared.expr.Expr.{Expr}
use Rattle.sa_cond.specs.declared.expr.Expr.TheVariants.{Column, Literal}
use Rattle.sa_simplify.specs.declared.push.Sense.TheVariants.{Plain, Denied}
use Rattle.sa_simplify.specs.Expand.{equality_or_any, node_expanded, expanded}
use Rattle.sa_simplify.specs.Push.{comparison_denied, pushed}
use Rattle.sa_simplify.specs.Fold.{node_folded_within, folded}
use Rattle.sa_simplify.specs.Turn.{node_turned, turned}
use Rattle.sa_simplify.specs.Decide.{node_decided, decided}
use Rattle.sa_simplify.specs.Flatten.{is_true, is_false, and_members, or_members, conjuncts_of, disjuncts_of, and_or_alone, or_or_alone, and_of, or_of, node_flattened, flattened}
use Rattle.sa_simplify.specs.Propagate.{Fix, fix_of, fix_in, fix_condition, next_handed, HandsOn, ends, hands, handed_at_most, handed_all, node_propagated, propagated}
use Rattle.sa_simplify.specs.Simple.{simple}
use Rattle.sa_simplify.proofs.Amidst.{IsIn, All-in, All-push}
use Rattle.sa_simplify.proofs.NodeLemmas.{fold-of_node, along}
use Rattle.sa_simplify.proofs.PushLemmas.{pushed-Known, pushed-Compare, pushed-IsNull, pushed-NotNull, pushed-And, pushed-Or, pushed-Not}
use Rattle.sa_simplify.proofs.Handing.{handed-again, handed_all-hands}
use Rattle.sa_simplify.proofs.Settled.{folded-Column, folded-Literal, IsAtom, truth, compared, null, not_null, unequal, settle, atom-Compare, atom-unequal, atom-Known, atom-unknown, atom-IsNull, atom-NotNull}
use Rattle.sa_simplify.proofs.Normal.{IsMember, AreSeveral, AreFlat, IsNormal, atom, all, any, normal_flattened, normal_stays}

-- A normal condition that may be a member of a flat AND or OR.
record Part (members_of : Cond → List Cond) (x : Cond) : Type 0 where
  member : IsMember members_of x
  normal : IsNormal x

All-append : (P : Cond → Type 0) (xs ys : List Cond) → AllByRecursion P xs → AllByRecursion P ys → AllByRecursion P (xs ++ ys)
All-append P [] ys first second = second
All-append P (x ∷ xs) ys first second = (first.0, All-append P xs ys first.1 second)

module _ (members_of : Cond → List Cond) where
  -- a condition that is its only member
  only_part : (x : Cond) → members_of x ≡ x ∷ [] → IsNormal x → is_true x ≡ false → is_false x ≡ false → AllByRecursion (Part members_of) (members_of x)
  only_part x alone normal not_true not_false = subst (AllByRecursion (Part members_of)) (sym alone) (
    record { member = record { alone = alone; not_true = not_true; not_false = not_false }; normal = normal },
    tt,
  )

  parts_of : (xs : List Cond) → AllByRecursion (IsMember members_of) xs → ((x : Cond) → IsIn x xs → IsNormal x) → AllByRecursion (Part members_of) xs
  parts_of [] each normal = tt
  parts_of (x ∷ xs) each normal = (record { member = each.0; normal = normal x (inl refl) }, parts_of xs each.1 (λ y here. normal y (inr here)))

  each_member : (xs : List Cond) → AllByRecursion (Part members_of) xs → AllByRecursion (IsMember members_of) xs
  each_member [] parts = tt
  each_member (x ∷ xs) parts = (parts.0.member, each_member xs parts.1)

  flat_of : (xs : List Cond) → AreSeveral xs → AllByRecursion (Part members_of) xs → AreFlat members_of xs
  flat_of xs several parts = record { several = several; each = each_member xs parts }

  normal_in : (xs : List Cond) → AllByRecursion (Part members_of) xs → (x : Cond) → IsIn x xs → IsNormal x
  normal_in xs parts x here = (All-in (Part members_of) x xs parts here).normal

  module _ (nothing deciding : Cond → Bool) (parts : (x : Cond) → IsNormal x → nothing x ≡ false → deciding x ≡ false → AllByRecursion (Part members_of) (members_of x)) where
    abbrev kept : List Cond → List Cond
    kept xs = flat_map members_of (filter (λ x. not (nothing x)) xs)

    with_member : (x : Cond) (xs : List Cond) (b : Bool) → nothing x ≡ b → IsNormal x → deciding x ≡ false → AllByRecursion (Part members_of) (kept xs) →
        AllByRecursion (Part members_of) (flat_map members_of (cond (not b) (x ∷ filter (λ x. not (nothing x)) xs) (filter (λ x. not (nothing x)) xs)))
    with_member x xs true is normal undecided rest = rest
    with_member x xs false is normal undecided rest = All-append (Part members_of) (members_of x) (kept xs) (parts x normal is undecided) rest

    neither : (a b : Bool) → a || b ≡ false → (a ≡ false) × (b ≡ false)
    neither true b is = cc
    neither false b is = (refl, is)

    parts_kept : (xs : List Cond) → AllByRecursion IsNormal xs → list_any deciding xs ≡ false → AllByRecursion (Part members_of) (kept xs)
    parts_kept [] each undecided = tt
    parts_kept (x ∷ xs) each undecided =
        let both = neither (deciding x) (list_any deciding xs) undecided in
        with_member x xs (nothing x) refl each.0 both.0 (parts_kept xs each.1 both.1)

-- AND

atom_conjunct : {x : Cond} → IsAtom x → conjuncts_of x ≡ x ∷ []
atom_conjunct (truth t) = ap (λ n. and_members n (Known t)) (outs-Known t)
atom_conjunct (compared op left right settled) = ap (λ n. and_members n (Compare op left right)) (outs-Compare op left right)
atom_conjunct (null x free) = ap (λ n. and_members n (IsNull x)) (outs-IsNull x)
atom_conjunct (not_null x free) = ap (λ n. and_members n (NotNull x)) (outs-NotNull x)
atom_conjunct (unequal left right settled) = ap (λ n. and_members n (Not (Compare NullEq left right))) (outs-Not (Compare NullEq left right))

conjunct_parts : (x : Cond) → IsNormal x → is_true x ≡ false → is_false x ≡ false → AllByRecursion (Part conjuncts_of) (conjuncts_of x)
conjunct_parts x (atom is) not_true not_false = only_part conjuncts_of x (atom_conjunct is) (atom is) not_true not_false
conjunct_parts x (all members flat each) not_true not_false =
    subst (AllByRecursion (Part conjuncts_of)) (sym (ap (λ n. and_members n (And members)) (outs-And members))) (parts_of conjuncts_of members flat.each each)
conjunct_parts x (any members flat each) not_true not_false =
    only_part conjuncts_of (Or members) (ap (λ n. and_members n (Or members)) (outs-Or members)) (any members flat each) not_true not_false

and_alone_normal : (xs : List Cond) → AllByRecursion (Part conjuncts_of) xs → IsNormal (and_or_alone xs)
and_alone_normal [] parts = atom (truth True)
and_alone_normal (x ∷ []) parts = parts.0.normal
and_alone_normal (x ∷ y ∷ xs) parts = all (x ∷ y ∷ xs) (flat_of conjuncts_of (x ∷ y ∷ xs) tt parts) (normal_in conjuncts_of (x ∷ y ∷ xs) parts)

and_of_normal : (xs : List Cond) → AllByRecursion IsNormal xs → IsNormal (and_of xs)
and_of_normal xs each = at (list_any is_false xs) refl
  where
    at : (b : Bool) → list_any is_false xs ≡ b → IsNormal (if b then Known False else and_or_alone (flat_map conjuncts_of (filter (λ x. not (is_true x)) xs)))
    at true is = atom (truth False)
    at false is = and_alone_normal (flat_map conjuncts_of (filter (λ x. not (is_true x)) xs)) (parts_kept conjuncts_of is_true is_false conjunct_parts xs each is)

-- OR

atom_disjunct : {x : Cond} → IsAtom x → disjuncts_of x ≡ x ∷ []
atom_disjunct (truth t) = ap (λ n. or_members n (Known t)) (outs-Known t)
atom_disjunct (compared op left right settled) = ap (λ n. or_members n (Compare op left right)) (outs-Compare op left right)
atom_disjunct (null x free) = ap (λ n. or_members n (IsNull x)) (outs-IsNull x)
atom_disjunct (not_null x free) = ap (λ n. or_members n (NotNull x)) (outs-NotNull x)
atom_disjunct (unequal left right settled) = ap (λ n. or_members n (Not (Compare NullEq left right))) (outs-Not (Compare NullEq left right))

disjunct_parts : (x : Cond) → IsNormal x → is_false x ≡ false → is_true x ≡ false → AllByRecursion (Part disjuncts_of) (disjuncts_of x)
disjunct_parts x (atom is) not_false not_true = only_part disjuncts_of x (atom_disjunct is) (atom is) not_true not_false
disjunct_parts x (any members flat each) not_false not_true =
    subst (AllByRecursion (Part disjuncts_of)) (sym (ap (λ n. or_members n (Or members)) (outs-Or members))) (parts_of disjuncts_of members flat.each each)
disjunct_parts x (all members flat each) not_false not_true =
    only_part disjuncts_of (And members) (ap (λ n. or_members n (And members)) (outs-And members)) (all members flat each) not_true not_false

or_alone_normal : (xs : List Cond) → AllByRecursion (Part disjuncts_of) xs → IsNormal (or_or_alone xs)
or_alone_normal [] parts = atom (truth False)
or_alone_normal (x ∷ []) parts = parts.0.normal
or_alone_normal (x ∷ y ∷ xs) parts = any (x ∷ y ∷ xs) (flat_of disjuncts_of (x ∷ y ∷ xs) tt parts) (normal_in disjuncts_of (x ∷ y ∷ xs) parts)

or_of_normal : (xs : List Cond) → AllByRecursion IsNormal xs → IsNormal (or_of xs)
or_of_normal xs each = at (list_any is_true xs) refl
  where
    at : (b : Bool) → list_any is_true xs ≡ b → IsNormal (if b then Known True else or_or_alone (flat_map disjuncts_of (filter (λ x. not (is_false x)) xs)))
    at true is = atom (truth True)
    at false is = or_alone_normal (flat_map disjuncts_of (filter (λ x. not (is_false x)) xs)) (parts_kept disjuncts_of is_false is_true disjunct_parts xs each is)

-- the three steps over members

folded-And : (xs : List Cond) → folded (And xs) ≡ And (map folded xs)
unfolding folded
folded-And xs = fold-of_node Cond node_folded_within (Cond-F.And xs)

turned-And : (xs : List Cond) → turned (And xs) ≡ And (map turned xs)
unfolding turned
turned-And xs = fold-of_node Cond node_turned (Cond-F.And xs)

decided-And : (xs : List Cond) → decided (And xs) ≡ And (map decided xs)
unfolding decided
decided-And xs = fold-of_node Cond node_decided (Cond-F.And xs)

flattened-And : (xs : List Cond) → flattened (And xs) ≡ and_of (map flattened xs)
unfolding flattened
flattened-And xs = fold-of_node Cond node_flattened (Cond-F.And xs)

folded-Or : (xs : List Cond) → folded (Or xs) ≡ Or (map folded xs)
unfolding folded
folded-Or xs = fold-of_node Cond node_folded_within (Cond-F.Or xs)

turned-Or : (xs : List Cond) → turned (Or xs) ≡ Or (map turned xs)
unfolding turned
turned-Or xs = fold-of_node Cond node_turned (Cond-F.Or xs)

decided-Or : (xs : List Cond) → decided (Or xs) ≡ Or (map decided xs)
unfolding decided
decided-Or xs = fold-of_node Cond node_decided (Cond-F.Or xs)

flattened-Or : (xs : List Cond) → flattened (Or xs) ≡ or_of (map flattened xs)
unfolding flattened
flattened-Or xs = fold-of_node Cond node_flattened (Cond-F.Or xs)

abbrev done_all : List Cond → List Cond
done_all xs = map flattened (map decided (map turned (map folded xs)))

done-And : (xs : List Cond) → flattened (settle (And xs)) ≡ and_of (done_all xs)
done-And xs =
    ap (λ x. flattened (decided (turned x))) (folded-And xs) ∙ ap (λ x. flattened (decided x)) (turned-And (map folded xs))
    ∙ ap flattened (decided-And (map turned (map folded xs))) ∙ flattened-And (map decided (map turned (map folded xs)))

done-Or : (xs : List Cond) → flattened (settle (Or xs)) ≡ or_of (done_all xs)
done-Or xs =
    ap (λ x. flattened (decided (turned x))) (folded-Or xs) ∙ ap (λ x. flattened (decided x)) (turned-Or (map folded xs))
    ∙ ap flattened (decided-Or (map turned (map folded xs))) ∙ flattened-Or (map decided (map turned (map folded xs)))

-- From the second step on, plain or under NOT, a condition becomes a normal one.
record Settles (cond : Cond) : Type 0 where
  plain : IsNormal (flattened (settle (pushed cond Plain)))
  denied : IsNormal (flattened (settle (pushed cond Denied)))

of_atom : (pushed_cond left : Cond) → pushed_cond ≡ left → IsAtom (settle left) → IsNormal (flattened (settle pushed_cond))
of_atom pushed_cond left is is_atom =
    let normal : IsNormal (settle left) = atom is_atom in
    subst IsNormal (sym (ap (λ x. flattened (settle x)) is ∙ normal_flattened normal)) normal

denied_atom : (op : CompareOp) (left right : Expr) → IsAtom (settle (comparison_denied op left right))
denied_atom Eq left right = atom-Compare Ne left right
denied_atom NullEq left right = atom-unequal left right
denied_atom Ne left right = atom-Compare Eq left right
denied_atom Lt left right = atom-Compare Ge left right
denied_atom Le left right = atom-Compare Gt left right
denied_atom Gt left right = atom-Compare Le left right
denied_atom Ge left right = atom-Compare Lt left right

settles-Known : (t : Truth) → Settles (Known t)
settles-Known t = record {
  plain = of_atom (pushed (Known t) Plain) (Known t) (pushed-Known t Plain) (atom-Known t);
  denied = of_atom (pushed (Known t) Denied) (Not (Known t)) (pushed-Known t Denied) (atom-unknown t);
}

settles-Compare : (op : CompareOp) (left right : Expr) → Settles (Compare op left right)
settles-Compare op left right = record {
  plain = of_atom (pushed (Compare op left right) Plain) (Compare op left right) (pushed-Compare op left right Plain) (atom-Compare op left right);
  denied = of_atom (pushed (Compare op left right) Denied) (comparison_denied op left right) (pushed-Compare op left right Denied) (denied_atom op left right);
}

settles-IsNull : (x : Expr) → Settles (IsNull x)
settles-IsNull x = record {
  plain = of_atom (pushed (IsNull x) Plain) (IsNull x) (pushed-IsNull x Plain) (atom-IsNull x);
  denied = of_atom (pushed (IsNull x) Denied) (NotNull x) (pushed-IsNull x Denied) (atom-NotNull x);
}

settles-NotNull : (x : Expr) → Settles (NotNull x)
settles-NotNull x = record {
  plain = of_atom (pushed (NotNull x) Plain) (NotNull x) (pushed-NotNull x Plain) (atom-NotNull x);
  denied = of_atom (pushed (NotNull x) Denied) (IsNull x) (pushed-NotNull x Denied) (atom-IsNull x);
}

settles-Not : (x : Cond) → Settles x → Settles (Not x)
settles-Not x settles = record {
  plain = subst (λ y. IsNormal (flattened (settle y))) (sym (pushed-Not x Plain)) settles.denied;
  denied = subst (λ y. IsNormal (flattened (settle y))) (sym (pushed-Not x Denied)) settles.plain;
}

each_plain : (xs : List Cond) → AllByRecursion Settles xs → AllByRecursion IsNormal (done_all (map (λ member. member Plain) (map pushed xs)))
each_plain [] each = tt
each_plain (x ∷ xs) each = (each.0.plain, each_plain xs each.1)

each_denied : (xs : List Cond) → AllByRecursion Settles xs → AllByRecursion IsNormal (done_all (map (λ member. member Denied) (map pushed xs)))
each_denied [] each = tt
each_denied (x ∷ xs) each = (each.0.denied, each_denied xs each.1)

normal_and : (x : Cond) (xs : List Cond) → x ≡ And xs → AllByRecursion IsNormal (done_all xs) → IsNormal (flattened (settle x))
normal_and x xs is each = subst IsNormal (sym (ap (λ y. flattened (settle y)) is ∙ done-And xs)) (and_of_normal (done_all xs) each)

normal_or : (x : Cond) (xs : List Cond) → x ≡ Or xs → AllByRecursion IsNormal (done_all xs) → IsNormal (flattened (settle x))
normal_or x xs is each = subst IsNormal (sym (ap (λ y. flattened (settle y)) is ∙ done-Or xs)) (or_of_normal (done_all xs) each)

settles-And : (xs : List Cond) → AllByRecursion Settles xs → Settles (And xs)
settles-And xs each = record {
  plain = normal_and (pushed (And xs) Plain) (map (λ member. member Plain) (map pushed xs)) (pushed-And xs Plain) (each_plain xs each);
  denied = normal_or (pushed (And xs) Denied) (map (λ member. member Denied) (map pushed xs)) (pushed-And xs Denied) (each_denied xs each);
}

settles-Or : (xs : List Cond) → AllByRecursion Settles xs → Settles (Or xs)
settles-Or xs each = record {
  plain = normal_or (pushed (Or xs) Plain) (map (λ member. member Plain) (map pushed xs)) (pushed-Or xs Plain) (each_plain xs each);
  denied = normal_and (pushed (Or xs) Denied) (map (λ member. member Denied) (map pushed xs)) (pushed-Or xs Denied) (each_denied xs each);
}

-- the first step

each_equality : (value : Expr) (list : List Expr) → AllByRecursion Settles (map (λ member. Compare Eq value member) list)
each_equality value [] = tt
each_equality value (member ∷ list) = (settles-Compare Eq value member, each_equality value list)

settles_alone : (xs : List Cond) → AllByRecursion Settles xs → Settles (equality_or_any xs)
settles_alone [] each = settles-Or [] tt
settles_alone (x ∷ []) each = each.0
settles_alone (x ∷ y ∷ xs) each = settles-Or (x ∷ y ∷ xs) each

each_expanded : (xs : List Cond) → AllByRecursion (λ x. Settles (expanded x)) xs → AllByRecursion Settles (map expanded xs)
each_expanded [] each = tt
each_expanded (x ∷ xs) each = (each.0, each_expanded xs each.1)

expanded_settles : (cond : Cond) → Settles (expanded cond)
unfolding expanded
expanded_settles = along (λ cond. Settles (expanded cond)) (record {
  known = λ t. subst Settles (sym (fold-of_node Cond node_expanded (Cond-F.Known t))) (settles-Known t);
  compare = λ op left right. subst Settles (sym (fold-of_node Cond node_expanded (Cond-F.Compare op left right))) (settles-Compare op left right);
  is_null = λ x. subst Settles (sym (fold-of_node Cond node_expanded (Cond-F.IsNull x))) (settles-IsNull x);
  not_null = λ x. subst Settles (sym (fold-of_node Cond node_expanded (Cond-F.NotNull x))) (settles-NotNull x);
  between = λ value low high. subst Settles (sym (fold-of_node Cond node_expanded (Cond-F.Between value low high)))
      (settles-And (Compare Ge value low ∷ Compare Le value high ∷ []) (settles-Compare Ge value low, (settles-Compare Le value high, tt)));
  among = λ value list. subst Settles (sym (fold-of_node Cond node_expanded (Cond-F.Among value list)))
      (settles_alone (map (λ member. Compare Eq value member) list) (each_equality value list));
  all = λ members each. subst Settles (sym (fold-of_node Cond node_expanded (Cond-F.And members))) (settles-And (map expanded members) (each_expanded members each));
  any = λ members each. subst Settles (sym (fold-of_node Cond node_expanded (Cond-F.Or members))) (settles-Or (map expanded members) (each_expanded members each));
  not = λ x inner. subst Settles (sym (fold-of_node Cond node_expanded (Cond-F.Not x))) (settles-Not (expanded x) inner);
})

-- equalities that are handed on

fix_part : (fix : Fix) → fix_in (fix_condition fix) ≡ Some fix → Part conjuncts_of (fix_condition fix)
fix_part fix again =
    let left : Expr = Column fix.place.table fix.place.column in
    let right : Expr = Literal fix.literal in
    let is_atom : IsAtom (fix_condition fix) = compared Eq left right (record {
      open_left = record { done = folded-Column fix.place.table fix.place.column; no_literal = refl };
      done_right = folded-Literal fix.literal;
      no_null = λ is. (let null : fix.literal ≡ Null = cc in let no : None ≡ Some fix = ap (λ v. fix_of fix.place v) (sym null) ∙ again in cc);
    }) in
    record { member = record { alone = atom_conjunct is_atom; not_true = refl; not_false = refl }; normal = atom is_atom }

handed_parts : {conjuncts whole : List Cond} → HandsOn conjuncts whole → AllByRecursion (Part conjuncts_of) conjuncts → AllByRecursion (Part conjuncts_of) whole
handed_parts (ends none) parts = parts
handed_parts {conjuncts} {whole} (hands {fix = handed} is rest) parts =
    handed_parts rest (All-push (Part conjuncts_of) conjuncts (fix_condition handed) parts (fix_part handed (handed-again conjuncts handed is)))

several_more : (xs ys : List Cond) → AreSeveral xs → AreSeveral (xs ++ ys)
several_more [] ys several = absurd several
several_more (x ∷ []) ys several = absurd several
several_more (x ∷ y ∷ xs) ys several = tt

handed_several : {conjuncts whole : List Cond} → HandsOn conjuncts whole → AreSeveral conjuncts → AreSeveral whole
handed_several (ends none) several = several
handed_several {conjuncts} {whole} (hands {fix = handed} is rest) several =
    handed_several rest (several_more conjuncts (fix_condition handed ∷ []) several)

none_left : {conjuncts whole : List Cond} → HandsOn conjuncts whole → next_handed whole ≡ None
none_left (ends none) = none
none_left (hands is rest) = none_left rest

none_handed : (n : ℕ) (conjuncts : List Cond) → next_handed conjuncts ≡ None → handed_at_most n conjuncts ≡ conjuncts
none_handed zero conjuncts none = refl
none_handed (suc n) conjuncts none = ap (λ o. option_map_or (λ fix. handed_at_most n (conjuncts ++ fix_condition fix ∷ [])) o conjuncts) none

handed_once : (conjuncts : List Cond) → handed_all (handed_all conjuncts) ≡ handed_all conjuncts
unfolding handed_all
handed_once conjuncts = none_handed _ (handed_all conjuncts) (none_left (handed_all-hands conjuncts))

propagated_at : (node : Cond-F Cond) (x : Cond) → out-Cond x ≡ node → propagated x ≡ node_propagated node x
unfolding propagated
propagated_at node x is = ap (λ n. node_propagated n x) is

-- A condition is normal, and no equality is left to hand on.
record IsDone (x : Cond) : Type 0 where
  normal : IsNormal x
  handed : propagated x ≡ x

stays_done : (x : Cond) → IsNormal x → propagated x ≡ x → IsDone (propagated x)
stays_done x normal is = subst IsDone (sym is) (record { normal = normal; handed = is })

atom_handed : {x : Cond} → IsAtom x → propagated x ≡ x
atom_handed (truth t) = propagated_at (Cond-F.Known t) (Known t) (outs-Known t)
atom_handed (compared op left right settled) = propagated_at (Cond-F.Compare op left right) (Compare op left right) (outs-Compare op left right)
atom_handed (null x free) = propagated_at (Cond-F.IsNull x) (IsNull x) (outs-IsNull x)
atom_handed (not_null x free) = propagated_at (Cond-F.NotNull x) (NotNull x) (outs-NotNull x)
atom_handed (unequal left right settled) = propagated_at (Cond-F.Not (Compare NullEq left right)) (Not (Compare NullEq left right)) (outs-Not (Compare NullEq left right))

done_and : (members : List Cond) → AreFlat conjuncts_of members → ((x : Cond) → IsIn x members → IsNormal x) → IsDone (And (handed_all members))
done_and members flat each =
    let whole : List Cond = handed_all members in
    let hands_on = handed_all-hands members in
    let parts = handed_parts hands_on (parts_of conjuncts_of members flat.each each) in
    record {
      normal = all whole (flat_of conjuncts_of whole (handed_several hands_on flat.several) parts) (normal_in conjuncts_of whole parts);
      handed = propagated_at (Cond-F.And whole) (And whole) (outs-And whole) ∙ ap And (handed_once members);
    }

propagated_done : (x : Cond) → IsNormal x → IsDone (propagated x)
propagated_done x (atom is) = stays_done x (atom is) (atom_handed is)
propagated_done x (all members flat each) =
    subst IsDone (sym (propagated_at (Cond-F.And members) (And members) (outs-And members))) (done_and members flat each)
propagated_done x (any members flat each) =
    stays_done (Or members) (any members flat each) (propagated_at (Cond-F.Or members) (Or members) (outs-Or members))

pub simple_stays : (cond : Cond) → simple (simple cond) ≡ simple cond
unfolding simple
simple_stays cond =
    let done = propagated_done (flattened (settle (pushed (expanded cond) Plain))) (expanded_settles cond).plain in
    ap propagated (normal_stays (simple cond) done.normal) ∙ done.handed
