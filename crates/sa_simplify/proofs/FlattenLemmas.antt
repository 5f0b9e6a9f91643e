-- A flattened AND or OR says the same.
use Rattle.std.proofs.Common.{◌≡◌, Bool, true, false, not, ◌||◌, cond, if◌then◌else◌, List, [], ◌∷◌, ◌++◌, map, filter, refl, ap, sym, ◌∙◌, inl, inr, ◌⊎◌}
use Rattle.std.specs.List.{list_any, list_all, flat_map}
use Rattle.std.proofs.lemmas.List.{map-append}
use Rattle.std.proofs.lemmas.List.Concat.{flat_map-append}
use Rattle.sa_value.specs.declared.truth.Truth.{Truth}
use Rattle.sa_value.specs.declared.truth.Truth.TheVariants.{False, True}
use Rattle.sa_value.specs.Logic.{conjunction, disjunction}
use Rattle.sa_cond.specs.declared.cond.Cond.{Cond, Cond-F, out-Cond}
use Rattle.sa_cond.specs.declared.cond.Cond.TheVariants.{Known, And, Or}
use Rattle.sa_cond.specs.Choice.{Choice}
use Rattle.sa_cond.specs.Cited.{cond_names}
use Rattle.sa_cond.specs.Condition.{holds}
use Rattle.sa_cond.specs.Typed.{is_well_typed}
use Rattle.sa_simplify.specs.Node.{of_node}
use Rattle.sa_simplify.specs.Flatten.{is_true, is_false, and_members, or_members, conjuncts_of, disjuncts_of, and_or_alone, or_or_alone, and_of, or_of, node_flattened, flattened}
use Rattle.sa_simplify.proofs.NodeLemmas.{of_node-out}
use Rattle.sa_simplify.proofs.Truths.{conjunction-True_right, conjunction-False_left, conjunction-False_right, disjunction-False_right, disjunction-True_left, disjunction-True_right, all_of-cons, any_of-cons, all_of-append, any_of-append}
use Rattle.sa_simplify.proofs.Within.{Within-itself, Within-none, Within-left, Within-both, Within-append, Within-same}
use Rattle.sa_simplify.proofs.Refines.{Refines, Refines-itself, Refines-same, Refines-trans, Refines-fold, Joins, And-joins, Or-joins, holds-of_node, both_true, true_both}
use Rattle.sa_simplify.proofs.DecideLemmas.{truth_refines}

list_all-append : (xs ys : List Bool) → list_all (λ b. b) xs ≡ true → list_all (λ b. b) ys ≡ true → list_all (λ b. b) (xs ++ ys) ≡ true
list_all-append [] ys first second = second
list_all-append (x ∷ xs) ys first second =
    let both = both_true x (list_all (λ b. b) xs) first in true_both x (list_all (λ b. b) (xs ++ ys)) both.0 (list_all-append xs ys both.1 second)

-- What AND and OR have in common: the truth of no member, and the truth that one member decides.
record Connective (join : List Cond → Cond) : Type 0 where
  joins : Joins join
  both : Truth → Truth → Truth
  of_none : Truth
  decides : Truth
  nil : joins.truths [] ≡ of_none
  cons : (t : Truth) (ts : List Truth) → joins.truths (t ∷ ts) ≡ both t (joins.truths ts)
  append : (ts us : List Truth) → joins.truths (ts ++ us) ≡ both (joins.truths ts) (joins.truths us)
  none_right : (t : Truth) → both t of_none ≡ t
  decides_left : (t : Truth) → both decides t ≡ decides
  decides_right : (t : Truth) → both t decides ≡ decides
  members_of : Cond → List Cond
  members_are : (x : Cond) → (x ≡ join (members_of x)) ⊎ (members_of x ≡ x ∷ [])
  is_none : Cond → Bool
  none_is : (x : Cond) → is_none x ≡ true → x ≡ Known of_none
  is_deciding : Cond → Bool
  deciding_is : (x : Cond) → is_deciding x ≡ true → x ≡ Known decides

module _ (join : List Cond → Cond) (connective : Connective join) where
  -- members in place of one condition
  in_place : (us : List Cond) (x : Cond) (xs ys : List Cond) → Refines (join us) x → Refines (join xs) (join ys) → Refines (join (us ++ xs)) (join (x ∷ ys))
  in_place us x xs ys first second = record {
    truth = λ choice. connective.joins.holds_is choice (us ++ xs) ∙ ap connective.joins.truths (map-append (holds choice) us xs)
        ∙ connective.append (map (holds choice) us) (map (holds choice) xs)
        ∙ ap (λ t. connective.both t (connective.joins.truths (map (holds choice) xs))) (sym (connective.joins.holds_is choice us) ∙ first.truth choice)
        ∙ ap (connective.both (holds choice x)) (sym (connective.joins.holds_is choice xs) ∙ second.truth choice ∙ connective.joins.holds_is choice ys)
        ∙ sym (connective.joins.holds_is choice (x ∷ ys) ∙ connective.cons (holds choice x) (map (holds choice) ys));
    typed = λ kinds typed.
        let both = both_true (is_well_typed kinds x) (list_all (λ b. b) (map (is_well_typed kinds) ys)) (sym (connective.joins.typed_is kinds (x ∷ ys)) ∙ typed) in
        connective.joins.typed_is kinds (us ++ xs) ∙ ap (list_all (λ b. b)) (map-append (is_well_typed kinds) us xs)
        ∙ list_all-append (map (is_well_typed kinds) us) (map (is_well_typed kinds) xs)
        (sym (connective.joins.typed_is kinds us) ∙ first.typed kinds both.0)
        (sym (connective.joins.typed_is kinds xs) ∙ second.typed kinds (connective.joins.typed_is kinds ys ∙ both.1));
    named = Within-same
        (connective.joins.names_is (us ++ xs) ∙ ap (flat_map (λ n. n)) (map-append cond_names us xs) ∙ flat_map-append (λ n. n) (map cond_names us) (map cond_names xs))
        (connective.joins.names_is (x ∷ ys))
        (Within-append (Within-same (sym (connective.joins.names_is us)) refl first.named)
        (Within-same (sym (connective.joins.names_is xs)) (sym (connective.joins.names_is ys)) second.named));
  }

  -- one member, and none
  join_of_one : (x : Cond) → Refines (join (x ∷ [])) x
  join_of_one x = record {
    truth = λ choice. connective.joins.holds_is choice (x ∷ []) ∙ connective.cons (holds choice x) [] ∙ ap (connective.both (holds choice x)) connective.nil
        ∙ connective.none_right (holds choice x);
    typed = λ kinds typed. connective.joins.typed_is kinds (x ∷ []) ∙ true_both (is_well_typed kinds x) true typed refl;
    named = Within-same (connective.joins.names_is (x ∷ [])) refl (Within-both (Within-itself (cond_names x)) (Within-none (cond_names x)));
  }

  one_of_join : (x : Cond) → Refines x (join (x ∷ []))
  one_of_join x = record {
    truth = λ choice. sym ((join_of_one x).truth choice);
    typed = λ kinds typed. (both_true (is_well_typed kinds x) true (sym (connective.joins.typed_is kinds (x ∷ [])) ∙ typed)).0;
    named = Within-same refl (connective.joins.names_is (x ∷ [])) (Within-left (cond_names x) []);
  }

  join_of_none : Refines (join []) (Known connective.of_none)
  join_of_none = record {
    truth = λ choice. connective.joins.holds_is choice [] ∙ connective.nil ∙ sym (holds-of_node choice (Cond-F.Known connective.of_none));
    typed = λ kinds typed. connective.joins.typed_is kinds [];
    named = Within-same (connective.joins.names_is []) refl (Within-none (cond_names (Known connective.of_none)));
  }

  none_of_join : Refines (Known connective.of_none) (join [])
  none_of_join = truth_refines connective.of_none (join []) (λ choice. sym (connective.joins.holds_is choice [] ∙ connective.nil))

  -- the members of inner ones
  join_of_members : (x : Cond) → (x ≡ join (connective.members_of x)) ⊎ (connective.members_of x ≡ x ∷ []) → Refines (join (connective.members_of x)) x
  join_of_members x (inl is) = Refines-same (sym is)
  join_of_members x (inr is) = Refines-trans (Refines-same (ap join is)) (join_of_one x)

  flat_refines : (xs : List Cond) → Refines (join (flat_map connective.members_of xs)) (join xs)
  flat_refines [] = Refines-itself (join [])
  flat_refines (x ∷ xs) =
      in_place (connective.members_of x) x (flat_map connective.members_of xs) xs (join_of_members x (connective.members_are x)) (flat_refines xs)

  -- members that say nothing
  dropped : (x : Cond) (xs ys : List Cond) (says_nothing : Bool) → connective.is_none x ≡ says_nothing → Refines (join xs) (join ys) →
      Refines (join (cond (not says_nothing) (x ∷ xs) xs)) (join (x ∷ ys))
  dropped x xs ys true is rest =
      in_place [] x xs ys (Refines-trans join_of_none (Refines-same (sym (connective.none_is x is)))) rest
  dropped x xs ys false is rest = in_place (x ∷ []) x xs ys (join_of_one x) rest

  filter_refines : (xs : List Cond) → Refines (join (filter (λ member. not (connective.is_none member)) xs)) (join xs)
  filter_refines [] = Refines-itself (join [])
  filter_refines (x ∷ xs) = dropped x (filter (λ member. not (connective.is_none member)) xs) xs (connective.is_none x) refl (filter_refines xs)

  -- a member that decides
  deciding : (choice : Choice) (x : Cond) (xs : List Cond) (decides : Bool) → connective.is_deciding x ≡ decides →
      decides || list_any connective.is_deciding xs ≡ true →
      (list_any connective.is_deciding xs ≡ true → connective.joins.truths (map (holds choice) xs) ≡ connective.decides) →
      connective.both (holds choice x) (connective.joins.truths (map (holds choice) xs)) ≡ connective.decides
  deciding choice x xs true is any rest =
      ap (λ t. connective.both t (connective.joins.truths (map (holds choice) xs)))
      (ap (holds choice) (connective.deciding_is x is) ∙ holds-of_node choice (Cond-F.Known connective.decides))
      ∙ connective.decides_left (connective.joins.truths (map (holds choice) xs))
  deciding choice x xs false is any rest =
      ap (connective.both (holds choice x)) (rest any) ∙ connective.decides_right (holds choice x)

  decided_truth : (choice : Choice) (xs : List Cond) → list_any connective.is_deciding xs ≡ true → connective.joins.truths (map (holds choice) xs) ≡ connective.decides
  decided_truth choice [] any = cc
  decided_truth choice (x ∷ xs) any =
      connective.cons (holds choice x) (map (holds choice) xs)
      ∙ deciding choice x xs (connective.is_deciding x) refl any (decided_truth choice xs)

  joined_refines : (alone : List Cond → Cond) → ((xs : List Cond) → Refines (alone xs) (join xs)) → (members : List Cond) (any : Bool) →
      list_any connective.is_deciding members ≡ any →
      Refines (if any then Known connective.decides else alone (flat_map connective.members_of (filter (λ member. not (connective.is_none member)) members))) (join members)
  joined_refines alone alone_refines members true is =
      truth_refines connective.decides (join members) (λ choice. sym (connective.joins.holds_is choice members ∙ decided_truth choice members is))
  joined_refines alone alone_refines members false is =
      let left = filter (λ member. not (connective.is_none member)) members in
      Refines-trans (alone_refines (flat_map connective.members_of left)) (Refines-trans (flat_refines left) (filter_refines members))

-- AND

and_members_are : (node : Cond-F Cond) (x : Cond) → x ≡ of_node node → (x ≡ And (and_members node x)) ⊎ (and_members node x ≡ x ∷ [])
and_members_are (Cond-F.And members) x is = inl is
and_members_are node x is = inr refl

or_members_are : (node : Cond-F Cond) (x : Cond) → x ≡ of_node node → (x ≡ Or (or_members node x)) ⊎ (or_members node x ≡ x ∷ [])
or_members_are (Cond-F.Or members) x is = inl is
or_members_are node x is = inr refl

pub true_is : (x : Cond) → is_true x ≡ true → x ≡ Known True
true_is (Known True) is = refl
true_is x is = cc

pub false_is : (x : Cond) → is_false x ≡ true → x ≡ Known False
false_is (Known False) is = refl
false_is x is = cc

and : Connective And
and = record {
  joins = And-joins;
  both = conjunction;
  of_none = True;
  decides = False;
  nil = refl;
  cons = all_of-cons;
  append = all_of-append;
  none_right = conjunction-True_right;
  decides_left = conjunction-False_left;
  decides_right = conjunction-False_right;
  members_of = conjuncts_of;
  members_are = λ x. and_members_are (out-Cond x) x (of_node-out x);
  is_none = is_true;
  none_is = true_is;
  is_deciding = is_false;
  deciding_is = false_is;
}

or : Connective Or
or = record {
  joins = Or-joins;
  both = disjunction;
  of_none = False;
  decides = True;
  nil = refl;
  cons = any_of-cons;
  append = any_of-append;
  none_right = disjunction-False_right;
  decides_left = disjunction-True_left;
  decides_right = disjunction-True_right;
  members_of = disjuncts_of;
  members_are = λ x. or_members_are (out-Cond x) x (of_node-out x);
  is_none = is_false;
  none_is = false_is;
  is_deciding = is_true;
  deciding_is = true_is;
}

and_alone_refines : (xs : List Cond) → Refines (and_or_alone xs) (And xs)
unfolding and
and_alone_refines [] = none_of_join And and
and_alone_refines (x ∷ []) = one_of_join And and x
and_alone_refines (x ∷ y ∷ xs) = Refines-itself (And (x ∷ y ∷ xs))

or_alone_refines : (xs : List Cond) → Refines (or_or_alone xs) (Or xs)
unfolding or
or_alone_refines [] = none_of_join Or or
or_alone_refines (x ∷ []) = one_of_join Or or x
or_alone_refines (x ∷ y ∷ xs) = Refines-itself (Or (x ∷ y ∷ xs))

and_of_refines : (members : List Cond) → Refines (and_of members) (And members)
unfolding and
and_of_refines members = joined_refines And and and_or_alone and_alone_refines members (list_any is_false members) refl

or_of_refines : (members : List Cond) → Refines (or_of members) (Or members)
unfolding or
or_of_refines members = joined_refines Or or or_or_alone or_alone_refines members (list_any is_true members) refl

node_refines : (node : Cond-F Cond) → Refines (node_flattened node) (of_node node)
node_refines (Cond-F.And members) = and_of_refines members
node_refines (Cond-F.Or members) = or_of_refines members
node_refines node = Refines-itself (of_node node)

pub flattened_refines : (cond : Cond) → Refines (flattened cond) cond
unfolding flattened
flattened_refines = Refines-fold node_flattened node_refines
