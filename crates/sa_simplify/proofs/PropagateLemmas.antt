-- Equalities that are handed on are TRUE where the conjuncts are, well-typed where they are, and name no more.
use Rattle.std.proofs.Common.{◌≡◌, Bool, true, false, ◌==◌, if◌then◌else◌, Some, None, List, [], ◌∷◌, ◌++◌, map, refl, ap, sym, ◌∙◌, inl, inr, ◌⊎◌, eqb-true}
use Rattle.std.specs.Prelude.{◌↔◌}
use Rattle.std.specs.Cmp.{IsTotalOrder}
use Rattle.std.specs.List.{AllByRecursion, flat_map}
use Rattle.std.proofs.lemmas.List.{map-append}
use Rattle.std.proofs.lemmas.List.Concat.{flat_map-append}
use Rattle.std.specs.declared.cmp.Ordering.{Ordering}
use Rattle.std.specs.declared.cmp.Ordering.TheVariants.{Less, Equal, Greater}
use Rattle.sa_value.specs.declared.truth.CompareOp.TheVariants.{Eq}
use Rattle.sa_value.specs.declared.truth.Truth.{Truth}
use Rattle.sa_value.specs.declared.truth.Truth.TheVariants.{False, Unknown, True}
use Rattle.sa_value.specs.declared.value.Value.{Value}
use Rattle.sa_value.specs.declared.value.Value.TheVariants.{Null}
use Rattle.sa_value.specs.Compare.{known, truth_of, holds_at, order_of}
use Rattle.sa_value.specs.Logic.{conjunction}
use Rattle.sa_cond.specs.declared.cells.CellKind.{CellKind}
use Rattle.sa_cond.specs.declared.cells.CellKind.TheVariants as cells
use Rattle.sa_cond.specs.declared.cond.Cond.{Cond, Cond-F, out-Cond}
use Rattle.sa_cond.specs.declared.cond.Cond.TheVariants.{Compare, And, outs-And}
use Rattle.sa_cond.specs.declared.expr.Expr.{Expr, Expr-F}
use Rattle.sa_cond.specs.declared.expr.Expr.TheVariants.{Column, Literal}
use Rattle.sa_cond.specs.Choice.{Choice}
use Rattle.sa_cond.specs.Cited.{Name, cond_names, expr_names}
use Rattle.sa_cond.specs.Condition.{holds, all_of, is_null}
use Rattle.sa_cond.specs.Expression.{expr_value}
use Rattle.sa_cond.specs.Interval.{CellKinds, ExprKind, number, sum, text, null, faulty, is_within, kind_of_cell, expr_kind}
use Rattle.sa_cond.specs.Typed.{is_well_typed, is_proper, can_compare}
use Rattle.sa_simplify.specs.declared.equality.Place.{Place}
use Rattle.sa_simplify.specs.Node.{of_node}
use Rattle.sa_simplify.specs.Propagate.{is_same_place, Join, Fix, join_between, join_in, fix_condition, other_place, next_handed, HandsOn, ends, hands, handed_all, node_propagated, propagated}
use Rattle.sa_simplify.proofs.Amidst.{IsIn, All-in, All-push}
use Rattle.sa_simplify.proofs.ExprLemmas.{value-of_node, kind-of_node, names-of_expr_node}
use Rattle.sa_simplify.proofs.FoldLemmas.{compared_proper}
use Rattle.sa_simplify.proofs.Handing.{fix_in-form, next_handed-origin, HandsOn-same, handed_all-hands}
use Rattle.sa_simplify.proofs.NodeLemmas.{of_node-out}
use Rattle.sa_simplify.proofs.Truths.{conjunction-True_right, all_of-cons, all_of-append}
use Rattle.sa_simplify.proofs.TurnLemmas.{can_compare-sym}
use Rattle.sa_simplify.proofs.Within.{Within, Within-itself, Within-none, Within-trans, Within-left, Within-right, Within-both, Within-same}
use Rattle.sa_simplify.proofs.Refines.{holds-of_node, typed-of_node, names-of_node, both_true, each_true, true_each}

abbrev column : Place → Expr
column x = Column x.table x.column

-- two equalities, read back

join_of_form : (x y : Place) (same : Bool) (join : Join) → (if same then None else Some (record { left = x; right = y })) ≡ Some join → join ≡ record { left = x; right = y }
join_of_form x y true join is = cc
join_of_form x y false join is = cc

join_between_form : (left right : Expr) (join : Join) → join_between left right ≡ Some join → Compare Eq left right ≡ Compare Eq (column join.left) (column join.right)
join_between_form (Column table place) (Column table' place') join is =
    let x : Place = record { table = table; column = place } in
    let y : Place = record { table = table'; column = place' } in
    ap (λ j. Compare Eq (column j.left) (column j.right)) (sym (join_of_form x y (is_same_place x y) join is))
join_between_form left right join is = cc

join_in-form : (cond : Cond) (join : Join) → join_in cond ≡ Some join → cond ≡ Compare Eq (column join.left) (column join.right)
join_in-form (Compare Eq left right) join is = join_between_form left right join is
join_in-form cond join is = cc

same_place : (x y : Place) → is_same_place x y ≡ true → x ≡ y
same_place x y same =
    let both = both_true (x.table == y.table) (x.column == y.column) same in
    λ i. record { table = eqb-true x.table y.table both.0 i; column = eqb-true x.column y.column both.1 i }

-- the two ways of handing on
record OneWay (join : Join) (x y : Place) : Type 0 where
  from : x ≡ join.left
  to : join.right ≡ y

record OtherWay (join : Join) (x y : Place) : Type 0 where
  from : x ≡ join.right
  to : join.left ≡ y

ways : (join : Join) (x y : Place) (a b : Bool) → is_same_place x join.left ≡ a → is_same_place x join.right ≡ b →
    (if a then Some join.right else (if b then Some join.left else None)) ≡ Some y → OneWay join x y ⊎ OtherWay join x y
ways join x y true b is_left is_right is = inl (record { from = same_place x join.left is_left; to = cc })
ways join x y false true is_left is_right is = inr (record { from = same_place x join.right is_right; to = cc })
ways join x y false false is_left is_right is = cc

ways_of : (join : Join) (x y : Place) → other_place join x ≡ Some y → OneWay join x y ⊎ OtherWay join x y
ways_of join x y is = ways join x y (is_same_place x join.left) (is_same_place x join.right) refl refl is

-- truth

conjunction_true : (a b : Truth) → conjunction a b ≡ True → (a ≡ True) × (b ≡ True)
conjunction_true True True is = (refl, refl)
conjunction_true True Unknown is = cc
conjunction_true True False is = cc
conjunction_true Unknown True is = cc
conjunction_true Unknown Unknown is = cc
conjunction_true Unknown False is = cc
conjunction_true False True is = cc
conjunction_true False Unknown is = cc
conjunction_true False False is = cc

all_true_each : (choice : Choice) (xs : List Cond) → all_of (map (holds choice) xs) ≡ True → AllByRecursion (λ x. holds choice x ≡ True) xs
all_true_each choice [] is = tt
all_true_each choice (x ∷ xs) is =
    let both = conjunction_true (holds choice x) (all_of (map (holds choice) xs)) (sym (all_of-cons (holds choice x) (map (holds choice) xs)) ∙ is) in
    (both.0, all_true_each choice xs both.1)

known_equal : (order : Ordering) → known (holds_at Eq order) ≡ True → order ≡ Equal
known_equal Less is = cc
known_equal Equal is = refl
known_equal Greater is = cc

equal_order : (a b : Value) → truth_of Eq a b ≡ True → order_of a b ≡ Equal
equal_order Null b is = cc
equal_order a Null is = cc
equal_order a b is = known_equal (order_of a b) is

abbrev Known : Value → Type 0
Known a = is_null a ≡ false

known_left : (a b : Value) → truth_of Eq a b ≡ True → Known a
known_left Null b is = cc
known_left a b is = refl

known_right : (a b : Value) → truth_of Eq a b ≡ True → Known b
known_right Null b is = cc
known_right a Null is = cc
known_right a b is = refl

equal_truth : (a b : Value) → Known a → Known b → order_of a b ≡ Equal → truth_of Eq a b ≡ True
equal_truth Null b ka kb is = cc
equal_truth a Null ka kb is = cc
equal_truth a b ka kb is = ap (λ order. known (holds_at Eq order)) is

module _ (total : IsTotalOrder order_of) where
  -- a = b and a = c, so b = c
  one_way : (a b c : Value) → truth_of Eq a b ≡ True → truth_of Eq a c ≡ True → truth_of Eq b c ≡ True
  one_way a b c first second =
      equal_truth b c (known_right a b first) (known_right a c second) (sym (total.congr a b c (equal_order a b first)) ∙ equal_order a c second)

  -- a = b and b = c, so a = c
  other_way : (a b c : Value) → truth_of Eq a b ≡ True → truth_of Eq b c ≡ True → truth_of Eq a c ≡ True
  other_way a b c first second =
      equal_truth a c (known_left a b first) (known_right b c second) (total.congr a b c (equal_order a b first) ∙ equal_order b c second)

  abbrev at : Choice → Place → Value
  at choice x = expr_value choice (column x)

  holds_join : (choice : Choice) (join : Join) → holds choice (Compare Eq (column join.left) (column join.right)) ≡ truth_of Eq (at choice join.left) (at choice join.right)
  holds_join choice join = holds-of_node choice (Cond-F.Compare Eq (column join.left) (column join.right))

  holds_fix : (choice : Choice) (fix : Fix) → holds choice (fix_condition fix) ≡ truth_of Eq (at choice fix.place) fix.literal
  holds_fix choice fix =
      holds-of_node choice (Cond-F.Compare Eq (column fix.place) (Literal fix.literal)) ∙ ap (truth_of Eq (at choice fix.place)) (value-of_node choice (Expr-F.Literal fix.literal))

  handed_truth : (choice : Choice) (join : Join) (x y : Place) (literal : Value) → OneWay join x y ⊎ OtherWay join x y →
      truth_of Eq (at choice join.left) (at choice join.right) ≡ True → truth_of Eq (at choice x) literal ≡ True → truth_of Eq (at choice y) literal ≡ True
  handed_truth choice join x y literal (inl way) first second =
      ap (λ p. truth_of Eq (at choice p) literal) (sym way.to)
      ∙ one_way (at choice join.left) (at choice join.right) literal first (ap (λ p. truth_of Eq (at choice p) literal) (sym way.from) ∙ second)
  handed_truth choice join x y literal (inr way) first second =
      ap (λ p. truth_of Eq (at choice p) literal) (sym way.to)
      ∙ other_way (at choice join.left) (at choice join.right) literal first (ap (λ p. truth_of Eq (at choice p) literal) (sym way.from) ∙ second)

  handed_holds : (choice : Choice) (conjuncts : List Cond) (handed : Fix) → next_handed conjuncts ≡ Some handed → all_of (map (holds choice) conjuncts) ≡ True → holds choice (fix_condition handed) ≡ True
  handed_holds choice conjuncts handed is all =
      let origin = next_handed-origin conjuncts handed is in
      let each = all_true_each choice conjuncts all in
      let first : truth_of Eq (at choice origin.join.left) (at choice origin.join.right) ≡ True =
      sym (holds_join choice origin.join) ∙ ap (holds choice) (sym (join_in-form origin.first origin.join origin.joins))
      ∙ All-in (λ c. holds choice c ≡ True) origin.first conjuncts each origin.first_there in
      let second : truth_of Eq (at choice origin.fix.place) origin.fix.literal ≡ True =
      sym (holds_fix choice origin.fix) ∙ ap (holds choice) (sym (fix_in-form origin.second origin.fix origin.fixes))
      ∙ All-in (λ c. holds choice c ≡ True) origin.second conjuncts each origin.second_there in
      holds_fix choice handed ∙ ap (truth_of Eq (at choice handed.place)) (sym origin.literal)
      ∙ handed_truth choice origin.join origin.fix.place handed.place origin.fix.literal (ways_of origin.join origin.fix.place handed.place origin.other) first second

  all_of-push : (choice : Choice) (xs : List Cond) (x : Cond) → all_of (map (holds choice) (xs ++ x ∷ [])) ≡ conjunction (all_of (map (holds choice) xs)) (holds choice x)
  all_of-push choice xs x =
      ap all_of (map-append (holds choice) xs (x ∷ [])) ∙ all_of-append (map (holds choice) xs) (holds choice x ∷ [])
      ∙ ap (conjunction (all_of (map (holds choice) xs))) (all_of-cons (holds choice x) [] ∙ conjunction-True_right (holds choice x))

  pub true_after : (choice : Choice) {conjuncts whole : List Cond} → HandsOn conjuncts whole → all_of (map (holds choice) conjuncts) ≡ True → all_of (map (holds choice) whole) ≡ True
  true_after choice (ends none) all = all
  true_after choice {conjuncts} {whole} (hands {fix = handed} is rest) all =
      true_after choice rest (all_of-push choice conjuncts (fix_condition handed)
      ∙ ap (λ t. conjunction t (holds choice (fix_condition handed))) all ∙ ap (conjunction True) (handed_holds choice conjuncts handed is all))

  pub true_before : (choice : Choice) {conjuncts whole : List Cond} → HandsOn conjuncts whole → all_of (map (holds choice) whole) ≡ True → all_of (map (holds choice) conjuncts) ≡ True
  true_before choice (ends none) all = all
  true_before choice {conjuncts} {whole} (hands {fix = handed} is rest) all =
      (conjunction_true (all_of (map (holds choice) conjuncts)) (holds choice (fix_condition handed))
      (sym (all_of-push choice conjuncts (fix_condition handed)) ∙ true_before choice rest all)).0

  and_alike : (choice : Choice) (members : List Cond) → (holds choice (And (handed_all members)) ≡ True) ↔ (holds choice (And members) ≡ True)
  and_alike choice members = (
    λ is. holds-of_node choice (Cond-F.And members) ∙ true_before choice (handed_all-hands members) (sym (holds-of_node choice (Cond-F.And (handed_all members))) ∙ is),
    λ is. holds-of_node choice (Cond-F.And (handed_all members)) ∙ true_after choice (handed_all-hands members) (sym (holds-of_node choice (Cond-F.And members)) ∙ is),
  )

  node_alike : (choice : Choice) (node : Cond-F Cond) (cond : Cond) → cond ≡ of_node node → (holds choice (node_propagated node cond) ≡ True) ↔ (holds choice cond ≡ True)
  node_alike choice (Cond-F.And members) cond is =
      (λ h. ap (holds choice) is ∙ (and_alike choice members).0 h, λ h. (and_alike choice members).1 (ap (holds choice) (sym is) ∙ h))
  node_alike choice node cond is = (λ h. h, λ h. h)

  pub propagated_alike : (choice : Choice) (cond : Cond) → (holds choice (propagated cond) ≡ True) ↔ (holds choice cond ≡ True)
  unfolding propagated
  propagated_alike choice cond = node_alike choice (out-Cond cond) cond (of_node-out cond)

-- types

abbrev is_null_kind : ExprKind → Bool
is_null_kind null = true
is_null_kind k = false

number_alike : (k : ExprKind) (i : _) → can_compare (number i) k ≡ can_compare sum k
number_alike (number j) i = refl
number_alike sum i = refl
number_alike text i = refl
number_alike null i = refl
number_alike faulty i = refl

null_compares : (k : ExprKind) → is_proper k ≡ true → can_compare null k ≡ true
null_compares (number interval) proper = refl
null_compares sum proper = refl
null_compares text proper = refl
null_compares null proper = refl
null_compares faulty proper = proper

second_proper : (k l : ExprKind) → can_compare k l ≡ true → is_proper l ≡ true
second_proper k l can = compared_proper l k (can_compare-sym l k ∙ can)

-- through a sum: what compares with a sum compares with what does
over_sum : (a c : ExprKind) → can_compare a sum ≡ true → can_compare sum c ≡ true → can_compare a c ≡ true
over_sum (number i) c first second = number_alike c i ∙ second
over_sum sum c first second = second
over_sum text c first second = cc
over_sum null c first second = null_compares c (second_proper sum c second)
over_sum faulty c first second = cc

over_text : (a c : ExprKind) → can_compare a text ≡ true → can_compare text c ≡ true → can_compare a c ≡ true
over_text (number i) c first second = cc
over_text sum c first second = cc
over_text text c first second = second
over_text null c first second = null_compares c (second_proper text c second)
over_text faulty c first second = cc

compares_over : (a b c : ExprKind) → is_null_kind b ≡ false → can_compare a b ≡ true → can_compare b c ≡ true → can_compare a c ≡ true
compares_over a (number i) c known first second =
    over_sum a c (can_compare-sym a sum ∙ sym (number_alike a i) ∙ can_compare-sym (number i) a ∙ first) (sym (number_alike c i) ∙ second)
compares_over a sum c known first second = over_sum a c first second
compares_over a text c known first second = over_text a c first second
compares_over a null c known first second = cc
compares_over a faulty c known first second = cc

within_known : (i : _) (b : Bool) → is_null_kind (if b then number i else faulty) ≡ false
within_known i true = refl
within_known i false = refl

cell_known : (k : CellKind) → is_null_kind (kind_of_cell k) ≡ false
cell_known (cells.Number least greatest) = within_known (record { least = least; greatest = greatest }) (is_within (record { least = least; greatest = greatest }))
cell_known cells.Sum = refl
cell_known cells.Text = refl

column_known : (kinds : CellKinds) (x : Place) → is_null_kind (expr_kind kinds (column x)) ≡ false
column_known kinds x = ap is_null_kind (kind-of_node kinds (Expr-F.Column x.table x.column)) ∙ cell_known (kinds.column x.table x.column)

handed_typed : (kinds : CellKinds) (join : Join) (x y : Place) (literal : Value) → OneWay join x y ⊎ OtherWay join x y →
    can_compare (expr_kind kinds (column join.left)) (expr_kind kinds (column join.right)) ≡ true →
    can_compare (expr_kind kinds (column x)) (expr_kind kinds (Literal literal)) ≡ true → can_compare (expr_kind kinds (column y)) (expr_kind kinds (Literal literal)) ≡ true
handed_typed kinds join x y literal (inl way) first second =
    ap (λ p. can_compare (expr_kind kinds (column p)) (expr_kind kinds (Literal literal))) (sym way.to)
    ∙ compares_over (expr_kind kinds (column join.right)) (expr_kind kinds (column join.left)) (expr_kind kinds (Literal literal)) (column_known kinds join.left)
    (can_compare-sym (expr_kind kinds (column join.right)) (expr_kind kinds (column join.left)) ∙ first)
    (ap (λ p. can_compare (expr_kind kinds (column p)) (expr_kind kinds (Literal literal))) (sym way.from) ∙ second)
handed_typed kinds join x y literal (inr way) first second =
    ap (λ p. can_compare (expr_kind kinds (column p)) (expr_kind kinds (Literal literal))) (sym way.to)
    ∙ compares_over (expr_kind kinds (column join.left)) (expr_kind kinds (column join.right)) (expr_kind kinds (Literal literal)) (column_known kinds join.right) first
    (ap (λ p. can_compare (expr_kind kinds (column p)) (expr_kind kinds (Literal literal))) (sym way.from) ∙ second)

handed_is_typed : (kinds : CellKinds) (conjuncts : List Cond) (handed : Fix) → next_handed conjuncts ≡ Some handed → AllByRecursion (λ c. is_well_typed kinds c ≡ true) conjuncts →
    is_well_typed kinds (fix_condition handed) ≡ true
handed_is_typed kinds conjuncts handed is each =
    let origin = next_handed-origin conjuncts handed is in
    let first : can_compare (expr_kind kinds (column origin.join.left)) (expr_kind kinds (column origin.join.right)) ≡ true =
    sym (typed-of_node kinds (Cond-F.Compare Eq (column origin.join.left) (column origin.join.right)))
    ∙ ap (is_well_typed kinds) (sym (join_in-form origin.first origin.join origin.joins))
    ∙ All-in (λ c. is_well_typed kinds c ≡ true) origin.first conjuncts each origin.first_there in
    let second : can_compare (expr_kind kinds (column origin.fix.place)) (expr_kind kinds (Literal origin.fix.literal)) ≡ true =
    sym (typed-of_node kinds (Cond-F.Compare Eq (column origin.fix.place) (Literal origin.fix.literal)))
    ∙ ap (is_well_typed kinds) (sym (fix_in-form origin.second origin.fix origin.fixes))
    ∙ All-in (λ c. is_well_typed kinds c ≡ true) origin.second conjuncts each origin.second_there in
    typed-of_node kinds (Cond-F.Compare Eq (column handed.place) (Literal handed.literal))
    ∙ ap (λ v. can_compare (expr_kind kinds (column handed.place)) (expr_kind kinds (Literal v))) (sym origin.literal)
    ∙ handed_typed kinds origin.join origin.fix.place handed.place origin.fix.literal (ways_of origin.join origin.fix.place handed.place origin.other) first second

typed_after : (kinds : CellKinds) {conjuncts whole : List Cond} → HandsOn conjuncts whole → AllByRecursion (λ c. is_well_typed kinds c ≡ true) conjuncts →
    AllByRecursion (λ c. is_well_typed kinds c ≡ true) whole
typed_after kinds (ends none) each = each
typed_after kinds {conjuncts} {whole} (hands {fix = handed} is rest) each =
    typed_after kinds rest (All-push (λ c. is_well_typed kinds c ≡ true) conjuncts (fix_condition handed) each (handed_is_typed kinds conjuncts handed is each))

node_typed_still : (kinds : CellKinds) (node : Cond-F Cond) (cond : Cond) → cond ≡ of_node node → is_well_typed kinds cond ≡ true → is_well_typed kinds (node_propagated node cond) ≡ true
node_typed_still kinds (Cond-F.And members) cond is typed =
    typed-of_node kinds (Cond-F.And (handed_all members))
    ∙ true_each (is_well_typed kinds) (handed_all members) (typed_after kinds (handed_all-hands members)
    (each_true (is_well_typed kinds) members (sym (typed-of_node kinds (Cond-F.And members)) ∙ ap (is_well_typed kinds) (sym is) ∙ typed)))
node_typed_still kinds node cond is typed = typed

pub propagated_typed : (kinds : CellKinds) (cond : Cond) → is_well_typed kinds cond ≡ true → is_well_typed kinds (propagated cond) ≡ true
unfolding propagated
propagated_typed kinds cond = node_typed_still kinds (out-Cond cond) cond (of_node-out cond)

-- names

abbrev names_of : List Cond → List Name
names_of conds = flat_map (λ names. names) (map cond_names conds)

names_in : (c : Cond) (conjuncts : List Cond) → IsIn c conjuncts → Within (cond_names c) (names_of conjuncts)
names_in c [] here = absurd here
names_in c (x ∷ conjuncts) (inl is) = Within-same (ap cond_names (sym is)) refl (Within-left (cond_names x) (names_of conjuncts))
names_in c (x ∷ conjuncts) (inr there) = Within-trans (names_in c conjuncts there) (Within-right (cond_names x) (names_of conjuncts))

join_names : (join : Join) (x y : Place) → OneWay join x y ⊎ OtherWay join x y → Within (expr_names (column y)) (expr_names (column join.left) ++ expr_names (column join.right))
join_names join x y (inl way) = Within-same (ap (λ p. expr_names (column p)) (sym way.to)) refl (Within-right (expr_names (column join.left)) (expr_names (column join.right)))
join_names join x y (inr way) = Within-same (ap (λ p. expr_names (column p)) (sym way.to)) refl (Within-left (expr_names (column join.left)) (expr_names (column join.right)))

handed_names : (conjuncts : List Cond) (handed : Fix) → next_handed conjuncts ≡ Some handed → Within (cond_names (fix_condition handed)) (names_of conjuncts)
handed_names conjuncts handed is =
    let origin = next_handed-origin conjuncts handed is in
    let first : Within (expr_names (column origin.join.left) ++ expr_names (column origin.join.right)) (names_of conjuncts) =
    Within-same (sym (names-of_node (Cond-F.Compare Eq (column origin.join.left) (column origin.join.right))) ∙ ap cond_names (sym (join_in-form origin.first origin.join origin.joins)))
    refl (names_in origin.first conjuncts origin.first_there) in
    Within-same (names-of_node (Cond-F.Compare Eq (column handed.place) (Literal handed.literal))) refl
    (Within-both
    (Within-trans (join_names origin.join origin.fix.place handed.place (ways_of origin.join origin.fix.place handed.place origin.other)) first)
    (Within-same (names-of_expr_node (Expr-F.Literal handed.literal)) refl (Within-none (names_of conjuncts))))

names_of-push : (conjuncts : List Cond) (c : Cond) → names_of (conjuncts ++ c ∷ []) ≡ names_of conjuncts ++ (cond_names c ++ [])
names_of-push conjuncts c =
    ap (flat_map (λ names. names)) (map-append cond_names conjuncts (c ∷ [])) ∙ flat_map-append (λ names. names) (map cond_names conjuncts) (cond_names c ∷ [])

names_after : {conjuncts whole : List Cond} → HandsOn conjuncts whole → Within (names_of whole) (names_of conjuncts)
names_after {conjuncts} (ends none) = Within-itself (names_of conjuncts)
names_after {conjuncts} {whole} (hands {fix = handed} is rest) =
    Within-trans (names_after rest)
    (Within-same (names_of-push conjuncts (fix_condition handed)) refl
    (Within-both (Within-itself (names_of conjuncts)) (Within-both (handed_names conjuncts handed is) (Within-none (names_of conjuncts)))))

node_names_still : (node : Cond-F Cond) (cond : Cond) → cond ≡ of_node node → Within (cond_names (node_propagated node cond)) (cond_names cond)
node_names_still (Cond-F.And members) cond is =
    Within-same (names-of_node (Cond-F.And (handed_all members))) (ap cond_names is ∙ names-of_node (Cond-F.And members)) (names_after (handed_all-hands members))
node_names_still node cond is = Within-itself (cond_names cond)

pub propagated_names : (cond : Cond) → Within (cond_names (propagated cond)) (cond_names cond)
unfolding propagated
propagated_names cond = node_names_still (out-Cond cond) cond (of_node-out cond)

-- what the code has in hand

pub propagated_and : (cond : Cond) (members whole : List Cond) → cond ≡ And members → HandsOn members whole → And whole ≡ propagated cond
unfolding propagated
propagated_and cond members whole is all =
    ap And (HandsOn-same all (handed_all-hands members)) ∙ sym (ap (λ n. node_propagated n (And members)) (outs-And members)) ∙ ap (λ c. node_propagated (out-Cond c) c) (sym is)
