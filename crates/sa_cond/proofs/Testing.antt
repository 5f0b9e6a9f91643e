-- What can be tested has parts that can.
use Rattle.std.proofs.Common.{◌≡◌, Bool, true, List, ◌++◌, flat_map, All, sym, subst, ◌∙◌, ap}
use Rattle.std.specs.List.{list_all}
use Rattle.sa_value.specs.declared.truth.CompareOp.{CompareOp}
use Rattle.sa_cond.specs.declared.cond.Cond.{Cond}
use Rattle.sa_cond.specs.declared.cond.Cond.TheVariants as node
use Rattle.sa_cond.specs.declared.expr.Expr.{Expr}
use Rattle.sa_cond.specs.Choice.{Choice}
use Rattle.sa_cond.specs.Cited.{Name, expr_names, cond_names, MeetsName, CanEvaluate, CanTest}
use Rattle.sa_cond.specs.Interval.{expr_kind}
use Rattle.sa_cond.specs.Typed.{is_proper, can_compare, is_well_typed}
use Rattle.sa_cond.specs.inner.Compared.{CanRelate}
use Rattle.sa_cond.proofs.CondForms.{names-Compare, names-IsNull, names-NotNull, names-Between, names-Among, names-And, names-Or, names-Not, typed-Compare, typed-IsNull, typed-NotNull, typed-Between, typed-Among, typed-And, typed-Or, typed-Not}
use Rattle.sa_cond.proofs.Lists.{All-left, All-right, All-flat_map, All-flat, both_true, All-list_all, All-list_all_map}

-- the names of a condition that is of a form
named : (P : Name → Type 0) (whole form : Cond) (names : List Name) → whole ≡ form → cond_names form ≡ names → All P (cond_names whole) → All P names
named P whole form names is names_are all = subst (All P) (ap cond_names is ∙ names_are) all

typed : (choice : Choice) (whole form : Cond) (test : Bool) (can : CanTest choice whole) → whole ≡ form → is_well_typed can.kinds form ≡ test → test ≡ true
typed choice whole form test can is typed_is = sym typed_is ∙ sym (ap (is_well_typed can.kinds) is) ∙ can.typed

-- The parts of a comparison.
pub record Relates (P : Name → Type 0) (choice : Choice) (left right : Expr) : Type 0 where
  pub left_names : All P (expr_names left)
  pub right_names : All P (expr_names right)
  pub can : CanRelate choice left right

module _ (P : Name → Type 0) (choice : Choice) (whole : Cond) (all : All P (cond_names whole)) (can : CanTest choice whole) where
  pub relates : (op : CompareOp) (left right : Expr) → whole ≡ node.Compare op left right → Relates P choice left right
  relates op left right is =
      let names = named P whole (node.Compare op left right) _ is (names-Compare op left right) all in
      let met = named (MeetsName can.kinds choice) whole (node.Compare op left right) _ is (names-Compare op left right) can.met in
      record {
        left_names = All-left P (expr_names left) (expr_names right) names;
        right_names = All-right P (expr_names left) (expr_names right) names;
        can =
            record {
              kinds = can.kinds;
              left_met = All-left (MeetsName can.kinds choice) (expr_names left) (expr_names right) met;
              right_met = All-right (MeetsName can.kinds choice) (expr_names left) (expr_names right) met;
              typed = typed choice whole (node.Compare op left right) _ can is (typed-Compare can.kinds op left right);
            };
      }

  pub is_null_names : (x : Expr) → whole ≡ node.IsNull x → All P (expr_names x)
  is_null_names x is = named P whole (node.IsNull x) _ is (names-IsNull x) all

  pub is_null_can : (x : Expr) → whole ≡ node.IsNull x → CanEvaluate choice x
  is_null_can x is =
      record {
        kinds = can.kinds;
        met = named (MeetsName can.kinds choice) whole (node.IsNull x) _ is (names-IsNull x) can.met;
        typed = typed choice whole (node.IsNull x) _ can is (typed-IsNull can.kinds x);
      }

  pub not_null_names : (x : Expr) → whole ≡ node.NotNull x → All P (expr_names x)
  not_null_names x is = named P whole (node.NotNull x) _ is (names-NotNull x) all

  pub not_null_can : (x : Expr) → whole ≡ node.NotNull x → CanEvaluate choice x
  not_null_can x is =
      record {
        kinds = can.kinds;
        met = named (MeetsName can.kinds choice) whole (node.NotNull x) _ is (names-NotNull x) can.met;
        typed = typed choice whole (node.NotNull x) _ can is (typed-NotNull can.kinds x);
      }

  pub relates_low : (value low high : Expr) → whole ≡ node.Between value low high → Relates P choice value low
  relates_low value low high is =
      let names = named P whole (node.Between value low high) _ is (names-Between value low high) all in
      let met = named (MeetsName can.kinds choice) whole (node.Between value low high) _ is (names-Between value low high) can.met in
      let ends = typed choice whole (node.Between value low high) _ can is (typed-Between can.kinds value low high) in
      let both = both_true (can_compare (expr_kind can.kinds value) (expr_kind can.kinds low)) (can_compare (expr_kind can.kinds value) (expr_kind can.kinds high)) ends in
      let front = All-left P (expr_names value ++ expr_names low) (expr_names high) names in
      let front_met = All-left (MeetsName can.kinds choice) (expr_names value ++ expr_names low) (expr_names high) met in
      record {
        left_names = All-left P (expr_names value) (expr_names low) front;
        right_names = All-right P (expr_names value) (expr_names low) front;
        can =
            record {
              kinds = can.kinds;
              left_met = All-left (MeetsName can.kinds choice) (expr_names value) (expr_names low) front_met;
              right_met = All-right (MeetsName can.kinds choice) (expr_names value) (expr_names low) front_met;
              typed = both.0;
            };
      }

  pub relates_high : (value low high : Expr) → whole ≡ node.Between value low high → Relates P choice value high
  relates_high value low high is =
      let names = named P whole (node.Between value low high) _ is (names-Between value low high) all in
      let met = named (MeetsName can.kinds choice) whole (node.Between value low high) _ is (names-Between value low high) can.met in
      let ends = typed choice whole (node.Between value low high) _ can is (typed-Between can.kinds value low high) in
      let both = both_true (can_compare (expr_kind can.kinds value) (expr_kind can.kinds low)) (can_compare (expr_kind can.kinds value) (expr_kind can.kinds high)) ends in
      let front = All-left P (expr_names value ++ expr_names low) (expr_names high) names in
      let front_met = All-left (MeetsName can.kinds choice) (expr_names value ++ expr_names low) (expr_names high) met in
      record {
        left_names = All-left P (expr_names value) (expr_names low) front;
        right_names = All-right P (expr_names value ++ expr_names low) (expr_names high) names;
        can =
            record {
              kinds = can.kinds;
              left_met = All-left (MeetsName can.kinds choice) (expr_names value) (expr_names low) front_met;
              right_met = All-right (MeetsName can.kinds choice) (expr_names value ++ expr_names low) (expr_names high) met;
              typed = both.1;
            };
      }

  pub value_names : (value : Expr) (list : List Expr) → whole ≡ node.Among value list → All P (expr_names value)
  value_names value list is = All-left P (expr_names value) (flat_map expr_names list) (named P whole (node.Among value list) _ is (names-Among value list) all)

  pub member_names : (value : Expr) (list : List Expr) → whole ≡ node.Among value list → All (λ member. All P (expr_names member)) list
  member_names value list is =
      All-flat_map P expr_names list (All-right P (expr_names value) (flat_map expr_names list) (named P whole (node.Among value list) _ is (names-Among value list) all))

  pub member_can : (value : Expr) (list : List Expr) → whole ≡ node.Among value list → All (CanRelate choice value) list
  member_can value list is =
      let met = named (MeetsName can.kinds choice) whole (node.Among value list) _ is (names-Among value list) can.met in
      let value_met = All-left (MeetsName can.kinds choice) (expr_names value) (flat_map expr_names list) met in
      let list_met = All-flat_map (MeetsName can.kinds choice) expr_names list (All-right (MeetsName can.kinds choice) (expr_names value) (flat_map expr_names list) met) in
      let compares : Expr → Bool = λ member. can_compare (expr_kind can.kinds value) (expr_kind can.kinds member) in
      let all_typed = typed choice whole (node.Among value list) _ can is (typed-Among can.kinds value list) in
      let both = both_true (is_proper (expr_kind can.kinds value)) (list_all compares list) all_typed in
      let tests = All-list_all compares list both.1 in
      λ k d lt. record { kinds = can.kinds; left_met = value_met; right_met = list_met k d lt; typed = tests k d lt }

  pub value_can : (value : Expr) (list : List Expr) → whole ≡ node.Among value list → CanEvaluate choice value
  value_can value list is =
      let met = named (MeetsName can.kinds choice) whole (node.Among value list) _ is (names-Among value list) can.met in
      let compares : Expr → Bool = λ member. can_compare (expr_kind can.kinds value) (expr_kind can.kinds member) in
      let all_typed = typed choice whole (node.Among value list) _ can is (typed-Among can.kinds value list) in
      record {
        kinds = can.kinds;
        met = All-left (MeetsName can.kinds choice) (expr_names value) (flat_map expr_names list) met;
        typed = (both_true (is_proper (expr_kind can.kinds value)) (list_all compares list) all_typed).0;
      }

  pub and_names : (members : List Cond) → whole ≡ node.And members → All (λ member. All P (cond_names member)) members
  and_names members is = All-flat P cond_names members (named P whole (node.And members) _ is (names-And members) all)

  pub and_can : (members : List Cond) → whole ≡ node.And members → All (CanTest choice) members
  and_can members is =
      let met = All-flat (MeetsName can.kinds choice) cond_names members (named (MeetsName can.kinds choice) whole (node.And members) _ is (names-And members) can.met) in
      let tests = All-list_all_map (is_well_typed can.kinds) members (typed choice whole (node.And members) _ can is (typed-And can.kinds members)) in
      λ k d lt. record { kinds = can.kinds; met = met k d lt; typed = tests k d lt }

  pub or_names : (members : List Cond) → whole ≡ node.Or members → All (λ member. All P (cond_names member)) members
  or_names members is = All-flat P cond_names members (named P whole (node.Or members) _ is (names-Or members) all)

  pub or_can : (members : List Cond) → whole ≡ node.Or members → All (CanTest choice) members
  or_can members is =
      let met = All-flat (MeetsName can.kinds choice) cond_names members (named (MeetsName can.kinds choice) whole (node.Or members) _ is (names-Or members) can.met) in
      let tests = All-list_all_map (is_well_typed can.kinds) members (typed choice whole (node.Or members) _ can is (typed-Or can.kinds members)) in
      λ k d lt. record { kinds = can.kinds; met = met k d lt; typed = tests k d lt }

  pub not_names : (x : Cond) → whole ≡ node.Not x → All P (cond_names x)
  not_names x is = named P whole (node.Not x) _ is (names-Not x) all

  pub not_can : (x : Cond) → whole ≡ node.Not x → CanTest choice x
  not_can x is =
      record {
        kinds = can.kinds;
        met = named (MeetsName can.kinds choice) whole (node.Not x) _ is (names-Not x) can.met;
        typed = typed choice whole (node.Not x) _ can is (typed-Not can.kinds x);
      }
