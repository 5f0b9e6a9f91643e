-- What the third, fourth and fifth step leave of a condition without others inside: no arithmetic to do, no comparison to decide.
use Rattle.std.proofs.Common.{◌≡◌, ℤ, neg_ℤ, ◌+ℤ◌, ◌-ℤ◌, ◌*ℤ◌, not, ◌&&◌, if◌then◌else◌, Option, Some, None, refl, ap, sym, ◌∙◌, subst}
use Rattle.std.specs.Prelude.{is_some}
use Rattle.sa_value.specs.declared.truth.CompareOp.{CompareOp}
use Rattle.sa_value.specs.declared.truth.CompareOp.TheVariants.{NullEq}
use Rattle.sa_value.specs.declared.truth.Truth.{Truth}
use Rattle.sa_value.specs.declared.truth.Truth.TheVariants.{Unknown}
use Rattle.sa_value.specs.declared.value.Value.{Value}
use Rattle.sa_value.specs.declared.value.Value.TheVariants.{Null, Int, Big, Text}
use Rattle.sa_value.specs.Compare.{known, truth_of}
use Rattle.sa_value.specs.Logic.{negation}
use Rattle.sa_cond.specs.declared.cond.Cond.{Cond, Cond-F}
use Rattle.sa_cond.specs.declared.cond.Cond.TheVariants.{Known, Compare, IsNull, NotNull, Not}
use Rattle.sa_cond.specs.declared.expr.Expr.{Expr, Expr-F}
use Rattle.sa_cond.specs.declared.expr.Expr.TheVariants.{Column, Slot, Literal, Negate, Add, Subtract, Multiply}
use Rattle.sa_cond.specs.Condition.{is_null}
use Rattle.sa_simplify.specs.Node.{literal_of}
use Rattle.sa_simplify.specs.Fold.{value_of_one, value_of_two, literal_or, node_folded, folded_expr, node_folded_within, folded}
use Rattle.sa_simplify.specs.Turn.{mirrored, comparison_turned, node_turned, turned}
use Rattle.sa_simplify.specs.Decide.{compared_with_null, comparison_decided, null_decided, not_null_decided, not_decided, node_decided, decided}
use Rattle.sa_simplify.proofs.NodeLemmas.{fold-of_node}
use Rattle.sa_simplify.proofs.ExprLemmas.{fold-of_expr_node, along_expr}

-- arithmetic is done once

pub folded-Column : (table column : _) → folded_expr (Column table column) ≡ Column table column
unfolding folded_expr
folded-Column table column = fold-of_expr_node Expr node_folded (Expr-F.Column table column)

folded-Slot : (slot : _) → folded_expr (Slot slot) ≡ Slot slot
unfolding folded_expr
folded-Slot slot = fold-of_expr_node Expr node_folded (Expr-F.Slot slot)

pub folded-Literal : (value : Value) → folded_expr (Literal value) ≡ Literal value
unfolding folded_expr
folded-Literal value = fold-of_expr_node Expr node_folded (Expr-F.Literal value)

-- the negative of an expression that is done
abbrev negative : Expr → Expr
negative x = literal_or (value_of_one neg_ℤ (literal_of x)) (Negate x)

folded-Negate : (x : Expr) → folded_expr (Negate x) ≡ negative (folded_expr x)
unfolding folded_expr
folded-Negate x = fold-of_expr_node Expr node_folded (Expr-F.Negate x)

negative_done : (x : Expr) (o : Option Value) → folded_expr x ≡ x → value_of_one neg_ℤ (literal_of x) ≡ o →
    folded_expr (literal_or o (Negate x)) ≡ literal_or o (Negate x)
negative_done x None done is = folded-Negate x ∙ ap negative done ∙ ap (λ p. literal_or p (Negate x)) is
negative_done x (Some value) done is = folded-Literal value

-- an operation on two expressions that are done
record Operates (join : Expr → Expr → Expr) : Type 0 where
  operation : ℤ → ℤ → ℤ
  folds : (x y : Expr) → folded_expr (join x y)
      ≡ literal_or (value_of_two operation (literal_of (folded_expr x)) (literal_of (folded_expr y))) (join (folded_expr x) (folded_expr y))

module _ (join : Expr → Expr → Expr) (operates : Operates join) where
  abbrev result : Expr → Expr → Expr
  result x y = literal_or (value_of_two operates.operation (literal_of x) (literal_of y)) (join x y)

  result_done : (x y : Expr) (o : Option Value) → folded_expr x ≡ x → folded_expr y ≡ y → value_of_two operates.operation (literal_of x) (literal_of y) ≡ o →
      folded_expr (literal_or o (join x y)) ≡ literal_or o (join x y)
  result_done x y None x_done y_done is =
      operates.folds x y ∙ ap (λ z. result z (folded_expr y)) x_done ∙ ap (result x) y_done ∙ ap (λ p. literal_or p (join x y)) is
  result_done x y (Some value) x_done y_done is = folded-Literal value

  join_done : (x y : Expr) → folded_expr (folded_expr x) ≡ folded_expr x → folded_expr (folded_expr y) ≡ folded_expr y →
      folded_expr (folded_expr (join x y)) ≡ folded_expr (join x y)
  join_done x y x_done y_done =
      let x' : Expr = folded_expr x in
      let y' : Expr = folded_expr y in
      ap folded_expr (operates.folds x y) ∙ result_done x' y' (value_of_two operates.operation (literal_of x') (literal_of y')) x_done y_done refl ∙ sym (operates.folds x y)

adds : Operates Add
unfolding folded_expr
adds = record { operation = λ x y. x +ℤ y; folds = λ x y. fold-of_expr_node Expr node_folded (Expr-F.Add x y) }

subtracts : Operates Subtract
unfolding folded_expr
subtracts = record { operation = λ x y. x -ℤ y; folds = λ x y. fold-of_expr_node Expr node_folded (Expr-F.Subtract x y) }

multiplies : Operates Multiply
unfolding folded_expr
multiplies = record { operation = λ x y. x *ℤ y; folds = λ x y. fold-of_expr_node Expr node_folded (Expr-F.Multiply x y) }

pub folded_once : (x : Expr) → folded_expr (folded_expr x) ≡ folded_expr x
folded_once = along_expr (λ x. folded_expr (folded_expr x) ≡ folded_expr x) (record {
  column = λ table column. ap folded_expr (folded-Column table column);
  slot = λ slot. ap folded_expr (folded-Slot slot);
  literal = λ value. ap folded_expr (folded-Literal value);
  negate = λ x done. ap folded_expr (folded-Negate x) ∙ negative_done (folded_expr x) (value_of_one neg_ℤ (literal_of (folded_expr x))) done refl ∙ sym (folded-Negate x);
  add = join_done Add adds;
  subtract = join_done Subtract subtracts;
  multiply = join_done Multiply multiplies;
})

-- An expression has no arithmetic left to do, and is no literal.
pub record IsOpen (x : Expr) : Type 0 where
  pub done : folded_expr x ≡ x
  pub no_literal : literal_of x ≡ None

-- Two expressions, the right one maybe a literal other than NULL, have a comparison that stands.
pub record IsSettled (left right : Expr) : Type 0 where
  pub open_left : IsOpen left
  pub done_right : folded_expr right ≡ right
  pub no_null : literal_of right ≡ Some Null → ⊥

-- What is left of a condition without others inside.
pub data IsAtom : Cond → Type 0 where
  truth : (truth : Truth) → IsAtom (Known truth)
  compared : (op : CompareOp) (left right : Expr) → IsSettled left right → IsAtom (Compare op left right)
  null : (x : Expr) → IsOpen x → IsAtom (IsNull x)
  not_null : (x : Expr) → IsOpen x → IsAtom (NotNull x)
  unequal : (left right : Expr) → IsSettled left right → IsAtom (Not (Compare NullEq left right))

-- what is left of a comparison
data IsCompared (op : CompareOp) : Cond → Type 0 where
  decides : (truth : Truth) → IsCompared op (Known truth)
  tests : (x : Expr) → IsOpen x → IsCompared op (IsNull x)
  stands : (left right : Expr) → IsSettled left right → IsCompared op (Compare op left right)
  turns : (left right : Expr) → IsSettled left right → IsCompared op (Compare (mirrored op) left right)

decided-Compare : (op : CompareOp) (left right : Expr) (a b : Option Value) → literal_of left ≡ a → literal_of right ≡ b →
    decided (Compare op left right) ≡ comparison_decided op a b left right
unfolding decided
decided-Compare op left right a b left_is right_is =
    fold-of_node Cond node_decided (Cond-F.Compare op left right)
    ∙ ap (λ o. comparison_decided op o (literal_of right) left right) left_is ∙ ap (λ o. comparison_decided op a o left right) right_is

not_null_value : (value : Value) (op : CompareOp) (left right : Expr) → (Some value ≡ Some Null → ⊥) → comparison_decided op None (Some value) left right ≡ Compare op left right
not_null_value Null op left right other = absurd (other refl)
not_null_value (Int n) op left right other = refl
not_null_value (Big n) op left right other = refl
not_null_value (Text t) op left right other = refl

pub settled_stands : (op : CompareOp) (left right : Expr) → IsSettled left right → comparison_decided op (literal_of left) (literal_of right) left right ≡ Compare op left right
settled_stands op left right settled = at (literal_of right) refl
  where
    at : (o : Option Value) → literal_of right ≡ o → comparison_decided op (literal_of left) o left right ≡ Compare op left right
    at None is = ap (λ p. comparison_decided op p None left right) settled.open_left.no_literal
    at (Some value) is =
        ap (λ p. comparison_decided op p (Some value) left right) settled.open_left.no_literal
        ∙ not_null_value value op left right (λ null. settled.no_null (is ∙ null))

stands_decided : (op : CompareOp) (left right : Expr) → IsSettled left right → decided (Compare op left right) ≡ Compare op left right
stands_decided op left right settled = decided-Compare op left right (literal_of left) (literal_of right) refl refl ∙ settled_stands op left right settled

with_null : (op of : CompareOp) (x : Expr) → IsOpen x → IsCompared of (compared_with_null op x)
with_null NullEq of x free = tests x free
with_null op of x free = decides Unknown

-- a literal other than NULL on the right
with_literal : (op of : CompareOp) (left right : Expr) (value : Value) → folded_expr left ≡ left → folded_expr right ≡ right → literal_of left ≡ None → literal_of right ≡ Some value →
    ((left right : Expr) → IsSettled left right → IsCompared of (Compare op left right)) → IsCompared of (decided (Compare op left right))
with_literal op of left right Null left_done right_done left_is right_is made =
    subst (IsCompared of) (sym (decided-Compare op left right None (Some Null) left_is right_is)) (with_null op of left (record { done = left_done; no_literal = left_is }))
with_literal op of left right value left_done right_done left_is right_is made =
    let settled : IsSettled left right = record {
      open_left = record { done = left_done; no_literal = left_is };
      done_right = right_done;
      no_null = λ null. (cc);
    } in subst (IsCompared of) (sym (stands_decided op left right settled)) (made left right settled)

turned_decided : (op : CompareOp) (left right : Expr) (a b : Option Value) → folded_expr left ≡ left → folded_expr right ≡ right → literal_of left ≡ a → literal_of right ≡ b →
    IsCompared op (decided (if is_some a && not (is_some b) then Compare (mirrored op) right left else Compare op left right))
turned_decided op left right None None left_done right_done left_is right_is =
    let settled : IsSettled left right = record {
      open_left = record { done = left_done; no_literal = left_is };
      done_right = right_done;
      no_null = λ null. (cc);
    } in subst (IsCompared op) (sym (stands_decided op left right settled)) (stands left right settled)
turned_decided op left right None (Some value) left_done right_done left_is right_is =
    with_literal op op left right value left_done right_done left_is right_is stands
turned_decided op left right (Some value) None left_done right_done left_is right_is =
    with_literal (mirrored op) op right left value right_done left_done right_is left_is turns
turned_decided op left right (Some a) (Some b) left_done right_done left_is right_is =
    subst (IsCompared op) (sym (decided-Compare op left right (Some a) (Some b) left_is right_is)) (decides (truth_of op a b))

-- the three steps together
abbrev pub settle : Cond → Cond
settle x = decided (turned (folded x))

folded-Compare : (op : CompareOp) (left right : Expr) → folded (Compare op left right) ≡ Compare op (folded_expr left) (folded_expr right)
unfolding folded
folded-Compare op left right = fold-of_node Cond node_folded_within (Cond-F.Compare op left right)

turned-Compare : (op : CompareOp) (left right : Expr) → turned (Compare op left right) ≡ comparison_turned op left right
unfolding turned
turned-Compare op left right = fold-of_node Cond node_turned (Cond-F.Compare op left right)

settled_compare : (op : CompareOp) (left right : Expr) → IsCompared op (settle (Compare op left right))
settled_compare op left right =
    let left' : Expr = folded_expr left in
    let right' : Expr = folded_expr right in
    subst (IsCompared op) (sym (ap (λ x. decided (turned x)) (folded-Compare op left right) ∙ ap decided (turned-Compare op left' right')))
    (turned_decided op left' right' (literal_of left') (literal_of right') (folded_once left) (folded_once right) refl refl)

compared_atom : {op : CompareOp} {x : Cond} → IsCompared op x → IsAtom x
compared_atom (decides t) = truth t
compared_atom (tests x free) = null x free
compared_atom {op} (stands left right settled) = compared op left right settled
compared_atom {op} (turns left right settled) = compared (mirrored op) left right settled

denied_atom : {x : Cond} → IsCompared NullEq x → IsAtom (not_decided x)
denied_atom (decides t) = truth (negation t)
denied_atom (tests x free) = not_null x free
denied_atom (stands left right settled) = unequal left right settled
denied_atom (turns left right settled) = unequal left right settled

folded-Not : (x : Cond) → folded (Not x) ≡ Not (folded x)
unfolding folded
folded-Not x = fold-of_node Cond node_folded_within (Cond-F.Not x)

turned-Not : (x : Cond) → turned (Not x) ≡ Not (turned x)
unfolding turned
turned-Not x = fold-of_node Cond node_turned (Cond-F.Not x)

decided-Not : (x : Cond) → decided (Not x) ≡ not_decided (decided x)
unfolding decided
decided-Not x = fold-of_node Cond node_decided (Cond-F.Not x)

settle-Not : (x : Cond) → settle (Not x) ≡ not_decided (settle x)
settle-Not x = ap (λ y. decided (turned y)) (folded-Not x) ∙ ap decided (turned-Not (folded x)) ∙ decided-Not (turned (folded x))

folded-Known : (t : Truth) → folded (Known t) ≡ Known t
unfolding folded
folded-Known t = fold-of_node Cond node_folded_within (Cond-F.Known t)

turned-Known : (t : Truth) → turned (Known t) ≡ Known t
unfolding turned
turned-Known t = fold-of_node Cond node_turned (Cond-F.Known t)

decided-Known : (t : Truth) → decided (Known t) ≡ Known t
unfolding decided
decided-Known t = fold-of_node Cond node_decided (Cond-F.Known t)

settle-Known : (t : Truth) → settle (Known t) ≡ Known t
settle-Known t = ap (λ y. decided (turned y)) (folded-Known t) ∙ ap decided (turned-Known t) ∙ decided-Known t

folded-IsNull : (x : Expr) → folded (IsNull x) ≡ IsNull (folded_expr x)
unfolding folded
folded-IsNull x = fold-of_node Cond node_folded_within (Cond-F.IsNull x)

turned-IsNull : (x : Expr) → turned (IsNull x) ≡ IsNull x
unfolding turned
turned-IsNull x = fold-of_node Cond node_turned (Cond-F.IsNull x)

decided-IsNull : (x : Expr) → decided (IsNull x) ≡ null_decided (literal_of x) x
unfolding decided
decided-IsNull x = fold-of_node Cond node_decided (Cond-F.IsNull x)

folded-NotNull : (x : Expr) → folded (NotNull x) ≡ NotNull (folded_expr x)
unfolding folded
folded-NotNull x = fold-of_node Cond node_folded_within (Cond-F.NotNull x)

turned-NotNull : (x : Expr) → turned (NotNull x) ≡ NotNull x
unfolding turned
turned-NotNull x = fold-of_node Cond node_turned (Cond-F.NotNull x)

decided-NotNull : (x : Expr) → decided (NotNull x) ≡ not_null_decided (literal_of x) x
unfolding decided
decided-NotNull x = fold-of_node Cond node_decided (Cond-F.NotNull x)

null_atom : (x : Expr) (o : Option Value) → folded_expr x ≡ x → literal_of x ≡ o → IsAtom (null_decided o x)
null_atom x None done is = null x (record { done = done; no_literal = is })
null_atom x (Some value) done is = truth (known (is_null value))

not_null_atom : (x : Expr) (o : Option Value) → folded_expr x ≡ x → literal_of x ≡ o → IsAtom (not_null_decided o x)
not_null_atom x None done is = not_null x (record { done = done; no_literal = is })
not_null_atom x (Some value) done is = truth (known (not (is_null value)))

-- what is left of each leaf, also under NOT

pub atom-Compare : (op : CompareOp) (left right : Expr) → IsAtom (settle (Compare op left right))
atom-Compare op left right = compared_atom (settled_compare op left right)

pub atom-unequal : (left right : Expr) → IsAtom (settle (Not (Compare NullEq left right)))
atom-unequal left right = subst IsAtom (sym (settle-Not (Compare NullEq left right))) (denied_atom (settled_compare NullEq left right))

pub atom-Known : (t : Truth) → IsAtom (settle (Known t))
atom-Known t = subst IsAtom (sym (settle-Known t)) (truth t)

pub atom-unknown : (t : Truth) → IsAtom (settle (Not (Known t)))
atom-unknown t = subst IsAtom (sym (settle-Not (Known t) ∙ ap not_decided (settle-Known t))) (truth (negation t))

pub atom-IsNull : (x : Expr) → IsAtom (settle (IsNull x))
atom-IsNull x =
    let x' : Expr = folded_expr x in
    subst IsAtom (sym (ap (λ y. decided (turned y)) (folded-IsNull x) ∙ ap decided (turned-IsNull x') ∙ decided-IsNull x'))
    (null_atom x' (literal_of x') (folded_once x) refl)

pub atom-NotNull : (x : Expr) → IsAtom (settle (NotNull x))
atom-NotNull x =
    let x' : Expr = folded_expr x in
    subst IsAtom (sym (ap (λ y. decided (turned y)) (folded-NotNull x) ∙ ap decided (turned-NotNull x') ∙ decided-NotNull x'))
    (not_null_atom x' (literal_of x') (folded_once x) refl)
