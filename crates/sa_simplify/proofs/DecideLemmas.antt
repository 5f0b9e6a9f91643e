-- What literals decide is decided as the condition would be.
use Rattle.std.proofs.Common.{◌≡◌, true, not, refl, ap, sym, ◌∙◌}
use Rattle.sa_value.specs.declared.truth.CompareOp.{CompareOp}
use Rattle.sa_value.specs.declared.truth.CompareOp.TheVariants.{NullEq}
use Rattle.sa_value.specs.declared.truth.Truth.{Truth}
use Rattle.sa_value.specs.declared.truth.Truth.TheVariants.{Unknown}
use Rattle.sa_value.specs.declared.value.Value.{Value}
use Rattle.sa_value.specs.declared.value.Value.TheVariants.{Null}
use Rattle.sa_value.specs.Compare.{known, truth_of}
use Rattle.sa_value.specs.Logic.{negation}
use Rattle.sa_cond.specs.declared.cond.Cond.{Cond, Cond-F}
use Rattle.sa_cond.specs.declared.cond.Cond.TheVariants.{Known, Compare, IsNull, NotNull, Not}
use Rattle.sa_cond.specs.declared.expr.Expr.{Expr, Expr-F}
use Rattle.sa_cond.specs.declared.expr.Expr.TheVariants.{Literal}
use Rattle.sa_cond.specs.Choice.{Choice}
use Rattle.sa_cond.specs.Cited.{cond_names, expr_names}
use Rattle.sa_cond.specs.Condition.{holds, is_null}
use Rattle.sa_cond.specs.Expression.{expr_value}
use Rattle.sa_cond.specs.Interval.{CellKinds, ExprKind, number, sum, text, null, faulty, expr_kind}
use Rattle.sa_cond.specs.Typed.{is_well_typed, is_proper, can_compare}
use Rattle.sa_simplify.specs.Node.{of_node, literal_of}
use Rattle.sa_simplify.specs.Decide.{compared_with_null, comparison_decided, null_decided, not_null_decided, not_decided, node_decided, decided}
use Rattle.sa_simplify.proofs.ExprLemmas.{value-of_node, kind-of_node}
use Rattle.sa_simplify.proofs.TurnLemmas.{can_compare-sym}
use Rattle.sa_simplify.proofs.Within.{Within-none, Within-left, Within-right, Within-same}
use Rattle.sa_simplify.proofs.Refines.{Refines, Refines-itself, Refines-fold, holds-of_node, typed-of_node, names-of_node}
use Rattle.sa_simplify.proofs.PushLemmas.{not_null_refines}

-- a truth that a condition always has
pub truth_refines : (truth : Truth) (cond : Cond) → ((choice : Choice) → truth ≡ holds choice cond) → Refines (Known truth) cond
truth_refines truth cond same = record {
  truth = λ choice. holds-of_node choice (Cond-F.Known truth) ∙ same choice;
  typed = λ kinds typed. typed-of_node kinds (Cond-F.Known truth);
  named = Within-same (names-of_node (Cond-F.Known truth)) refl (Within-none (cond_names cond));
}

-- two literals
literals_refine : (op : CompareOp) (a b : Value) → Refines (Known (truth_of op a b)) (Compare op (Literal a) (Literal b))
literals_refine op a b = truth_refines (truth_of op a b) (Compare op (Literal a) (Literal b))
    (λ choice. sym (holds-of_node choice (Cond-F.Compare op (Literal a) (Literal b))
    ∙ ap (λ v. truth_of op v (expr_value choice (Literal b))) (value-of_node choice (Expr-F.Literal a))
    ∙ ap (truth_of op a) (value-of_node choice (Expr-F.Literal b))))

-- NULL on the right

abbrev AtNull : CompareOp → Value → Type 0
AtNull NullEq a = known (is_null a) ≡ truth_of NullEq a Null
AtNull op a = Unknown ≡ truth_of op a Null

at_null : (op : CompareOp) (a : Value) → AtNull op a
at_null NullEq Null = refl
at_null NullEq a = refl
at_null op Null = refl
at_null op a = refl

null_right : (op : CompareOp) (left : Expr) (choice : Choice) → holds choice (Compare op left (Literal Null)) ≡ truth_of op (expr_value choice left) Null
null_right op left choice =
    holds-of_node choice (Cond-F.Compare op left (Literal Null)) ∙ ap (truth_of op (expr_value choice left)) (value-of_node choice (Expr-F.Literal Null))

proper_left : (x : ExprKind) → can_compare x null ≡ true → is_proper x ≡ true
proper_left (number interval) is = refl
proper_left sum is = refl
proper_left text is = refl
proper_left null is = refl
proper_left faulty is = is

null_typed : (op : CompareOp) (left : Expr) (kinds : CellKinds) → is_well_typed kinds (Compare op left (Literal Null)) ≡ true → is_proper (expr_kind kinds left) ≡ true
null_typed op left kinds typed =
    proper_left (expr_kind kinds left)
    (ap (can_compare (expr_kind kinds left)) (sym (kind-of_node kinds (Expr-F.Literal Null)))
    ∙ sym (typed-of_node kinds (Cond-F.Compare op left (Literal Null))) ∙ typed)

right_refines : (op : CompareOp) (left : Expr) → ((choice : Choice) → AtNull op (expr_value choice left)) → Refines (compared_with_null op left) (Compare op left (Literal Null))
right_refines NullEq left at = record {
  truth = λ choice. holds-of_node choice (Cond-F.IsNull left) ∙ at choice ∙ sym (null_right NullEq left choice);
  typed = λ kinds typed. typed-of_node kinds (Cond-F.IsNull left) ∙ null_typed NullEq left kinds typed;
  named = Within-same (names-of_node (Cond-F.IsNull left)) (names-of_node (Cond-F.Compare NullEq left (Literal Null))) (Within-left (expr_names left) (expr_names (Literal Null)));
}
right_refines op left at = truth_refines Unknown (Compare op left (Literal Null)) (λ choice. at choice ∙ sym (null_right op left choice))

-- NULL on the left

abbrev NullAt : CompareOp → Value → Type 0
NullAt NullEq a = known (is_null a) ≡ truth_of NullEq Null a
NullAt op a = Unknown ≡ truth_of op Null a

null_at : (op : CompareOp) (a : Value) → NullAt op a
null_at NullEq Null = refl
null_at NullEq a = refl
null_at op a = refl

null_left : (op : CompareOp) (right : Expr) (choice : Choice) → holds choice (Compare op (Literal Null) right) ≡ truth_of op Null (expr_value choice right)
null_left op right choice =
    holds-of_node choice (Cond-F.Compare op (Literal Null) right) ∙ ap (λ v. truth_of op v (expr_value choice right)) (value-of_node choice (Expr-F.Literal Null))

typed_null : (op : CompareOp) (right : Expr) (kinds : CellKinds) → is_well_typed kinds (Compare op (Literal Null) right) ≡ true → is_proper (expr_kind kinds right) ≡ true
typed_null op right kinds typed =
    proper_left (expr_kind kinds right)
    (can_compare-sym (expr_kind kinds right) null ∙ ap (λ k. can_compare k (expr_kind kinds right)) (sym (kind-of_node kinds (Expr-F.Literal Null)))
    ∙ sym (typed-of_node kinds (Cond-F.Compare op (Literal Null) right)) ∙ typed)

left_refines : (op : CompareOp) (right : Expr) → ((choice : Choice) → NullAt op (expr_value choice right)) → Refines (compared_with_null op right) (Compare op (Literal Null) right)
left_refines NullEq right at = record {
  truth = λ choice. holds-of_node choice (Cond-F.IsNull right) ∙ at choice ∙ sym (null_left NullEq right choice);
  typed = λ kinds typed. typed-of_node kinds (Cond-F.IsNull right) ∙ typed_null NullEq right kinds typed;
  named = Within-same (names-of_node (Cond-F.IsNull right)) (names-of_node (Cond-F.Compare NullEq (Literal Null) right)) (Within-right (expr_names (Literal Null)) (expr_names right));
}
left_refines op right at = truth_refines Unknown (Compare op (Literal Null) right) (λ choice. at choice ∙ sym (null_left op right choice))

pub comparison_decided_refines : (op : CompareOp) (left right : Expr) → Refines (comparison_decided op (literal_of left) (literal_of right) left right) (Compare op left right)
comparison_decided_refines op (Literal a) (Literal b) = literals_refine op a b
comparison_decided_refines op (Literal Null) right = left_refines op right (λ choice. null_at op (expr_value choice right))
comparison_decided_refines op left (Literal Null) = right_refines op left (λ choice. at_null op (expr_value choice left))
comparison_decided_refines op left right = Refines-itself (Compare op left right)

-- IS of a literal

null_refines : (x : Expr) → Refines (null_decided (literal_of x) x) (IsNull x)
null_refines (Literal value) = truth_refines (known (is_null value)) (IsNull (Literal value))
    (λ choice. sym (holds-of_node choice (Cond-F.IsNull (Literal value)) ∙ ap (λ v. known (is_null v)) (value-of_node choice (Expr-F.Literal value))))
null_refines x = Refines-itself (IsNull x)

not_null_refines_it : (x : Expr) → Refines (not_null_decided (literal_of x) x) (NotNull x)
not_null_refines_it (Literal value) = truth_refines (known (not (is_null value))) (NotNull (Literal value))
    (λ choice. sym (holds-of_node choice (Cond-F.NotNull (Literal value)) ∙ ap (λ v. known (not (is_null v))) (value-of_node choice (Expr-F.Literal value))))
not_null_refines_it x = Refines-itself (NotNull x)

-- NOT

not_refines : (x : Cond) → Refines (not_decided x) (Not x)
not_refines (Known truth) = truth_refines (negation truth) (Not (Known truth))
    (λ choice. sym (holds-of_node choice (Cond-F.Not (Known truth)) ∙ ap negation (holds-of_node choice (Cond-F.Known truth))))
not_refines (IsNull x) = not_null_refines x
not_refines x = Refines-itself (Not x)

node_refines : (node : Cond-F Cond) → Refines (node_decided node) (of_node node)
node_refines (Cond-F.Compare op left right) = comparison_decided_refines op left right
node_refines (Cond-F.IsNull x) = null_refines x
node_refines (Cond-F.NotNull x) = not_null_refines_it x
node_refines (Cond-F.Not x) = not_refines x
node_refines node = Refines-itself (of_node node)

pub decided_refines : (cond : Cond) → Refines (decided cond) cond
unfolding decided
decided_refines = Refines-fold node_decided node_refines
