-- A comparison that is turned round says the same.
use Rattle.std.proofs.Common.{◌≡◌, Bool, true, false, not, ◌&&◌, if◌then◌else◌, refl, ap, sym, ◌∙◌}
use Rattle.std.proofs.lemmas.Cmp.{int_cmp_total, nat_list_cmp_total}
use Rattle.std.specs.Ordering.{ordering_reverse}
use Rattle.std.specs.declared.cmp.Ordering.{Ordering}
use Rattle.std.specs.declared.cmp.Ordering.TheVariants.{Less, Equal, Greater}
use Rattle.sa_value.specs.declared.truth.CompareOp.{CompareOp}
use Rattle.sa_value.specs.declared.truth.CompareOp.TheVariants.{NullEq}
use Rattle.sa_value.specs.declared.value.Value.{Value}
use Rattle.sa_value.specs.declared.value.Value.TheVariants.{Null, Int, Big, Text}
use Rattle.sa_value.specs.Compare.{known, truth_of, holds_at, order_of}
use Rattle.sa_cond.specs.declared.cond.Cond.{Cond, Cond-F}
use Rattle.sa_cond.specs.declared.cond.Cond.TheVariants.{Compare}
use Rattle.sa_cond.specs.declared.expr.Expr.{Expr}
use Rattle.sa_cond.specs.Cited.{expr_names}
use Rattle.sa_cond.specs.Expression.{expr_value}
use Rattle.sa_cond.specs.Interval.{ExprKind, number, sum, text, null, faulty, expr_kind}
use Rattle.sa_cond.specs.Typed.{can_compare}
use Rattle.sa_simplify.specs.Node.{of_node, is_literal}
use Rattle.sa_simplify.specs.Turn.{mirrored, node_turned, turned}
use Rattle.sa_simplify.proofs.Within.{Within-same, Within-left, Within-right, Within-both}
use Rattle.sa_simplify.proofs.Refines.{Refines, Refines-itself, Refines-fold, holds-of_node, typed-of_node, names-of_node}

holds_mirrored : (op : CompareOp) (order : Ordering) → holds_at (mirrored op) (ordering_reverse order) ≡ holds_at op order
holds_mirrored NullEq Less = refl
holds_mirrored NullEq Equal = refl
holds_mirrored NullEq Greater = refl
holds_mirrored op Less = refl
holds_mirrored op Equal = refl
holds_mirrored op Greater = refl

pub can_compare-sym : (x y : ExprKind) → can_compare x y ≡ can_compare y x
can_compare-sym (number i) (number j) = refl
can_compare-sym (number i) sum = refl
can_compare-sym (number i) text = refl
can_compare-sym (number i) null = refl
can_compare-sym (number i) faulty = refl
can_compare-sym sum (number j) = refl
can_compare-sym sum sum = refl
can_compare-sym sum text = refl
can_compare-sym sum null = refl
can_compare-sym sum faulty = refl
can_compare-sym text (number j) = refl
can_compare-sym text sum = refl
can_compare-sym text text = refl
can_compare-sym text null = refl
can_compare-sym text faulty = refl
can_compare-sym null (number j) = refl
can_compare-sym null sum = refl
can_compare-sym null text = refl
can_compare-sym null null = refl
can_compare-sym null faulty = refl
can_compare-sym faulty (number j) = refl
can_compare-sym faulty sum = refl
can_compare-sym faulty text = refl
can_compare-sym faulty null = refl
can_compare-sym faulty faulty = refl

order_of-reverse : (a b : Value) → order_of a b ≡ ordering_reverse (order_of b a)
order_of-reverse Null Null = refl
order_of-reverse Null (Int b) = refl
order_of-reverse Null (Big b) = refl
order_of-reverse Null (Text b) = refl
order_of-reverse (Int a) Null = refl
order_of-reverse (Int a) (Int b) = int_cmp_total.antisymm a b
order_of-reverse (Int a) (Big b) = int_cmp_total.antisymm a b
order_of-reverse (Int a) (Text b) = refl
order_of-reverse (Big a) Null = refl
order_of-reverse (Big a) (Int b) = int_cmp_total.antisymm a b
order_of-reverse (Big a) (Big b) = int_cmp_total.antisymm a b
order_of-reverse (Big a) (Text b) = refl
order_of-reverse (Text a) Null = refl
order_of-reverse (Text a) (Int b) = refl
order_of-reverse (Text a) (Big b) = refl
order_of-reverse (Text a) (Text b) = nat_list_cmp_total.antisymm a b

known_mirrored : (op : CompareOp) (a b : Value) → known (holds_at (mirrored op) (order_of b a)) ≡ known (holds_at op (order_of a b))
known_mirrored op a b =
    ap (λ order. known (holds_at (mirrored op) order)) (order_of-reverse b a) ∙ ap known (holds_mirrored op (order_of a b))

truth_mirrored : (op : CompareOp) (a b : Value) → truth_of (mirrored op) b a ≡ truth_of op a b
truth_mirrored NullEq a b = known_mirrored NullEq a b
truth_mirrored op Null Null = refl
truth_mirrored op Null b = refl
truth_mirrored op a Null = refl
truth_mirrored op a b = known_mirrored op a b

turned_refines : (op : CompareOp) (left right : Expr) → Refines (Compare (mirrored op) right left) (Compare op left right)
turned_refines op left right = record {
  truth = λ choice. holds-of_node choice (Cond-F.Compare (mirrored op) right left) ∙ truth_mirrored op (expr_value choice left) (expr_value choice right)
      ∙ sym (holds-of_node choice (Cond-F.Compare op left right));
  typed = λ kinds typed. typed-of_node kinds (Cond-F.Compare (mirrored op) right left) ∙ can_compare-sym (expr_kind kinds right) (expr_kind kinds left)
      ∙ sym (typed-of_node kinds (Cond-F.Compare op left right)) ∙ typed;
  named = Within-same (names-of_node (Cond-F.Compare (mirrored op) right left)) (names-of_node (Cond-F.Compare op left right))
      (Within-both (Within-right (expr_names left) (expr_names right)) (Within-left (expr_names left) (expr_names right)));
}

comparison_refines : (op : CompareOp) (left right : Expr) (turns : Bool) →
    Refines (if turns then Compare (mirrored op) right left else Compare op left right) (Compare op left right)
comparison_refines op left right true = turned_refines op left right
comparison_refines op left right false = Refines-itself (Compare op left right)

node_refines : (node : Cond-F Cond) → Refines (node_turned node) (of_node node)
node_refines (Cond-F.Compare op left right) = comparison_refines op left right (is_literal left && not (is_literal right))
node_refines node = Refines-itself (of_node node)

pub turned-refines : (cond : Cond) → Refines (turned cond) cond
unfolding turned
turned-refines = Refines-fold node_turned node_refines
