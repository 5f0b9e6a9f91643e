-- Expressions that are found to be the same are equal, if their numbers are kept as `Int`.
use Rattle.std.proofs.Common.{◌≡◌, Bool, true, false, ◌&&◌, ◌==◌, Option, Some, None, refl, sym, ap, ◌∙◌, subst}
use Rattle.std.specs.Ordering.{is_eq, nat_cmp, int_cmp}
use Rattle.std.specs.Cmp.{Equal-is}
use Rattle.std.specs.Cmp.Lexicographic.{slice_cmp}
use Rattle.std.specs.FinMap.{int_cmp-IsAntisymmetric, nat_cmp-IsAntisymmetric, slice_cmp-IsAntisymmetric}
use Rattle.std.proofs.lemmas.Cmp.{tied_itself, int_cmp_total, nat_list_cmp_total}
use Rattle.std.proofs.lemmas.Bool.{eqb-true, eq-eqb}
use mathlib.Core.Path.{ap₂}
use Rattle.sa_value.specs.declared.value.Value.{Value}
use Rattle.sa_value.specs.declared.value.Value.TheVariants.{Null, Int, Big, Text}
use Rattle.sa_value.specs.Compare.{order_of}
use Rattle.sa_cond.specs.declared.expr.Expr.{Expr, Expr-F, out-Expr, roll-Expr, roll-out-Expr, map-Expr, fold-Expr, fold-roll-Expr, fold_out-Expr, ind-Expr, out-roll-Expr}
use Rattle.std.specs.Prelude.{⊤}
use Rattle.sa_ast.specs.declared.expression.AggregateCall.{AggregateCall}
use Rattle.sa_ast.specs.declared.expression.AggregateCall.TheVariants.{CountRows, Count, Sum, Min, Max}
use Rattle.sa_query.specs.declared.group.Aggregate.{Aggregate}
use Rattle.sa_query.specs.declared.group.Column.{Column}
use Rattle.sa_resolve.specs.Same.{same_node, same_expr, same_argument, same_call, same_aggregate, same_column}
use Rattle.sa_resolve.proofs.fit.Lists.{both-left, both-right, both-true}

abbrev pub is_kept : Value → Bool
is_kept (Big number) = false
is_kept value = true

-- one node, with whether each expression below is plain in its place
abbrev pub plain_node : Expr-F Bool → Bool
plain_node (Expr-F.Literal value) = is_kept value
plain_node (Expr-F.Negate x) = x
plain_node (Expr-F.Add x y) = x && y
plain_node (Expr-F.Subtract x y) = x && y
plain_node (Expr-F.Multiply x y) = x && y
plain_node node = true

-- whether the numbers of an expression are kept as `Int`
abbrev pub is_plain : Expr → Bool
is_plain = fold-Expr Bool plain_node

same_value : (one other : Value) → is_eq (order_of one other) ≡ true → is_kept one ≡ true
    → is_kept other ≡ true → one ≡ other
same_value Null Null same kept kept' = refl
same_value (Int a) (Int b) same kept kept' =
    ap Int (int_cmp-IsAntisymmetric a b ((Equal-is (int_cmp a b)).0 same))
same_value (Text a) (Text b) same kept kept' =
    ap Text (slice_cmp-IsAntisymmetric nat_cmp-IsAntisymmetric a b
    ((Equal-is (slice_cmp nat_cmp a b)).0 same))
same_value one other same kept kept' = cc

value_itself : (value : Value) → is_eq (order_of value value) ≡ true
value_itself Null = refl
value_itself (Int a) = ap is_eq (tied_itself int_cmp_total a)
value_itself (Big a) = ap is_eq (tied_itself int_cmp_total a)
value_itself (Text a) = ap is_eq (tied_itself nat_list_cmp_total a)

-- Where the same is found, this is equal.
IsOne : Expr → Type 0
IsOne one =
    (other : Expr) → same_expr one other ≡ true → is_plain one ≡ true → is_plain other ≡ true
    → one ≡ other

abbrev With : (Expr → Type 0) → Type 0
With P = (expr : Expr) × P expr

abbrev bare : (P : Expr → Type 0) → Expr-F (With P) → Expr-F Expr
bare P node = map-Expr (With P) Expr (λ one. one.0) node

same_nodes : (node : Expr-F (With IsOne)) (other : Expr-F Expr)
    → same_node (map-Expr (With IsOne) (Expr → Bool) (λ one. same_expr one.0) node) other ≡ true
    → plain_node (map-Expr (With IsOne) Bool (λ one. is_plain one.0) node) ≡ true
    → plain_node (map-Expr Expr Bool is_plain other) ≡ true → bare IsOne node ≡ other
unfolding IsOne
same_nodes (Expr-F.Column table column) (Expr-F.Column table' column') same kept kept' =
    ap₂ (λ table column. Expr-F.Column table column)
    (eqb-true table table' (both-left (table == table') (column == column') same))
    (eqb-true column column' (both-right (table == table') (column == column') same))
same_nodes (Expr-F.Slot slot) (Expr-F.Slot slot') same kept kept' =
    ap (λ slot. Expr-F.Slot slot) (eqb-true slot slot' same)
same_nodes (Expr-F.Literal value) (Expr-F.Literal value') same kept kept' =
    ap (λ value. Expr-F.Literal value) (same_value value value' same kept kept')
same_nodes (Expr-F.Negate x) (Expr-F.Negate x') same kept kept' =
    ap (λ x. Expr-F.Negate x) (x.1 x' same kept kept')
same_nodes (Expr-F.Add x y) (Expr-F.Add x' y') same kept kept' =
    ap₂ (λ x y. Expr-F.Add x y)
    (x.1 x' (both-left (same_expr x.0 x') (same_expr y.0 y') same)
    (both-left (is_plain x.0) (is_plain y.0) kept) (both-left (is_plain x') (is_plain y') kept'))
    (y.1 y' (both-right (same_expr x.0 x') (same_expr y.0 y') same)
    (both-right (is_plain x.0) (is_plain y.0) kept) (both-right (is_plain x') (is_plain y') kept'))
same_nodes (Expr-F.Subtract x y) (Expr-F.Subtract x' y') same kept kept' =
    ap₂ (λ x y. Expr-F.Subtract x y)
    (x.1 x' (both-left (same_expr x.0 x') (same_expr y.0 y') same)
    (both-left (is_plain x.0) (is_plain y.0) kept) (both-left (is_plain x') (is_plain y') kept'))
    (y.1 y' (both-right (same_expr x.0 x') (same_expr y.0 y') same)
    (both-right (is_plain x.0) (is_plain y.0) kept) (both-right (is_plain x') (is_plain y') kept'))
same_nodes (Expr-F.Multiply x y) (Expr-F.Multiply x' y') same kept kept' =
    ap₂ (λ x y. Expr-F.Multiply x y)
    (x.1 x' (both-left (same_expr x.0 x') (same_expr y.0 y') same)
    (both-left (is_plain x.0) (is_plain y.0) kept) (both-left (is_plain x') (is_plain y') kept'))
    (y.1 y' (both-right (same_expr x.0 x') (same_expr y.0 y') same)
    (both-right (is_plain x.0) (is_plain y.0) kept) (both-right (is_plain x') (is_plain y') kept'))
same_nodes node other same kept kept' = cc

-- a fold over the parts of a node
mapped : (A : Type 0) (P : Expr → Type 0) (f : Expr → A) (node : Expr-F (With P))
    → map-Expr Expr A f (bare P node) ≡ map-Expr (With P) A (λ one. f one.0) node
mapped A P f (Expr-F.Column table column) = refl
mapped A P f (Expr-F.Slot slot) = refl
mapped A P f (Expr-F.Literal value) = refl
mapped A P f (Expr-F.Negate x) = refl
mapped A P f (Expr-F.Add x y) = refl
mapped A P f (Expr-F.Subtract x y) = refl
mapped A P f (Expr-F.Multiply x y) = refl

fold-bare : (A : Type 0) (step : Expr-F A → A) (P : Expr → Type 0) (node : Expr-F (With P))
    → fold-Expr A step (roll-Expr (bare P node))
    ≡ step (map-Expr (With P) A (λ one. fold-Expr A step one.0) node)
fold-bare A step P node =
    fold-roll-Expr A step (bare P node) ∙ ap step (mapped A P (fold-Expr A step) node)

abbrev same_step : Expr-F (Expr → Bool) → Expr → Bool
same_step node other = same_node node (out-Expr other)

one_at : (node : Expr-F (With IsOne)) → IsOne (roll-Expr (bare IsOne node))
unfolding IsOne
one_at node other same kept kept' =
    ap roll-Expr (same_nodes node (out-Expr other)
    (sym (ap (λ test. test other) (fold-bare (Expr → Bool) same_step IsOne node)) ∙ same)
    (sym (fold-bare Bool plain_node IsOne node) ∙ kept)
    (sym (fold_out-Expr Bool plain_node other) ∙ kept'))
    ∙ roll-out-Expr other

same_is_one : (one : Expr) → IsOne one
same_is_one = ind-Expr IsOne (λ x y is. subst (λ node. IsOne (roll-Expr node)) is (one_at y))

-- the same expressions are equal
pub equal_expr : (one other : Expr) → same_expr one other ≡ true → is_plain one ≡ true
    → is_plain other ≡ true → one ≡ other
unfolding IsOne
equal_expr = same_is_one

abbrev IsItself : Expr → Type 0
IsItself one = same_expr one one ≡ true

itself_nodes : (node : Expr-F (With IsItself))
    → same_node (map-Expr (With IsItself) (Expr → Bool) (λ one. same_expr one.0) node)
    (bare IsItself node) ≡ true
itself_nodes (Expr-F.Column table column) =
    both-true (eq-eqb table table refl) (eq-eqb column column refl)
itself_nodes (Expr-F.Slot slot) = eq-eqb slot slot refl
itself_nodes (Expr-F.Literal value) = value_itself value
itself_nodes (Expr-F.Negate x) = x.1
itself_nodes (Expr-F.Add x y) = both-true x.1 y.1
itself_nodes (Expr-F.Subtract x y) = both-true x.1 y.1
itself_nodes (Expr-F.Multiply x y) = both-true x.1 y.1

itself_at : (node : Expr-F (With IsItself)) → IsItself (roll-Expr (bare IsItself node))
itself_at node =
    ap (λ test. test (roll-Expr (bare IsItself node)))
    (fold-bare (Expr → Bool) same_step IsItself node)
    ∙ ap (same_node (map-Expr (With IsItself) (Expr → Bool) (λ one. same_expr one.0) node))
    (out-roll-Expr (bare IsItself node))
    ∙ itself_nodes node

-- an expression is the same as itself
pub itself_expr : (one : Expr) → same_expr one one ≡ true
itself_expr =
    ind-Expr IsItself (λ x y is. subst (λ node. IsItself (roll-Expr node)) is (itself_at y))

-- Aggregates that are found to be the same are equal.
same_calls : (one other : AggregateCall) → same_call one other ≡ true → one ≡ other
same_calls CountRows CountRows same = refl
same_calls Count Count same = refl
same_calls Sum Sum same = refl
same_calls Min Min same = refl
same_calls Max Max same = refl
same_calls one other same = cc

call_itself : (call : AggregateCall) → same_call call call ≡ true
call_itself CountRows = refl
call_itself Count = refl
call_itself Sum = refl
call_itself Min = refl
call_itself Max = refl

abbrev pub IsPlainArgument : Option Expr → Type 0
IsPlainArgument None = ⊤
IsPlainArgument (Some argument) = is_plain argument ≡ true

same_arguments : (one other : Option Expr) → same_argument one other ≡ true → IsPlainArgument one
    → IsPlainArgument other → one ≡ other
same_arguments None None same kept kept' = refl
same_arguments (Some one) (Some other) same kept kept' =
    ap Some (equal_expr one other same kept kept')
same_arguments one other same kept kept' = cc

argument_itself : (argument : Option Expr) → same_argument argument argument ≡ true
argument_itself None = refl
argument_itself (Some argument) = itself_expr argument

pub equal_aggregate : (one other : Aggregate) → same_aggregate one other ≡ true
    → IsPlainArgument one.argument → IsPlainArgument other.argument → one ≡ other
equal_aggregate one other same kept kept' =
    ap₂ (λ call argument. record { call = call; argument = argument })
    (same_calls one.call other.call
    (both-left (same_call one.call other.call) (same_argument one.argument other.argument) same))
    (same_arguments one.argument other.argument
    (both-right (same_call one.call other.call) (same_argument one.argument other.argument) same)
    kept kept')

pub itself_aggregate : (one : Aggregate) → same_aggregate one one ≡ true
itself_aggregate one = both-true (call_itself one.call) (argument_itself one.argument)

pub equal_column : (one other : Column) → same_column one other ≡ true → one ≡ other
equal_column one other same =
    ap₂ (λ table column. record { table = table; column = column })
    (eqb-true one.table other.table
    (both-left (one.table == other.table) (one.column == other.column) same))
    (eqb-true one.column other.column
    (both-right (one.table == other.table) (one.column == other.column) same))
