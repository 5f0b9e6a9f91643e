-- Arithmetic on literals, done beforehand, gives the value that the expression has.
use Rattle.std.proofs.Common.{◌≡◌, ℕ, ℤ, ◌+ℤ◌, ◌-ℤ◌, ◌*ℤ◌, neg_ℤ, Bool, true, false, not, cond, if◌then◌else◌, int_le, int_lt, Option, Some, None, option_map, List, ◌++◌, refl, ap, sym, ◌∙◌, subst, inl, inr, ◌⊎◌, arith}
use Rattle.std.specs.Prelude.{FitsSigned}
use Rattle.std.specs.Int.{w64, int_min, int_max}
use Rattle.std.proofs.lemmas.Int.{ints}
use Rattle.sa_value.specs.declared.value.Value.{Value}
use Rattle.sa_value.specs.declared.value.Value.TheVariants.{Null, Int, Big, Text}
use Rattle.sa_cond.specs.declared.cond.Cond.{Cond, Cond-F}
use Rattle.sa_cond.specs.declared.cond.Cond.TheVariants.{Compare, IsNull, NotNull}
use Rattle.sa_value.specs.Compare.{known, truth_of}
use Rattle.sa_value.specs.declared.truth.CompareOp.{CompareOp}
use Rattle.sa_cond.specs.declared.expr.Expr.{Expr, Expr-F, map-Expr, out-Expr, roll-out-Expr}
use Rattle.sa_cond.specs.declared.expr.Expr.TheVariants.{Literal, Negate, Add, Subtract, Multiply}
use Rattle.sa_cond.specs.Choice.{Choice}
use Rattle.sa_cond.specs.Cited.{expr_names}
use Rattle.sa_cond.specs.Condition.{is_null}
use Rattle.sa_cond.specs.Expression.{number_of, number_or_null, applied, both, expr_value}
use Rattle.sa_cond.specs.Interval.{CellKinds, Interval, ExprKind, number, sum, text, null, faulty, least_bigint, greatest_bigint, is_bigint, is_within, number_within, interval_of, reached, of_both, negated, added, subtracted, multiplied, kind_of_literal, expr_kind}
use Rattle.sa_cond.specs.Typed.{is_proper, can_compare}
use Rattle.sa_simplify.specs.Node.{of_node, literal_of}
use Rattle.sa_simplify.specs.inner.Arithmetic.{IsProper, NegativeFits, ResultFits, number_in}
use Rattle.sa_simplify.specs.inner.Leaf.{IsWellTypedLeaf}
use Rattle.sa_simplify.specs.Fold.{value_of_one, value_of_two, literal_or, node_folded, folded_expr, node_folded_within, folded}
use Rattle.sa_simplify.proofs.ExprLemmas.{of_expr_node, of_expr_node-roll, fold-of_expr_node, value-of_node, kind-of_node, names-of_expr_node, along_expr}
use Rattle.sa_simplify.proofs.TurnLemmas.{can_compare-sym}
use Rattle.sa_simplify.proofs.Within.{Within, Within-itself, Within-none, Within-trans, Within-append, Within-same}
use Rattle.sa_simplify.proofs.Refines.{Refines, Refines-itself, Refines-fold, both_true, holds-of_node, typed-of_node, names-of_node}

-- An expression has the value of another and names no more; and where that has a kind it is NULL or of the same kind.
pub record Computes (x y : Expr) : Type 0 where
  pub value : (choice : Choice) → expr_value choice x ≡ expr_value choice y
  pub kind : (kinds : CellKinds) → is_proper (expr_kind kinds y) ≡ true → (x ≡ Literal Null) ⊎ (expr_kind kinds x ≡ expr_kind kinds y)
  pub named : Within (expr_names x) (expr_names y)

computes_itself : (x : Expr) → Computes x x
computes_itself x = record { value = λ choice. refl; kind = λ kinds proper. inr refl; named = Within-itself (expr_names x) }

computes_same : {x y : Expr} → x ≡ y → Computes x y
computes_same {x} {y} is = subst (λ z. Computes x z) is (computes_itself x)

-- values

both-None : (operation : ℤ → ℤ → ℤ) (x : Option ℤ) → both operation x None ≡ None
both-None operation None = refl
both-None operation (Some x) = refl

literal_value : (choice : Choice) (value : Value) → expr_value choice (Literal value) ≡ value
literal_value choice value = value-of_node choice (Expr-F.Literal value)

applied_null : (operation : ℤ → ℤ → ℤ) (choice : Choice) (x : Expr) → Null ≡ applied operation (expr_value choice x) (expr_value choice (Literal Null))
applied_null operation choice x =
    sym (ap (applied operation (expr_value choice x)) (literal_value choice Null) ∙ ap number_or_null (both-None operation (number_of (expr_value choice x))))

null_applied : (operation : ℤ → ℤ → ℤ) (choice : Choice) (y : Expr) → Null ≡ applied operation (expr_value choice (Literal Null)) (expr_value choice y)
null_applied operation choice y = sym (ap (λ v. applied operation v (expr_value choice y)) (literal_value choice Null))

literals_applied : (operation : ℤ → ℤ → ℤ) (choice : Choice) (v w : Value) → applied operation v w ≡ applied operation (expr_value choice (Literal v)) (expr_value choice (Literal w))
literals_applied operation choice v w =
    sym (ap (λ z. applied operation z (expr_value choice (Literal w))) (literal_value choice v) ∙ ap (applied operation v) (literal_value choice w))

abbrev point : ℤ → Interval
point n = record { least = n; greatest = n }

literal_kind : (kinds : CellKinds) (value : Value) → expr_kind kinds (Literal value) ≡ kind_of_literal value
literal_kind kinds value = kind-of_node kinds (Expr-F.Literal value)

-- an expression that joins two others
record Joined (join : Expr → Expr → Expr) : Type 0 where
  operation : ℤ → ℤ → ℤ
  intervals : Interval → Interval → Interval
  value_is : (choice : Choice) (x y : Expr) → expr_value choice (join x y) ≡ applied operation (expr_value choice x) (expr_value choice y)
  kind_is : (kinds : CellKinds) (x y : Expr) → expr_kind kinds (join x y) ≡ reached (of_both intervals (interval_of (expr_kind kinds x)) (interval_of (expr_kind kinds y)))
  names_is : (x y : Expr) → expr_names (join x y) ≡ expr_names x ++ expr_names y
  at_points : (n m : ℤ) → intervals (point n) (point m) ≡ point (operation n m)

module _ (join : Expr → Expr → Expr) (joined : Joined join) where
  abbrev result : Expr → Expr → Expr
  result x y = literal_or (value_of_two joined.operation (literal_of x) (literal_of y)) (join x y)

  literal_is : (choice : Choice) (value : Value) (x y : Expr) → value ≡ applied joined.operation (expr_value choice x) (expr_value choice y) →
      expr_value choice (Literal value) ≡ expr_value choice (join x y)
  literal_is choice value x y is = literal_value choice value ∙ is ∙ sym (joined.value_is choice x y)

  two_value : (choice : Choice) (x y : Expr) → expr_value choice (result x y) ≡ expr_value choice (join x y)
  two_value choice (Literal Null) y = literal_is choice Null (Literal Null) y (null_applied joined.operation choice y)
  two_value choice (Literal v) (Literal Null) = literal_is choice Null (Literal v) (Literal Null) (applied_null joined.operation choice (Literal v))
  two_value choice x (Literal Null) = literal_is choice Null x (Literal Null) (applied_null joined.operation choice x)
  two_value choice (Literal v) (Literal w) = literal_is choice (applied joined.operation v w) (Literal v) (Literal w) (literals_applied joined.operation choice v w)
  two_value choice (Literal v) y = refl
  two_value choice x y = refl

  with_null : (x : Expr) → result x (Literal Null) ≡ Literal Null
  with_null (Literal Null) = refl
  with_null (Literal v) = refl
  with_null x = refl

  two_named : (x y : Expr) → Within (expr_names (result x y)) (expr_names x ++ expr_names y)
  two_named (Literal Null) y = Within-same (names-of_expr_node (Expr-F.Literal Null)) refl (Within-none (expr_names (Literal Null) ++ expr_names y))
  two_named (Literal v) (Literal Null) = Within-same (names-of_expr_node (Expr-F.Literal Null)) refl (Within-none (expr_names (Literal v) ++ expr_names (Literal Null)))
  two_named x (Literal Null) = Within-same (names-of_expr_node (Expr-F.Literal Null)) refl (Within-none (expr_names x ++ expr_names (Literal Null)))
  two_named (Literal v) (Literal w) =
      Within-same (names-of_expr_node (Expr-F.Literal (applied joined.operation v w))) refl (Within-none (expr_names (Literal v) ++ expr_names (Literal w)))
  two_named (Literal v) y = Within-same (joined.names_is (Literal v) y) refl (Within-itself (expr_names (Literal v) ++ expr_names y))
  two_named x y = Within-same (joined.names_is x y) refl (Within-itself (expr_names x ++ expr_names y))

  -- kinds

  abbrev of_kinds : ExprKind → ExprKind → ExprKind
  of_kinds k l = reached (of_both joined.intervals (interval_of k) (interval_of l))

  -- two numbers, each in the range or not
  points : (n m : ℤ) (first second : Bool) →
      is_proper (of_kinds (if first then number (point n) else faulty) (if second then number (point m) else faulty)) ≡ true →
      number_within (point (joined.operation n m)) ≡ of_kinds (if first then number (point n) else faulty) (if second then number (point m) else faulty)
  points n m true true proper = sym (ap number_within (joined.at_points n m))
  points n m true false proper = cc
  points n m false second proper = cc

  numbers_kind : (kinds : CellKinds) (v w : Value) (n m : ℤ) → kind_of_literal v ≡ number_within (point n) → kind_of_literal w ≡ number_within (point m) →
      is_proper (of_kinds (expr_kind kinds (Literal v)) (expr_kind kinds (Literal w))) ≡ true →
      expr_kind kinds (Literal (Int (joined.operation n m))) ≡ of_kinds (expr_kind kinds (Literal v)) (expr_kind kinds (Literal w))
  numbers_kind kinds v w n m first second proper =
      let same : of_kinds (expr_kind kinds (Literal v)) (expr_kind kinds (Literal w)) ≡ of_kinds (number_within (point n)) (number_within (point m)) =
      ap (λ k. of_kinds k (expr_kind kinds (Literal w))) (literal_kind kinds v ∙ first) ∙ ap (of_kinds (number_within (point n))) (literal_kind kinds w ∙ second) in
      literal_kind kinds (Int (joined.operation n m)) ∙ points n m (is_within (point n)) (is_within (point m)) (ap is_proper (sym same) ∙ proper) ∙ sym same

  none_right : (o : Option Interval) → of_both joined.intervals o None ≡ None
  none_right None = refl
  none_right (Some interval) = refl

  -- arithmetic on a text is faulty
  text_left : {A : Type 0} (kinds : CellKinds) (t : List ℕ) (l : ExprKind) → is_proper (of_kinds (expr_kind kinds (Literal (Text t))) l) ≡ true → A
  text_left kinds t l proper =
      let no : false ≡ true = ap (λ k. is_proper (of_kinds k l)) (sym (literal_kind kinds (Text t))) ∙ proper in cc

  text_right : {A : Type 0} (kinds : CellKinds) (k : ExprKind) (t : List ℕ) → is_proper (of_kinds k (expr_kind kinds (Literal (Text t)))) ≡ true → A
  text_right kinds k t proper =
      let no : false ≡ true = ap (λ o. is_proper (reached o)) (sym (none_right (interval_of k))) ∙ ap (λ l. is_proper (of_kinds k l)) (sym (literal_kind kinds (Text t))) ∙ proper in cc

  same_kind : (kinds : CellKinds) (x y : Expr) → is_proper (of_kinds (expr_kind kinds x) (expr_kind kinds y)) ≡ true →
      (result x y ≡ Literal Null) ⊎ (expr_kind kinds (result x y) ≡ of_kinds (expr_kind kinds x) (expr_kind kinds y))
  same_kind kinds (Literal Null) y proper = inl refl
  same_kind kinds x (Literal Null) proper = inl (with_null x)
  same_kind kinds (Literal (Int n)) (Literal (Int m)) proper = inr (numbers_kind kinds (Int n) (Int m) n m refl refl proper)
  same_kind kinds (Literal (Int n)) (Literal (Big m)) proper = inr (numbers_kind kinds (Int n) (Big m) n m refl refl proper)
  same_kind kinds (Literal (Big n)) (Literal (Int m)) proper = inr (numbers_kind kinds (Big n) (Int m) n m refl refl proper)
  same_kind kinds (Literal (Big n)) (Literal (Big m)) proper = inr (numbers_kind kinds (Big n) (Big m) n m refl refl proper)
  same_kind kinds (Literal (Text t)) y proper = text_left kinds t (expr_kind kinds y) proper
  same_kind kinds (Literal v) (Literal (Text t)) proper = text_right kinds (expr_kind kinds (Literal v)) t proper
  same_kind kinds (Literal v) y proper = inr (joined.kind_is kinds (Literal v) y)
  same_kind kinds x y proper = inr (joined.kind_is kinds x y)

  two_kind : (kinds : CellKinds) (x y : Expr) (k l : ExprKind) → (x ≡ Literal Null) ⊎ (expr_kind kinds x ≡ k) → (y ≡ Literal Null) ⊎ (expr_kind kinds y ≡ l) →
      is_proper (of_kinds k l) ≡ true → (result x y ≡ Literal Null) ⊎ (expr_kind kinds (result x y) ≡ of_kinds k l)
  two_kind kinds x y k l (inl is) second proper = inl (ap (λ z. result z y) is)
  two_kind kinds x y k l (inr first) (inl is) proper = inl (ap (result x) is ∙ with_null x)
  two_kind kinds x y k l (inr first) (inr second) proper =
      let same : of_kinds (expr_kind kinds x) (expr_kind kinds y) ≡ of_kinds k l =
      ap (λ k. of_kinds k (expr_kind kinds y)) first ∙ ap (of_kinds k) second in
      elim (same_kind kinds x y (ap is_proper same ∙ proper)) [ inl is ↦ inl is | inr is ↦ inr (is ∙ same) ]

  left_proper : (k l : ExprKind) → is_proper (of_kinds k l) ≡ true → is_proper k ≡ true
  left_proper (number interval) l proper = refl
  left_proper sum l proper = refl
  left_proper text l proper = refl
  left_proper null l proper = refl
  left_proper faulty l proper = proper

  right_proper : (k l : ExprKind) → is_proper (of_kinds k l) ≡ true → is_proper l ≡ true
  right_proper k (number interval) proper = refl
  right_proper k sum proper = refl
  right_proper k text proper = refl
  right_proper k null proper = refl
  right_proper k faulty proper = ap (λ o. is_proper (reached o)) (sym (none_right (interval_of k))) ∙ proper

  joined_computes : (x y x' y' : Expr) → Computes x' x → Computes y' y → Computes (result x' y') (join x y)
  joined_computes x y x' y' first second = record {
    value = λ choice. two_value choice x' y' ∙ joined.value_is choice x' y'
        ∙ ap (λ v. applied joined.operation v (expr_value choice y')) (first.value choice)
        ∙ ap (applied joined.operation (expr_value choice x)) (second.value choice) ∙ sym (joined.value_is choice x y);
    kind = λ kinds proper.
        let proper' : is_proper (of_kinds (expr_kind kinds x) (expr_kind kinds y)) ≡ true = ap is_proper (sym (joined.kind_is kinds x y)) ∙ proper in
        elim (two_kind kinds x' y' (expr_kind kinds x) (expr_kind kinds y)
        (first.kind kinds (left_proper (expr_kind kinds x) (expr_kind kinds y) proper'))
        (second.kind kinds (right_proper (expr_kind kinds x) (expr_kind kinds y) proper')) proper')
        [ inl is ↦ inl is | inr is ↦ inr (is ∙ sym (joined.kind_is kinds x y)) ];
    named = Within-trans (two_named x' y') (Within-same refl (joined.names_is x y) (Within-append first.named second.named));
  }

adding : Joined Add
adding = record {
  operation = λ x y. x +ℤ y;
  intervals = added;
  value_is = λ choice x y. value-of_node choice (Expr-F.Add x y);
  kind_is = λ kinds x y. kind-of_node kinds (Expr-F.Add x y);
  names_is = λ x y. names-of_expr_node (Expr-F.Add x y);
  at_points = λ n m. refl;
}

subtracting : Joined Subtract
subtracting = record {
  operation = λ x y. x -ℤ y;
  intervals = subtracted;
  value_is = λ choice x y. value-of_node choice (Expr-F.Subtract x y);
  kind_is = λ kinds x y. kind-of_node kinds (Expr-F.Subtract x y);
  names_is = λ x y. names-of_expr_node (Expr-F.Subtract x y);
  at_points = λ n m. refl;
}

min_same : (x : ℤ) → int_min x x ≡ x
min_same x = elim (int_lt x x) as (λ b. cond b x x ≡ x) [ true ↦ refl | false ↦ refl ]

max_same : (x : ℤ) → int_max x x ≡ x
max_same x = elim (int_lt x x) as (λ b. cond b x x ≡ x) [ true ↦ refl | false ↦ refl ]

multiplying : Joined Multiply
multiplying = record {
  operation = λ x y. x *ℤ y;
  intervals = multiplied;
  value_is = λ choice x y. value-of_node choice (Expr-F.Multiply x y);
  kind_is = λ kinds x y. kind-of_node kinds (Expr-F.Multiply x y);
  names_is = λ x y. names-of_expr_node (Expr-F.Multiply x y);
  at_points = λ n m.
      let low : int_min (int_min (n *ℤ m) (n *ℤ m)) (int_min (n *ℤ m) (n *ℤ m)) ≡ n *ℤ m =
      ap (λ z. int_min z z) (min_same (n *ℤ m)) ∙ min_same (n *ℤ m) in
      let high : int_max (int_max (n *ℤ m) (n *ℤ m)) (int_max (n *ℤ m) (n *ℤ m)) ≡ n *ℤ m =
      ap (λ z. int_max z z) (max_same (n *ℤ m)) ∙ max_same (n *ℤ m) in
      λ i. record { least = low i; greatest = high i };
}

-- a minus

abbrev minus : Expr → Expr
minus x = literal_or (value_of_one neg_ℤ (literal_of x)) (Negate x)

abbrev of_kind : ExprKind → ExprKind
of_kind k = reached (option_map negated (interval_of k))

minus_literal : (choice : Choice) (v : Value) → expr_value choice (Literal (number_or_null (option_map neg_ℤ (number_of v)))) ≡ expr_value choice (Negate (Literal v))
minus_literal choice v =
    literal_value choice (number_or_null (option_map neg_ℤ (number_of v)))
    ∙ sym (value-of_node choice (Expr-F.Negate (Literal v)) ∙ ap (λ z. number_or_null (option_map neg_ℤ (number_of z))) (literal_value choice v))

minus_value : (choice : Choice) (x : Expr) → expr_value choice (minus x) ≡ expr_value choice (Negate x)
minus_value choice (Literal v) = minus_literal choice v
minus_value choice x = refl

minus_named : (x : Expr) → Within (expr_names (minus x)) (expr_names x)
minus_named (Literal v) =
    Within-same (names-of_expr_node (Expr-F.Literal (number_or_null (option_map neg_ℤ (number_of v))))) refl (Within-none (expr_names (Literal v)))
minus_named x = Within-same (names-of_expr_node (Expr-F.Negate x)) refl (Within-itself (expr_names x))

minus_point : (n : ℤ) (first : Bool) → is_proper (of_kind (if first then number (point n) else faulty)) ≡ true →
    number_within (point (neg_ℤ n)) ≡ of_kind (if first then number (point n) else faulty)
minus_point n true proper = refl
minus_point n false proper = cc

minus_number : (kinds : CellKinds) (v : Value) (n : ℤ) → kind_of_literal v ≡ number_within (point n) → is_proper (of_kind (expr_kind kinds (Literal v))) ≡ true →
    expr_kind kinds (Literal (Int (neg_ℤ n))) ≡ of_kind (expr_kind kinds (Literal v))
minus_number kinds v n is proper =
    let same : of_kind (expr_kind kinds (Literal v)) ≡ of_kind (number_within (point n)) = ap of_kind (literal_kind kinds v ∙ is) in
    literal_kind kinds (Int (neg_ℤ n)) ∙ minus_point n (is_within (point n)) (ap is_proper (sym same) ∙ proper) ∙ sym same

minus_text : {A : Type 0} (kinds : CellKinds) (t : List ℕ) → is_proper (of_kind (expr_kind kinds (Literal (Text t)))) ≡ true → A
minus_text kinds t proper =
    let no : false ≡ true = ap (λ k. is_proper (of_kind k)) (sym (literal_kind kinds (Text t))) ∙ proper in cc

minus_same : (kinds : CellKinds) (x : Expr) → is_proper (of_kind (expr_kind kinds x)) ≡ true → (minus x ≡ Literal Null) ⊎ (expr_kind kinds (minus x) ≡ of_kind (expr_kind kinds x))
minus_same kinds (Literal Null) proper = inl refl
minus_same kinds (Literal (Int n)) proper = inr (minus_number kinds (Int n) n refl proper)
minus_same kinds (Literal (Big n)) proper = inr (minus_number kinds (Big n) n refl proper)
minus_same kinds (Literal (Text t)) proper = minus_text kinds t proper
minus_same kinds x proper = inr (kind-of_node kinds (Expr-F.Negate x))

minus_kind : (kinds : CellKinds) (x : Expr) (k : ExprKind) → (x ≡ Literal Null) ⊎ (expr_kind kinds x ≡ k) → is_proper (of_kind k) ≡ true →
    (minus x ≡ Literal Null) ⊎ (expr_kind kinds (minus x) ≡ of_kind k)
minus_kind kinds x k (inl is) proper = inl (ap minus is)
minus_kind kinds x k (inr is) proper =
    elim (minus_same kinds x (ap (λ k. is_proper (of_kind k)) is ∙ proper)) [ inl is' ↦ inl is' | inr same ↦ inr (same ∙ ap of_kind is) ]

minus_proper : (k : ExprKind) → is_proper (of_kind k) ≡ true → is_proper k ≡ true
minus_proper (number interval) proper = refl
minus_proper sum proper = refl
minus_proper text proper = refl
minus_proper null proper = refl
minus_proper faulty proper = proper

minus_computes : (x x' : Expr) → Computes x' x → Computes (minus x') (Negate x)
minus_computes x x' first = record {
  value = λ choice. minus_value choice x' ∙ value-of_node choice (Expr-F.Negate x')
      ∙ ap (λ v. number_or_null (option_map neg_ℤ (number_of v))) (first.value choice) ∙ sym (value-of_node choice (Expr-F.Negate x));
  kind = λ kinds proper.
      let proper' : is_proper (of_kind (expr_kind kinds x)) ≡ true = ap is_proper (sym (kind-of_node kinds (Expr-F.Negate x))) ∙ proper in
      elim (minus_kind kinds x' (expr_kind kinds x) (first.kind kinds (minus_proper (expr_kind kinds x) proper')) proper')
      [ inl is ↦ inl is | inr is ↦ inr (is ∙ sym (kind-of_node kinds (Expr-F.Negate x))) ];
  named = Within-trans (minus_named x') (Within-same refl (names-of_expr_node (Expr-F.Negate x)) first.named);
}

-- a whole expression

folded-of_node : (node : Expr-F Expr) → folded_expr (of_expr_node node) ≡ node_folded (map-Expr Expr Expr folded_expr node)
unfolding folded_expr
folded-of_node = fold-of_expr_node Expr node_folded

pub folded_computes : (expr : Expr) → Computes (folded_expr expr) expr
unfolding adding subtracting multiplying
folded_computes = along_expr (λ expr. Computes (folded_expr expr) expr) (record {
  column = λ table column. computes_same (folded-of_node (Expr-F.Column table column));
  slot = λ slot. computes_same (folded-of_node (Expr-F.Slot slot));
  literal = λ value. computes_same (folded-of_node (Expr-F.Literal value));
  negate = λ x first. subst (λ z. Computes z (Negate x)) (sym (folded-of_node (Expr-F.Negate x))) (minus_computes x (folded_expr x) first);
  add = λ x y first second. subst (λ z. Computes z (Add x y)) (sym (folded-of_node (Expr-F.Add x y)))
      (joined_computes Add adding x y (folded_expr x) (folded_expr y) first second);
  subtract = λ x y first second. subst (λ z. Computes z (Subtract x y)) (sym (folded-of_node (Expr-F.Subtract x y)))
      (joined_computes Subtract subtracting x y (folded_expr x) (folded_expr y) first second);
  multiply = λ x y first second. subst (λ z. Computes z (Multiply x y)) (sym (folded-of_node (Expr-F.Multiply x y)))
      (joined_computes Multiply multiplying x y (folded_expr x) (folded_expr y) first second);
})

-- a whole condition

null_compares : (k : ExprKind) → is_proper k ≡ true → can_compare null k ≡ true
null_compares (number interval) proper = refl
null_compares sum proper = refl
null_compares text proper = refl
null_compares null proper = refl
null_compares faulty proper = proper

pub compared_proper : (k l : ExprKind) → can_compare k l ≡ true → is_proper k ≡ true
compared_proper (number interval) l can = refl
compared_proper sum l can = refl
compared_proper text l can = refl
compared_proper null l can = refl
compared_proper faulty l can = can

null_kind : (kinds : CellKinds) (x : Expr) → x ≡ Literal Null → expr_kind kinds x ≡ null
null_kind kinds x is = ap (expr_kind kinds) is ∙ literal_kind kinds Null

still_compares : (kinds : CellKinds) (x y : Expr) (k l : ExprKind) → (x ≡ Literal Null) ⊎ (expr_kind kinds x ≡ k) → (y ≡ Literal Null) ⊎ (expr_kind kinds y ≡ l) →
    can_compare k l ≡ true → can_compare (expr_kind kinds x) (expr_kind kinds y) ≡ true
still_compares kinds x y k l (inl is) (inl is') can =
    ap (λ k. can_compare k (expr_kind kinds y)) (null_kind kinds x is) ∙ ap (can_compare null) (null_kind kinds y is')
still_compares kinds x y k l (inl is) (inr same) can =
    ap (λ k. can_compare k (expr_kind kinds y)) (null_kind kinds x is) ∙ ap (can_compare null) same
    ∙ null_compares l (compared_proper l k (can_compare-sym l k ∙ can))
still_compares kinds x y k l (inr same) (inl is) can =
    can_compare-sym (expr_kind kinds x) (expr_kind kinds y) ∙ ap (λ k. can_compare k (expr_kind kinds x)) (null_kind kinds y is) ∙ ap (can_compare null) same
    ∙ null_compares k (compared_proper k l can)
still_compares kinds x y k l (inr same) (inr same') can =
    ap (λ k. can_compare k (expr_kind kinds y)) same ∙ ap (can_compare k) same' ∙ can

still_proper : (kinds : CellKinds) (x : Expr) (k : ExprKind) → (x ≡ Literal Null) ⊎ (expr_kind kinds x ≡ k) → is_proper k ≡ true → is_proper (expr_kind kinds x) ≡ true
still_proper kinds x k (inl is) proper = ap is_proper (null_kind kinds x is)
still_proper kinds x k (inr same) proper = ap is_proper same ∙ proper

compare_refines : (op : CompareOp) (x y x' y' : Expr) → Computes x' x → Computes y' y → Refines (Compare op x' y') (Compare op x y)
compare_refines op x y x' y' first second = record {
  truth = λ choice. holds-of_node choice (Cond-F.Compare op x' y') ∙ ap (λ v. truth_of op v (expr_value choice y')) (first.value choice)
      ∙ ap (truth_of op (expr_value choice x)) (second.value choice) ∙ sym (holds-of_node choice (Cond-F.Compare op x y));
  typed = λ kinds typed.
      let can : can_compare (expr_kind kinds x) (expr_kind kinds y) ≡ true = sym (typed-of_node kinds (Cond-F.Compare op x y)) ∙ typed in
      typed-of_node kinds (Cond-F.Compare op x' y')
      ∙ still_compares kinds x' y' (expr_kind kinds x) (expr_kind kinds y)
      (first.kind kinds (compared_proper (expr_kind kinds x) (expr_kind kinds y) can))
      (second.kind kinds (compared_proper (expr_kind kinds y) (expr_kind kinds x) (can_compare-sym (expr_kind kinds y) (expr_kind kinds x) ∙ can))) can;
  named = Within-same (names-of_node (Cond-F.Compare op x' y')) (names-of_node (Cond-F.Compare op x y)) (Within-append first.named second.named);
}

is_null_refines : (x x' : Expr) → Computes x' x → Refines (IsNull x') (IsNull x)
is_null_refines x x' first = record {
  truth = λ choice. holds-of_node choice (Cond-F.IsNull x') ∙ ap (λ v. known (is_null v)) (first.value choice) ∙ sym (holds-of_node choice (Cond-F.IsNull x));
  typed = λ kinds typed.
      let proper : is_proper (expr_kind kinds x) ≡ true = sym (typed-of_node kinds (Cond-F.IsNull x)) ∙ typed in
      typed-of_node kinds (Cond-F.IsNull x') ∙ still_proper kinds x' (expr_kind kinds x) (first.kind kinds proper) proper;
  named = Within-same (names-of_node (Cond-F.IsNull x')) (names-of_node (Cond-F.IsNull x)) first.named;
}

not_null_refines : (x x' : Expr) → Computes x' x → Refines (NotNull x') (NotNull x)
not_null_refines x x' first = record {
  truth = λ choice. holds-of_node choice (Cond-F.NotNull x') ∙ ap (λ v. known (not (is_null v))) (first.value choice) ∙ sym (holds-of_node choice (Cond-F.NotNull x));
  typed = λ kinds typed.
      let proper : is_proper (expr_kind kinds x) ≡ true = sym (typed-of_node kinds (Cond-F.NotNull x)) ∙ typed in
      typed-of_node kinds (Cond-F.NotNull x') ∙ still_proper kinds x' (expr_kind kinds x) (first.kind kinds proper) proper;
  named = Within-same (names-of_node (Cond-F.NotNull x')) (names-of_node (Cond-F.NotNull x)) first.named;
}

node_refines : (node : Cond-F Cond) → Refines (node_folded_within node) (of_node node)
node_refines (Cond-F.Compare op left right) = compare_refines op left right (folded_expr left) (folded_expr right) (folded_computes left) (folded_computes right)
node_refines (Cond-F.IsNull x) = is_null_refines x (folded_expr x) (folded_computes x)
node_refines (Cond-F.NotNull x) = not_null_refines x (folded_expr x) (folded_computes x)
node_refines node = Refines-itself (of_node node)

pub folded_refines : (cond : Cond) → Refines (folded cond) cond
unfolding folded
folded_refines = Refines-fold node_folded_within node_refines

-- what the code has in hand: results that have 64 bits

within_fits : (z : ℤ) → is_within (point z) ≡ true → FitsSigned w64 z
within_fits z within =
    let bigint = both_true (is_bigint z) (is_bigint z) within in
    let both = both_true (int_le least_bigint z) (int_le z greatest_bigint) bigint.0 in
    record { sfits = first_of (grind (arith, ints), omega (arith, ints)) }

proper_fits : (z : ℤ) (b : Bool) → is_within (point z) ≡ b → is_proper (if b then number (point z) else faulty) ≡ true → FitsSigned w64 z
proper_fits z true within proper = within_fits z within
proper_fits z false within proper = cc

literal_fits : (kinds : CellKinds) (z : ℤ) (k : ExprKind) → (Literal (Int z) ≡ Literal Null) ⊎ (expr_kind kinds (Literal (Int z)) ≡ k) → is_proper k ≡ true → FitsSigned w64 z
literal_fits kinds z k (inl is) proper = cc
literal_fits kinds z k (inr is) proper =
    proper_fits z (is_within (point z)) refl (ap is_proper (sym (literal_kind kinds (Int z)) ∙ is) ∙ proper)

module _ (join : Expr → Expr → Expr) (joined : Joined join) where
  two_fit : (kinds : CellKinds) (k : ExprKind) (x y : Expr) → is_proper k ≡ true →
      (literal_or (value_of_two joined.operation (literal_of x) (literal_of y)) (join x y) ≡ Literal Null)
      ⊎ (expr_kind kinds (literal_or (value_of_two joined.operation (literal_of x) (literal_of y)) (join x y)) ≡ k) →
      ResultFits joined.operation (number_in x) (number_in y)
  two_fit kinds k (Literal (Int n)) (Literal (Int m)) proper is = literal_fits kinds (joined.operation n m) k is proper
  two_fit kinds k (Literal (Int n)) (Literal (Big m)) proper is = literal_fits kinds (joined.operation n m) k is proper
  two_fit kinds k (Literal (Big n)) (Literal (Int m)) proper is = literal_fits kinds (joined.operation n m) k is proper
  two_fit kinds k (Literal (Big n)) (Literal (Big m)) proper is = literal_fits kinds (joined.operation n m) k is proper
  two_fit kinds k (Literal (Int n)) y proper is = tt
  two_fit kinds k (Literal (Big n)) y proper is = tt
  two_fit kinds k x y proper is = tt

  -- the result fits where the expression is well-typed within its intervals
  fits : (expr x y x' y' : Expr) → expr ≡ join x y → x' ≡ folded_expr x → y' ≡ folded_expr y → IsProper expr → ResultFits joined.operation (number_in x') (number_in y')
  fits expr x y x' y' is first second proper =
      let proper' : is_proper (expr_kind proper.kinds (join x y)) ≡ true = ap (λ e. is_proper (expr_kind proper.kinds e)) (sym is) ∙ proper.proper in
      two_fit proper.kinds (expr_kind proper.kinds (join x y)) x' y' proper'
      ((joined_computes join joined x y x' y' (subst (λ z. Computes z x) (sym first) (folded_computes x)) (subst (λ z. Computes z y) (sym second) (folded_computes y))).kind proper.kinds proper')

pub add_fits : (expr x y x' y' : Expr) → expr ≡ Add x y → x' ≡ folded_expr x → y' ≡ folded_expr y → IsProper expr → ResultFits (λ x y. x +ℤ y) (number_in x') (number_in y')
unfolding adding
add_fits = fits Add adding

pub subtract_fits : (expr x y x' y' : Expr) → expr ≡ Subtract x y → x' ≡ folded_expr x → y' ≡ folded_expr y → IsProper expr → ResultFits (λ x y. x -ℤ y) (number_in x') (number_in y')
unfolding subtracting
subtract_fits = fits Subtract subtracting

pub multiply_fits : (expr x y x' y' : Expr) → expr ≡ Multiply x y → x' ≡ folded_expr x → y' ≡ folded_expr y → IsProper expr → ResultFits (λ x y. x *ℤ y) (number_in x') (number_in y')
unfolding multiplying
multiply_fits = fits Multiply multiplying

one_fits : (kinds : CellKinds) (k : ExprKind) (x : Expr) → is_proper k ≡ true → (minus x ≡ Literal Null) ⊎ (expr_kind kinds (minus x) ≡ k) → NegativeFits (number_in x)
one_fits kinds k (Literal (Int n)) proper is = literal_fits kinds (neg_ℤ n) k is proper
one_fits kinds k (Literal (Big n)) proper is = literal_fits kinds (neg_ℤ n) k is proper
one_fits kinds k x proper is = tt

pub negate_fits : (expr x x' : Expr) → expr ≡ Negate x → x' ≡ folded_expr x → IsProper expr → NegativeFits (number_in x')
negate_fits expr x x' is first proper =
    let proper' : is_proper (expr_kind proper.kinds (Negate x)) ≡ true = ap (λ e. is_proper (expr_kind proper.kinds e)) (sym is) ∙ proper.proper in
    one_fits proper.kinds (expr_kind proper.kinds (Negate x)) x' proper'
    ((minus_computes x x' (subst (λ z. Computes z x) (sym first) (folded_computes x))).kind proper.kinds proper')

-- and the whole expression

pub folded_at : (node : Expr-F Expr) (expr done : Expr) → expr ≡ of_expr_node node → done ≡ node_folded (map-Expr Expr Expr folded_expr node) → done ≡ folded_expr expr
folded_at node expr done is done_is = done_is ∙ sym (folded-of_node node) ∙ ap folded_expr (sym is)

pub negate_at : (expr x x' done : Expr) → expr ≡ Negate x → x' ≡ folded_expr x → done ≡ minus x' → done ≡ folded_expr expr
negate_at expr x x' done is first done_is = folded_at (Expr-F.Negate x) expr done is (done_is ∙ ap minus first)

pub add_at : (expr x y x' y' done : Expr) → expr ≡ Add x y → x' ≡ folded_expr x → y' ≡ folded_expr y →
    done ≡ literal_or (value_of_two (λ x y. x +ℤ y) (literal_of x') (literal_of y')) (Add x' y') → done ≡ folded_expr expr
add_at expr x y x' y' done is first second done_is =
    let join : Expr → Expr → Expr = λ (v : Expr) (w : Expr). literal_or (value_of_two (λ x y. x +ℤ y) (literal_of v) (literal_of w)) (Add v w) in
    folded_at (Expr-F.Add x y) expr done is (done_is ∙ ap (λ v. join v y') first ∙ ap (join (folded_expr x)) second)

pub subtract_at : (expr x y x' y' done : Expr) → expr ≡ Subtract x y → x' ≡ folded_expr x → y' ≡ folded_expr y →
    done ≡ literal_or (value_of_two (λ x y. x -ℤ y) (literal_of x') (literal_of y')) (Subtract x' y') → done ≡ folded_expr expr
subtract_at expr x y x' y' done is first second done_is =
    let join : Expr → Expr → Expr = λ (v : Expr) (w : Expr). literal_or (value_of_two (λ x y. x -ℤ y) (literal_of v) (literal_of w)) (Subtract v w) in
    folded_at (Expr-F.Subtract x y) expr done is (done_is ∙ ap (λ v. join v y') first ∙ ap (join (folded_expr x)) second)

pub multiply_at : (expr x y x' y' done : Expr) → expr ≡ Multiply x y → x' ≡ folded_expr x → y' ≡ folded_expr y →
    done ≡ literal_or (value_of_two (λ x y. x *ℤ y) (literal_of x') (literal_of y')) (Multiply x' y') → done ≡ folded_expr expr
multiply_at expr x y x' y' done is first second done_is =
    let join : Expr → Expr → Expr = λ (v : Expr) (w : Expr). literal_or (value_of_two (λ x y. x *ℤ y) (literal_of v) (literal_of w)) (Multiply v w) in
    folded_at (Expr-F.Multiply x y) expr done is (done_is ∙ ap (λ v. join v y') first ∙ ap (join (folded_expr x)) second)

-- An expression that is no arithmetic.
pub record IsOperand (expr : Expr) : Type 0 where
  pub no_negate : (x : Expr) → expr ≡ Negate x → ⊥
  pub no_add : (x y : Expr) → expr ≡ Add x y → ⊥
  pub no_subtract : (x y : Expr) → expr ≡ Subtract x y → ⊥
  pub no_multiply : (x y : Expr) → expr ≡ Multiply x y → ⊥

operand_at : (node : Expr-F Expr) (expr : Expr) → expr ≡ of_expr_node node → IsOperand expr → expr ≡ folded_expr expr
operand_at (Expr-F.Column table column) expr is operand = folded_at (Expr-F.Column table column) expr expr is is
operand_at (Expr-F.Slot slot) expr is operand = folded_at (Expr-F.Slot slot) expr expr is is
operand_at (Expr-F.Literal value) expr is operand = folded_at (Expr-F.Literal value) expr expr is is
operand_at (Expr-F.Negate x) expr is operand = absurd (operand.no_negate x is)
operand_at (Expr-F.Add x y) expr is operand = absurd (operand.no_add x y is)
operand_at (Expr-F.Subtract x y) expr is operand = absurd (operand.no_subtract x y is)
operand_at (Expr-F.Multiply x y) expr is operand = absurd (operand.no_multiply x y is)

pub operand_stays : (expr : Expr) → IsOperand expr → expr ≡ folded_expr expr
operand_stays expr = operand_at (out-Expr expr) expr (sym (roll-out-Expr expr) ∙ of_expr_node-roll (out-Expr expr))

compared_right : (op : CompareOp) (left right : Expr) → IsWellTypedLeaf (Compare op left right) → IsProper right
compared_right op left right typed =
    let can : can_compare (expr_kind typed.kinds left) (expr_kind typed.kinds right) ≡ true = sym (typed-of_node typed.kinds (Cond-F.Compare op left right)) ∙ typed.typed in
    record {
      kinds = typed.kinds;
      proper = compared_proper (expr_kind typed.kinds right) (expr_kind typed.kinds left) (can_compare-sym (expr_kind typed.kinds right) (expr_kind typed.kinds left) ∙ can);
    }

pub right_is_proper : (cond : Cond) (op : CompareOp) (left right : Expr) → cond ≡ Compare op left right → IsWellTypedLeaf cond → IsProper right
right_is_proper cond op left right is typed = compared_right op left right (subst IsWellTypedLeaf is typed)
