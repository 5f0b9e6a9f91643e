-- What a part of a key is sought by is equal to its cell, where the filter is TRUE.
use Rattle.std.proofs.Common.{◌≡◌, ℕ, Bool, true, false, ◌&&◌, ◌==◌, cond, List, [], ◌∷◌, Option, Some, None, refl, sym, ap, ap₂, ◌∙◌}
use Rattle.std.specs.Cmp.{IsTotalOrder}
use Rattle.std.specs.List.{AllByRecursion, list_any}
use Rattle.std.specs.Option.{option_or}
use Rattle.std.specs.declared.cmp.Ordering.{Ordering}
use Rattle.std.specs.declared.cmp.Ordering.TheVariants.{Less, Equal, Greater}
use Rattle.std.proofs.lemmas.Bool.{eqb-true}
use Rattle.std.proofs.lemmas.Cmp.{tied_back}
use Rattle.sa_value.specs.declared.truth.CompareOp.TheVariants.{Eq}
use Rattle.sa_value.specs.declared.truth.Truth.TheVariants.{True}
use Rattle.sa_value.specs.declared.value.Value.{Value}
use Rattle.sa_value.specs.declared.value.Value.TheVariants.{Null, Int, Big, Text}
use Rattle.sa_value.specs.Compare.{holds_at, known, order_of, truth_of}
use Rattle.sa_cond.specs.Choice.{Choice}
use Rattle.sa_cond.specs.Expression.{expr_value, node_value}
use Rattle.sa_cond.specs.declared.cond.Cond.{Cond, Cond-F, out-Cond}
use Rattle.sa_cond.specs.declared.expr.Expr.{Expr, Expr-F, fold_out-Expr, map-Expr, out-Expr}
use Rattle.sa_plan.specs.Scan.{sought}
use Rattle.sa_plan.specs.declared.access.RefPart.{RefPart}
use Rattle.sa_plan.specs.declared.access.RefPart.TheVariants.{Literal, Column}
use Rattle.sa_access.specs.Sought.{equal_to, first_sought, is_column, seeks_by, sought_in}
use Rattle.sa_access.proofs.Conjuncts.{IsTold, holds-out}

known_equal : (order : Ordering) → known (holds_at Eq order) ≡ True → order ≡ Equal
known_equal Less told = cc
known_equal Equal told = refl
known_equal Greater told = cc

-- an equality turned round
module _ (total : IsTotalOrder order_of) where
  back : (a b : Value) → known (holds_at Eq (order_of a b)) ≡ True → known (holds_at Eq (order_of b a)) ≡ True
  back a b told = ap (λ (order : Ordering). known (holds_at Eq order)) (tied_back total a b (known_equal (order_of a b) told))

  equal_back : (a b : Value) → truth_of Eq a b ≡ True → truth_of Eq b a ≡ True
  equal_back Null b told = cc
  equal_back (Int a) Null told = cc
  equal_back (Int a) (Int b) told = back (Int a) (Int b) told
  equal_back (Int a) (Big b) told = back (Int a) (Big b) told
  equal_back (Int a) (Text b) told = back (Int a) (Text b) told
  equal_back (Big a) Null told = cc
  equal_back (Big a) (Int b) told = back (Big a) (Int b) told
  equal_back (Big a) (Big b) told = back (Big a) (Big b) told
  equal_back (Big a) (Text b) told = back (Big a) (Text b) told
  equal_back (Text a) Null told = cc
  equal_back (Text a) (Int b) told = back (Text a) (Int b) told
  equal_back (Text a) (Big b) told = back (Text a) (Big b) told
  equal_back (Text a) (Text b) told = back (Text a) (Text b) told

both_parts : (a b : Bool) → (a && b) ≡ true → (a ≡ true) × (b ≡ true)
both_parts true b told = (refl, told)
both_parts false b told = cc

module _ (total : IsTotalOrder order_of) (choice : Choice) (earlier : List ℕ) where
  -- the value of a node
  abbrev value_at : Expr-F Expr → Value
  value_at node = node_value choice (map-Expr Expr Value (expr_value choice) node)

  value_out : (expr : Expr) → expr_value choice expr ≡ value_at (out-Expr expr)
  value_out expr = fold_out-Expr Value (node_value choice) expr

  seeks_value : (node : Expr-F Expr) (part : RefPart) → seeks_by earlier node ≡ Some part → value_at node ≡ sought choice.cell part
  seeks_value (Expr-F.Literal Null) part is = cc
  seeks_value (Expr-F.Literal (Int value)) (Literal other) is = cc
  seeks_value (Expr-F.Literal (Int value)) (Column place number) is = cc
  seeks_value (Expr-F.Literal (Big value)) (Literal other) is = cc
  seeks_value (Expr-F.Literal (Big value)) (Column place number) is = cc
  seeks_value (Expr-F.Literal (Text value)) (Literal other) is = cc
  seeks_value (Expr-F.Literal (Text value)) (Column place number) is = cc
  seeks_value (Expr-F.Column place number) part is = at (list_any (λ one. one == place) earlier) refl is
    where
      at : (test : Bool) → list_any (λ one. one == place) earlier ≡ test → cond test (Some (Column place number)) None ≡ Some part → choice.cell place number ≡ sought choice.cell part
      at true before is =
          let same : Column place number ≡ part = cc in
          ap (sought choice.cell) same
      at false before is = cc
  seeks_value node part is = cc

  module _ (position number : ℕ) where
    abbrev cell : Value
    cell = choice.cell position number

    column_value : (node : Expr-F Expr) → is_column position number node ≡ true → value_at node ≡ cell
    column_value (Expr-F.Column other column) is =
        let both : ((other == position) ≡ true) × ((column == number) ≡ true) = both_parts (other == position) (column == number) is in
        ap₂ choice.cell (eqb-true other position both.0) (eqb-true column number both.1)
    column_value node is = cc

    -- The cell equals what this part is sought by.
    abbrev pub IsEqual : RefPart → Type 0
    IsEqual part = truth_of Eq cell (sought choice.cell part) ≡ True

    equal_told : (left right : Expr-F Expr) (part : RefPart) → equal_to earlier position number left right ≡ Some part
        → truth_of Eq (value_at left) (value_at right) ≡ True → IsEqual part
    equal_told left right part is told = at_left (is_column position number left) refl is
      where
        at_right : (test : Bool) → is_column position number right ≡ test → cond test (seeks_by earlier left) None ≡ Some part → IsEqual part
        at_right true column is =
            equal_back total (sought choice.cell part) cell
            (sym (ap₂ (truth_of Eq) (seeks_value left part is) (column_value right column)) ∙ told)
        at_right false column is = cc

        at_left : (test : Bool) → is_column position number left ≡ test
            → cond test (seeks_by earlier right) (cond (is_column position number right) (seeks_by earlier left) None) ≡ Some part → IsEqual part
        at_left true column is = sym (ap₂ (truth_of Eq) (column_value left column) (seeks_value right part is)) ∙ told
        at_left false column is = at_right (is_column position number right) refl is

    in_told : (condition : Cond) (part : RefPart) → IsTold choice condition → (node : Cond-F Cond) → out-Cond condition ≡ node
        → sought_in earlier position number node ≡ Some part → IsEqual part
    in_told condition part told (Cond-F.Compare Eq left right) out is =
        equal_told (out-Expr left) (out-Expr right) part is
        (sym (ap₂ (truth_of Eq) (value_out left) (value_out right)) ∙ sym (holds-out choice condition (Cond-F.Compare Eq left right) out) ∙ told)
    in_told condition part told node out is = cc

    pub first_told : (conds : List Cond) (part : RefPart) → AllByRecursion (IsTold choice) conds → first_sought earlier position number conds ≡ Some part → IsEqual part
    first_told [] part told is = cc
    first_told (condition ∷ conds) part told is = at (first_told conds part told.1) (sought_in earlier position number (out-Cond condition)) refl is
      where
        at : (first_sought earlier position number conds ≡ Some part → IsEqual part) → (found : Option RefPart) → sought_in earlier position number (out-Cond condition) ≡ found
            → option_or found (first_sought earlier position number conds) ≡ Some part → IsEqual part
        at behind (Some one) here is = in_told condition part told.0 (out-Cond condition) refl (here ∙ is)
        at behind None here is = behind is
