-- What is kept of a node's reading, by what is kept of its parts' readings.
use Rattle.std.proofs.Common.{◌≡◌, ℕ, ℤ, map, Bool, false, ◌||◌, List, [], ◌∷◌, ◌++◌, Option, Some, None, option_map, append-nil, refl, sym, ap, ◌∙◌}
use Rattle.std.specs.List.{flat_map, list_any}
use Rattle.sa_value.specs.declared.value.Value.{Value}
use Rattle.sa_value.specs.declared.value.Value.TheVariants.{Int, Null, Text}
use Rattle.sa_ast.specs.declared.expression.AggregateCall.{AggregateCall}
use Rattle.sa_ast.specs.declared.expression.AggregateCall.TheVariants.{CountRows, Count, Sum, Min, Max}
use Rattle.sa_value.specs.declared.truth.CompareOp.{CompareOp}
use Rattle.sa_ast.specs.declared.expression.ExprNode.{ExprNode-F}
use Rattle.sa_cond.specs.declared.expr.Expr.{Expr, out-Expr, the_lemmas}
use Rattle.sa_cond.specs.declared.expr.Expr.TheVariants as exprs
use Rattle.sa_cond.specs.Interval.{ExprKind, Interval, sum, text, null, kind_of_literal, interval_of, negated, added, subtracted, multiplied, of_both, reached}
use Rattle.sa_table.specs.Table.{Table}
use Rattle.sa_query.specs.declared.group.Column.{Column}
use Rattle.sa_query.specs.declared.refusal.ResolveKind.TheVariants.{TypeMismatch, ExprRange, GroupRule}
use Rattle.sa_resolve.specs.Clauses.{column_at}
use Rattle.sa_resolve.specs.Expression.{Scope, node_reading}
use Rattle.sa_resolve.specs.Fault.{Fault, fault_at, least, told}
use Rattle.sa_resolve.specs.Node.{kind_of, arithmetic, counted, extreme, number_value}
use Rattle.sa_resolve.specs.NodeFaults.{no_value, no_condition, clashes, is_faulty, is_text, is_sum, leaves, both_leave, sum_in}
use Rattle.sa_resolve.specs.Reading.{Reading, Sort, condition, value, no_expr}
use Rattle.sa_resolve.specs.inner.Gist.{Gist, PartsGist, first, gist_of, plain_gist, node_gist, aggregate_fault, sums_at, sums_texts, parts_of_list, no_parts, with_value, with_condition}
use Rattle.sa_resolve.specs.inner.Kind.{kind_in, kind_of_call, kinds_clash}
use Rattle.sa_resolve.specs.inner.Least.{nearer, nearest, sooner}
use Rattle.sa_resolve.proofs.LeastLemmas.{least-append, least-calls, least-five, sooner-none}
use Rattle.sa_resolve.proofs.GistLemmas.{parts-push}

-- the column that an expression is
abbrev pub column_in : Expr → Option Column
column_in row = first (column_at (out-Expr row))

pub literal_column : (literal : Value) → column_in (exprs.Literal literal) ≡ None
literal_column literal = simp the_lemmas

negate_column : (x : Expr) → column_in (exprs.Negate x) ≡ None
negate_column x = simp the_lemmas

add_column : (x y : Expr) → column_in (exprs.Add x y) ≡ None
add_column x y = simp the_lemmas

subtract_column : (x y : Expr) → column_in (exprs.Subtract x y) ≡ None
subtract_column x y = simp the_lemmas

multiply_column : (x y : Expr) → column_in (exprs.Multiply x y) ≡ None
multiply_column x y = simp the_lemmas

abbrev pub with_fault : (place : ℕ) → Sort → (calls : Option ℕ) → Option Column → Option Fault → Gist
with_fault place sort calls column fault = record {
  place = place;
  sort = sort;
  sums = place;
  call = calls;
  column = column;
  fault = fault;
}

-- a node over these parts, each of which has this fault for its kind, with four lists of its own faults
pub node_made : (place : ℕ) (sort : Sort) (wrong : Reading → List Fault) (parts : List Reading)
    (column : Option Column) (a b c d : List Fault) → column ≡ None
    → with_fault place sort (nearest (flat_map (λ (one : Reading). one.calls) parts)) column
    (least (flat_map (λ (one : Reading). one.faults) parts
    ++ (flat_map wrong parts ++ a ++ b ++ c ++ d)))
    ≡ node_gist place sort (parts_of_list wrong parts)
    (sooner (least a) (sooner (least b) (sooner (least c) (least d))))
node_made place sort wrong parts column a b c d is =
    ap (λ (column : Option Column). with_fault place sort
    (nearest (flat_map (λ (one : Reading). one.calls) parts)) column
    (least (flat_map (λ (one : Reading). one.faults) parts ++ (flat_map wrong parts ++ a ++ b ++ c ++ d)))) is
    ∙ ap (with_fault place sort (nearest (flat_map (λ (one : Reading). one.calls) parts)) None)
    (least-append (flat_map (λ (one : Reading). one.faults) parts)
    (flat_map wrong parts ++ a ++ b ++ c ++ d)
    ∙ ap (sooner (least (flat_map (λ (one : Reading). one.faults) parts)))
    (least-five (flat_map wrong parts) a b c d))

-- one value, and two
pub one_value : (x : Reading) → parts_of_list no_value (x ∷ []) ≡ with_value no_parts (gist_of x)
one_value x = parts-push no_value [] x

pub two_values : (x y : Reading)
    → parts_of_list no_value (x ∷ y ∷ []) ≡ with_value (with_value no_parts (gist_of x)) (gist_of y)
two_values x y =
    parts-push no_value (x ∷ []) y ∙ ap (λ parts. with_value parts (gist_of y)) (one_value x)

pub three_values : (x y z : Reading) → parts_of_list no_value (x ∷ y ∷ z ∷ [])
    ≡ with_value (with_value (with_value no_parts (gist_of x)) (gist_of y)) (gist_of z)
three_values x y z =
    parts-push no_value (x ∷ y ∷ []) z
    ∙ ap (λ parts. with_value parts (gist_of z)) (two_values x y)

pub one_condition : (x : Reading)
    → parts_of_list no_condition (x ∷ []) ≡ with_condition no_parts (gist_of x)
one_condition x = parts-push no_condition [] x

kind_by : (one : Reading) (sort : Sort) → one.sort ≡ sort → kind_of one ≡ kind_in one.sort
kind_by one condition is = rw is refl
kind_by one (value kind) is = rw is refl

-- the kind of a part as a value
pub kind_of-is : (one : Reading) → kind_of one ≡ kind_in one.sort
kind_of-is one = kind_by one one.sort refl

-- what arithmetic on one part is, by the part's kind
abbrev one_number : (place : ℕ) → Reading → ExprKind → Gist
one_number place x kind =
    node_gist place (value (reached (option_map negated (interval_of kind))))
    (with_value no_parts (gist_of x))
    (sooner (least (told (is_text kind) TypeMismatch place))
    (sooner (least (told (leaves (option_map negated (interval_of kind))) ExprRange place))
    (least (told (is_sum kind) ExprRange x.sums))))

-- what arithmetic on two parts is, by their kinds
abbrev two_numbers : (Interval → Interval → Interval) → (place : ℕ) → Reading → Reading → ExprKind
    → ExprKind → Gist
two_numbers operation place x y one other =
    let reach = of_both operation (interval_of one) (interval_of other) in
    node_gist place (value (reached reach))
    (with_value (with_value no_parts (gist_of x)) (gist_of y))
    (sooner (least (told (is_text one || is_text other) TypeMismatch place))
    (sooner (least (told (leaves reach) ExprRange place))
    (sooner (least (told (is_sum one) ExprRange x.sums)) (least (told (is_sum other) ExprRange y.sums)))))

two_made : (operation : Interval → Interval → Interval) (place : ℕ) (x y : Reading) (column : Option Column)
    → column ≡ None
    → with_fault place (value (arithmetic operation x y))
    (nearest (flat_map (λ (one : Reading). one.calls) (x ∷ y ∷ []))) column
    (least (flat_map (λ (one : Reading). one.faults) (x ∷ y ∷ [])
    ++ (flat_map no_value (x ∷ y ∷ [])
    ++ told (is_text (kind_of x) || is_text (kind_of y)) TypeMismatch place
    ++ told (both_leave operation x y) ExprRange place ++ (sum_in x ++ sum_in y) ++ [])))
    ≡ two_numbers operation place x y (kind_in x.sort) (kind_in y.sort)
two_made operation place x y column is =
    let mixes = told (is_text (kind_of x) || is_text (kind_of y)) TypeMismatch place in
    let past = told (both_leave operation x y) ExprRange place in
    let sort = value (arithmetic operation x y) in
    let parts = with_value (with_value no_parts (gist_of x)) (gist_of y) in
    node_made place sort no_value (x ∷ y ∷ []) column mixes past (sum_in x ++ sum_in y) [] is
    ∙ ap (λ all. node_gist place sort all (sooner (least mixes)
    (sooner (least past) (sooner (least (sum_in x ++ sum_in y)) None)))) (two_values x y)
    ∙ ap (λ last. node_gist place sort parts (sooner (least mixes) (sooner (least past) last)))
    (sooner-none (least (sum_in x ++ sum_in y)) ∙ least-append (sum_in x) (sum_in y))
    ∙ ap (λ kind. two_numbers operation place x y kind (kind_of y)) (kind_of-is x)
    ∙ ap (two_numbers operation place x y (kind_in x.sort)) (kind_of-is y)

-- a call of all rows, which gives this kind
abbrev pub call_of_rows : (place : ℕ) → ExprKind → Gist
call_of_rows place kind = record (plain_gist place (value kind)) { call = Some place }

-- a call of a part, which gives this kind and is a sum there, and whether it sums texts
abbrev pub call_gist : (place : ℕ) → ExprKind → (sums : ℕ) → Reading → (is_of_text : Bool) → Gist
call_gist place kind sums x is_of_text =
    record (node_gist place (value kind) (with_value no_parts (gist_of x))
    (sooner (least (told is_of_text TypeMismatch place)) (aggregate_fault (gist_of x)))) {
      sums = sums;
      call = nearer (Some place) (nearest x.calls);
    }

plain_made : (place : ℕ) (sort : Sort) (row : Expr) → column_in row ≡ None
    → with_fault place sort None (column_in row) None ≡ plain_gist place sort
plain_made place sort row is = ap (λ (column : Option Column). with_fault place sort None column None) is

rows_made : (place : ℕ) (kind : ExprKind)
    → with_fault place (value kind) (Some place) (column_in no_expr) None ≡ call_of_rows place kind
rows_made place kind =
    ap (λ (column : Option Column). with_fault place (value kind) (Some place) column None)
    (literal_column Null)

abbrev pub with_call : (place : ℕ) → ExprKind → (sums : ℕ) → (calls : Option ℕ) → Option Column → Option Fault
    → Gist
with_call place kind sums calls column fault = record {
  place = place;
  sort = value kind;
  sums = sums;
  call = nearer (Some place) calls;
  column = column;
  fault = fault;
}

call_made : (place : ℕ) (kind : ExprKind) (sums : ℕ) (x : Reading) (is_of_text : Bool)
    → with_call place kind sums (nearest x.calls) (column_in no_expr)
    (least (flat_map (λ (one : Reading). one.faults) (x ∷ [])
    ++ (flat_map no_value (x ∷ []) ++ told is_of_text TypeMismatch place ++ [] ++ []
    ++ map (fault_at GroupRule) x.calls)))
    ≡ call_gist place kind sums x is_of_text
call_made place kind sums x is_of_text =
    let mixes = told is_of_text TypeMismatch place in
    let nested = map (fault_at GroupRule) x.calls in
    let faults = flat_map (λ (one : Reading). one.faults) (x ∷ []) in
    ap (λ (column : Option Column). with_call place kind sums (nearest x.calls) column
    (least (faults ++ (flat_map no_value (x ∷ []) ++ mixes ++ [] ++ [] ++ nested)))) (literal_column Null)
    ∙ ap (with_call place kind sums (nearest x.calls) None)
    (least-append faults (flat_map no_value (x ∷ []) ++ mixes ++ [] ++ [] ++ nested)
    ∙ ap (sooner (least faults)) (least-five (flat_map no_value (x ∷ [])) mixes [] [] nested)
    ∙ ap (λ last. sooner (least faults) (sooner (least (flat_map no_value (x ∷ [])))
    (sooner (least mixes) last))) (least-calls GroupRule x.calls)
    ∙ ap (λ (parts : PartsGist). sooner parts.fault (sooner parts.wrong
    (sooner (least mixes) (aggregate_fault (gist_of x))))) (one_value x))

module _ (tables : List Table) (scope : Scope) where
  pub gist-IsNull : (x : Reading) (negated : Bool) (place : ℕ)
      → gist_of (node_reading tables scope (ExprNode-F.IsNull x negated) place)
      ≡ node_gist place condition (with_value no_parts (gist_of x)) None
  gist-IsNull x negated place =
      node_made place condition no_value (x ∷ []) (column_in no_expr) [] [] [] [] (literal_column Null)
      ∙ ap (λ parts. node_gist place condition parts None) (one_value x)

  pub gist-Not : (x : Reading) (place : ℕ)
      → gist_of (node_reading tables scope (ExprNode-F.Not x) place)
      ≡ node_gist place condition (with_condition no_parts (gist_of x)) None
  gist-Not x place =
      ap (λ wrong. with_fault place condition (nearest (flat_map (λ (one : Reading). one.calls) (x ∷ [])))
      (column_in no_expr)
      (least (flat_map (λ (one : Reading). one.faults) (x ∷ []) ++ (wrong ++ [] ++ [] ++ [] ++ []))))
      (sym (append-nil (no_condition x)))
      ∙ node_made place condition no_condition (x ∷ []) (column_in no_expr) [] [] [] [] (literal_column Null)
      ∙ ap (λ parts. node_gist place condition parts None) (one_condition x)

  pub gist-Compare : (op : CompareOp) (x y : Reading) (place : ℕ)
      → gist_of (node_reading tables scope (ExprNode-F.Compare op x y) place)
      ≡ node_gist place condition (with_value (with_value no_parts (gist_of x)) (gist_of y))
      (least (told (kinds_clash (kind_in x.sort) (kind_in y.sort)) TypeMismatch place))
  gist-Compare op x y place =
      node_made place condition no_value (x ∷ y ∷ []) (column_in no_expr)
      (told (kinds_clash (kind_of x) (kind_of y)) TypeMismatch place) [] [] [] (literal_column Null)
      ∙ ap (λ parts. node_gist place condition parts
      (sooner (least (told (kinds_clash (kind_of x) (kind_of y)) TypeMismatch place)) None))
      (two_values x y)
      ∙ ap (node_gist place condition (with_value (with_value no_parts (gist_of x)) (gist_of y)))
      (sooner-none (least (told (kinds_clash (kind_of x) (kind_of y)) TypeMismatch place)))
      ∙ ap (λ kind. node_gist place condition (with_value (with_value no_parts (gist_of x)) (gist_of y))
      (least (told (kinds_clash kind (kind_of y)) TypeMismatch place))) (kind_of-is x)
      ∙ ap (λ kind. node_gist place condition (with_value (with_value no_parts (gist_of x)) (gist_of y))
      (least (told (kinds_clash (kind_in x.sort) kind) TypeMismatch place))) (kind_of-is y)

  pub gist-Between : (x low high : Reading) (negated : Bool) (place : ℕ)
      → gist_of (node_reading tables scope (ExprNode-F.Between x low high negated) place)
      ≡ node_gist place condition
      (with_value (with_value (with_value no_parts (gist_of x)) (gist_of low)) (gist_of high))
      (least (told (kinds_clash (kind_in x.sort) (kind_in low.sort)
      || kinds_clash (kind_in x.sort) (kind_in high.sort)) TypeMismatch place))
  gist-Between x low high negated place =
      let parts = with_value (with_value (with_value no_parts (gist_of x)) (gist_of low)) (gist_of high) in
      let fault = λ (one two three : ExprKind). node_gist place condition parts
      (least (told (kinds_clash one two || kinds_clash one three) TypeMismatch place)) in
      node_made place condition no_value (x ∷ low ∷ high ∷ []) (column_in no_expr)
      (told (kinds_clash (kind_of x) (kind_of low) || kinds_clash (kind_of x) (kind_of high))
      TypeMismatch place) [] [] [] (literal_column Null)
      ∙ ap (λ all. node_gist place condition all (sooner (least (told
      (kinds_clash (kind_of x) (kind_of low) || kinds_clash (kind_of x) (kind_of high))
      TypeMismatch place)) None)) (three_values x low high)
      ∙ ap (node_gist place condition parts) (sooner-none (least (told
      (kinds_clash (kind_of x) (kind_of low) || kinds_clash (kind_of x) (kind_of high))
      TypeMismatch place)))
      ∙ ap (λ kind. fault kind (kind_of low) (kind_of high)) (kind_of-is x)
      ∙ ap (λ kind. fault (kind_in x.sort) kind (kind_of high)) (kind_of-is low)
      ∙ ap (λ kind. fault (kind_in x.sort) (kind_in low.sort) kind) (kind_of-is high)

  pub gist-And : (members : List Reading) (place : ℕ)
      → gist_of (node_reading tables scope (ExprNode-F.And members) place)
      ≡ node_gist place condition (parts_of_list no_condition members) None
  gist-And members place = node_made place condition no_condition members (column_in no_expr) [] [] [] []
      (literal_column Null)

  pub gist-Or : (members : List Reading) (place : ℕ)
      → gist_of (node_reading tables scope (ExprNode-F.Or members) place)
      ≡ node_gist place condition (parts_of_list no_condition members) None
  gist-Or members place = node_made place condition no_condition members (column_in no_expr) [] [] [] []
      (literal_column Null)

  pub gist-Negate : (x : Reading) (place : ℕ)
      → gist_of (node_reading tables scope (ExprNode-F.Negate x) place)
      ≡ one_number place x (kind_in x.sort)
  gist-Negate x place =
      let mixes = told (is_text (kind_of x)) TypeMismatch place in
      let reach = option_map negated (interval_of (kind_of x)) in
      let past = told (leaves reach) ExprRange place in
      let sort = value (reached reach) in
      node_made place sort no_value (x ∷ []) (column_in (exprs.Negate x.row)) mixes past (sum_in x) []
      (negate_column x.row)
      ∙ ap (λ all. node_gist place sort all (sooner (least mixes)
      (sooner (least past) (sooner (least (sum_in x)) None)))) (one_value x)
      ∙ ap (λ last. node_gist place sort (with_value no_parts (gist_of x))
      (sooner (least mixes) (sooner (least past) last))) (sooner-none (least (sum_in x)))
      ∙ ap (one_number place x) (kind_of-is x)

  pub gist-Add : (x y : Reading) (place : ℕ)
      → gist_of (node_reading tables scope (ExprNode-F.Add x y) place)
      ≡ two_numbers added place x y (kind_in x.sort) (kind_in y.sort)
  gist-Add x y place = two_made added place x y (column_in (exprs.Add x.row y.row)) (add_column x.row y.row)

  pub gist-Subtract : (x y : Reading) (place : ℕ)
      → gist_of (node_reading tables scope (ExprNode-F.Subtract x y) place)
      ≡ two_numbers subtracted place x y (kind_in x.sort) (kind_in y.sort)
  gist-Subtract x y place = two_made subtracted place x y (column_in (exprs.Subtract x.row y.row))
      (subtract_column x.row y.row)

  pub gist-Multiply : (x y : Reading) (place : ℕ)
      → gist_of (node_reading tables scope (ExprNode-F.Multiply x y) place)
      ≡ two_numbers multiplied place x y (kind_in x.sort) (kind_in y.sort)
  gist-Multiply x y place = two_made multiplied place x y (column_in (exprs.Multiply x.row y.row))
      (multiply_column x.row y.row)

  pub gist-Number : (number : ℤ) (place : ℕ)
      → gist_of (node_reading tables scope (ExprNode-F.Number number) place)
      ≡ node_gist place (value (kind_of_literal (Int number))) no_parts
      (least (told (is_faulty (kind_of_literal (Int number))) ExprRange place))
  gist-Number number place =
      let past = told (is_faulty (kind_of_literal (Int number))) ExprRange place in
      node_made place (value (kind_of_literal (Int number))) no_value []
      (column_in (exprs.Literal (number_value number))) [] past [] [] (literal_column (number_value number))
      ∙ ap (node_gist place (value (kind_of_literal (Int number))) no_parts) (sooner-none (least past))

  pub gist-Text : (literal : List ℕ) (place : ℕ)
      → gist_of (node_reading tables scope (ExprNode-F.Text literal) place) ≡ plain_gist place (value text)
  gist-Text literal place = plain_made place (value text) (exprs.Literal (Text literal))
      (literal_column (Text literal))

  pub gist-Null : (place : ℕ)
      → gist_of (node_reading tables scope ExprNode-F.Null place) ≡ plain_gist place (value null)
  gist-Null place = plain_made place (value null) no_expr (literal_column Null)

  pub gist-Known : (holds : Bool) (place : ℕ)
      → gist_of (node_reading tables scope (ExprNode-F.Known holds) place) ≡ plain_gist place condition
  gist-Known holds place = plain_made place condition no_expr (literal_column Null)

  pub gist-Rows : (call : AggregateCall) (place : ℕ)
      → gist_of (node_reading tables scope (ExprNode-F.Aggregate call None) place)
      ≡ call_of_rows place (kind_of_call call None)
  gist-Rows CountRows place = rows_made place (kind_of_call CountRows None)
  gist-Rows Count place = rows_made place (kind_of_call Count None)
  gist-Rows Sum place = rows_made place (kind_of_call Sum None)
  gist-Rows Min place = rows_made place (kind_of_call Min None)
  gist-Rows Max place = rows_made place (kind_of_call Max None)

  pub gist-Call : (call : AggregateCall) (x : Reading) (place : ℕ)
      → gist_of (node_reading tables scope (ExprNode-F.Aggregate call (Some x)) place)
      ≡ call_gist place (kind_of_call call (Some (kind_in x.sort))) (sums_at call place x.sums) x
      (sums_texts call (kind_in x.sort))
  gist-Call CountRows x place = call_made place counted place x false
  gist-Call Count x place = call_made place counted place x false
  gist-Call Sum x place =
      call_made place sum place x (is_text (kind_of x))
      ∙ ap (λ kind. call_gist place sum place x (is_text kind)) (kind_of-is x)
  gist-Call Min x place =
      call_made place (extreme (Some (kind_of x))) x.sums x false
      ∙ ap (λ kind. call_gist place (extreme (Some kind)) x.sums x false) (kind_of-is x)
  gist-Call Max x place =
      call_made place (extreme (Some (kind_of x))) x.sums x false
      ∙ ap (λ kind. call_gist place (extreme (Some kind)) x.sums x false) (kind_of-is x)

  pub gist-Among : (x : Reading) (list : List Reading) (negated : Bool) (place : ℕ)
      → gist_of (node_reading tables scope (ExprNode-F.Among x list negated) place)
      ≡ node_gist place condition (parts_of_list no_value (x ∷ list))
      (least (told (list_any (clashes x) list) TypeMismatch place))
  gist-Among x list negated place =
      let mixes = told (list_any (clashes x) list) TypeMismatch place in
      node_made place condition no_value (x ∷ list) (column_in no_expr) mixes [] [] [] (literal_column Null)
      ∙ ap (node_gist place condition (parts_of_list no_value (x ∷ list))) (sooner-none (least mixes))
