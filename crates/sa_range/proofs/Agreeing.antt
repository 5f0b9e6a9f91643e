-- The truth of a condition on pieces, where the cells of a row lie in them.
use Rattle.std.proofs.Common.{◌≡◌, ℕ, Bool, true, false, not, ◌==◌, cond, List, [], ◌∷◌, map, flat_map, fold, All, Option, Some, None, refl, sym, ap, ◌∙◌, subst}
use Rattle.std.proofs.lemmas.Bool.{eqb-true, eq-eqb}
use Rattle.std.proofs.lemmas.List.Elements.{All-head, All-tail}
use Rattle.sa_value.specs.declared.truth.CompareOp.{CompareOp}
use Rattle.sa_value.specs.declared.truth.Truth.{Truth}
use Rattle.sa_value.specs.declared.truth.Truth.TheVariants.{False, Unknown, True}
use Rattle.sa_value.specs.declared.value.Value.{Value}
use Rattle.sa_value.specs.Compare.{known, truth_of}
use Rattle.sa_value.specs.Logic.{conjunction, disjunction}
use Rattle.sa_cond.specs.declared.cond.Cond.{Cond, the_lemmas}
use Rattle.sa_cond.specs.declared.cond.Cond.TheVariants as node
use Rattle.sa_cond.specs.declared.expr.Expr.{Expr, Expr-F, out-Expr, roll-out-Expr, fold-roll-Expr, map-Expr}
use Rattle.sa_cond.specs.Choice.{Choice}
use Rattle.sa_cond.specs.Condition.{is_null, all_of, any_of, holds}
use Rattle.sa_cond.specs.Expression.{expr_value, node_value}
use Rattle.sa_cond.proofs.CondForms.{by_forms, holds-Known, holds-Compare, holds-IsNull, holds-NotNull, holds-And, holds-Or}
use Rattle.sa_cond.proofs.Lists.{All-flat, All-one}
use Rattle.sa_range.specs.declared.line.Piece.{Piece}
use Rattle.sa_range.specs.Atom.{compared, column_in, literal_in, comparison, null_test, literal_of, literals_of, compared_on, tested_on, piece_at, on_piece, atom_truth, written_truth, truth_on}

-- A comparison with a literal has the truth on a piece that it has of a cell.
abbrev pub Agrees : (cell : Value) → Piece → Value → Type 0
Agrees cell piece literal = (op : CompareOp) → compared_on op literal piece ≡ truth_of op cell literal

abbrev pub test_of : (for_null : Bool) → Value → Truth
test_of true cell = known (is_null cell)
test_of false cell = known (not (is_null cell))

-- All atoms with these literals have the truth on a piece that they have of a cell.
pub record Suits (cell : Value) (piece : Piece) (literals : List Value) : Type 0 where
  pub compared : All (Agrees cell piece) literals
  pub tested : (for_null : Bool) → tested_on for_null piece ≡ test_of for_null cell

-- what an expression is by its node

value_out : (choice : Choice) (x : Expr) → expr_value choice x ≡ node_value choice (map-Expr Expr Value (expr_value choice) (out-Expr x))
value_out choice x = ap (expr_value choice) (sym (roll-out-Expr x)) ∙ fold-roll-Expr Value (node_value choice) (out-Expr x)

some_if : (test : Bool) (found column : ℕ) → cond test (Some found) None ≡ Some column → (test ≡ true) × (found ≡ column)
some_if true found column is = (refl, cc)
some_if false found column is = cc

column_node : (choice : Choice) (table : ℕ) (x : Expr-F Expr) (column : ℕ) → column_in table x ≡ Some column → node_value choice (map-Expr Expr Value (expr_value choice) x) ≡ choice.cell table column
column_node choice table (Expr-F.Column other found) column is =
    let both = some_if (other == table) found column is in
    let same : other ≡ table = eqb-true other table both.0 in
    ap (λ number. choice.cell number found) same ∙ ap (choice.cell table) both.1
column_node choice table (Expr-F.Slot number) column is = cc
column_node choice table (Expr-F.Literal value) column is = cc
column_node choice table (Expr-F.Negate x) column is = cc
column_node choice table (Expr-F.Add x y) column is = cc
column_node choice table (Expr-F.Subtract x y) column is = cc
column_node choice table (Expr-F.Multiply x y) column is = cc

literal_node : (choice : Choice) (x : Expr-F Expr) (literal : Value) → literal_in x ≡ Some literal → node_value choice (map-Expr Expr Value (expr_value choice) x) ≡ literal
literal_node choice (Expr-F.Column table column) literal is = cc
literal_node choice (Expr-F.Slot number) literal is = cc
literal_node choice (Expr-F.Literal value) literal is = cc
literal_node choice (Expr-F.Negate x) literal is = cc
literal_node choice (Expr-F.Add x y) literal is = cc
literal_node choice (Expr-F.Subtract x y) literal is = cc
literal_node choice (Expr-F.Multiply x y) literal is = cc

column_value : (choice : Choice) (table : ℕ) (x : Expr) (column : ℕ) → column_in table (out-Expr x) ≡ Some column → expr_value choice x ≡ choice.cell table column
column_value choice table x column is = value_out choice x ∙ column_node choice table (out-Expr x) column is

literal_value : (choice : Choice) (x : Expr) (literal : Value) → literal_in (out-Expr x) ≡ Some literal → expr_value choice x ≡ literal
literal_value choice x literal is = value_out choice x ∙ literal_node choice (out-Expr x) literal is

-- the definitions at each form

pub truth-Known : (table : ℕ) (chosen : List (ℕ × Piece)) (truth : Truth) → truth_on table chosen (node.Known truth) ≡ written_truth truth
truth-Known table chosen truth = simp the_lemmas

pub truth-Compare : (table : ℕ) (chosen : List (ℕ × Piece)) (op : CompareOp) (left right : Expr)
    → truth_on table chosen (node.Compare op left right) ≡ atom_truth chosen (comparison op (column_in table (out-Expr left)) (literal_in (out-Expr right)))
truth-Compare table chosen op left right = simp the_lemmas

pub truth-IsNull : (table : ℕ) (chosen : List (ℕ × Piece)) (x : Expr) → truth_on table chosen (node.IsNull x) ≡ atom_truth chosen (null_test true (column_in table (out-Expr x)))
truth-IsNull table chosen x = simp the_lemmas

pub truth-NotNull : (table : ℕ) (chosen : List (ℕ × Piece)) (x : Expr) → truth_on table chosen (node.NotNull x) ≡ atom_truth chosen (null_test false (column_in table (out-Expr x)))
truth-NotNull table chosen x = simp the_lemmas

pub truth-Between : (table : ℕ) (chosen : List (ℕ × Piece)) (value low high : Expr) → truth_on table chosen (node.Between value low high) ≡ True
truth-Between table chosen value low high = simp the_lemmas

pub truth-Among : (table : ℕ) (chosen : List (ℕ × Piece)) (value : Expr) (list : List Expr) → truth_on table chosen (node.Among value list) ≡ True
truth-Among table chosen value list = simp the_lemmas

pub truth-And : (table : ℕ) (chosen : List (ℕ × Piece)) (members : List Cond) → truth_on table chosen (node.And members) ≡ all_of (map (truth_on table chosen) members)
truth-And table chosen members = simp the_lemmas

pub truth-Or : (table : ℕ) (chosen : List (ℕ × Piece)) (members : List Cond) → truth_on table chosen (node.Or members) ≡ any_of (map (truth_on table chosen) members)
truth-Or table chosen members = simp the_lemmas

pub truth-Not : (table : ℕ) (chosen : List (ℕ × Piece)) (x : Cond) → truth_on table chosen (node.Not x) ≡ True
truth-Not table chosen x = simp the_lemmas

pub literals-Compare : (table column : ℕ) (op : CompareOp) (left right : Expr)
    → literals_of table column (node.Compare op left right) ≡ literal_of column (comparison op (column_in table (out-Expr left)) (literal_in (out-Expr right)))
literals-Compare table column op left right = simp the_lemmas

pub literals-And : (table column : ℕ) (members : List Cond) → literals_of table column (node.And members) ≡ flat_map (λ one. one) (map (literals_of table column) members)
literals-And table column members = simp the_lemmas

pub literals-Or : (table column : ℕ) (members : List Cond) → literals_of table column (node.Or members) ≡ flat_map (λ one. one) (map (literals_of table column) members)
literals-Or table column members = simp the_lemmas

-- AND and OR stay TRUE where their members do.
abbrev Keeps : (Truth → Truth → Truth) → Type 0
Keeps join = (a b a' b' : Truth) → join a b ≡ True → (a ≡ True → a' ≡ True) → (b ≡ True → b' ≡ True) → join a' b' ≡ True

and_true : (a b : Truth) → conjunction a b ≡ True → (a ≡ True) × (b ≡ True)
and_true False False is = cc
and_true False Unknown is = cc
and_true False True is = cc
and_true Unknown False is = cc
and_true Unknown Unknown is = cc
and_true Unknown True is = cc
and_true True False is = cc
and_true True Unknown is = cc
and_true True True is = (refl, refl)

true_and : (a b : Truth) → a ≡ True → b ≡ True → conjunction a b ≡ True
true_and a b one other = ap (λ truth. conjunction truth b) one ∙ ap (conjunction True) other

and_keeps : Keeps conjunction
and_keeps a b a' b' is first second = let both = and_true a b is in true_and a' b' (first both.0) (second both.1)

or_left : (b : Truth) → disjunction True b ≡ True
or_left False = refl
or_left Unknown = refl
or_left True = refl

or_right : (a : Truth) → disjunction a True ≡ True
or_right False = refl
or_right Unknown = refl
or_right True = refl

or_keeps : Keeps disjunction
or_keeps True b a' b' is first second = ap (λ truth. disjunction truth b') (first refl) ∙ or_left b'
or_keeps False True a' b' is first second = ap (disjunction a') (second refl) ∙ or_right a'
or_keeps False False a' b' is first second = cc
or_keeps False Unknown a' b' is first second = cc
or_keeps Unknown True a' b' is first second = ap (disjunction a') (second refl) ∙ or_right a'
or_keeps Unknown False a' b' is first second = cc
or_keeps Unknown Unknown a' b' is first second = cc

fold_keeps : (join : Truth → Truth → Truth) → Keeps join → {A : Type 0} (f g : A → Truth) (xs : List A) (a a' : Truth)
    → All (λ x. f x ≡ True → g x ≡ True) xs → (a ≡ True → a' ≡ True) → fold join a (map f xs) ≡ True → fold join a' (map g xs) ≡ True
fold_keeps join keeps f g [] a a' each start is = start is
fold_keeps join keeps f g (x ∷ xs) a a' each start is =
    fold_keeps join keeps f g xs (join a (f x)) (join a' (g x)) (All-tail (λ x. f x ≡ True → g x ≡ True) x xs each)
    (λ told. keeps a (f x) a' (g x) told start (All-head (λ x. f x ≡ True → g x ≡ True) x xs each)) is

module _ (choice : Choice) (table : ℕ) (chosen : List (ℕ × Piece)) where
  -- The cells of a row lie in the chosen pieces, as far as a condition can tell.
  abbrev pub Fits : Cond → Type 0
  Fits x = (column : ℕ) (piece : Piece) → piece_at column chosen ≡ Some piece → Suits (choice.cell table column) piece (literals_of table column x)

  abbrev StaysTrue : Cond → Type 0
  StaysTrue x = Fits x → holds choice x ≡ True → truth_on table chosen x ≡ True

  own_literal : (column : ℕ) (op : CompareOp) (literal : Value) → literal_of column (Some (compared column op literal)) ≡ literal ∷ []
  own_literal column op literal = ap (λ (test : Bool). cond test (literal ∷ []) []) (eq-eqb column column refl)

  compared_true : (op : CompareOp) (column : ℕ) (literal : Value) (place : Option Piece) → piece_at column chosen ≡ place
      → ((piece : Piece) → piece_at column chosen ≡ Some piece → Agrees (choice.cell table column) piece literal)
      → truth_of op (choice.cell table column) literal ≡ True → on_piece (compared_on op literal) place ≡ True
  compared_true op column literal None is agrees told = refl
  compared_true op column literal (Some piece) is agrees told = agrees piece is op ∙ told

  compare_case : (op : CompareOp) (left right : Expr) (column : Option ℕ) (literal : Option Value) → column_in table (out-Expr left) ≡ column → literal_in (out-Expr right) ≡ literal
      → ((number : ℕ) (piece : Piece) → piece_at number chosen ≡ Some piece → All (Agrees (choice.cell table number) piece) (literal_of number (comparison op column literal)))
      → truth_of op (expr_value choice left) (expr_value choice right) ≡ True → atom_truth chosen (comparison op column literal) ≡ True
  compare_case op left right None literal is_column is_literal fits told = refl
  compare_case op left right (Some column) None is_column is_literal fits told = refl
  compare_case op left right (Some column) (Some literal) is_column is_literal fits told =
      compared_true op column literal (piece_at column chosen) refl
      (λ piece is. All-one (Agrees (choice.cell table column) piece) literal (subst (All (Agrees (choice.cell table column) piece)) (own_literal column op literal) (fits column piece is)))
      (ap (λ value. truth_of op value literal) (sym (column_value choice table left column is_column))
      ∙ ap (truth_of op (expr_value choice left)) (sym (literal_value choice right literal is_literal)) ∙ told)

  tested_true : (for_null : Bool) (column : ℕ) (place : Option Piece) → piece_at column chosen ≡ place
      → ((piece : Piece) → piece_at column chosen ≡ Some piece → tested_on for_null piece ≡ test_of for_null (choice.cell table column))
      → test_of for_null (choice.cell table column) ≡ True → on_piece (tested_on for_null) place ≡ True
  tested_true for_null column None is agrees told = refl
  tested_true for_null column (Some piece) is agrees told = agrees piece is ∙ told

  test_case : (for_null : Bool) (x : Expr) (column : Option ℕ) → column_in table (out-Expr x) ≡ column
      → ((number : ℕ) (piece : Piece) → piece_at number chosen ≡ Some piece → tested_on for_null piece ≡ test_of for_null (choice.cell table number))
      → test_of for_null (expr_value choice x) ≡ True → atom_truth chosen (null_test for_null column) ≡ True
  test_case for_null x None is fits told = refl
  test_case for_null x (Some column) is fits told =
      tested_true for_null column (piece_at column chosen) refl (fits column)
      (ap (test_of for_null) (sym (column_value choice table x column is)) ∙ told)

  members_fit : (members : List Cond) (whole : Cond)
      → ((column : ℕ) → literals_of table column whole ≡ flat_map (λ one. one) (map (literals_of table column) members)) → Fits whole → All Fits members
  members_fit members whole is fits = λ k d here column piece at.
      let whole_fits = fits column piece at in
      record {
        compared = All-flat (Agrees (choice.cell table column) piece) (literals_of table column) members (subst (All (Agrees (choice.cell table column) piece)) (is column) whole_fits.compared) k d here;
        tested = whole_fits.tested;
      }

  known_case : (truth : Truth) → truth ≡ True → written_truth truth ≡ True
  known_case truth is = ap written_truth is

  pub stays_true : (x : Cond) → StaysTrue x
  stays_true = by_forms StaysTrue (record {
    at_known = λ truth fits told. truth-Known table chosen truth ∙ known_case truth (sym (holds-Known choice truth) ∙ told);
    at_compare = λ op left right fits told.
        truth-Compare table chosen op left right
        ∙ compare_case op left right (column_in table (out-Expr left)) (literal_in (out-Expr right)) refl refl
        (λ column piece at. subst (All (Agrees (choice.cell table column) piece)) (literals-Compare table column op left right) (fits column piece at).compared)
        (sym (holds-Compare choice op left right) ∙ told);
    at_is_null = λ x fits told.
        truth-IsNull table chosen x ∙ test_case true x (column_in table (out-Expr x)) refl (λ column piece at. (fits column piece at).tested true) (sym (holds-IsNull choice x) ∙ told);
    at_not_null = λ x fits told.
        truth-NotNull table chosen x ∙ test_case false x (column_in table (out-Expr x)) refl (λ column piece at. (fits column piece at).tested false) (sym (holds-NotNull choice x) ∙ told);
    at_between = λ value low high fits told. truth-Between table chosen value low high;
    at_among = λ value list fits told. truth-Among table chosen value list;
    at_and = λ members each fits told.
        let fit = members_fit members (node.And members) (λ column. literals-And table column members) fits in
        truth-And table chosen members
        ∙ fold_keeps conjunction and_keeps (holds choice) (truth_on table chosen) members True True (λ k d here. each k d here (fit k d here)) (λ is. is) (sym (holds-And choice members) ∙ told);
    at_or = λ members each fits told.
        let fit = members_fit members (node.Or members) (λ column. literals-Or table column members) fits in
        truth-Or table chosen members
        ∙ fold_keeps disjunction or_keeps (holds choice) (truth_on table chosen) members False False (λ k d here. each k d here (fit k d here)) (λ is. is) (sym (holds-Or choice members) ∙ told);
    at_not = λ x inner fits told. truth-Not table chosen x;
  })
