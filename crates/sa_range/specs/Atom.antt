-- Which parts of a condition speak of one column alone, and what is true of them on a piece of its
-- line.
use Rattle.std.specs.Prelude.{ℕ, Bool, true, false, ◌==◌, List, [], ◌∷◌, Option, Some, None, if◌then◌else◌}
use Rattle.std.specs.List.{flat_map}
use Rattle.std.specs.Ordering.{is_gt}
use Rattle.std.specs.declared.cmp.Ordering.{Ordering}
use Rattle.std.specs.declared.cmp.Ordering.TheVariants.{Less, Greater}
use Rattle.sa_value.specs.declared.truth.CompareOp.{CompareOp}
use Rattle.sa_value.specs.declared.truth.CompareOp.TheVariants.{NullEq}
use Rattle.sa_value.specs.declared.truth.Truth.{Truth}
use Rattle.sa_value.specs.declared.truth.Truth.TheVariants.{False, Unknown, True}
use Rattle.sa_value.specs.declared.value.Value.{Value}
use Rattle.sa_value.specs.declared.value.Value.TheVariants.{Null}
use Rattle.sa_value.specs.Compare.{order_of, holds_at, known, truth_of}
use Rattle.sa_cond.specs.declared.cond.Cond.{Cond, Cond-F, fold-Cond}
use Rattle.sa_cond.specs.declared.expr.Expr.{Expr, Expr-F, out-Expr}
use Rattle.sa_cond.specs.Condition.{is_null, all_of, any_of}
use Rattle.sa_range.specs.declared.line.Piece.{Piece}
use Rattle.sa_range.specs.declared.line.Piece.TheVariants.{Point, Gap}

-- `column op literal`, or IS NULL or IS NOT NULL of a column
pub data Atom : Type 0 where
  compared : (column : ℕ) (op : CompareOp) (literal : Value) → Atom
  tested : (column : ℕ) (is_null : Bool) → Atom

-- the column of the table that an expression is
abbrev pub column_in : (table : ℕ) → Expr-F Expr → Option ℕ
column_in table (Expr-F.Column other column) = if other == table then Some column else None
column_in table node = None

abbrev pub literal_in : Expr-F Expr → Option Value
literal_in (Expr-F.Literal value) = Some value
literal_in node = None

abbrev pub comparison : CompareOp → Option ℕ → Option Value → Option Atom
comparison op (Some column) (Some literal) = Some (compared column op literal)
comparison op column literal = None

abbrev pub null_test : (is_null : Bool) → Option ℕ → Option Atom
null_test is_null None = None
null_test is_null (Some column) = Some (tested column is_null)

-- the atom of a column of the table that a node is
abbrev pub atom_in : {A : Type 0} → (table : ℕ) → Cond-F A → Option Atom
atom_in table (Cond-F.Compare op left right) =
    comparison op (column_in table (out-Expr left)) (literal_in (out-Expr right))
atom_in table (Cond-F.IsNull x) = null_test true (column_in table (out-Expr x))
atom_in table (Cond-F.NotNull x) = null_test false (column_in table (out-Expr x))
atom_in table node = None

-- the literals with which a condition's atoms compare a column
abbrev pub literal_of : (column : ℕ) → Option Atom → List Value
literal_of column (Some (compared other op literal)) = if other == column then literal ∷ [] else []
literal_of column atom = []

abbrev pub node_literals : (table column : ℕ) → Cond-F (List Value) → List Value
node_literals table column (Cond-F.And members) = flat_map (λ one. one) members
node_literals table column (Cond-F.Or members) = flat_map (λ one. one) members
node_literals table column node = literal_of column (atom_in table node)

abbrev pub literals_of : (table column : ℕ) → Cond → List Value
literals_of table column = fold-Cond (List Value) (node_literals table column)

-- The truth of a comparison with a literal for whatever stands so to it, and isn't NULL.
abbrev pub truth_beside : CompareOp → (literal : Value) → Ordering → Truth
truth_beside NullEq literal ordering = known (holds_at NullEq ordering)
truth_beside op Null ordering = Unknown
truth_beside op literal ordering = known (holds_at op ordering)

-- how the values of a gap above this stand to a constant
abbrev pub beside : (lower literal : Value) → Ordering
beside lower literal = if is_gt (order_of literal lower) then Less else Greater

-- the truth of an atom on a piece of its column's line, which is the same on all of it
abbrev pub compared_on : CompareOp → (literal : Value) → Piece → Truth
compared_on op literal (Point value) = truth_of op value literal
compared_on op literal (Gap lower upper) = truth_beside op literal (beside lower literal)

abbrev pub tested_on : (is_null : Bool) → Piece → Truth
tested_on true (Point value) = known (is_null value)
tested_on false (Point value) = known (if is_null value then false else true)
tested_on true (Gap lower upper) = False
tested_on false (Gap lower upper) = True

-- the piece on which a column stands, if one is chosen
abbrev pub piece_at : (column : ℕ) → List (ℕ × Piece) → Option Piece
piece_at column [] = None
piece_at column (chosen ∷ others) =
    if chosen.0 == column then Some chosen.1 else piece_at column others

abbrev pub on_piece : (Piece → Truth) → Option Piece → Truth
on_piece truth None = True
on_piece truth (Some piece) = truth piece

-- An atom of a column for which no piece is chosen counts as TRUE, and so does what is no atom.
abbrev pub atom_truth : List (ℕ × Piece) → Option Atom → Truth
atom_truth chosen None = True
atom_truth chosen (Some (compared column op literal)) =
    on_piece (compared_on op literal) (piece_at column chosen)
atom_truth chosen (Some (tested column is_null)) =
    on_piece (tested_on is_null) (piece_at column chosen)

-- UNKNOWN as it is written counts as TRUE.
abbrev pub written_truth : Truth → Truth
written_truth False = False
written_truth Unknown = True
written_truth True = True

abbrev pub node_truth : (table : ℕ) → List (ℕ × Piece) → Cond-F Truth → Truth
node_truth table chosen (Cond-F.Known truth) = written_truth truth
node_truth table chosen (Cond-F.And members) = all_of members
node_truth table chosen (Cond-F.Or members) = any_of members
node_truth table chosen node = atom_truth chosen (atom_in table node)

-- the truth of a condition where these columns stand on these pieces
abbrev pub truth_on : (table : ℕ) → List (ℕ × Piece) → Cond → Truth
truth_on table chosen = fold-Cond Truth (node_truth table chosen)

-- whether a truth is TRUE, and neither FALSE nor UNKNOWN
abbrev pub is_true : Truth → Bool
is_true False = false
is_true Unknown = false
is_true True = true
